-- A test of every value of a list of values, as a loop over the indices makes it: the first index that fails it.
use Rattle.std.specs.Prelude.{◌≡◌, Bool, not, ◌&&◌}
use Rattle.std.proofs.Math.Path.{refl}
use Rattle.std.proofs.Common.{ap, ◌∙◌, arith}
use Rattle.std.proofs.Math.Bool.{true, false}
use Prim.Native.Nat.{ℕ, zero, suc, ◌+◌, ◌≤◌, ◌<◌}
use Rattle.std.proofs.Math.Dec.{ltb}
use borrow.Author.Tests.{ltb-true, ltb-false, not-true, not-false}
use Rattle.lists.specs.Tests.{clash, both}
use Rattle.lists.specs.Sets.{all, any, any-not-all}
use Rattle.lists.specs.Rows.{values}
use Rattle.lists.specs.First.{Seeking, seeking-below}

module _ {A : Type 0} (f : A → Bool) (g : ℕ → A) where
  -- the index fails the test
  abbrev pub failing : ℕ → Bool
  failing k = not (f (g k))

  every : (i n : ℕ) → ((k : ℕ) → i ≤ k → k < i + n → f (g k) ≡ true) → all f (values g i n) ≡ true
  unfolding values
  every i zero h = refl
  every i (suc n) h = both (h i (omega arith) (omega arith)) (every (suc i) n (λ k l m. h k (omega arith) (omega arith)))

  some-fails : (i n k : ℕ) → i ≤ k → k < i + n → f (g k) ≡ false → all f (values g i n) ≡ false
  unfolding values
  some-fails i zero k l m e = absurd (omega arith)
  some-fails i (suc n) k l m e = go (f (g i)) refl (ltb i k) refl (λ h. some-fails (suc i) n k h (omega arith) e)
    where
      go : (b : Bool) → f (g i) ≡ b → (c : Bool) → ltb i k ≡ c → (suc i ≤ k → all f (values g (suc i) n) ≡ false) → (b && all f (values g (suc i) n)) ≡ false
      go false p c q ih = refl
      go true p true q ih = ih (ltb-true i k q)
      go true p false q ih =
          let same : i ≡ k = omega (arith, ltb-false i k q) in
          clash (f (g i)) p (ap (λ (m : ℕ). f (g m)) same ∙ e)

  -- where all pass, each does
  pub every_value : {n : ℕ} → all f (values g 0 n) ≡ true → (k : ℕ) → k < n → f (g k) ≡ true
  every_value {n} h k l = go (f (g k)) refl
    where
      go : (b : Bool) → f (g k) ≡ b → b ≡ true
      go true e = refl
      go false e = clash (all f (values g 0 n)) h (some-fails 0 n k (omega arith) (omega arith) e)

  -- the loop found an index that fails
  pub every-not : {n i : ℕ} → Seeking failing n i → i < n → failing i ≡ true → all f (values g 0 n) ≡ false
  every-not {n} {i} s l e = some-fails 0 n i (omega arith) (omega arith) (not-true (f (g i)) e)

  -- the loop found none
  pub every-all : {n i : ℕ} → Seeking failing n i → n ≤ i → all f (values g 0 n) ≡ true
  every-all {n} s l = every 0 n (λ k a b. not-false (f (g k)) (seeking-below s k (omega arith)))

-- ---- some value passes

module _ {A : Type 0} (f : A → Bool) (g : ℕ → A) where
  abbrev fails : A → Bool
  fails x = not (f x)

  -- the loop found an index that passes
  pub some-found : {n i : ℕ} → Seeking (λ k. f (g k)) n i → i < n → f (g i) ≡ true → any f (values g 0 n) ≡ true
  some-found {n} {i} s l e =
      any-not-all f (values g 0 n) ∙ ap not (some-fails fails g 0 n i (omega arith) (omega arith) (ap not e))

  -- the loop found none
  pub some-none : {n i : ℕ} → Seeking (λ k. f (g k)) n i → n ≤ i → any f (values g 0 n) ≡ false
  some-none {n} {i} s l =
      any-not-all f (values g 0 n) ∙ ap not (every fails g 0 n (λ k a b. ap not (seeking-below s k (omega arith))))
