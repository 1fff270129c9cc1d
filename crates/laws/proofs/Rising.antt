-- Values that ascend strictly: each is before the next, so each is before every later one; and the other way round.
use Prim.Native.Nat.{ℕ, zero, suc, ◌+◌, ◌≤◌, ◌<◌}
use mathlib.Core.Path.{◌≡◌, refl, ap, sym, ◌∙◌}
use mathlib.Core.Bool.{Bool, true, false}
use native.Mathlib.Omega.{arith}
use borrow.Author.Tests.{eqb-true, eqb-false}
use lib.Dec.{eqb}
use Rattle.lists.specs.Tests.{and_l, and_r, both}
use Rattle.lists.specs.Rows.{values}
use Rattle.lists.specs.Sets.{ascending}

module _ {A : Type 0} (before : A → A → Bool) (g : ℕ → A) where
  pub before-next : (i n k : ℕ) → ascending before (values g i n) ≡ true → i ≤ k → suc k < i + n → before (g k) (g (suc k)) ≡ true
  unfolding values
  before-next i zero k a l h = absurd (omega arith)
  before-next i (suc zero) k a l h = absurd (omega arith)
  before-next i (suc (suc n)) k a l h =
      let rest : Bool = ascending before (values g (suc i) (suc n)) in
      go (eqb i k) refl (and_l (before (g i) (g (suc i))) rest a) (λ m. before-next (suc i) (suc n) k (and_r (before (g i) (g (suc i))) rest a) m (omega arith))
    where
      go : (t : Bool) → eqb i k ≡ t → before (g i) (g (suc i)) ≡ true → (suc i ≤ k → before (g k) (g (suc k)) ≡ true) → before (g k) (g (suc k)) ≡ true
      go true e b ih = ap (λ (m : ℕ). before (g m) (g (suc m))) (sym (eqb-true i k e)) ∙ b
      go false e b ih = let apart = eqb-false i k e in ih (omega arith)

  pub next-before : (i n : ℕ) → ((k : ℕ) → i ≤ k → suc k < i + n → before (g k) (g (suc k)) ≡ true) → ascending before (values g i n) ≡ true
  unfolding values
  next-before i zero h = refl
  next-before i (suc zero) h = refl
  next-before i (suc (suc n)) h = both (h i (omega arith) (omega arith)) (next-before (suc i) (suc n) (λ k l m. h k (omega arith) (omega arith)))

  module _ (further : (a b c : A) → before a b ≡ true → before b c ≡ true → before a c ≡ true) where
    pub rising : (i n : ℕ) → ascending before (values g i n) ≡ true → (j k : ℕ) → i ≤ j → j < k → k < i + n → before (g j) (g k) ≡ true
    rising i n a j zero l m h = absurd (omega arith)
    rising i n a j (suc k) l m h =
        go (eqb j k) refl (before-next i n k a (omega arith) h) (λ e. rising i n a j k l e (omega arith))
      where
        go : (t : Bool) → eqb j k ≡ t → before (g k) (g (suc k)) ≡ true → (j < k → before (g j) (g k) ≡ true) → before (g j) (g (suc k)) ≡ true
        go true e b ih = ap (λ (m : ℕ). before (g m) (g (suc k))) (eqb-true j k e) ∙ b
        go false e b ih = let apart = eqb-false j k e in further (g j) (g k) (g (suc k)) (ih (omega arith)) b
