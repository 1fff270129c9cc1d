-- The first index at which a test holds: the definition, the invariant of a loop that looks for it, what the answer means.
use Rattle.std.specs.Prelude.{◌≡◌, Bool, not}
use Rattle.std.proofs.Math.Path.{refl, ap}
use Rattle.std.proofs.Common.{sym, ◌∙◌, eq-or-lt_of_le, add-one}
use Rattle.std.proofs.Math.Bool.{true, false, cond}
use Prim.Native.Nat.{ℕ, zero, suc, ◌+◌, ◌-◌, ◌≤◌, ◌<◌}
use Rattle.std.proofs.Math.Logic.{⊎_elim}
use Rattle.std.proofs.Math.Nat.{sub-zero}
use native.Mathlib.Omega.{arith}
use Rattle.std.proofs.lemmas.Bool.{not-false}

-- the lowest of the n indices from i on at which f holds, or i + n where there is none
unfoldable pub first_from : (ℕ → Bool) → ℕ → ℕ → ℕ
first_from f i zero = i
first_from f i (suc n) = cond (f i) i (first_from f (suc i) n)

-- the lowest index below n at which f holds, or n
unfoldable pub first : (ℕ → Bool) → ℕ → ℕ
first f n = first_from f 0 n

module _ (f : ℕ → Bool) where
  -- one index taken off
  from_step : (n i : ℕ) → i < n → first_from f i (n - i) ≡ cond (f i) i (first_from f (i + 1) (n - (i + 1)))
  unfolding first_from
  from_step n i h =
      let e : n - i ≡ suc (n - (i + 1)) = omega arith in
      ap (λ (k : ℕ). first_from f i k) e ∙ ap (λ (k : ℕ). cond (f i) i (first_from f k (n - (i + 1)))) (sym (add-one i))

  from_end : (n i : ℕ) → n ≤ i → first_from f i (n - i) ≡ i
  unfolding first_from
  from_end n i h = let e : n - i ≡ 0 = omega arith in ap (λ (k : ℕ). first_from f i k) e

-- the invariant of a loop that looks for it: what is left to look at has the answer
pub record Seeking (f : ℕ → Bool) (n i : ℕ) : Type 0 where
  pub passed : i ≤ n
  pub rest : first f n ≡ first_from f i (n - i)

pub seeking-none : (f : ℕ → Bool) (n : ℕ) → Seeking f n 0
unfolding first
seeking-none f n = record { passed = omega arith; rest = rw sub-zero }

pub seeking-more : {f : ℕ → Bool} {n i : ℕ} → Seeking f n i → i < n → f i ≡ false → Seeking f n (i + 1)
seeking-more {f} {n} {i} s h e =
    record { passed = omega arith; rest = s.rest ∙ from_step f n i h ∙ ap (λ (b : Bool). cond b i (first_from f (i + 1) (n - (i + 1)))) e }

pub seeking-found : {f : ℕ → Bool} {n i : ℕ} → Seeking f n i → i < n → f i ≡ true → first f n ≡ i
seeking-found {f} {n} {i} s h e = s.rest ∙ from_step f n i h ∙ ap (λ (b : Bool). cond b i (first_from f (i + 1) (n - (i + 1)))) e

pub seeking-end : {f : ℕ → Bool} {n i : ℕ} → Seeking f n i → n ≤ i → first f n ≡ n
seeking-end {f} {n} {i} s h = s.rest ∙ from_end f n i h ∙ omega (arith, s.passed)

-- what the answer means, for callers
module _ (f : ℕ → Bool) where
  from_le : (i n : ℕ) → first_from f i n ≤ i + n
  unfolding first_from
  from_le i zero = omega arith
  from_le i (suc n) = by (f i) (from_le (suc i) n)
    where
      by : (t : Bool) → first_from f (suc i) n ≤ suc i + n → cond t i (first_from f (suc i) n) ≤ i + suc n
      by true h = omega arith
      by false h = omega arith

  from-below : (i n k : ℕ) → i ≤ k → k < first_from f i n → f k ≡ false
  unfolding first_from
  from-below i zero k h l = absurd (omega arith)
  from-below i (suc n) k h l = by (f i) refl l (λ h' l'. from-below (suc i) n k h' l')
    where
      by : (t : Bool) → f i ≡ t → k < cond t i (first_from f (suc i) n) → (suc i ≤ k → k < first_from f (suc i) n → f k ≡ false) → f k ≡ false
      by true e l ih = absurd (omega arith)
      by false e l ih =
          ⊎_elim (λ q. ap f (sym q) ∙ e) (λ lt. ih lt l) (eq-or-lt_of_le h)

  from_at : (i n : ℕ) → first_from f i n < i + n → f (first_from f i n) ≡ true
  unfolding first_from
  from_at i zero l = absurd (omega arith)
  from_at i (suc n) l = by (f i) refl l (λ l'. from_at (suc i) n l')
    where
      by : (t : Bool) → f i ≡ t → cond t i (first_from f (suc i) n) < i + suc n → (first_from f (suc i) n < suc i + n → f (first_from f (suc i) n) ≡ true) → f (cond t i (first_from f (suc i) n)) ≡ true
      by true e l ih = e
      by false e l ih = ih (omega arith)

  from-ge : (i n : ℕ) → i ≤ first_from f i n
  unfolding first_from
  from-ge i zero = omega arith
  from-ge i (suc n) = by (f i) (from-ge (suc i) n)
    where
      by : (t : Bool) → suc i ≤ first_from f (suc i) n → i ≤ cond t i (first_from f (suc i) n)
      by true h = omega arith
      by false h = omega arith

  pub first-le : (n : ℕ) → first f n ≤ n
  unfolding first
  first-le n = omega (arith, from_le 0 n)

  pub first_below : (n k : ℕ) → k < first f n → f k ≡ false
  unfolding first
  first_below n k l = from-below 0 n k (omega arith) l

  pub first-at : (n : ℕ) → first f n < n → f (first f n) ≡ true
  unfolding first
  first-at n l = from_at 0 n (omega arith)

-- a test that fails at no index below n holds at each
pub every-below : (f : ℕ → Bool) (n : ℕ) → first (λ k. not (f k)) n ≡ n → (k : ℕ) → k < n → f k ≡ true
every-below f n e k l = not-false (f k) (first_below (λ k. not (f k)) n k (rw e l))

-- a loop that has come to i has met no index before it at which the test holds, and a loop that has met none has come there
pub seeking-below : {f : ℕ → Bool} {n i : ℕ} → Seeking f n i → (k : ℕ) → k < i → f k ≡ false
seeking-below {f} {n} {i} s k l =
    let h : i ≤ first_from f i (n - i) = from-ge f i (n - i) in
    first_below f n k (omega (arith, s.rest))

pub seeking-from : (f : ℕ → Bool) (n i : ℕ) → i ≤ n → ((k : ℕ) → k < i → f k ≡ false) → Seeking f n i
seeking-from f n zero l h = seeking-none f n
seeking-from f n (suc i) l h =
    let s : Seeking f n (i + 1) = seeking-more (seeking-from f n i (omega arith) (λ k m. h k (omega arith))) (omega arith) (h i (omega arith)) in
    rw add-one at s
