-- Strictly ascending values, as a loop that compares each value with the next finds it: the first index out of order.
use Rattle.std.specs.Prelude.{◌≡◌, Bool, true, false, not, ◌&&◌}
use Rattle.std.proofs.Math.Path.{refl, ap}
use Rattle.std.proofs.Common.{sym, ◌∙◌}
use Prim.Native.Nat.{ℕ, zero, suc, ◌+◌, ◌-◌, ◌≤◌, ◌<◌}
use Rattle.std.proofs.Math.Numerals.{add-one}
use native.Mathlib.Omega.{arith}
use Rattle.lists.specs.Sets.{all, ascending}
use Rattle.lists.specs.Rows.{values}
use Rattle.lists.specs.First.{Seeking}
use Rattle.lists.specs.Every.{every-not, every-all}

module _ {A : Type 0} (before : A → A → Bool) (g : ℕ → A) where
  -- the value is not before the next
  abbrev pub unordered : ℕ → Bool
  unordered k = not (before (g k) (g (k + 1)))

  abbrev ordered : ℕ → Bool
  ordered k = before (g k) (g (k + 1))

  -- n + 1 values ascend where each of the first n is before the next
  pairs : (i n : ℕ) → ascending before (values g i (suc n)) ≡ all ordered (values (λ (k : ℕ). k) i n)
  unfolding values
  pairs i zero = refl
  pairs i (suc n) = rw add-one (ap (λ (t : Bool). before (g i) (g (suc i)) && t) (pairs (suc i) n))

  ascend-pairs : (n : ℕ) → ascending before (values g 0 n) ≡ all ordered (values (λ (k : ℕ). k) 0 (n - 1))
  unfolding values
  ascend-pairs zero = refl
  ascend-pairs (suc n) =
      let e : suc n - 1 ≡ n = omega arith in
      pairs 0 n ∙ ap (λ (m : ℕ). all ordered (values (λ (k : ℕ). k) 0 m)) (sym e)

  -- the loop found a value that is not before the next
  pub ascend-not : (n : ℕ) {i : ℕ} → Seeking unordered (n - 1) i → i < n - 1 → unordered i ≡ true → ascending before (values g 0 n) ≡ false
  ascend-not n s l e = ascend-pairs n ∙ every-not ordered (λ (k : ℕ). k) s l e

  -- the loop found none
  pub ascend-all : (n : ℕ) {i : ℕ} → Seeking unordered (n - 1) i → n - 1 ≤ i → ascending before (values g 0 n) ≡ true
  ascend-all n s l = ascend-pairs n ∙ every-all ordered (λ (k : ℕ). k) s l
