-- Sums over the numbers below a bound: of functions that agree, or that differ at one number alone; and how great a sum can be.
use Prim.Native.Nat.{ℕ, zero, suc, ◌+◌, ◌*◌, ◌≤◌, ◌<◌}
use mathlib.Core.Path.{◌≡◌, refl, ap}
use mathlib.Core.Bool.{Bool, true, false}
use native.Mathlib.Omega.{arith}
use borrow.Author.Tests.{eqb-true, eqb-false}
use lib.Dec.{eqb}
use Rattle.model.specs.PriceClaims.{summed}

pub summed-none : (f : ℕ → ℕ) (n : ℕ) → ((j : ℕ) → f j ≡ 0) → summed f n ≡ 0
summed-none f zero h = refl
summed-none f (suc n) h = omega (arith, summed-none f n h, h n)

pub summed_same : (f g : ℕ → ℕ) (n : ℕ) → ((j : ℕ) → j < n → f j ≡ g j) → summed f n ≡ summed g n
summed_same f g zero h = refl
summed_same f g (suc n) h = omega (arith, summed_same f g n (λ j l. h j (omega arith)), h n (omega arith))

-- they differ at k alone
pub summed-other : (f g : ℕ → ℕ) (n k : ℕ) → k < n → ((j : ℕ) → (j ≡ k → ⊥) → f j ≡ g j) → summed f n + g k ≡ summed g n + f k
summed-other f g zero k l h = absurd (omega arith)
summed-other f g (suc n) k l h = go (eqb n k) refl (λ m. summed-other f g n k m h)
  where
    go : (t : Bool) → eqb n k ≡ t → (k < n → summed f n + g k ≡ summed g n + f k) → summed f n + f n + g k ≡ summed g n + g n + f k
    go true e ih =
        let same = eqb-true n k e in
        let below : summed f n ≡ summed g n = summed_same f g n (λ j m. h j (λ q. absurd (omega arith))) in
        omega (arith, below, ap f same, ap g same)
    go false e ih = let apart = eqb-false n k e in omega (arith, ih (omega arith), h n apart)

pub summed-most : (f : ℕ → ℕ) (n b : ℕ) → ((j : ℕ) → j < n → f j ≤ b) → summed f n ≤ n * b
summed-most f zero b h = omega arith
summed-most f (suc n) b h = omega (arith, summed-most f n b (λ j l. h j (omega arith)), h n (omega arith))
