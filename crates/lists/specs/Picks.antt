-- The indices below n at which a test holds, ascending.
use Rattle.std.specs.Prelude.{◌≡◌, Bool, true, cond, List, [], ◌∷◌, ◌++◌, ℕ, zero, suc, ◌+◌, ◌≤◌, drop}
use Rattle.std.proofs.Common.{ap, sym, ◌∙◌, le_refl, add-one, arith, take-append-drop}
use Rattle.std.proofs.Math.Nat.{le_trans}
use Rattle.std.proofs.Math.Decide.{le_ind}
use Rattle.std.proofs.Math.ListN.{length, take, length-append}
use Rattle.std.proofs.Math.Seq.{take-length, take-append-le}

unfoldable pub picks : (ℕ → Bool) → ℕ → List ℕ
picks f zero = []
picks f (suc n) = picks f n ++ cond (f n) (n ∷ []) []

module _ (f : ℕ → Bool) where
  pub picks-yes : (n : ℕ) → f n ≡ true → picks f (n + 1) ≡ picks f n ++ (n ∷ [])
  unfolding picks
  picks-yes n e = rw (add-one, e)

  -- more indices, no fewer picks
  pub picks-mono : (i n : ℕ) → i ≤ n → length (picks f i) ≤ length (picks f n)
  unfolding picks
  picks-mono i n h =
      le_ind (λ (m : ℕ). length (picks f i) ≤ length (picks f m)) (le_refl _)
      (λ m k e. le_trans e (simp length-append (omega arith))) n h

  -- the picks below i stand first among those below n
  pub picks-front : (i n : ℕ) → i ≤ n → take (length (picks f i)) (picks f n) ≡ picks f i
  unfolding picks
  picks-front i n h =
      le_ind (λ (m : ℕ). take (length (picks f i)) (picks f m) ≡ picks f i) (take-length (picks f i))
      (λ m k e. take-append-le (length (picks f i)) (picks f m) (cond (f m) (m ∷ []) []) (picks-mono i m k) ∙ e) n h

  pub picks-rest : (i n : ℕ) → i ≤ n → picks f n ≡ picks f i ++ drop (length (picks f i)) (picks f n)
  picks-rest i n h =
      sym (take-append-drop (length (picks f i)) (picks f n))
      ∙ ap (λ (t : List ℕ). t ++ drop (length (picks f i)) (picks f n)) (picks-front i n h)
