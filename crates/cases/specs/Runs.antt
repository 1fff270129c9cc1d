-- What it means to run each case of an input, and that a loop does it: what runs from where it stands is the rest of a run from the start. A
-- closure that is handed over by value leaves nothing to tell what else it is called with, so this says which calls are made first.
use Rattle.std.specs.Prelude.{◌≡◌, List, [], ◌∷◌, ℕ, ◌≤◌, ◌<◌, ◌⊎◌}
use Rattle.std.specs.Fn.{Called}
use Rattle.std.proofs.Common.{refl}
use mathlib.Core.Logic.{inl, inr}
use denote.Param.Members.{Mut}

module _ {F : Type 0} (c : Mut F (ℕ × Unit {0}) ℕ) (size : ℕ) where
  -- From a place of an input of so many bytes on, the cases begin at these places: none where the input ends there. A case is called with its
  -- place; the next one begins where it answers, and there is none where that is not further on.
  pub Runs : F → ℕ → List ℕ → F → Type 0
  Runs e at [] j = (size ≤ at) × (e ≡ j)
  Runs e at (p ∷ ps) j =
      (p ≡ at) × (at < size) × ((n : ℕ) × (q : F) × Called c e (at, tt) n q × (((n ≤ at) × (ps ≡ []) × (q ≡ j)) ⊎ ((at < n) × Runs q n ps j)))

  -- the whole input
  abbrev pub RunsAll : F → Type 0
  RunsAll e = (ps : List ℕ) × (j : F) × Runs e 0 ps j

  -- what runs from here on ends a run from the start
  pub record Led (start e : F) (at : ℕ) : Type 0 where
    pub led : (ps : List ℕ) (j : F) → Runs e at ps j → RunsAll start

  pub led-start : (start : F) → Led start start 0
  led-start start = record { led = λ ps j r. (ps, j, r) }

  module _ {start e : F} {at : ℕ} (l : Led start e at) where
    pub led-end : size ≤ at → RunsAll start
    unfolding Runs
    led-end h = l.led [] e (h, refl)

    module _ {q : F} {n : ℕ} (h : at < size) (k : Called c e (at, tt) n q) where
      pub led-on : at < n → Led start q n
      unfolding Runs
      led-on m = record { led = λ ps j r. l.led (at ∷ ps) j (refl, h, (n, q, k, inr (m, r))) }

      pub led-off : n ≤ at → RunsAll start
      unfolding Runs
      led-off m = l.led (at ∷ []) q (refl, h, (n, q, k, inl (m, refl, refl)))
