-- A log grown by appends from an empty one has no bad entry: an accepted append leaves none, a refused one leaves the log as it
-- was, and an empty log has no entry; by induction over the appends.
use mathlib.Core.Path.{◌≡◌, refl}
use mathlib.Core.Bool.{true}
use mathlib.Core.List.{List, [], ◌∷◌}
use mathlib.Core.Option.{none}
use Prim.Native.Nat.{ℕ}
use native.Mathlib.Omega.{arith}
use Rattle.model.specs.Objects.{Shape}
use Rattle.model.specs.Slot.{log_in, log_of, ok_shape}
use Rattle.model.specs.Rules.{lowest_bad}
use Rattle.model.specs.Answers.{Answer, done, refused}
use Rattle.model.specs.Append.{Request}
use Rattle.model.specs.Histories.{Lent, in_log, tail_after, append_to, after, grown, empty}
use Rattle.model.specs.Claims.{KeepsGood}
use Rattle.laws.proofs.Refusals.{below-good}
use Rattle.laws.proofs.Appends.{accepted, refused-same}

module _ (sh : Shape) (shape : ok_shape sh ≡ true) where
  -- one append
  pub after-good : (l : Lent) (q : Request) → lowest_bad sh (in_log sh l) ≡ none → lowest_bad sh (in_log sh (after sh l q)) ≡ none
  after-good l q good = by (append_to sh l q).new_tail refl
    where
      by : (a : Answer ℕ) → (append_to sh l q).new_tail ≡ a → lowest_bad sh (log_of sh.layout (append_to sh l q).bytes (tail_after l.tail a)) ≡ none
      by (done t) e = let a = accepted sh l.bytes l.tail q t shape e in rw a.next a.good
      by (refused r) e = rw (refused-same sh l.bytes l.tail q r e) good

  pub grown-good : (l : Lent) (qs : List Request) → lowest_bad sh (in_log sh l) ≡ none → lowest_bad sh (in_log sh (grown sh l qs)) ≡ none
  unfolding grown
  grown-good l [] good = good
  grown-good l (q ∷ qs) good = grown-good (after sh l q) qs (after-good l q good)

  pub empty-good : (bytes : List ℕ) → lowest_bad sh (in_log sh (empty bytes)) ≡ none
  unfolding log_in
  empty-good bytes = below-good sh (log_of sh.layout bytes 0) (λ p h. absurd (omega arith))

pub keeps-good : (sh : Shape) → ok_shape sh ≡ true → KeepsGood sh
keeps-good sh shape h = grown-good sh shape (empty h.bytes) h.requests (empty-good sh shape h.bytes)
