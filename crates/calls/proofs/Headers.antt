-- A log that the check passes has a good frame and good entries alone, so what is shown of those holds of it.
use mathlib.Core.Path.{◌≡◌, refl, ap, sym, ◌∙◌}
use mathlib.Core.Bool.{true, false, not, ◌||◌}
use mathlib.Core.List.{List, [], ◌∷◌}
use mathlib.Core.Option.{Option, none, some}
use Prim.Native.Nat.{ℕ, ◌%◌, ◌≤◌, ◌<◌}
use native.Mathlib.Omega.{arith}
use lib.Dec.{eqb, ltb}
use borrow.Author.Tests.{ltb-false}
use Rattle.lists.specs.Tests.{clash, or_r}
use Rattle.model.specs.Objects.{the_layout}
use Rattle.model.specs.Directory.{shape_of}
use Rattle.model.specs.Entries.{Log}
use Rattle.model.specs.Slot.{most_slots, log_in}
use Rattle.model.specs.Rules.{good_at, lowest_bad}
use Rattle.model.specs.Answers.{Refusal, done, answer, refuse, refuse_at, first_of, slots, bad_directory}
use Rattle.model.specs.Answers as model
use Rattle.model.specs.Reading as reading
use Rattle.model.specs.Histories.{Lent, is_refused}
use Rattle.laws.proofs.Refusals.{AllPass, all_pass, refuse-none, refuse_at-none, good-below}
use Rattle.laws.proofs.Appends.{frame-few}
use Rattle.claims.proofs.Handed.{tells-where-for, past-is-bad-for}
use Rattle.codec.specs.Eight.{bad_frame, in_log}
use Rattle.answers.specs.Refusals.{checked_in}
use Rattle.calls.specs.Values.{CheckCall}
use Rattle.calls.specs.Headers.{CallsTell, CallsFindPast}
use Rattle.calls.proofs.Promises.{check-promise}
use Rattle.std.specs.Prelude.{Ok}

-- an answer that is done comes from no refusal
answered : (x : Option Refusal) → answer x (tt {0}) ≡ done tt → x ≡ none
answered none e = refl
answered (some r) e = clash (is_refused (answer (some r) (tt {0}))) refl (ap is_refused e)

tail-few : (log : Log) → bad_frame log ≡ false → log.tail ≤ most_slots
unfolding model.bad_frame
tail-few log f =
    let used = ltb-false (slots the_layout log) log.tail (or_r (not (eqb (log.size % the_layout.slot_size) 0) || ltb most_slots (slots the_layout log)) (ltb (slots the_layout log) log.tail) f) in
    omega (arith, used, frame-few the_layout log f)

module _ (d : List ℕ) (log : Lent) (c : CheckCall d log) (e : c.call.answer ≡ (Ok tt)) where
  tests : AllPass (bad_directory (shape_of d) ∷ refuse 1 (bad_frame (in_log log)) ∷ refuse_at 2 (lowest_bad (shape_of d) (in_log log)) ∷ [])
  unfolding reading.check
  tests =
      let ts : List (Option Refusal) = bad_directory (shape_of d) ∷ refuse 1 (bad_frame (in_log log)) ∷ refuse_at 2 (lowest_bad (shape_of d) (in_log log)) ∷ [] in
      all_pass ts (answered (first_of ts) (sym (check-promise d log c) ∙ ap checked_in e))

  small : log.tail ≤ most_slots
  unfolding log_in
  small = tail-few (in_log log) (refuse-none 1 (bad_frame (in_log log)) tests.1.0)

  good : (p : ℕ) → p < log.tail → good_at (shape_of d) (in_log log) p ≡ true
  unfolding log_in
  good = good-below (shape_of d) (in_log log) (refuse_at-none 2 (lowest_bad (shape_of d) (in_log log)) tests.1.1.0)

pub calls-tell : CallsTell
calls-tell d log c e p k l h =
    let s = small d log c e in
    tells-where-for d (refuse_at-none 15 (shape_of d).fault (tests d log c e).0) (in_log log) p k (omega arith) (λ q m. good d log c e q (omega arith)) h

pub calls-find-past : CallsFindPast
calls-find-past d log c p k l h m e = clash (good_at (shape_of d) (in_log log) p) (good d log c e p l) (past-is-bad-for d (in_log log) p k h m)
