-- Openings give what was asked: a fresh one the set at position 0 with no cells, one at a checkpoint that object, the next offset and
-- the checkpoint's cells. By their contracts, from the model's theorems.
use Prim.Native.Nat.{ℕ}
use mathlib.Core.Path.{◌≡◌, refl, ap, sym, ◌∙◌, subst}
use mathlib.Core.Bool.{true}
use Rattle.lists.specs.Tests.{clash}
use Rattle.model.specs.Directory.{shape_of}
use Rattle.model.specs.Answers.{Answer, done, refused}
use Rattle.model.specs.Append.{Replica}
use Rattle.model.specs.Replica.{Left}
use Rattle.model.specs.Histories.{is_refused}
use Rattle.model.specs.Claims.{OpenedAt}
use Rattle.claims.proofs.Handed.{opens-at-for, opens-wherever-for}
use Rattle.claims.proofs.Opened.{opens-fresh}
use Rattle.codec.specs.Eight.{in_log}
use Rattle.answers.specs.Refusals.{checked_in, Answered}
use Rattle.records.specs.declared.Record.{Record}
use Rattle.records.specs.Record.{replica_in}
use Rattle.replica.specs.Answers.{opened_in}
use Rattle.calls.specs.Claims.{CallsOpen}
use Rattle.calls.proofs.Promises.{fresh-promise, open-promise}
use Rattle.std.specs.Prelude.{Ok, Err}

abbrev in_done : Replica → Answer Replica → Replica
in_done r (done x) = x
in_done r (refused x) = r

-- an answer that reads as done with this record is that record
is-opened : (x : Answered Record) (r : Record) → opened_in x ≡ done (replica_in r) → x ≡ Ok r
is-opened (Ok y) r e =
    let same : replica_in y ≡ replica_in r = ap (in_done (replica_in y)) e in
    λ j. Ok (record { hosted = (same j).hosting; position = (same j).position; count = (same j).count })
is-opened (Err y) r e = clash true refl (ap is_refused e)

pub calls-open : CallsOpen
calls-open = record {
  fresh = λ c directed n listed.
      is-opened c.answer (record { hosted = c.given.1.0; position = 0; count = 0 }) (fresh-promise c ∙ (opens-fresh (shape_of c.given.0.now) c.given.1.0).1 (directed, n, listed));
  at_checkpoint = λ d log c e.
      let o : ℕ = c.call.given.1.1.1.0 in
      let same = open-promise d log c in
      subst (OpenedAt (shape_of d) (in_log log) o c.call.given.1.1.1.1.0.now) (sym same)
      (opens-at-for d log o c.call.given.1.1.1.1.0.now (ap (λ (x : Left). x.answer) (sym same) ∙ ap checked_in e));
  wherever = λ d log c x cs directed framed good below here room.
      ap (λ (y : Left). y.answer) (open-promise d log c) ∙ opens-wherever-for d log c.call.given.1.1.1.0 c.call.given.1.1.1.1.0.now x cs directed framed good below here room;
}
