-- A play's call across one commit record, by a replica that hosts all objects read, and every object where a number is named: it aborts
-- exactly on a stale read or a number that has not committed, since the call is the model's by its contract.
use mathlib.Core.Path.{ap, sym, ◌∙◌, subst}
use Rattle.model.specs.Directory.{shape_of}
use Rattle.model.specs.Histories.{play_on}
use Rattle.model.specs.Claims.{AbortsAlone}
use Rattle.claims.proofs.Handed.{demand2-for}
use Rattle.calls.specs.Values.{carry}
use Rattle.calls.specs.Claims.{CallsAbort}
use Rattle.calls.proofs.Promises.{play-promise}

pub calls-abort : CallsAbort
calls-abort d log k p n c e given =
    subst (AbortsAlone (shape_of d) log (carry k) n c) (ap (play_on (shape_of d) log (carry k)) (sym e) ∙ sym (play-promise d log k p))
    ((demand2-for d).replica_aborts log (carry k) n c given)
