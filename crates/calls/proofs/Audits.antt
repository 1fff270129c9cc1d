-- The audit's call: on a log that appends made it answers exactly what the run of those appends says, and on no log does it wait.
use Prim.Native.Nat.{ℕ}
use mathlib.Core.Path.{ap, sym, ◌∙◌, subst}
use mathlib.Core.List.{List}
use Rattle.model.specs.Directory.{shape_of}
use Rattle.model.specs.Terms.{GoodFrame}
use Rattle.model.specs.Replica.{Left, audit}
use Rattle.model.specs.Run.{Run}
use Rattle.model.specs.Histories.{Lent, whole_log, ran_to}
use Rattle.model.specs.Claims.{Audits}
use Rattle.claims.proofs.Handed.{audits-for, never-waits-for}
use Rattle.codec.specs.Eight.{in_log}
use Rattle.answers.specs.Refusals.{checked_in}
use Rattle.calls.specs.Values.{last_log, ran, scratch}
use Rattle.calls.specs.Claims.{CallsAudit, CallsNeverWait}
use Rattle.calls.proofs.Promises.{audit-promise}
use Rattle.calls.proofs.Histories.{history, whole-left, ran-so}

pub calls-audit : CallsAudit
calls-audit a c directed framed =
    let s : List ℕ = scratch c in
    let given : Audits (shape_of a.dir) (whole_log (shape_of a.dir) (history a)) (ran_to (shape_of a.dir) (history a)) s (audit (shape_of a.dir) (in_log (whole_log (shape_of a.dir) (history a))) s) =
    audits-for a.dir (history a) s directed (subst (GoodFrame (shape_of a.dir)) (sym (whole-left a)) framed) in
    let on_log : Audits (shape_of a.dir) (last_log a) (ran_to (shape_of a.dir) (history a)) s (audit (shape_of a.dir) (in_log (last_log a)) s) =
    subst (λ (l : Lent). Audits (shape_of a.dir) l (ran_to (shape_of a.dir) (history a)) s (audit (shape_of a.dir) (in_log l) s)) (whole-left a) given in
    let by_run : Audits (shape_of a.dir) (last_log a) (ran a) s (audit (shape_of a.dir) (in_log (last_log a)) s) =
    subst (λ (r : ℕ → Run). Audits (shape_of a.dir) (last_log a) r s (audit (shape_of a.dir) (in_log (last_log a)) s)) (λ j p. ran-so a p j) on_log in
    subst (Audits (shape_of a.dir) (last_log a) (ran a) s) (sym (audit-promise a.dir (last_log a) c)) by_run

pub calls-never-wait : CallsNeverWait
calls-never-wait d log c e =
    never-waits-for d (in_log log) (scratch c) (ap (λ (x : Left). x.answer) (sym (audit-promise d log c)) ∙ ap checked_in e)
