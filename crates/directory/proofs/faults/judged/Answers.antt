-- One place where there are no bytes; else one for each record begun.
use mathlib.Core.Path.{sym}
use Rattle.directory.specs.Faults.{places-none, places-some}
use Rattle.directory.proofs.faults.judged.Goals as goal

pub returns-then-dir-eq0 : goal.returns-then-dir-eq0
returns-then-dir-eq0 c = sym (places-none c.args.dir.now c.if-dir-eq0.true)

pub returns : goal.returns
returns c = sym (places-some c.args.dir.now c.if-dir-eq0.false)
