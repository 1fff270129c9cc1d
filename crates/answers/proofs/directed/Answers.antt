-- By the first place at fault, or none.
use Rattle.answers.specs.Refusals.{fault-told}
use Rattle.answers.proofs.directed.Goals as goal

pub returns-in-None : goal.returns-in-None
returns-in-None c =
    fault-told c.args.dir.now c.fault.ensures _ c.in-None.is

pub returns-in-Some : goal.returns-in-Some
returns-in-Some c =
    fault-told c.args.dir.now c.fault.ensures _ c.in-Some.is
