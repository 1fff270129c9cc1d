-- The place moves on, and what runs from it ends a run from the start.
use Rattle.std.proofs.Common.{◌-◌, length}
use denote.Param.Always.{always_mut}
use Rattle.cases.specs.Runs.{Led}
use Rattle.cases.proofs.each.Given as goal

abbrev pub decreases-loop-at : goal.decreases-loop-at
decreases-loop-at g l = length l.input - l.at

abbrev pub invariant-loop-at : goal.invariant-loop-at
invariant-loop-at g l = (always_mut g.F.FnMut l.initial.case → always_mut g.F.FnMut l.case) × Led g.F.FnMut (length l.input) l.initial.case l.case l.at
