-- The input's end and an answer that is not further on end the run; any other leads on.
use Rattle.std.proofs.Common.{refl}
use denote.Param.Always.{mut_next}
use Rattle.cases.specs.Runs.{led-end, led-on, led-off}
use Rattle.cases.proofs.each.Goals as goal

pub returns-then-next-at : goal.returns-then-next-at
returns-then-next-at g c = led-off _ _ c.loop-at.invariant.1 c.loop-at-test.true c.case-next.ensures c.if-next-at.true

pub loop-at-preserved : goal.loop-at-preserved
loop-at-preserved g c = ((λ a. mut_next _ _ _ _ _ _ c.case-next.ensures refl (c.loop-at.invariant.0 a)), led-on _ _ c.loop-at.invariant.1 c.loop-at-test.true c.case-next.ensures c.if-next-at.false)

pub returns : goal.returns
returns g c = led-end _ _ c.loop-at.invariant.1 c.loop-at-test.false
