-- What is left to walk has the answer; a row without a price ends the walk.
use Rattle.pricing.specs.Walks.{Walking}
use Rattle.pricing.proofs.walk.walk.Given as goal

abbrev pub invariant-loop-i : goal.invariant-loop-i
invariant-loop-i l = Walking l.table l.first l.n l.highest l.prices l.i l.w
