-- What is left of the input gets shorter.
use Rattle.std.proofs.Common.{length}
use Rattle.test_reading.proofs.cases.Given as goal

abbrev pub decreases-loop-head : goal.decreases-loop-head
decreases-loop-head l = length l.rest
