-- As many objects as bits; there are 64 at most.
use native.Mathlib.Omega.{arith}
use lib.Count.{ones-le}
use Rattle.directory.specs.Sets.{hosted-size}
use Rattle.directory.proofs.sets.size.Goals as goal

pub returns : goal.returns
returns c = λ d r l. hosted-size d r c.args.set l

pub overflow_cast-result : goal.overflow_cast-result
overflow_cast-result c = omega (arith, ones-le 64 c.args.set (omega arith))
