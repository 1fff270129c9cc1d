-- The count of the zeros below the lowest bit: the law of the first object.
use native.Mathlib.Omega.{arith}
use lib.Count.{trailing_le}
use Rattle.directory.specs.Sets.{lowest-of}
use Rattle.directory.proofs.sets.lowest.Goals as goal

pub returns : goal.returns
returns c = λ d r l. lowest-of d r c.args.set l c.requires

pub overflow_cast-result : goal.overflow_cast-result
overflow_cast-result c = omega (arith, trailing_le 64 c.args.set)
