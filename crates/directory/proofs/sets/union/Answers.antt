-- By the bits of each object: the law of the or.
use Rattle.directory.specs.Sets.{united}
use Rattle.directory.proofs.sets.union.Goals as goal

pub returns : goal.returns
returns c = λ d r. united d r c.args.a c.args.b
