-- The and of the two sets is the second: the law of a set within another.
use Rattle.directory.specs.Common.{hosted-within}
use Rattle.directory.proofs.sets.has_all.Goals as goal

pub returns : goal.returns
returns c d r l = hosted-within r c.args.a c.args.b l
