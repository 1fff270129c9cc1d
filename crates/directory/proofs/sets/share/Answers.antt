-- The and of the two sets is not empty: the law of the common objects.
use Rattle.directory.specs.Common.{hosted-meet}
use Rattle.directory.proofs.sets.share.Goals as goal

pub returns : goal.returns
returns c d r l = hosted-meet r c.args.a c.args.b l
