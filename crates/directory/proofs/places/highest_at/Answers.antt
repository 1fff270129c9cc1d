-- The four bytes of the highest key.
use Rattle.model.specs.Directory.{record_at}
use Rattle.directory.proofs.places.highest_at.Goals as goal

pub returns : goal.returns
unfolding record_at
returns c = c.be32.ensures
