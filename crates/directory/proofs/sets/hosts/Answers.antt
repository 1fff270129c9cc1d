-- By the object's place.
use Rattle.directory.proofs.sets.hosts.Goals as goal

pub returns : goal.returns
returns c = c.hosts_at.ensures _ c.place_of-k.ensures
