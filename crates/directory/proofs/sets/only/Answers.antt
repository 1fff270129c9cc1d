-- The bit of the object's place, which is below 64.
use Rattle.directory.specs.Sets.{place-few, only_one}
use Rattle.directory.proofs.sets.only.Goals as goal

pub overflow_shl-result : goal.overflow_shl-result
overflow_shl-result c = place-few c.requires.ruled c.place_of.ensures c.requires.known

pub returns : goal.returns
returns c = only_one c.requires.ruled c.place_of.ensures c.requires.known
