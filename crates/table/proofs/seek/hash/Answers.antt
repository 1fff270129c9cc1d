-- Both products are below 2 ^ 63.
use mathlib.Core.Path.{refl}
use Rattle.table.specs.Seek.{hash_of}
use Rattle.table.proofs.seek.hash.Goals as goal

pub returns : goal.returns
unfolding hash_of
returns c = refl
