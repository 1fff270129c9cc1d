-- The highest key at the object's place, which it has.
use mathlib.Core.Path.{ap, sym, ◌∙◌}
use mathlib.Core.Bool.{Bool, ◌&&◌}
use lib.Dec.{leb}
use borrow.Author.Tests.{lt-ltb}
use Rattle.laws.specs.Ruled.{records}
use Rattle.laws.proofs.ByPlace.{highest_of, cell-by}
use Rattle.directory.specs.Maps.{map-placed}
use Rattle.directory.proofs.maps.highest_of.Goals as goal

pub highest_at-requires : goal.highest_at-requires
highest_at-requires c = map-placed c.requires c.place_of-k.ensures

pub returns : goal.returns
returns c = λ key.
    let d = c.args.dir.now in
    let k = c.place_of-k.result in
    cell-by c.requires.ruled c.place_of-k.ensures key
    ∙ ap (λ (t : Bool). t && leb key (highest_of d k)) (lt-ltb k (records d) (map-placed c.requires c.place_of-k.ensures))
    ∙ ap (leb key) (sym c.highest_at.ensures)
