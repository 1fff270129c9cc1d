-- A guess that was tested is the place; else all places are searched.
use Rattle.directory.specs.Places.{place_found}
use Rattle.directory.proofs.places.place_of.Goals as goal

pub returns-then-stands_at : goal.returns-then-stands_at
returns-then-stands_at c =
    place_found c.requires c.args.id.0 c.guess-k.result c.stands_at.result c.stands_at.ensures c.if-stands_at.true
