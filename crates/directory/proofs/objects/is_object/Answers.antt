-- An object has a place below the number of records.
use mathlib.Core.Path.{ap, sym, ◌∙◌}
use lib.Dec.{ltb}
use Rattle.laws.proofs.ByPlace.{object-by}
use Rattle.directory.proofs.objects.is_object.Goals as goal

pub returns : goal.returns
returns c =
    ap (ltb c.place_of.result) c.count.ensures ∙ sym (object-by c.requires c.place_of.ensures)
