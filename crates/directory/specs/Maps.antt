-- A map of a directory within its rules.
use Rattle.std.specs.Prelude.{ℕ, ◌<◌, ◌≡◌, true, List, ltb}
use Rattle.std.proofs.Common.{sym, ◌∙◌, ltb-true}
use Rattle.lists.specs.Tests.{and_l}
use Rattle.model.specs.Objects.{is_map_kind, is_map}
use Rattle.model.specs.Directory.{shape_of}
use Rattle.laws.specs.Ruled.{Ruled, records, PlaceOf}
use Rattle.laws.proofs.Records.{placed}
use Rattle.laws.proofs.ByPlace.{map-by}

pub record MapGiven (d : List ℕ) (o : ℕ) : Type 0 where
  pub ruled : Ruled d
  pub map : is_map (shape_of d) o ≡ true

-- its place is among the records
pub map-placed : {d : List ℕ} {o k : ℕ} → MapGiven d o → PlaceOf d o k → k < records d
map-placed {d} {o} {k} m p = ltb-true k (records d) (and_l (ltb k (records d)) (is_map_kind (placed d k).kind) (sym (map-by m.ruled p) ∙ m.map))
