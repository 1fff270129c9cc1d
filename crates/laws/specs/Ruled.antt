-- A directory without fault, and the place of an object in it, as the contracts of code cite them.
use Rattle.std.specs.Prelude.{ℕ, ◌*◌, ◌/◌, ◌≤◌, ◌<◌, ◌≡◌, false, List, length}
use Rattle.model.specs.Objects.{is_object}
use Rattle.model.specs.Directory.{record_size, id_at, shape_of}
use Rattle.model.specs.Terms.{Directed}

-- the directory is within its rules
pub record Ruled (d : List ℕ) : Type 0 where
  pub directed : Directed (shape_of d)

-- how many records it has
abbrev pub records : List ℕ → ℕ
records d = length d / record_size

-- k is the place of object o, or the number of records where the directory does not list it
pub record PlaceOf (d : List ℕ) (o k : ℕ) : Type 0 where
  pub below : k ≤ records d
  pub there : k < records d → id_at d (record_size * k) ≡ o
  pub nowhere : k ≡ records d → is_object (shape_of d) o ≡ false
