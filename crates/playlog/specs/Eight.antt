-- The directory of the eight objects is within its rules.
use Rattle.std.specs.Prelude.{◌≡◌, refl, List, ℕ}
use Rattle.std.proofs.Common.{ap, ◌∙◌, arith}
use Rattle.model.specs.Objects.{Shape, the_objects, depots}
use Rattle.model.specs.Directory.{shape_of, directory_of}
use Rattle.laws.specs.Ruled.{Ruled}
use Rattle.laws.proofs.Records.{reads-back}

pub eight-shape : shape_of (directory_of the_objects) ≡ depots
eight-shape = reads-back the_objects refl refl (omega arith) (omega arith)

pub eight-ruled : Ruled (directory_of the_objects)
eight-ruled = record { directed = ap (λ (sh : Shape). sh.fault) eight-shape }

-- so are bytes that are equal to it
pub same_ruled : {d : List ℕ} → d ≡ directory_of the_objects → Ruled d
same_ruled e = record { directed = ap (λ (s : List ℕ). (shape_of s).fault) e ∙ eight-ruled.directed }
