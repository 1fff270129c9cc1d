-- The byte of the kind: 2 is a register, any other a map.
use mathlib.Core.Path.{ap, ◌∙◌}
use mathlib.Core.Bool.{not}
use Prim.Native.Nat.{ℕ, ◌+◌, ◌*◌}
use lib.Dec.{eqb}
use Rattle.lists.specs.Bytes.{be_at}
use Rattle.model.specs.Directory.{record_size, record_at}
use Rattle.directory.specs.Places.{map-kind}
use Rattle.directory.proofs.places.is_map_at.Goals as goal

pub returns : goal.returns
unfolding record_at
returns c =
    let a = c.args in
    ap (λ (v : ℕ). not (eqb v 2)) c.be8.ensures ∙ map-kind (be_at 1 a.dir.now (record_size * a.k + 12))
