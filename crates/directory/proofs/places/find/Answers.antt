-- The place that the search ends at is the object's, or there is none.
use mathlib.Core.Path.{sym, subst}
use Prim.Native.Nat.{ℕ}
use Rattle.laws.specs.Ruled.{PlaceOf}
use Rattle.directory.specs.Places.{place_found, place_none}
use Rattle.directory.proofs.places.find.Goals as goal

pub returns-then-stands_at : goal.returns-then-stands_at
returns-then-stands_at c =
    place_found c.requires c.args.id.0 c.search-k.result c.stands_at.result c.stands_at.ensures c.if-stands_at.true

pub returns : goal.returns
returns c =
    subst (λ (k : ℕ). PlaceOf c.args.dir.now c.args.id.0 k) (sym c.count.ensures)
    (place_none c.requires c.args.id.0 c.search-k.result c.stands_at.result c.stands_at.ensures c.search-k.ensures c.if-stands_at.false)
