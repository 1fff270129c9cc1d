-- The kind at the object's place; an object that has none is no map.
use mathlib.Core.Path.{sym, ◌∙◌}
use Prim.Native.Nat.{◌≤◌, ◌<◌}
use native.Mathlib.Omega.{arith}
use borrow.Author.Tests.{lt-ltb, le-ltb}
use Rattle.laws.specs.Ruled.{records}
use Rattle.laws.proofs.ByPlace.{map-by}
use Rattle.directory.proofs.maps.is_map.Goals as goal

pub returns-then-count-k : goal.returns-then-count-k
returns-then-count-k c =
    let a = c.args in
    let past : records a.dir.now ≤ c.place_of-k.result = omega (arith, c.count.ensures, c.if-count-k.true) in
    sym (rw (le-ltb c.place_of-k.result (records a.dir.now) past) at (map-by c.requires c.place_of-k.ensures))

pub returns : goal.returns
returns c =
    let a = c.args in
    let among : c.place_of-k.result < records a.dir.now = omega (arith, c.count.ensures, c.if-count-k.false) in
    c.is_map_at.ensures ∙ sym (rw (lt-ltb c.place_of-k.result (records a.dir.now) among) at (map-by c.requires c.place_of-k.ensures))
