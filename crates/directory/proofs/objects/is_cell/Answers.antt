-- The key against the highest at the object's place; an object that has none has no cells.
use mathlib.Core.Path.{ap, sym, ◌∙◌}
use Prim.Native.Nat.{◌≤◌, ◌<◌}
use native.Mathlib.Omega.{arith}
use lib.Dec.{leb}
use borrow.Author.Tests.{lt-ltb, le-ltb}
use Rattle.laws.specs.Ruled.{records}
use Rattle.laws.proofs.ByPlace.{cell-by}
use Rattle.directory.proofs.objects.is_cell.Goals as goal

pub returns-then-count-k : goal.returns-then-count-k
returns-then-count-k c =
    let a = c.args in
    let past : records a.dir.now ≤ c.place_of-k.result = omega (arith, c.count.ensures, c.if-count-k.true) in
    sym (rw (le-ltb c.place_of-k.result (records a.dir.now) past) at (cell-by c.requires c.place_of-k.ensures a.key))

pub returns : goal.returns
returns c =
    let a = c.args in
    let among : c.place_of-k.result < records a.dir.now = omega (arith, c.count.ensures, c.if-count-k.false) in
    ap (leb a.key) c.highest_at.ensures ∙ sym (rw (lt-ltb c.place_of-k.result (records a.dir.now) among) at (cell-by c.requires c.place_of-k.ensures a.key))
