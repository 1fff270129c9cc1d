use Prim.Native.Nat.{◌+◌, ◌-◌, ◌/◌}
use native.Mathlib.Omega.{arith}
use Rattle.directory.specs.Places.{searching-all, searching-up, searching-down, searched}
use Rattle.directory.proofs.places.search.Goals as goal

pub loop-low-init : goal.loop-low-init
loop-low-init c = let a = c.args in searching-all a.dir.now a.id.0 c.count-high.result c.count-high.ensures

pub loop-low-preserved-then-id_at-id : goal.loop-low-preserved-then-id_at-id
loop-low-preserved-then-id_at-id c =
    let l = c.loop-low in
    let mid = l.low + (l.high - l.low) / 2 in
    searching-up l.invariant mid (omega arith) (omega arith) c.requires (omega (arith, c.id_at.ensures, c.if-id_at-id.true))

pub loop-low-preserved : goal.loop-low-preserved
loop-low-preserved c =
    let l = c.loop-low in
    let mid = l.low + (l.high - l.low) / 2 in
    searching-down l.invariant mid (omega arith) (omega arith) (omega (arith, c.id_at.ensures, c.if-id_at-id.false))

pub returns : goal.returns
returns c = searched c.loop-low.invariant c.loop-low-test.false

pub count-high-requires : goal.count-high-requires
count-high-requires c = tt
