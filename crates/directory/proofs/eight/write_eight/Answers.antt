use mathlib.Core.Path.{◌≡◌, subst}
use Prim.Native.Nat.{ℕ, ◌*◌}
use native.Mathlib.Omega.{arith}
use Rattle.lists.specs.Rows.{values, joined, filled_row}
use Rattle.lists.specs.Splice.{Filled, filled_none, filled-size}
use Rattle.model.specs.Directory.{record_size, record_bytes}
use Rattle.laws.proofs.Records.{length-record}
use Rattle.directory.specs.Eight.{eight_at, kinds-two, eight-put}
use Rattle.directory.proofs.eight.write_eight.Goals as goal

pub loop-k-init : goal.loop-k-init
unfolding values joined
loop-k-init c = (omega arith, filled_none _)

pub put_record-requires : goal.put_record-requires
put_record-requires c =
    let l = c.loop-k in
    record { inside = omega (arith, filled-size l.invariant.1); kind = kinds-two l.k c.loop-k-test.true }

pub loop-k-preserved : goal.loop-k-preserved
loop-k-preserved c =
    (omega arith, filled_row record_bytes record_size eight_at c.loop-k.k c.loop-k.invariant.1 c.put_record.ensures (length-record _) (omega arith))

pub shape_of-d : goal.shape_of-d
shape_of-d c = filled-size c.loop-k.invariant.1

pub returns : goal.returns
returns c =
    let l = c.loop-k in
    let e : l.k ≡ 8 = omega arith in
    eight-put (subst (λ (m : ℕ). Filled c.args.d.now (record_size * m) (joined record_bytes (values eight_at 0 m)) l.d) e l.invariant.1) c.requires
