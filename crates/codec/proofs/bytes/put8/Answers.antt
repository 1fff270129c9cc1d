-- One byte stored is a splice of one.
use Rattle.std.specs.Prelude.{◌≡◌, ◌%◌}
use Rattle.std.proofs.Common.{div-one, mod-eq_of_lt, arith}
use Rattle.lists.specs.Bytes.{bytes_of}
use Rattle.lists.specs.Splice.{stores}
use Rattle.codec.proofs.bytes.put8.Goals as goal

pub returns : goal.returns
unfolding bytes_of
returns c =
    let e : c.args.v % 256 ≡ c.args.v = mod-eq_of_lt (omega arith) in
    simp (div-one, e) (stores _ c.args.d.now c.args.i (omega arith))
