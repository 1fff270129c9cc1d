use Rattle.std.specs.Prelude.{refl}
use Rattle.std.proofs.Common.{ap, ◌∙◌, div-one, arith}
use Rattle.lists.specs.Bytes.{bytes_of}
use Rattle.lists.specs.Splice.{splice, lent-part}
use Rattle.codec.proofs.bytes.put32.Goals as goal

pub returns : goal.returns
unfolding bytes_of
returns c =
    let d = c.args.d.now in
    let i = c.args.i in
    lent-part d _ _ _ i (omega arith) (omega (arith, c.copy_from_slice.ensures.len)) refl
    ∙ ap (splice d i) (c.copy_from_slice.ensures.after ∙ c.to_be_bytes.ensures ∙ simp div-one)
