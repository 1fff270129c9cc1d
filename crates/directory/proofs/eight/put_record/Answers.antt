-- Seven stores, one after the other, make the record.
use mathlib.Core.Path.{ap, sym, ◌∙◌}
use Prim.Native.Nat.{ℕ, ◌+◌}
use Rattle.lists.specs.Bytes.{bytes_of}
use Rattle.lists.specs.Splice.{splice}
use Rattle.directory.specs.Eight.{object_in, record-put}
use Rattle.directory.proofs.eight.put_record.Goals as goal

pub returns : goal.returns
returns c =
    let a = c.args in
    record-put a.d.now a.i (object_in a.b) c.requires.inside c.put16.ensures c.put16-2.ensures c.put32.ensures c.put32-2.ensures
    (c.put8.ensures ∙ ap (λ (x : ℕ). splice c.put32-2.new.d (a.i + 12) (bytes_of 1 x)) (sym c.requires.kind))
    (c.put8-2.ensures ∙ ap (λ (x : ℕ). splice c.put8.new.d (a.i + 13) (bytes_of 1 x)) c.marked_byte-marked.ensures.0)
    c.put16-3.ensures
