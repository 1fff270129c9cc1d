use Rattle.std.specs.Prelude.{List, ℕ, ◌-◌, length, replicate}
use Rattle.std.proofs.Common.{ap, sym, ◌∙◌, arith, length-take-le, length-drop}
use Rattle.std.proofs.lemmas.List.{length-replicate, take_rest}
use Rattle.lists.specs.Equal.{eq_list}
use Rattle.codec.specs.Same.{compared-none, compared-zero, compared-all}
use Rattle.codec.proofs.bytes.zeros.Goals as goal

pub loop-byte-init : goal.loop-byte-init
loop-byte-init c =
    let n = length c.args.s.now - c.args.i in
    compared-none _ _ (length-take-le n _ (omega (arith, length-drop c.args.i c.args.s.now)) ∙ sym (length-replicate n 0))

pub loop-byte-preserved : goal.loop-byte-preserved
loop-byte-preserved c = compared-zero _ _ c.loop-byte.invariant c.loop-byte-test.true

pub returns : goal.returns
returns c =
    let s = c.args.s.now in
    let i = c.args.i in
    compared-all _ c.loop-byte.invariant c.loop-byte-test.false
    ∙ ap (λ (t : List ℕ). eq_list t (replicate (length s - i) 0)) (take_rest s i)
