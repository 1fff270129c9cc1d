use Rattle.std.specs.Prelude.{◌≡◌}
use Rattle.std.proofs.Common.{inl, inr, sym, ◌∙◌}
use Rattle.lists.specs.Equal.{eq_list-size}
use Rattle.codec.specs.Same.{left-none, left-more, left-all}
use Rattle.codec.proofs.bytes.same.Goals as goal

pub returns-then-a-b : goal.returns-then-a-b
returns-then-a-b c = sym (eq_list-size _ _ c.if-a-b.true)

pub loop-x-init : goal.loop-x-init
loop-x-init c =
    let a : c.into_iter-x-iterator.result.a.rest.now ≡ c.args.a.now = cc in
    let b : c.into_iter-x-iterator.result.b.rest.now ≡ c.args.b.now = cc in
    rw (a, b) (left-none c.if-a-b.false)

pub loop-x-preserved : goal.loop-x-preserved
loop-x-preserved c = let h = c.in-Some.ensures.steps in left-more _ c.loop-x.invariant h.0 h.1

pub returns : goal.returns
returns c =
    let l = c.loop-x.invariant in
    left-all _ l (elim c.in-None.ensures.steps [ inl u ↦ u.1.0 | inr u ↦ l.size ∙ u.1.0 ])
