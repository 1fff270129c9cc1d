use mathlib.Core.Path.{refl, ◌∙◌}
use native.Mathlib.Omega.{arith}
use lib.ListN.{length-set}
use Rattle.laws.proofs.ByPlace.{few-records}
use Rattle.numbering.specs.Bases.{filling-none, filling-more, filling-all}
use Rattle.numbering.proofs.bases.fill.Goals as goal

pub loop-k-init : goal.loop-k-init
loop-k-init c = (c.count-n.ensures, refl, filling-none _ _)

pub offset_bounds-bases-k : goal.offset_bounds-bases-k
offset_bounds-bases-k c = omega (arith, few-records c.requires.ruled)

pub bounds-bases-k : goal.bounds-bases-k
bounds-bases-k c = omega (arith, few-records c.requires.ruled)

pub overflow_add-sum : goal.overflow_add-sum
overflow_add-sum c = omega (arith, few-records c.requires.ruled)

pub overflow_add-sum-in-loop-k : goal.overflow_add-sum-in-loop-k
overflow_add-sum-in-loop-k c = omega (arith, few-records c.requires.ruled)

pub loop-k-preserved : goal.loop-k-preserved
loop-k-preserved c =
    let l = c.loop-k in
    let few = few-records c.requires.ruled in (
      l.invariant.0,
      length-set l.bases l.k l.sum ∙ l.invariant.1,
      filling-more l.invariant.2 c.requires.ruled (omega arith) (omega arith) c.highest_at.result c.highest_at.ensures (omega arith),
    )

pub shape_of-bases : goal.shape_of-bases
shape_of-bases c = c.loop-k.invariant.1

pub returns : goal.returns
returns c =
    let l = c.loop-k in
    let few = few-records c.requires.ruled in
    filling-all l.invariant.2 c.requires.ruled (omega arith) (omega arith)
