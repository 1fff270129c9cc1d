use Rattle.std.proofs.Common.{sym, ◌∙◌, arith}
use Rattle.tree.specs.Form.{heads-some}
use Rattle.table.specs.Seeking.{seeking-start, seeking-none, seeking-found, seeking-next, seeking-room, seeking-few, seeking-row}
use Rattle.table.proofs.seek.place.Goals as goal

pub head_of-slot-requires : goal.head_of-slot-requires
head_of-slot-requires c = heads-some c.requires.rows.tree.formed

pub loop-init : goal.loop-init
loop-init c = seeking-start _ _ _ _ c.rank-cell.ensures c.head_of-slot.ensures

pub offset_bounds-index-slot : goal.offset_bounds-index-slot
offset_bounds-index-slot c = omega (arith, seeking-room c.loop.invariant c.requires)

pub bounds-index-slot : goal.bounds-index-slot
bounds-index-slot c = seeking-room c.loop.invariant c.requires

pub returns-then-node-eq0 : goal.returns-then-node-eq0
returns-then-node-eq0 c = seeking-none c.loop.invariant _ _ c.rank-cell.ensures c.if-node-eq0.true

-- a row that is met lies in the table
pub be64-requires : goal.be64-requires
be64-requires c = omega (arith, seeking-row c.loop.invariant c.requires (omega arith))

pub returns-then-be64-cell : goal.returns-then-be64-cell
returns-then-be64-cell c = seeking-found c.loop.invariant _ _ c.rank-cell.ensures (sym c.be64.ensures ∙ c.if-be64-cell.true)

pub loop-preserved : goal.loop-preserved
loop-preserved c = seeking-next c.loop.invariant (omega arith) (λ i. c.if-be64-cell.false (c.be64.ensures ∙ i))

pub returns : goal.returns
returns c = absurd (omega (arith, seeking-few c.loop.invariant c.requires (omega arith)))
