-- A walk down the way of the cell: it goes on where another cell's row stands. No way is deeper than the 64 bits of a rank, so the counter
-- never runs out.
use Rattle.table.specs.Seeking.{Seeking}
use Rattle.table.proofs.seek.place.Given as goal

abbrev pub invariant-loop : goal.invariant-loop
invariant-loop l = Seeking l.table l.main l.index l.heads l.cell l.counter l.rest l.slot
