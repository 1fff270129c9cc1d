-- The places passed have their numbers, and the sum is that of the next place; at the end it is the number of all cells. The sum is at most 2 to the
-- power of 32 for each place passed, so it fits.
use mathlib.Core.Path.{◌≡◌}
use lib.ListN.{length}
use Rattle.laws.specs.Ruled.{records}
use Rattle.numbering.specs.Bases.{Filling}
use Rattle.numbering.proofs.bases.fill.Given as goal

abbrev pub invariant-loop-k : goal.invariant-loop-k
invariant-loop-k l = (l.n ≡ records l.dir) × (length l.bases ≡ length l.initial.bases) × Filling l.dir l.bases l.sum l.k
