-- The place lies between the two ends of what is left to look at; ids rise with places.
use Prim.Native.Nat.{◌-◌}
use Rattle.directory.specs.Places.{Searching}
use Rattle.directory.proofs.places.search.Given as goal

abbrev pub invariant-loop-low : goal.invariant-loop-low
invariant-loop-low l = Searching l.dir l.id.0 l.low l.high

abbrev pub decreases-loop-low : goal.decreases-loop-low
decreases-loop-low l = l.high - l.low
