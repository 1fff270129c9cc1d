-- The loop looks for the first place at fault, from the first one on.
use Prim.Native.Nat.{◌-◌}
use Rattle.lists.specs.First.{Seeking}
use Rattle.model.specs.Directory.{at_fault}
use Rattle.directory.proofs.faults.fault.Given as goal

abbrev pub invariant-loop-k : goal.invariant-loop-k
invariant-loop-k l = Seeking (at_fault l.dir) l.n l.k
