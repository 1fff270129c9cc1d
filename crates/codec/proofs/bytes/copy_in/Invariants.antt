use Rattle.lists.specs.Splice.{Copying}
use Rattle.codec.proofs.bytes.copy_in.Given as goal

abbrev pub invariant-loop-k : goal.invariant-loop-k
invariant-loop-k l = Copying l.initial.d l.i l.s l.k l.d
