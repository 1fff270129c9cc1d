-- While all bytes passed were the same, what is left decides; once two differed, the answer stands.
use Rattle.codec.specs.Same.{Left}
use Rattle.codec.proofs.bytes.same.Given as goal

abbrev pub invariant-loop-x : goal.invariant-loop-x
invariant-loop-x l = Left l.a l.b l.x-iterator.a.rest.now l.x-iterator.b.rest.now l.ok
