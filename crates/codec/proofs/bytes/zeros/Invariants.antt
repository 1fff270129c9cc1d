-- The bytes from i on, compared with as many zeros.
use Rattle.std.specs.Prelude.{◌-◌, length, replicate}
use Rattle.codec.specs.Same.{Compared}
use Rattle.codec.proofs.bytes.zeros.Given as goal

abbrev pub invariant-loop-byte : goal.invariant-loop-byte
invariant-loop-byte l = Compared l.byte-items (replicate (length l.s - l.i) 0) l.byte-index l.ok
