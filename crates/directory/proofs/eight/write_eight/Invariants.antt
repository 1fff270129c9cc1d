-- Record after record fills the front of the bytes; after the eighth all of them.
use Prim.Native.Nat.{◌*◌, ◌-◌, ◌≤◌}
use Rattle.lists.specs.Rows.{values, joined}
use Rattle.lists.specs.Splice.{Filled}
use Rattle.model.specs.Directory.{record_size, record_bytes}
use Rattle.directory.specs.Eight.{eight_at}
use Rattle.directory.proofs.eight.write_eight.Given as goal

abbrev pub invariant-loop-k : goal.invariant-loop-k
invariant-loop-k l = (l.k ≤ 8) × Filled l.initial.d (record_size * l.k) (joined record_bytes (values eight_at 0 l.k)) l.d
