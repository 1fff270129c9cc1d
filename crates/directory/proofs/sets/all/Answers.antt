-- One less than the power of the number of records; of 64 records all bits.
use native.Mathlib.Omega.{arith}
use lib.Pow.{pow_pos}
use Rattle.directory.specs.Sets.{one_bit, all-full, all-power}
use Rattle.directory.proofs.sets.all.Goals as goal

pub returns-then-n-ge-MOST_RECORDS : goal.returns-then-n-ge-MOST_RECORDS
returns-then-n-ge-MOST_RECORDS c = all-full c.requires c.count-n.result c.count-n.ensures c.if-n-ge-MOST_RECORDS.true

pub overflow_sub-result : goal.overflow_sub-result
overflow_sub-result c =
    let n = c.count-n.result in
    let p = pow_pos n in
    omega (arith, one_bit n (omega arith), p)

pub returns : goal.returns
returns c = all-power c.requires c.count-n.result c.count-n.ensures (omega arith)
