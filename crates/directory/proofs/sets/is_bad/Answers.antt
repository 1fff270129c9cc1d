-- A set has no bit past 64 records; of fewer, what a shift by their number leaves is past them.
use native.Mathlib.Omega.{arith}
use Rattle.directory.specs.Sets.{bad-none, good-full, bad-past}
use Rattle.directory.proofs.sets.is_bad.Goals as goal

pub returns-then-set-eq0 : goal.returns-then-set-eq0
returns-then-set-eq0 c = let a = c.args in bad-none a.dir.now a.set c.if-set-eq0.true

pub returns-then-n-ge-MOST_RECORDS : goal.returns-then-n-ge-MOST_RECORDS
returns-then-n-ge-MOST_RECORDS c =
    good-full c.args.dir.now c.args.set c.requires c.if-set-eq0.false (omega (arith, c.count-n.ensures, c.if-n-ge-MOST_RECORDS.true)) (omega arith)

pub returns : goal.returns
returns c =
    bad-past c.args.dir.now c.args.set c.requires c.if-set-eq0.false c.count-n.result c.count-n.ensures
