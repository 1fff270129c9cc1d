-- Four tests in turn, as the model has them.
use mathlib.Core.Path.{refl, sym, ◌∙◌}
use mathlib.Core.Bool.{true, false}
use Prim.Native.Nat.{◌+◌, ◌*◌}
use borrow.Author.Tests.{lt-ltb, le-ltb, le-leb, lt-leb, not-true, not-false}
use lib.ListN.{length}
use Rattle.model.specs.Directory.{record_size, most_records}
use Rattle.directory.specs.Faults.{place-judged}
use Rattle.directory.proofs.faults.is_at_fault.Goals as goal

pub returns-then-k-ge-MOST_RECORDS : goal.returns-then-k-ge-MOST_RECORDS
returns-then-k-ge-MOST_RECORDS c =
    let a = c.args in
    sym (place-judged a.dir.now a.k true _ _ _ (le-leb most_records a.k c.if-k-ge-MOST_RECORDS.true) refl refl refl)

pub returns-then-dir-k : goal.returns-then-dir-k
returns-then-dir-k c =
    let a = c.args in
    sym (place-judged a.dir.now a.k false true _ _ (lt-leb most_records a.k c.if-k-ge-MOST_RECORDS.false) (lt-ltb (length a.dir.now) (record_size * a.k + record_size) c.if-dir-k.true) refl refl)

pub returns-then-not-is_record : goal.returns-then-not-is_record
returns-then-not-is_record c =
    let a = c.args in
    sym (place-judged a.dir.now a.k false false false _ (lt-leb most_records a.k c.if-k-ge-MOST_RECORDS.false) (le-ltb (length a.dir.now) (record_size * a.k + record_size) c.if-dir-k.false)
    (sym c.is_record.ensures ∙ not-true _ c.if-not-is_record.true-raw) refl)

pub returns : goal.returns
returns c =
    let a = c.args in
    sym (place-judged a.dir.now a.k false false true c.is_above.result (lt-leb most_records a.k c.if-k-ge-MOST_RECORDS.false) (le-ltb (length a.dir.now) (record_size * a.k + record_size) c.if-dir-k.false)
    (sym c.is_record.ensures ∙ not-false _ c.if-not-is_record.false-raw) (sym c.is_above.ensures))
