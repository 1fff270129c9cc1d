-- Four tests in turn; the model's seven are the same ones, joined otherwise (`record-judged`).
use mathlib.Core.Path.{◌≡◌, refl, ap, ap₂, sym, ◌∙◌}
use mathlib.Core.Bool.{true, false}
use Prim.Native.Nat.{ℕ, ◌+◌}
use lib.Dec.{leb}
use borrow.Author.Tests.{not-true, not-false}
use Rattle.lists.specs.Bytes.{be_at}
use Rattle.model.specs.Directory.{id_at, ok_kind_and_key}
use Rattle.directory.specs.Faults.{ok_id, record-judged}
use Rattle.directory.proofs.faults.is_record.Goals as goal

pub returns-then-not-is_framed : goal.returns-then-not-is_framed
returns-then-not-is_framed c =
    let a = c.args in
    sym (record-judged a.dir.now a.i false _ _ _ (sym c.is_framed.ensures ∙ not-true _ c.if-not-is_framed.true-raw) refl refl refl)

-- the id that was read, tested
id-tested : (c : goal.Then-not-is_id) → let a = c.args in
    ok_id (id_at a.dir.now a.i) ≡ c.is_id.result
id-tested c = ap ok_id (sym c.be32.ensures) ∙ sym c.is_id.ensures

pub returns-then-not-is_id : goal.returns-then-not-is_id
returns-then-not-is_id c =
    let a = c.args in
    sym (record-judged a.dir.now a.i true false _ _ (sym c.is_framed.ensures ∙ not-false _ c.if-not-is_framed.false-raw)
    (id-tested c ∙ not-true _ c.if-not-is_id.true-raw) refl refl)

-- the id that was read, tested
id-tested-2 : (c : goal.Then-not-is_kind_and_key) → let a = c.args in
    ok_id (id_at a.dir.now a.i) ≡ c.is_id.result
id-tested-2 c = ap ok_id (sym c.be32.ensures) ∙ sym c.is_id.ensures

-- the kind and the highest key that were read, tested
kind-tested : (c : goal.Then-not-is_kind_and_key) → let a = c.args in
    ok_kind_and_key (be_at 1 a.dir.now (a.i + 12)) (be_at 4 a.dir.now (a.i + 8)) ≡ c.is_kind_and_key.result
kind-tested c = ap₂ ok_kind_and_key (sym c.be8.ensures) (sym c.be32-2.ensures) ∙ sym c.is_kind_and_key.ensures

pub returns-then-not-is_kind_and_key : goal.returns-then-not-is_kind_and_key
returns-then-not-is_kind_and_key c =
    let a = c.args in
    sym (record-judged a.dir.now a.i true true false _ (sym c.is_framed.ensures ∙ not-false _ c.if-not-is_framed.false-raw)
    (id-tested-2 c ∙ not-false _ c.if-not-is_id.false-raw) (kind-tested c ∙ not-true _ c.if-not-is_kind_and_key.true-raw) refl)

-- the id that was read, tested
id-tested-3 : (c : goal.After-be8-2) → let a = c.args in
    ok_id (id_at a.dir.now a.i) ≡ c.is_id.result
id-tested-3 c = ap ok_id (sym c.be32.ensures) ∙ sym c.is_id.ensures

-- the kind and the highest key that were read, tested
kind-tested-2 : (c : goal.After-be8-2) → let a = c.args in
    ok_kind_and_key (be_at 1 a.dir.now (a.i + 12)) (be_at 4 a.dir.now (a.i + 8)) ≡ c.is_kind_and_key.result
kind-tested-2 c = ap₂ ok_kind_and_key (sym c.be8.ensures) (sym c.be32-2.ensures) ∙ sym c.is_kind_and_key.ensures

pub returns : goal.returns
returns c =
    let a = c.args in
    ap (λ (v : ℕ). leb v 1) c.be8-2.ensures
    ∙ sym (record-judged a.dir.now a.i true true true _ (sym c.is_framed.ensures ∙ not-false _ c.if-not-is_framed.false-raw)
    (id-tested-3 c ∙ not-false _ c.if-not-is_id.false-raw) (kind-tested-2 c ∙ not-false _ c.if-not-is_kind_and_key.false-raw) refl)
