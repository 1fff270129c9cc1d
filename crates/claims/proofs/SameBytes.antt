-- Two accepted appends over the same log whose entries read alike left the same bytes: each wrote the slot of its entry, and a
-- slot is made of the mark, the header objects, the number of items, the number, the item bytes and the two numbers at the end, which is what is read.
use mathlib.Core.Path.{◌≡◌, refl, ap, sym, ◌∙◌}
use mathlib.Core.Bool.{true, cond}
use mathlib.Core.List.{[]}
use Prim.Native.Nat.{ℕ, ◌*◌}
use native.Mathlib.Omega.{arith}
use lib.Dec.{eqb}
use lib.ListN.{length}
use Rattle.lists.specs.Splice.{splice}
use Rattle.model.specs.Objects.{Layout, Shape}
use Rattle.model.specs.Entries.{Entry, Log, header_objects, number_of, first_named, second_named}
use Rattle.model.specs.Slot.{mark_update, mark_commit, mark_decision, mark_checkpoint, mark_of, item_bytes, item_count, last_bytes, slot_of, ok_shape}
use Rattle.model.specs.Answers.{Answer, done, refused}
use Rattle.model.specs.Reading.{Info, info_in, entry_call, item_list}
use Rattle.model.specs.Append.{Request, update, commits, decides, saves, writes_given, entry_of}
use Rattle.model.specs.Histories.{Lent, in_log, Accepted, after, grown}
use Rattle.model.specs.Claims.{kind_given, header_objects_in, SameBytes}
use Rattle.laws.proofs.Slots.{length-items}
use Rattle.laws.proofs.ByKind.{update-mark}
use Rattle.claims.proofs.ReadBack.{its_slot, left-bytes, kind-is, number_is, objects-are, first-is, second_is, info-left, items_left}

-- ---- what makes a slot

same_count : (e e' : Entry) → item_bytes e ≡ item_bytes e' → item_count e ≡ item_count e'
same_count e e' i = omega (arith, length-items e, length-items e', ap length i)

same-slot : (ly : Layout) (log : Log) (p : ℕ) (e e' : Entry) → mark_of e ≡ mark_of e' → number_of e ≡ number_of e' → header_objects log p e ≡ header_objects log p e'
    → item_bytes e ≡ item_bytes e' → first_named e ≡ first_named e' → second_named e ≡ second_named e' → slot_of ly log p e ≡ slot_of ly log p e'
unfolding slot_of last_bytes
same-slot ly log p e e' m n h i a b = rw (m, n, h, same_count e e' i, i, a, b)

-- ---- the kind tells the mark

abbrev mark_of_kind : ℕ → ℕ
mark_of_kind k = cond (eqb k 1) mark_update (cond (eqb k 2) mark_commit (cond (eqb k 3) mark_decision mark_checkpoint))

kind-mark : (log : Log) (q : Request) → mark_of (entry_of log q) ≡ mark_of_kind (kind_given q)
unfolding entry_of
kind-mark log (update n items) = update-mark n (writes_given items)
kind-mark log (commits n items a b) = refl
kind-mark log (decides o v) = refl
kind-mark log (saves r table o) = refl

-- ---- what the calls told

abbrev told : Info → Answer Info → Info
told i (done j) = j
told i (refused r) = i

module _ (sh : Shape) (shape : ok_shape sh ≡ true) (l : Lent) (q : Request) (taken : Accepted sh l q) where
  items-told : item_list sh (in_log sh (after sh l q)) l.tail ≡ item_bytes (entry_of (in_log sh l) q)
  unfolding grown
  items-told = items_left sh shape l q taken []

  module _ (i : Info) (e : entry_call sh (in_log sh (after sh l q)) l.tail ≡ done i) where
    same-info : i ≡ info_in sh.layout (its_slot sh shape l q taken)
    unfolding grown
    same-info = ap (told i) (sym e ∙ info-left sh shape l q taken [])

    mark-told : mark_of (entry_of (in_log sh l) q) ≡ mark_of_kind i.kind
    mark-told = kind-mark (in_log sh l) q ∙ ap mark_of_kind (sym (kind-is sh shape l q taken) ∙ ap (λ j. j.kind) (sym same-info))

    number-told : number_of (entry_of (in_log sh l) q) ≡ i.number
    number-told = sym (number_is sh shape l q taken) ∙ ap (λ j. j.number) (sym same-info)

    objects-told : header_objects (in_log sh l) l.tail (entry_of (in_log sh l) q) ≡ header_objects_in i
    objects-told = sym (objects-are sh shape l q taken) ∙ ap header_objects_in (sym same-info)

    first-told : first_named (entry_of (in_log sh l) q) ≡ i.first
    first-told = sym (first-is sh shape l q taken) ∙ ap (λ j. j.first) (sym same-info)

    second-told : second_named (entry_of (in_log sh l) q) ≡ i.second
    second-told = sym (second_is sh shape l q taken) ∙ ap (λ j. j.second) (sym same-info)

pub same_bytes : (sh : Shape) → ok_shape sh ≡ true → SameBytes sh
same_bytes sh shape l q q' i i' taken taken' e e' kind number objects first second items =
    left-bytes sh shape l q taken
    ∙ ap (splice l.bytes (sh.layout.slot_size * l.tail))
    (same-slot sh.layout (in_log sh l) l.tail (entry_of (in_log sh l) q) (entry_of (in_log sh l) q')
    (mark-told sh shape l q taken i e ∙ ap mark_of_kind kind ∙ sym (mark-told sh shape l q' taken' i' e'))
    (number-told sh shape l q taken i e ∙ number ∙ sym (number-told sh shape l q' taken' i' e'))
    (objects-told sh shape l q taken i e ∙ objects ∙ sym (objects-told sh shape l q' taken' i' e'))
    (sym (items-told sh shape l q taken) ∙ items ∙ items-told sh shape l q' taken')
    (first-told sh shape l q taken i e ∙ first ∙ sym (first-told sh shape l q' taken' i' e'))
    (second-told sh shape l q taken i e ∙ second ∙ sym (second-told sh shape l q' taken' i' e')))
    ∙ sym (left-bytes sh shape l q' taken')
