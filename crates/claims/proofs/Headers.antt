-- What headers say: a good one tells the object's earlier entries, one past offset 0 is bad, a header has the bytes due exactly when it reads as
-- the one due, and the reading that went before is this one renamed. The bytes of a good slot are those that append writes; in them no number of
-- 2 bytes is above the entry's offset.
use mathlib.Core.Path.{◌≡◌, refl, ap, ap₂, sym, ◌∙◌}
use mathlib.Core.Bool.{Bool, true, false, cond, not}
use mathlib.Core.Option.{none}
use mathlib.Core.List.{List, [], ◌∷◌, ◌++◌, map, append_assoc}
use Prim.Native.Nat.{ℕ, zero, suc, ◌+◌, ◌-◌, ◌*◌, ◌/◌, ◌%◌, ◌^◌, ◌≤◌, ◌<◌}
use native.Mathlib.Nat.{add-zero, add_assoc, le_refl}
use native.Mathlib.Omega.{arith}
use lib.Dec.{eqb, ltb}
use lib.ListN.{length, get_or, replicate}
use borrow.Author.Tests.{eqb-true, le-ltb, lt-ltb}
use Rattle.lists.specs.Tests.{clash}
use Rattle.lists.specs.Sets.{all}
use Rattle.lists.specs.First.{seeking-from}
use Rattle.lists.specs.Every.{failing, every-all}
use Rattle.lists.specs.Members.{all_in}
use Rattle.lists.specs.Bytes.{be_at, bytes_of, length-bytes_of, be_at-add, be_at-lt}
use Rattle.lists.specs.Rows.{values}
use Rattle.model.specs.Objects.{Shape}
use Rattle.model.specs.Entries.{Entry, Log, header_objects, number_of, earlier}
use Rattle.model.specs.Slot.{header_of, slot_of, slot, mark_of, item_count, ok_layout, ok_shape}
use Rattle.model.specs.Rules.{good_at}
use Rattle.model.specs.Headers.{BackPointer, nothing, at, past, back_by, format_at, object_at, far_backs, backs_at, due_format, due_backs}
use Rattle.model.specs.HeaderClaims.{header_begins, ReadsAs, HeaderRead, TellsWhere, PastIsBad}
use Rattle.laws.specs.OldTold.{offset_back, far_told, near_told, renamed, OldTold}
use Rattle.laws.proofs.Sizes.{sized, layout}
use Rattle.laws.proofs.Slots.{past_numbers}
use Rattle.laws.proofs.Headers.{slot-header-at}
use Rattle.laws.proofs.Appends.{good-bytes}
use Rattle.laws.proofs.Good.{stored-reads}
use Rattle.laws.proofs.Backs.{header-small, load-le, first-due, placed-due}
use Rattle.laws.proofs.DueBytes.{header_read}

-- ---- a header as it is read

-- a shape of that layout, without objects: what is said of headers' bytes holds of any objects
abbrev bare : Shape → Shape
bare sh = record { objects = []; layout = sh.layout; fault = none }

pub header-reads : (sh : Shape) → ok_layout sh.layout ≡ true → HeaderRead sh
header-reads sh k p x qs s i bound small below bytes room = header_read sh.layout (sized sh.layout k).pointers-are p x bound small qs below s i bytes room

-- ---- in a good entry

pub tells-where : (sh : Shape) → ok_shape sh ≡ true → TellsWhere sh
tells-where sh k log p j bound good h =
    let s : List ℕ = slot sh.layout log.used p in
    let i : ℕ = header_begins sh.layout j in
    let y : ℕ = get_or (header_objects log p (log.entry p)) j 0 in
    let r : ReadsAs sh.layout p y (earlier log y p) s i = stored-reads sh k log p (record { good = λ o l. good o (omega arith) }) bound j h in
    let d : backs_at sh.layout.pointers p s i ≡ due_backs sh.layout.pointers p (earlier log (object_at s i) p) =
    r.backs ∙ ap (λ (x : ℕ). due_backs sh.layout.pointers p (earlier log x p)) (sym r.object) in
    record {
      object = r.object;
      format = r.format ∙ ap (λ (x : ℕ). due_format p (earlier log x p)) (sym r.object);
      due = d;
      first = ap (λ (l : List BackPointer). get_or l 0 nothing) d
          ∙ first-due sh.layout.pointers (omega (arith, (layout sh k).pointers-are)) p (earlier log (object_at s i) p);
      others = λ n q e. placed-due sh.layout.pointers p (earlier log (object_at s i) p) n q (sym (ap (λ (l : List BackPointer). get_or l n nothing) d) ∙ e);
    }

-- ---- past offset 0

not_past : BackPointer → Bool
not_past nothing = true
not_past (at q) = true
not_past past = false

back-there : (p d : ℕ) → d ≤ p → not_past (back_by p d) ≡ true
unfolding not_past
back-there p d h = rw (le-ltb p d h) (go (eqb d 0))
  where
    go : (a : Bool) → not_past (cond a nothing (at (p - d))) ≡ true
    go true = refl
    go false = refl

none-past : (n : ℕ) → all not_past (replicate n nothing) ≡ true
unfolding not_past
none-past zero = refl
none-past (suc n) = none-past n

-- distances that are not above p are not past offset 0
backs-there : (k p : ℕ) (s : List ℕ) (i : ℕ) → ((j : ℕ) → j < k → be_at 2 s (i + 4 + 2 * j) ≤ p) → all not_past (backs_at k p s i) ≡ true
unfolding backs_at not_past
backs-there k p s i h = go (eqb (format_at s i) 1)
  where
    g : ℕ → BackPointer
    g j = back_by p (be_at 2 s (i + 4 + 2 * j))

    go : (b : Bool) → all not_past (cond b (far_backs k (be_at 8 s (i + 4))) (values g 0 k)) ≡ true
    go true = none-past (k - 1)
    go false = every-all not_past g (seeking-from (failing not_past g) k k (le_refl k) (λ j l. ap not (back-there p (be_at 2 s (i + 4 + 2 * j)) (h j l)))) (le_refl k)

-- the header count of a slot is not above the number of its header objects
count-le : (sh : Shape) (log : Log) (p : ℕ) (e : Entry) → be_at 1 (slot_of sh.layout log p e) 2 ≤ length (header_objects log p e)
unfolding slot_of
count-le sh log p e =
    load-le 1 (length (header_objects log p e)) (slot_of sh.layout log p e) (bytes_of 2 (mark_of e))
    (bytes_of 1 (item_count e) ++ bytes_of 4 (number_of e) ++ past_numbers sh.layout log p e) 2 (simp append_assoc) (length-bytes_of 2 (mark_of e))

-- no number of 2 bytes in a header that append writes is above p
made-small : (sh : Shape) → ok_layout sh.layout ≡ true → (log : Log) (p x n : ℕ) → n < sh.layout.pointers → be_at 2 (header_of sh.layout log p x) (4 + 2 * n) ≤ p
unfolding header_of
made-small sh k log p x n l = header-small sh.layout (sized sh.layout k).pointers-are p x (earlier log x p) n l

pub past-is-bad : (sh : Shape) → ok_layout sh.layout ≡ true → PastIsBad sh
unfolding not_past
past-is-bad sh k log p j h m = go (good_at sh log p) refl
  where
    s : List ℕ
    s = slot sh.layout log.used p

    made : List ℕ
    made = slot_of sh.layout log p (log.entry p)

    small : s ≡ made → (n : ℕ) → n < sh.layout.pointers → be_at 2 s (header_begins sh.layout j + 4 + 2 * n) ≤ p
    small e n l =
        let x : ℕ = get_or (header_objects log p (log.entry p)) j 0 in
        let below : j < length (header_objects log p (log.entry p)) = omega (arith, ap (λ (t : List ℕ). be_at 1 t 2) e, count-le sh log p (log.entry p)) in
        let there : be_at 2 s (header_begins sh.layout j + 4 + 2 * n) ≡ be_at 2 (header_of sh.layout log p x) (4 + 2 * n) =
        ap₂ (be_at 2) e (add_assoc (header_begins sh.layout j) 4 (2 * n)) ∙ slot-header-at (bare sh) k log p (log.entry p) j (4 + 2 * n) 2 below (omega arith) in
        omega (arith, made-small sh k log p x n l)

    go : (b : Bool) → good_at sh log p ≡ b → b ≡ false
    go true g = clash false (all_in not_past _ (backs-there sh.layout.pointers p s (header_begins sh.layout j) (small (good-bytes sh log p g))) past m) refl
    go false g = refl

-- ---- the reading that went before

-- 8 bytes are four numbers of 2
four-of : (s : List ℕ) (i : ℕ) → be_at 8 s i ≡ be_at 2 s i * 2 ^ 48 + be_at 2 s (i + 2) * 2 ^ 32 + be_at 2 s (i + 4) * 2 ^ 16 + be_at 2 s (i + 6)
four-of s i = omega (arith, be_at-add 6 2 s i, be_at-add 4 2 s i, be_at-add 2 2 s i)

renamed-back : (p d : ℕ) → renamed (back_by p d) ≡ offset_back p d
renamed-back p d = go (eqb d 0) (ltb p d)
  where
    go : (a b : Bool) → renamed (cond a nothing (cond b past (at (p - d)))) ≡ cond a 0 (cond b 0 (p - d + 1))
    go true b = refl
    go false true = refl
    go false false = refl

pub old-told : OldTold
unfolding backs_at values
old-told p s i bytes far = go (eqb (format_at s i) 1) refl
  where
    back : ℕ → BackPointer
    back j = back_by p (be_at 2 s (i + 4 + 2 * j))

    same : {d e : ℕ} → d ≡ e → renamed (back_by p d) ≡ offset_back p e
    same {d} {e} q = renamed-back p d ∙ ap (offset_back p) q

    go : (b : Bool) → eqb (format_at s i) 1 ≡ b
        → map renamed (cond b (far_backs 4 (be_at 8 s (i + 4))) (values back 0 4)) ≡ cond b (far_told p (be_at 8 s (i + 4))) (near_told p (be_at 8 s (i + 4)))
    go true e = rw (lt-ltb (be_at 8 s (i + 4)) p (far (eqb-true (format_at s i) 1 e)))
    go false e =
        let z : ℕ = i + 4 in
        let d : ℕ = be_at 8 s z in
        let fits : (j : ℕ) → be_at 2 s (z + j) < 256 ^ 2 = λ j. be_at-lt 2 s (z + j) (λ k l. bytes (z + j + k)) in
        let w : d ≡ be_at 2 s (z + 0) * 2 ^ 48 + be_at 2 s (z + 2) * 2 ^ 32 + be_at 2 s (z + 4) * 2 ^ 16 + be_at 2 s (z + 6) = rw add-zero (four-of s z) in
        let a : be_at 2 s (z + 0) ≡ d / 2 ^ 48 = omega (arith, fits 0, fits 2, fits 4, fits 6) in
        let b : be_at 2 s (z + 2) ≡ d / 2 ^ 32 % 2 ^ 16 = omega (arith, fits 0, fits 2, fits 4, fits 6) in
        let c : be_at 2 s (z + 4) ≡ d / 2 ^ 16 % 2 ^ 16 = omega (arith, fits 0, fits 2, fits 4, fits 6) in
        let f : be_at 2 s (z + 6) ≡ d % 2 ^ 16 = omega (arith, fits 0, fits 2, fits 4, fits 6) in
        λ t. same a t ∷ same b t ∷ same c t ∷ same f t ∷ []
