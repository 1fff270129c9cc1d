-- The records of a directory's bytes: what is stored reads back, what a good record says of its object, and that a directory without
-- fault gives a good shape.
use Prim.Native.Nat.{ℕ, zero, suc, ◌+◌, ◌-◌, ◌*◌, ◌/◌, ◌^◌, ◌≤◌, ◌<◌}
use mathlib.Core.Path.{◌≡◌, refl, ap, ap₂, sym, ◌∙◌}
use mathlib.Core.Bool.{Bool, true, false, cond, not, ◌&&◌, ◌||◌}
use mathlib.Core.List.{List, [], ◌∷◌, ◌++◌, append_assoc, append-nil}
use mathlib.Core.Option.{none}
use native.Mathlib.Nat.{add-zero}
use native.Mathlib.Omega.{arith}
use borrow.Author.Tests.{eqb-true, eqb-false, eq-eqb, ltb-true, ltb-false, lt-ltb, le-ltb, leb-true, leb-false, lt-leb, not-false}
use lib.Dec.{eqb, leb, ltb}
use lib.ListN.{length, get_or, take, drop, length-append}
use Rattle.lists.specs.Tests.{ands, ors, and_l, and_r, both, neither, or_case, clash}
use Rattle.lists.specs.Bytes.{be_at, bytes_of, length-bytes_of, be_at-field}
use Rattle.lists.specs.Rows.{values, values_same, length-joined}
use Rattle.lists.specs.Sets.{all, all-weaken, all-get_or, ascending}
use Rattle.lists.specs.First.{seeking-from}
use Rattle.lists.specs.Every.{failing, every-all}
use Rattle.lists.specs.Ascend.{unordered, ascend-all}
use Rattle.model.specs.Objects.{ObjectKind, a_map, a_register, Object, the_layout, ok_object}
use Rattle.model.specs.Slot.{ok_shape}
use Rattle.model.specs.Directory.{record_size, mark_object, most_records, kind_of, kind_byte, marked_byte, id_at, record_at, ok_kind_and_key, ok_record, follows, at_fault, places, shape_of, record_bytes, directory_of, listed_in, fault_of}
use Rattle.laws.proofs.Items.{sizes}
use Rattle.laws.proofs.Refusals.{lowest-none, none-lowest}
use Rattle.laws.proofs.Stored.{values-places, joined-load}
use Rattle.laws.proofs.Tables.{word, next}

-- ---- objects that may be listed

abbrev pub ok_keys : ObjectKind → ℕ → Bool
ok_keys a_map highest = ltb highest 4294967295
ok_keys a_register highest = eqb highest 0

abbrev pub ok_listed : Object → Bool
ok_listed b = leb 1 b.id && ltb b.id (2 ^ 31) && ok_keys b.kind b.highest

keys-small : (t : ObjectKind) (h : ℕ) → ok_keys t h ≡ true → h < 4294967295
keys-small a_map h e = ltb-true h 4294967295 e
keys-small a_register h e = let z = eqb-true h 0 e in omega arith

-- such an object is one of a good shape
listed_ok : (b : Object) → ok_listed b ≡ true → ok_object b ≡ true
listed_ok b e = go b.kind (search ands)
  where
    id-ok : (leb 1 b.id && ltb b.id (2 ^ 31)) ≡ true
    id-ok = and_l (leb 1 b.id && ltb b.id (2 ^ 31)) (ok_keys b.kind b.highest) e

    go : (t : ObjectKind) → ok_keys t b.highest ≡ true → ok_object (record { id = b.id; kind = t; highest = b.highest; marked = b.marked }) ≡ true
    go a_map k = both (both id-ok (lt-ltb b.highest (2 ^ 32) (omega (arith, keys-small a_map b.highest k)))) refl
    go a_register k = both (both id-ok (lt-ltb b.highest (2 ^ 32) (omega (arith, keys-small a_register b.highest k)))) k

-- ---- a record's fields

pub length-record : (b : Object) → length (record_bytes b) ≡ record_size
unfolding record_bytes
length-record b = simp (length-append, length-bytes_of)

-- the record at byte i has the fields of b
pub record Fields (s : List ℕ) (i : ℕ) (b : Object) : Type 0 where
  pub mark : be_at 2 s i ≡ mark_object
  pub zeros : be_at 2 s (i + 2) ≡ 0
  pub id : be_at 4 s (i + 4) ≡ b.id
  pub highest : be_at 4 s (i + 8) ≡ b.highest
  pub kind : be_at 1 s (i + 12) ≡ kind_byte b.kind
  pub marked : be_at 1 s (i + 13) ≡ marked_byte b.marked
  pub last : be_at 2 s (i + 14) ≡ 0

kind-small : (t : ObjectKind) → kind_byte t < 256
kind-small a_map = omega arith
kind-small a_register = omega arith

marked-small : (b : Bool) → marked_byte b < 256
marked-small true = omega arith
marked-small false = omega arith

module _ (b : Object) (i-fits : b.id < 2 ^ 32) (h_fits : b.highest < 2 ^ 32) where
  own-fields : Fields (record_bytes b) 0 b
  unfolding record_bytes
  own-fields =
      let m = bytes_of 2 mark_object in
      let z = bytes_of 2 0 in
      let i = bytes_of 4 b.id in
      let h = bytes_of 4 b.highest in
      let k = bytes_of 1 (kind_byte b.kind) in
      let x = bytes_of 1 (marked_byte b.marked) in
      let s = m ++ z ++ i ++ h ++ k ++ x ++ z in
      record {
        mark = be_at-field 2 mark_object s [] (z ++ i ++ h ++ k ++ x ++ z) 0 (simp append_assoc) refl (omega arith);
        zeros = be_at-field 2 0 s m (i ++ h ++ k ++ x ++ z) 2 (simp append_assoc) (simp sizes) (omega arith);
        id = be_at-field 4 b.id s (m ++ z) (h ++ k ++ x ++ z) 4 (simp append_assoc) (simp sizes) (omega (arith, i-fits));
        highest = be_at-field 4 b.highest s (m ++ z ++ i) (k ++ x ++ z) 8 (simp append_assoc) (simp sizes) (omega (arith, h_fits));
        kind = be_at-field 1 (kind_byte b.kind) s (m ++ z ++ i ++ h) (x ++ z) 12 (simp append_assoc) (simp sizes) (kind-small b.kind);
        marked = be_at-field 1 (marked_byte b.marked) s (m ++ z ++ i ++ h ++ k) z 13 (simp append_assoc) (simp sizes) (marked-small b.marked);
        last = be_at-field 2 0 s (m ++ z ++ i ++ h ++ k ++ x) [] 14 (sym (append-nil s)) (simp sizes) (omega arith);
      }

pub listed-fields : (b : Object) → ok_listed b ≡ true → Fields (record_bytes b) 0 b
listed-fields b e =
    let high = ltb-true b.id (2 ^ 31) (search ands) in
    let keys = keys-small b.kind b.highest (search ands) in
    own-fields b (omega arith) (omega arith)

-- the same where a stretch is loaded as that record is
pub moved : (s : List ℕ) (i : ℕ) (b : Object) → Fields (record_bytes b) 0 b
    → ((c n : ℕ) → c + n ≤ record_size → be_at n s (i + c) ≡ be_at n (record_bytes b) c) → Fields s i b
moved s i b f same = record {
  mark = ap (be_at 2 s) (sym (add-zero i)) ∙ same 0 2 (omega arith) ∙ f.mark;
  zeros = same 2 2 (omega arith) ∙ f.zeros;
  id = same 4 4 (omega arith) ∙ f.id;
  highest = same 8 4 (omega arith) ∙ f.highest;
  kind = same 12 1 (omega arith) ∙ f.kind;
  marked = same 13 1 (omega arith) ∙ f.marked;
  last = same 14 2 (omega arith) ∙ f.last;
}

kind-back : (t : ObjectKind) → kind_of (kind_byte t) ≡ t
kind-back a_map = refl
kind-back a_register = refl

marked-back : (b : Bool) → eqb (marked_byte b) 1 ≡ b
marked-back true = refl
marked-back false = refl

keys-kind : (t : ObjectKind) (h : ℕ) → ok_keys t h ≡ true → ok_kind_and_key (kind_byte t) h ≡ true
keys-kind a_map h e = ap (λ (x : Bool). (true && x) || (false && eqb h 0)) e
keys-kind a_register h e = ap (λ (x : Bool). (false && ltb h 4294967295) || (true && x)) e

marked-bit : (b : Bool) → leb (marked_byte b) 1 ≡ true
marked-bit true = refl
marked-bit false = refl

module _ {s : List ℕ} {i : ℕ} {b : Object} (f : Fields s i b) where
  pub fields-object : record_at s i ≡ b
  unfolding record_at
  fields-object =
      let k : kind_of (be_at 1 s (i + 12)) ≡ b.kind = ap kind_of f.kind ∙ kind-back b.kind in
      let m : eqb (be_at 1 s (i + 13)) 1 ≡ b.marked = ap (λ (v : ℕ). eqb v 1) f.marked ∙ marked-back b.marked in
      λ j. record { id = f.id j; kind = k j; highest = f.highest j; marked = m j }

  pub fields-ok : ok_listed b ≡ true → ok_record s i ≡ true
  unfolding ok_record
  fields-ok e =
      let low : leb 1 b.id ≡ true = search ands in
      let high : ltb b.id (2 ^ 31) ≡ true = search ands in
      let keys : ok_keys b.kind b.highest ≡ true = search ands in
      both (both (both (both (both (both (eq-eqb (be_at 2 s i) mark_object f.mark) (eq-eqb (be_at 2 s (i + 2)) 0 f.zeros)) (eq-eqb (be_at 2 s (i + 14)) 0 f.last))
      (ap (leb 1) f.id ∙ low)) (ap (λ (v : ℕ). ltb v (2 ^ 31)) f.id ∙ high))
      (ap₂ ok_kind_and_key f.kind f.highest ∙ keys-kind b.kind b.highest keys))
      (ap (λ (v : ℕ). leb v 1) f.marked ∙ marked-bit b.marked)

-- ---- a good record

kind-keys : (v h : ℕ) → ok_kind_and_key v h ≡ true → ok_keys (kind_of v) h ≡ true
kind-keys v h e = go (eqb v 2) refl
  where
    go : (t : Bool) → eqb v 2 ≡ t → ok_keys (cond t a_register a_map) h ≡ true
    go true i = or_case (eqb v 1 && ltb h 4294967295) (eqb v 2 && eqb h 0) e
        (λ m. let one = eqb-true v 1 (and_l (eqb v 1) _ m) in let two = eqb-true v 2 i in absurd (omega arith)) (λ m. and_r (eqb v 2) (eqb h 0) m)
    go false i = or_case (eqb v 1 && ltb h 4294967295) (eqb v 2 && eqb h 0) e (λ m. and_r (eqb v 1) (ltb h 4294967295) m)
        (λ m. clash (eqb v 2) (and_l (eqb v 2) (eqb h 0) m) i)

kind-again : (v h : ℕ) → ok_kind_and_key v h ≡ true → kind_byte (kind_of v) ≡ v
kind-again v h e = go (eqb v 2) refl
  where
    go : (t : Bool) → eqb v 2 ≡ t → kind_byte (cond t a_register a_map) ≡ v
    go true i = sym (eqb-true v 2 i)
    go false i = or_case (eqb v 1 && ltb h 4294967295) (eqb v 2 && eqb h 0) e (λ m. sym (eqb-true v 1 (and_l (eqb v 1) (ltb h 4294967295) m)))
        (λ m. clash (eqb v 2) (and_l (eqb v 2) (eqb h 0) m) i)

marked-again : (v : ℕ) → leb v 1 ≡ true → marked_byte (eqb v 1) ≡ v
marked-again v e = go (eqb v 1) refl
  where
    go : (t : Bool) → eqb v 1 ≡ t → marked_byte t ≡ v
    go true i = sym (eqb-true v 1 i)
    go false i = let l = leb-true v 1 e in let n = eqb-false v 1 i in omega arith

module _ (d : List ℕ) (i : ℕ) (ok : ok_record d i ≡ true) where
  -- its object may be listed
  pub record-listed : ok_listed (record_at d i) ≡ true
  unfolding ok_record record_at
  record-listed =
      let low : leb 1 (id_at d i) ≡ true = search (ands, ok) depth 10 in
      let high : ltb (id_at d i) (2 ^ 31) ≡ true = search (ands, ok) depth 10 in
      both (both low high) (kind-keys (be_at 1 d (i + 12)) (be_at 4 d (i + 8)) (search (ands, ok) depth 10))

  -- and its bytes are those of that object
  pub record-again : all (λ x. ltb x 256) d ≡ true → i + record_size ≤ length d → record_bytes (record_at d i) ≡ take record_size (drop i d)
  unfolding ok_record record_at record_bytes
  record-again bytes room =
      let m : mark_object ≡ be_at 2 d i = sym (eqb-true (be_at 2 d i) mark_object (search (ands, ok) depth 10)) in
      let z : 0 ≡ be_at 2 d (i + 2) = sym (eqb-true (be_at 2 d (i + 2)) 0 (search (ands, ok) depth 10)) in
      let l : 0 ≡ be_at 2 d (i + 14) = sym (eqb-true (be_at 2 d (i + 14)) 0 (search (ands, ok) depth 10)) in
      let k = kind-again (be_at 1 d (i + 12)) (be_at 4 d (i + 8)) (search (ands, ok) depth 10) in
      let x = marked-again (be_at 1 d (i + 13)) (search (ands, ok) depth 10) in
      (λ j. bytes_of 2 (m j) ++ bytes_of 2 (z j) ++ bytes_of 4 (id_at d i) ++ bytes_of 4 (be_at 4 d (i + 8)) ++ bytes_of 1 (k j) ++ bytes_of 1 (x j) ++ bytes_of 2 (l j))
      ∙ next d bytes 14 2 i (omega arith) (next d bytes 13 1 i (omega arith) (next d bytes 12 1 i (omega arith) (next d bytes 8 4 i (omega arith)
      (next d bytes 4 4 i (omega arith) (next d bytes 2 2 i (omega arith) (word d bytes 2 i (omega arith)))))))

-- ---- places

-- what a place says that is not at fault
pub record Place (d : List ℕ) (k : ℕ) : Type 0 where
  pub few : k < most_records
  pub whole : record_size * k + record_size ≤ length d
  pub ok : ok_record d (record_size * k) ≡ true
  pub above : follows d k ≡ true

pub place-words : (d : List ℕ) (k : ℕ) → at_fault d k ≡ false → Place d k
unfolding at_fault
place-words d k e = record {
  few = leb-false most_records k (search ors);
  whole = ltb-false (length d) (record_size * k + record_size) (search ors);
  ok = not-false (ok_record d (record_size * k)) (search ors);
  above = not-false (follows d k) (search ors);
}

pub words-place : (d : List ℕ) (k : ℕ) → Place d k → at_fault d k ≡ false
unfolding at_fault
words-place d k p = neither (neither (neither (lt-leb most_records k p.few) (le-ltb (length d) (record_size * k + record_size) p.whole)) (ap not p.ok)) (ap not p.above)

-- a directory of n records
pub record Whole (d : List ℕ) (n : ℕ) : Type 0 where
  pub size : length d ≡ record_size * n
  pub some : 1 ≤ n
  pub few : n ≤ most_records
  pub each : (k : ℕ) → k < n → Place d k

-- how many places are judged in a directory with a record
places_of : (d : List ℕ) (n : ℕ) → length d ≡ record_size * n → 1 ≤ n → places d ≡ n
places_of d n e h = go (eqb (length d) 0) refl
  where
    go : (t : Bool) → eqb (length d) 0 ≡ t → cond t 1 ((length d + 15) / record_size) ≡ n
    go true i = let z = eqb-true (length d) 0 i in absurd (omega arith)
    go false i = omega arith

pub count_of : (d : List ℕ) (n : ℕ) → length d ≡ record_size * n → length d / record_size ≡ n
count_of d n e = omega arith

-- a directory without fault is one of whole records, and the other way round
module _ (d : List ℕ) where
  pub fault-none : (shape_of d).fault ≡ none → Whole d (length d / record_size)
  unfolding listed_in fault_of
  fault-none e = go (eqb (length d) 0) refl refl
    where
      place : (k : ℕ) → k < places d → Place d k
      place k h = place-words d k (lowest-none (at_fault d) (places d) e k h)

      go : (t : Bool) → eqb (length d) 0 ≡ t → places d ≡ cond t 1 ((length d + 15) / record_size) → Whole d (length d / record_size)
      go true i p = let z = eqb-true (length d) 0 i in let w = (place 0 (omega arith)).whole in absurd (omega arith)
      go false i p =
          let z = eqb-false (length d) 0 i in
          let n : ℕ = (length d + 15) / record_size in
          let last = place (n - 1) (omega arith) in
          let w = last.whole in
          let f = last.few in
          let same : length d / record_size ≡ n = omega arith in
          record { size = omega arith; some = omega arith; few = omega arith; each = λ k h. place k (omega arith) }

  pub none-fault : (n : ℕ) → Whole d n → (shape_of d).fault ≡ none
  unfolding listed_in fault_of
  none-fault n w = none-lowest (at_fault d) (places d) (λ k h. words-place d k (w.each k (omega (arith, places_of d n w.size w.some))))

-- ---- the shape

abbrev by_id : Object → Object → Bool
by_id a b = ltb a.id b.id

-- the object at place k
abbrev pub placed : List ℕ → ℕ → Object
placed d k = record_at d (record_size * k)

module _ (d : List ℕ) (n : ℕ) (w : Whole d n) where
  pub all_listed : all ok_listed (values (placed d) 0 n) ≡ true
  all_listed = every-all ok_listed (placed d)
      (seeking-from (failing ok_listed (placed d)) n n (omega arith) (λ k h. ap not (record-listed d (record_size * k) (w.each k h).ok))) (omega arith)

  pub ids-ascend : ascending by_id (values (placed d) 0 n) ≡ true
  unfolding record_at
  ids-ascend = ascend-all by_id (placed d) n
      (seeking-from (unordered by_id (placed d)) (n - 1) (n - 1) (omega arith) (λ k h. ap not (after k (omega (arith, h))))) (omega arith)
    where
      after : (k : ℕ) → k + 1 < n → ltb (placed d k).id (placed d (k + 1)).id ≡ true
      after k h =
          let e : k + 1 ≡ suc k = omega arith in
          ap (λ (m : ℕ). ltb (placed d k).id (placed d m).id) e ∙ (w.each (suc k) (omega arith)).above

pub listed-good : (bs : List Object) → all ok_listed bs ≡ true → all ok_object bs ≡ true
listed-good bs h = all-weaken ok_listed ok_object bs listed_ok h

-- a directory without fault gives a good shape
pub good-shape : (d : List ℕ) → (shape_of d).fault ≡ none → ok_shape (shape_of d) ≡ true
unfolding listed_in fault_of
good-shape d e =
    let w = fault-none d e in
    both (both (listed-good (values (placed d) 0 (length d / record_size)) (all_listed d (length d / record_size) w)) (ids-ascend d (length d / record_size) w)) refl

-- ---- a list of objects, stored and read back

-- some object that may be listed
abbrev spare : Object
spare = record { id = 1; kind = a_register; highest = 0; marked = false }

ascending-at : (bs : List Object) → ascending by_id bs ≡ true → (k : ℕ) → suc k < length bs → ltb (get_or bs k spare).id (get_or bs (suc k) spare).id ≡ true
ascending-at [] a k h = absurd (omega arith)
ascending-at (b ∷ []) a k h = absurd (omega arith)
ascending-at (b ∷ c ∷ bs) a zero h = and_l (by_id b c) (ascending by_id (c ∷ bs)) a
ascending-at (b ∷ c ∷ bs) a (suc k) h = ascending-at (c ∷ bs) (and_r (by_id b c) (ascending by_id (c ∷ bs)) a) k (omega arith)

module _ (bs : List Object) (each : all ok_listed bs ≡ true) where
  abbrev bytes : List ℕ
  bytes = directory_of bs

  pub length-directory : length bytes ≡ record_size * length bs
  unfolding directory_of
  length-directory = length-joined record_bytes record_size length-record bs

  -- a place past the end counts as an object that may be listed
  abbrev at : ℕ → Object
  at k = get_or bs k spare

  listed_at : (k : ℕ) → ok_listed (at k) ≡ true
  listed_at k = all-get_or ok_listed bs k spare each refl

  fields_at : (k : ℕ) → k < length bs → Fields bytes (record_size * k) (at k)
  unfolding directory_of
  fields_at k h =
      moved bytes (record_size * k) (at k) (listed-fields (at k) (listed_at k))
      (λ c n l. joined-load record_bytes record_size length-record spare bs k c n h l)

  pub objects-back : values (placed bytes) 0 (length bs) ≡ bs
  objects-back = values_same (placed bytes) at 0 (length bs) (λ k l m. fields-object (fields_at k (omega arith))) ∙ values-places spare bs

  module _ (asc : ascending by_id bs ≡ true) (some : 1 ≤ length bs) (few : length bs ≤ most_records) where
    above : (k : ℕ) → k < length bs → follows bytes k ≡ true
    above zero h = refl
    above (suc k) h =
        ap₂ ltb (fields_at k (omega arith)).id (fields_at (suc k) h).id ∙ ascending-at bs asc k h

    pub stored-whole : Whole bytes (length bs)
    stored-whole = record {
      size = length-directory;
      some = some;
      few = few;
      each = λ k h. record {
        few = omega arith;
        whole = omega (arith, length-directory);
        ok = fields-ok (fields_at k h) (listed_at k);
        above = above k h;
      };
    }

    pub reads-back : shape_of bytes ≡ record { objects = bs; layout = the_layout; fault = none }
    unfolding listed_in fault_of
    reads-back =
        let e = ap (λ (m : ℕ). values (placed bytes) 0 m) (count_of bytes (length bs) length-directory) ∙ objects-back in
        let f = none-fault bytes (length bs) stored-whole in
        λ j. record { objects = e j; layout = the_layout; fault = f j }
