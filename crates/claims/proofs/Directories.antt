-- Directories in words of their own: a place is not at fault exactly where it has a record of an object that may stand there, a directory
-- without fault is the bytes of a list within the rules, and one at fault is turned down by every call.
use Prim.Native.Nat.{ℕ, zero, suc, ◌+◌, ◌*◌, ◌/◌, ◌^◌, ◌<◌}
use mathlib.Core.Path.{◌≡◌, refl, ap, sym, ◌∙◌}
use mathlib.Core.Logic.{◌⊎◌, inl, inr}
use mathlib.Core.Bool.{Bool, true, false, cond, not, ◌&&◌, ◌||◌}
use mathlib.Core.List.{List, [], ◌∷◌, ◌++◌}
use mathlib.Core.Option.{Option, some}
use native.Mathlib.Nat.{zero-add}
use native.Mathlib.Omega.{arith}
use borrow.Author.Tests.{eqb-true, eqb-false, eq-eqb, ltb-true, lt-ltb, leb-true, le-leb}
use lib.Dec.{eqb, leb, ltb}
use lib.ListN.{length, take}
use lib.Seq.{take-length}
use Rattle.lists.specs.Tests.{ands, and_l, and_r, both, clash}
use Rattle.lists.specs.Bytes.{be_at}
use Rattle.lists.specs.Rows.{values, joined, length-values, values_same, joined-values}
use Rattle.lists.specs.Sets.{mem, ascending}
use Rattle.lists.specs.Members.{all_in, in_all}
use Rattle.model.specs.Objects.{ObjectKind, a_map, a_register, Object, Shape, is_object, is_cell, hosted, everything, bad_set}
use Rattle.model.specs.Entries.{Log, if_some, is_none}
use Rattle.model.specs.Slot.{slot, slot_of, log_of}
use Rattle.model.specs.Rules.{lowest, lowest_bad}
use Rattle.model.specs.Directory.{record_size, id_at, record_at, ok_record, follows, at_fault, places, shape_of, record_bytes, directory_of, listed_in, fault_of}
use Rattle.model.specs.Answers.{Refusal, refuse, refuse_at, first_of, answer, bad_frame, frame_and_entries}
use Rattle.model.specs.Reading.{check, bad_sets, owes, owed, info_in, entry_call, stretch, or_empty, item_list, next_of, next_given, stream_next, offsets_of, list_given, stream_list}
use Rattle.model.specs.Append.{bad_record, bad_replica, entry_of, own_tests, append_given, append}
use Rattle.model.specs.Replica.{open_fresh, checkpoint_in, open_given, open_at, bad_stop, play_given, play_from, play_call, read_cell, audit_play, lowest_false, audit_given, audit}
use Rattle.model.specs.Table.{cells_of, capacity, lookup}
use Rattle.model.specs.Pricing.{prices_in, unpriced, total, bad_order, price}
use Rattle.model.specs.Claims.{Bytes}
use Rattle.model.specs.DirectoryClaims.{KeysAllowed, Listable, IdsAscend, Lists, ReadsBackDirectory, DirectedExactly, GoodPlace, FirstFault, TellsFault, at_place, AnswersFault}
use Rattle.laws.proofs.Refusals.{lowest-some, some-lowest}
use Rattle.laws.proofs.Stored.{load_part}
use Rattle.laws.proofs.Records.{ok_keys, ok_listed, Fields, listed-fields, moved, fields-ok, record-listed, record-again, Place, place-words, words-place, Whole, fault-none, placed, all_listed, ids-ascend, reads-back}

-- ---- objects

keys-words : (t : ObjectKind) (h : ℕ) → ok_keys t h ≡ true → KeysAllowed t h
keys-words a_map h e = ltb-true h 4294967295 e
keys-words a_register h e = eqb-true h 0 e

words-keys : (t : ObjectKind) (h : ℕ) → KeysAllowed t h → ok_keys t h ≡ true
words-keys a_map h k = lt-ltb h 4294967295 k
words-keys a_register h k = eq-eqb h 0 k

listed-words : (b : Object) → ok_listed b ≡ true → Listable b
listed-words b e = record {
  positive = leb-true 1 b.id (search ands);
  small = ltb-true b.id (2 ^ 31) (search ands);
  keys = keys-words b.kind b.highest (search ands);
}

words-listed : (b : Object) → Listable b → ok_listed b ≡ true
words-listed b l = both (both (le-leb 1 b.id l.positive) (lt-ltb b.id (2 ^ 31) l.small)) (words-keys b.kind b.highest l.keys)

abbrev by_id : Object → Object → Bool
by_id a b = ltb a.id b.id

ascend-words : (bs : List Object) → ascending by_id bs ≡ true → IdsAscend bs
ascend-words [] a = tt
ascend-words (b ∷ []) a = tt
ascend-words (b ∷ c ∷ bs) a = (ltb-true b.id c.id (and_l (by_id b c) (ascending by_id (c ∷ bs)) a), ascend-words (c ∷ bs) (and_r (by_id b c) (ascending by_id (c ∷ bs)) a))

words-ascend : (bs : List Object) → IdsAscend bs → ascending by_id bs ≡ true
words-ascend [] a = refl
words-ascend (b ∷ []) a = refl
words-ascend (b ∷ c ∷ bs) a = both (lt-ltb b.id c.id a.0) (words-ascend (c ∷ bs) a.1)

-- ---- a list, and its bytes

pub reads-back-directory : ReadsBackDirectory
reads-back-directory bs l =
    reads-back bs (in_all ok_listed bs (λ b m. words-listed b (l.each b m))) (words-ascend bs l.ascend) l.some l.few

module _ (d : List ℕ) (n : ℕ) (w : Whole d n) where
  objects-list : Lists (values (placed d) 0 n)
  objects-list =
      let size : length (values (placed d) 0 n) ≡ n = length-values (placed d) 0 n in
      record {
        some = omega (arith, w.some);
        few = omega (arith, w.few);
        each = λ b m. listed-words b (all_in ok_listed (values (placed d) 0 n) (all_listed d n w) b m);
        ascend = ascend-words (values (placed d) 0 n) (ids-ascend d n w);
      }

  stored-again : Bytes d → d ≡ directory_of (values (placed d) 0 n)
  unfolding directory_of
  stored-again bytes =
      let again = joined-values record_bytes record_at record_size d 0 n
      (λ k h. record-again d (0 + record_size * k) (ap (λ (i : ℕ). ok_record d i) (zero-add (record_size * k)) ∙ (w.each k h).ok) bytes (omega (arith, (w.each k h).whole))) in
      let same = values_same (λ k. record_at d (0 + record_size * k)) (placed d) 0 n (λ k l m. ap (record_at d) (zero-add (record_size * k))) in
      sym (ap (joined record_bytes) (sym same) ∙ again ∙ ap (λ (m : ℕ). take m d) (sym w.size) ∙ take-length d)

pub directed-exactly : DirectedExactly
unfolding listed_in fault_of
directed-exactly d bytes = (
  λ e. let w = fault-none d e in (values (placed d) 0 (length d / record_size), objects-list d (length d / record_size) w, stored-again d (length d / record_size) w bytes),
  λ x. let (bs, l, e) = x in ap (λ (s : List ℕ). (shape_of s).fault) e ∙ ap (λ (sh : Shape). sh.fault) (reads-back-directory bs l),
)

-- ---- the place that is told

module _ (d : List ℕ) (bytes : Bytes d) where
  place-good : (k : ℕ) → Place d k → GoodPlace d k
  unfolding record_at
  place-good k p = record {
    few = p.few;
    whole = p.whole;
    object = placed d k;
    listable = listed-words (placed d k) (record-listed d (record_size * k) p.ok);
    bytes = sym (record-again d (record_size * k) p.ok bytes p.whole);
    above = λ j e. ltb-true (id_at d (record_size * j)) (id_at d (record_size * k))
        (ap (λ (m : ℕ). ltb (id_at d (record_size * j)) (id_at d (record_size * m))) e ∙ sym (ap (follows d) e) ∙ p.above);
  }

  good-place : (k : ℕ) → GoodPlace d k → Place d k
  good-place k g = record {
    few = g.few;
    whole = g.whole;
    ok = fields-ok fields listed;
    above = after k refl;
  }
    where
      listed : ok_listed g.object ≡ true
      listed = words-listed g.object g.listable

      fields : Fields d (record_size * k) g.object
      fields = moved d (record_size * k) g.object (listed-fields g.object listed)
          (λ c n l. sym (load_part n record_size (record_size * k) d c l) ∙ ap (λ (s : List ℕ). be_at n s c) g.bytes)

      after : (m : ℕ) → k ≡ m → follows d m ≡ true
      after zero e = refl
      after (suc j) e =
          let here : id_at d (record_size * suc j) ≡ g.object.id = ap (λ (m : ℕ). id_at d (record_size * m)) (sym e) ∙ fields.id in
          lt-ltb (id_at d (record_size * j)) (id_at d (record_size * suc j)) (omega (arith, g.above j e))

  -- which places are judged
  judged-words : (k : ℕ) → k < places d → (k ≡ 0) ⊎ (record_size * k < length d)
  judged-words k h = go (eqb (length d) 0) refl h
    where
      go : (t : Bool) → eqb (length d) 0 ≡ t → k < cond t 1 ((length d + 15) / record_size) → (k ≡ 0) ⊎ (record_size * k < length d)
      go true e l = inl (omega arith)
      go false e l = inr (omega arith)

  words-judged : (k : ℕ) → (k ≡ 0) ⊎ (record_size * k < length d) → k < places d
  words-judged k x = go (eqb (length d) 0) refl x
    where
      go : (t : Bool) → eqb (length d) 0 ≡ t → (k ≡ 0) ⊎ (record_size * k < length d) → k < cond t 1 ((length d + 15) / record_size)
      go true e (inl z) = omega arith
      go true e (inr l) = let n = eqb-true (length d) 0 e in omega arith
      go false e (inl z) = let n = eqb-false (length d) 0 e in omega arith
      go false e (inr l) = omega arith

  fault-words : (k : ℕ) → (shape_of d).fault ≡ some k → FirstFault d k
  unfolding listed_in fault_of
  fault-words k e =
      let (l, b, f) = lowest-some (at_fault d) (places d) k e in
      record {
        begun = judged-words k l;
        before = λ j h. place-good j (place-words d j (f j h));
        here = λ g. clash (at_fault d k) b (words-place d k (good-place k g));
      }

  words-fault : (k : ℕ) → FirstFault d k → (shape_of d).fault ≡ some k
  unfolding listed_in fault_of
  words-fault k f = some-lowest (at_fault d) (places d) k (words-judged k f.begun) (bad (at_fault d k) refl) (λ j h. words-place d j (good-place j (f.before j h)))
    where
      bad : (t : Bool) → at_fault d k ≡ t → t ≡ true
      bad true e = refl
      bad false e = absurd (f.here (place-good k (place-words d k e)))

pub tells-fault : TellsFault
tells-fault d k bytes = (fault-words d bytes k, words-fault d bytes k)

-- ---- the answer 15

module _ (sh : Shape) (k : ℕ) (e : sh.fault ≡ some k) where
  -- what a call on a log begins with
  pub begins-refused : (log : Log) (ts : List (Option Refusal)) → first_of (frame_and_entries sh log ++ ts) ≡ some (at_place k)
  begins-refused log ts = ap (λ (f : Option ℕ). first_of (refuse_at 15 f ∷ refuse 1 (bad_frame sh.layout log) ∷ refuse_at 2 (lowest_bad sh log) ∷ ts)) e

pub answers-fault : AnswersFault
unfolding check owed entry_call item_list stream_next stream_list append open_fresh open_at play_call read_cell price audit
answers-fault sh k e =
    let begins = begins-refused sh k e in
    record {
      checking = λ log. ap (λ (x : Option Refusal). answer x tt) (begins log []);
      owing = λ log sets. ap (λ (x : Option Refusal). answer x (lowest (owes sh log sets) log.tail)) (begins log (refuse 3 (bad_sets sh sets) ∷ []));
      reading = λ log o. ap (λ (x : Option Refusal). answer x (info_in sh.layout (slot sh.layout log.used o))) (begins log (refuse 3 (leb log.tail o) ∷ []));
      listing = λ log o. ap (λ (x : Option Refusal). or_empty x (stretch sh.layout (slot sh.layout log.used o))) (begins log (refuse 3 (leb log.tail o) ∷ []));
      next = λ log x from. ap (next_given log.tail from (next_of log x from)) (begins log (refuse 3 (not (is_object sh x) || ltb log.tail from) ∷ []));
      stream = λ log x list. ap (list_given list (offsets_of log x)) (begins log (refuse 3 (not (is_object sh x)) ∷ refuse 13 (ltb (length list) (length (offsets_of log x))) ∷ []));
      appending = λ bytes tail q.
          let log = log_of sh.layout bytes tail in
          ap (append_given sh.layout bytes log.tail (slot_of sh.layout log log.tail (entry_of log q))) (begins log (own_tests sh log q));
      opening = λ set. ap (λ (f : Option ℕ). answer (first_of (refuse_at 15 f ∷ refuse 10 (bad_set sh set) ∷ [])) (record { hosting = set; position = 0; count = 0 })) e;
      opening_at = λ log o table. ap (λ (x : Option Refusal). open_given sh o table x (checkpoint_in (log.entry o))) (begins log
          (refuse 3 (leb log.tail o || is_none (checkpoint_in (log.entry o)))
          ∷ refuse 13 (if_some (checkpoint_in (log.entry o)) false (λ c. ltb (capacity table) (length c.cells))) ∷ []));
      playing = λ log r table stop. ap (play_given r stop table (play_from sh log r table stop)) (begins log
          (refuse 10 (bad_replica sh log.tail r table) ∷ refuse 3 (bad_stop log.tail r stop) ∷ []));
      showing = λ r table o key. ap (λ (f : Option ℕ). answer (first_of (refuse_at 15 f ∷ refuse 10 (bad_record sh r table)
          ∷ refuse 3 (not (mem o (hosted sh r.hosting) && is_cell sh o key)) ∷ [])) (lookup (cells_of table r.count) o key)) e;
      pricing = λ r table o s. ap (λ (f : Option ℕ). answer (first_of (refuse_at 15 f ∷ refuse 10 (bad_record sh r table) ∷ refuse 3 (bad_order sh r o s)
          ∷ refuse_at 19 (unpriced sh o (prices_in s) (cells_of table r.count)) ∷ [])) (total sh o (prices_in s) (cells_of table r.count))) e;
      auditing = λ log scratch. ap (audit_given (everything sh) log.tail scratch (lowest_false sh log (capacity scratch)) (audit_play sh log (capacity scratch) log.tail)) (begins log []);
    }
