-- What an accepted append wrote reads back as what was given, also after later appends: the slot at the old tail is the entry's
-- `slot_of`, which they keep, and whose numbers, header objects and items the laws of slots read back; and items that came as
-- bytes, read and stored again, are those bytes.
use mathlib.Core.Path.{◌≡◌, refl, ap, ap₂, sym, ◌∙◌}
use mathlib.Core.Logic.{◌↔◌}
use mathlib.Core.Bool.{true}
use mathlib.Core.List.{List, Memᴰ}
use mathlib.Core.Option.{none}
use Prim.Native.Nat.{ℕ, ◌+◌, ◌*◌, ◌≤◌}
use native.Mathlib.Omega.{arith}
use lib.ListN.{length, take, drop}
use borrow.Author.Tests.{lt-leb}
use Rattle.lists.specs.Sets.{mem, ascending_set, mem-set, ascending-set, set-of-ascending}
use Rattle.lists.specs.Members.{mem-map, map-mem}
use Rattle.lists.specs.Rows.{map-values}
use Rattle.lists.specs.Bytes.{be_at}
use Rattle.lists.specs.Splice.{splice}
use Rattle.model.specs.Objects.{Layout, Shape}
use Rattle.model.specs.Entries.{Write, commit, Log, writes_of, written_objects, commit_objects, header_objects, number_of, first_named, second_named}
use Rattle.model.specs.Slot.{objects_in, mark_of, item_bytes, item_count, slot_of, slot, log_in, header_size, headers_begin, item_size, items_begin, ok_shape}
use Rattle.model.specs.Rules.{lowest_bad}
use Rattle.model.specs.Table.{Cell, cells_of, saved_of}
use Rattle.model.specs.Answers.{done, answer}
use Rattle.model.specs.Reading.{Header, header_at, kind_in, info_in, entry_refusal, entry_call, stretch, or_empty, item_list}
use Rattle.model.specs.Append.{Request, update, commits, decides, saves, writes_given, entry_of}
use Rattle.model.specs.Histories.{Lent, in_log, tail_after, append_to, after, Accepted, grown}
use Rattle.model.specs.Terms.{SetAside, Allowed}
use Rattle.model.specs.Claims.{WroteOneSlot, WritesOneSlot, kind_given, first_given, second_given, NumberGiven, ObjectsGiven, ItemsGiven, header_objects_in, Back, ReadsBack}
use Rattle.laws.proofs.Slots.{Kept, headers-few, number_fits, first_fits, second_fits, items-few, slot-first, slot-second, slot-mark, slot-count, slot-number, slot-items}
use Rattle.laws.proofs.Stored.{given-writes, given-reads, update-items}
use Rattle.laws.proofs.Decisions.{headers-ascend}
use Rattle.laws.proofs.Headers.{headers-small, objects-read}
use Rattle.laws.proofs.Appends.{Accepted as Exit, saved-ascends, accepted, good-kept, passed, wrote}
use Rattle.laws.proofs.ByKind.{update-mark, update-number, update-first, update-second, update-objects}
use Rattle.claims.proofs.Terms.{writes_aside, aside-writes}
use Rattle.claims.proofs.KeepsGood.{grown-good}
use Rattle.claims.proofs.Later.{Later, grown-later, slot-later}
use Rattle.claims.proofs.Saved.{saved-for}
use Rattle.claims.proofs.Accepts.{accepts-exactly}

-- ---- the kind

kind-marked : (log : Log) (s : List ℕ) (q : Request) → be_at 2 s 0 ≡ mark_of (entry_of log q) → kind_in s ≡ kind_given q
unfolding entry_of
kind-marked log s (update n items) e = rw (e ∙ update-mark n (writes_given items))
kind-marked log s (commits n items a b) e = rw e
kind-marked log s (decides o v) e = rw e
kind-marked log s (saves r table o) e = rw e

-- ---- the header objects

objects-told : (ly : Layout) (s : List ℕ) → header_objects_in (info_in ly s) ≡ objects_in ly s
unfolding info_in objects_in
objects-told ly s = map-values (λ (x : Header). x.object) (λ i. header_at s (headers_begin + header_size ly * i)) 0 (be_at 1 s 2)

-- ---- what was given

-- the bytes of the entry's items
items-given : (sh : Shape) (log : Log) (q : Request) → Allowed sh log q → ItemsGiven q (item_bytes (entry_of log q))
unfolding entry_of item_bytes
items-given sh log (update n items) a = λ bytes. update-items n (writes_given items) ∙ given-writes items bytes (omega (arith, a.whole))
items-given sh log (commits n items c d) a = λ bytes. given-reads items bytes (omega (arith, a.asked.whole))
items-given sh log (decides o v) a = refl
items-given sh log (saves r table o) a =
    let cells : List Cell = cells_of table r.count in
    record { cells = saved_of o cells; stored = refl; ascend = saved-ascends o cells; holds = saved-for o cells }

number-given : (sh : Shape) (log : Log) (q : Request) → Allowed sh log q → NumberGiven log q (number_of (entry_of log q))
unfolding entry_of
number-given sh log (update n items) a = update-number n (writes_given items)
number-given sh log (commits n items c d) a = refl
number-given sh log (decides o v) a =
    let (n, c, e) = a.commits in
    (c, e ∙ ap (λ (m : ℕ). commit m c) (sym (ap number_of e)))
number-given sh log (saves r table o) a = refl

-- the objects of writes, as a set
module _ (ws : List Write) (Made : Write → Type 0) (of : (w : Write) → Memᴰ w ws ↔ Made w) where
  written-words : (x : ℕ) → (mem x (ascending_set (written_objects ws)) ≡ true) ↔ ((w : Write) × Made w × (w.object ≡ x))
  written-words x = (
    λ h. let (w, m, e) = mem-map (λ (w : Write). w.object) x ws (sym (mem-set x (written_objects ws)) ∙ h) in (w, (of w).0 m, e),
    λ (w, m, e). mem-set x (written_objects ws) ∙ map-mem (λ (w : Write). w.object) x w ws ((of w).1 m) e,
  )

commit-words : (log : Log) (n p x : ℕ) → (mem x (commit_objects log p n) ≡ true) ↔ ((w : Write) × SetAside log n p w × (w.object ≡ x))
commit-words log n p = written-words (writes_of log n p) (SetAside log n p) (λ w. (writes_aside log n p w, aside-writes log n p w))

objects-given : (sh : Shape) (log : Log) (q : Request) → Allowed sh log q → ObjectsGiven log q (header_objects log log.tail (entry_of log q))
unfolding entry_of header_objects
objects-given sh log (update n items) a =
    let ws : List Write = writes_given items in
    rw (update-objects n ws log log.tail) (written-words ws (λ w. Memᴰ w ws) (λ w. (λ m. m, λ m. m)))
objects-given sh log (commits n items c d) a = commit-words log n log.tail
objects-given sh log (decides o v) a = λ n c e.
    let own : header_objects log o (log.entry o) ≡ commit_objects log o n = ap (header_objects log o) e in
    rw (own, set-of-ascending (commit_objects log o n) (ascending-set (written_objects (writes_of log n o)))) (commit-words log n o)
objects-given sh log (saves r table o) a = refl

-- the numbers that it names
first-given : (log : Log) (q : Request) → first_named (entry_of log q) ≡ first_given q
unfolding entry_of
first-given log (update n items) = update-first n (writes_given items)
first-given log (commits n items a b) = refl
first-given log (decides o v) = refl
first-given log (saves r table o) = refl

second-given : (log : Log) (q : Request) → second_named (entry_of log q) ≡ second_given q
unfolding entry_of
second-given log (update n items) = update-second n (writes_given items)
second-given log (commits n items a b) = refl
second-given log (decides o v) = refl
second-given log (saves r table o) = refl

-- ---- what an accepted append left

module _ (sh : Shape) (shape : ok_shape sh ≡ true) (l : Lent) (q : Request) (taken : Accepted sh l q) where
  -- the slot of the entry, over the log as it was
  abbrev pub its_slot : List ℕ
  its_slot = slot_of sh.layout (in_log sh l) l.tail (entry_of (in_log sh l) q)

  given : Allowed sh (in_log sh l) q
  given = ((accepts-exactly sh shape l q).0 taken).allowed

  left : append_to sh l q ≡ record { new_tail = done (l.tail + 1); bytes = splice l.bytes (sh.layout.slot_size * l.tail) its_slot }
  left = wrote sh l.bytes l.tail q (passed sh l.bytes l.tail q taken)

  pub left-bytes : (after sh l q).bytes ≡ splice l.bytes (sh.layout.slot_size * l.tail) its_slot
  left-bytes = ap (λ a. a.bytes) left

  exit : Exit sh l.bytes l.tail q (l.tail + 1) (append_to sh l q).bytes
  exit = accepted sh l.bytes l.tail q (l.tail + 1) shape (ap (λ a. a.new_tail) left)

  pub one-slot : WroteOneSlot sh l q
  one-slot = record { answers = ap (λ a. a.new_tail) left; size = exit.size; front = exit.front; rest = exit.rest }

  kept : Kept sh (in_log sh l) l.tail
  unfolding log_in
  kept = good-kept sh (in_log sh l) exit.was-good

  few-headers : length (header_objects (in_log sh l) l.tail (entry_of (in_log sh l) q)) ≤ sh.layout.headers
  few-headers = headers-few sh (in_log sh l) shape l.tail (entry_of (in_log sh l) q) kept exit.obeyed

  few-items : item_count (entry_of (in_log sh l) q) ≤ sh.layout.items
  few-items = items-few sh (in_log sh l) shape l.tail (entry_of (in_log sh l) q) exit.obeyed

  -- ---- the slot, as the calls tell it

  pub kind-is : (info_in sh.layout its_slot).kind ≡ kind_given q
  unfolding info_in
  kind-is = kind-marked (in_log sh l) its_slot q (slot-mark sh shape (in_log sh l) l.tail (entry_of (in_log sh l) q))

  pub number_is : (info_in sh.layout its_slot).number ≡ number_of (entry_of (in_log sh l) q)
  unfolding info_in
  number_is = slot-number sh shape (in_log sh l) l.tail (entry_of (in_log sh l) q) (number_fits sh (in_log sh l) shape l.tail (entry_of (in_log sh l) q) kept exit.obeyed)

  pub objects-are : header_objects_in (info_in sh.layout its_slot) ≡ header_objects (in_log sh l) l.tail (entry_of (in_log sh l) q)
  objects-are =
      objects-told sh.layout its_slot
      ∙ objects-read sh shape (in_log sh l) l.tail (entry_of (in_log sh l) q) few-headers (headers-small sh shape (in_log sh l) l.tail (entry_of (in_log sh l) q) kept exit.obeyed)

  pub first-is : (info_in sh.layout its_slot).first ≡ first_named (entry_of (in_log sh l) q)
  unfolding info_in
  first-is = slot-first sh shape (in_log sh l) l.tail (entry_of (in_log sh l) q) few-headers few-items (first_fits sh (in_log sh l) shape l.tail (entry_of (in_log sh l) q) exit.obeyed)

  pub second_is : (info_in sh.layout its_slot).second ≡ second_named (entry_of (in_log sh l) q)
  unfolding info_in
  second_is = slot-second sh shape (in_log sh l) l.tail (entry_of (in_log sh l) q) few-headers few-items (second_fits sh (in_log sh l) shape l.tail (entry_of (in_log sh l) q) exit.obeyed)

  -- ---- the calls, some appends later

  module _ (later : List Request) where
    abbrev now : Lent
    now = grown sh (after sh l q) later

    tail-after : (after sh l q).tail ≡ l.tail + 1
    tail-after = ap (λ a. tail_after l.tail a.new_tail) left

    up : Later sh (after sh l q) now
    up = grown-later sh shape (after sh l q) later (rw tail-after exit.frame)

    good : lowest_bad sh (in_log sh now) ≡ none
    good = grown-good sh shape (after sh l q) later (rw tail-after exit.good)

    nothing-refuses : entry_refusal sh (in_log sh now) l.tail ≡ none
    unfolding log_in
    nothing-refuses = rw (up.frame, good, lt-leb now.tail l.tail (omega (arith, tail-after, up.tails)), exit.directed)

    written : slot sh.layout (in_log sh now).used l.tail ≡ its_slot
    unfolding log_in
    written =
        slot-later sh.layout (after sh l q).bytes now.bytes (after sh l q).tail now.tail l.tail (omega (arith, tail-after)) up.tails up.same
        ∙ ap (λ (t : ℕ). slot sh.layout (take (sh.layout.slot_size * t) (after sh l q).bytes) l.tail) tail-after
        ∙ exit.written

    pub info-left : entry_call sh (in_log sh now) l.tail ≡ done (info_in sh.layout its_slot)
    unfolding entry_call
    info-left = ap₂ answer nothing-refuses (ap (info_in sh.layout) written)

    pub items_left : item_list sh (in_log sh now) l.tail ≡ item_bytes (entry_of (in_log sh l) q)
    unfolding item_list
    items_left =
        ap₂ or_empty nothing-refuses (ap (stretch sh.layout) written)
        ∙ ap (λ (n : ℕ). take (item_size * n) (drop (items_begin sh.layout) its_slot)) (slot-count sh shape (in_log sh l) l.tail (entry_of (in_log sh l) q) few-items)
        ∙ slot-items sh shape (in_log sh l) l.tail (entry_of (in_log sh l) q) few-headers

    read_back_lem : Back sh l q now
    unfolding log_in
    read_back_lem = record {
      info = info_in sh.layout its_slot;
      reads = info-left;
      kind = kind-is;
      number = rw number_is (number-given sh (in_log sh l) q given);
      objects = rw objects-are (objects-given sh (in_log sh l) q given);
      ascend = rw objects-are (headers-ascend (in_log sh l) l.tail (entry_of (in_log sh l) q));
      items = rw items_left (items-given sh (in_log sh l) q given);
      first = first-is ∙ first-given (in_log sh l) q;
      second = second_is ∙ second-given (in_log sh l) q;
    }

pub reads-back : (sh : Shape) → ok_shape sh ≡ true → ReadsBack sh
reads-back sh shape l q taken later = read_back_lem sh shape l q taken later

pub writes-one-slot : (sh : Shape) → ok_shape sh ≡ true → WritesOneSlot sh
writes-one-slot sh shape l q taken = one-slot sh shape l q taken
