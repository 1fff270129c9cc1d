-- The log worked out from offset 0 is the run of the appends that made it, since it is the run over its entries; and without names each test
-- and the slot are what they were: the list of names is empty, and the last bytes are zeros like those before them.
use Prim.Native.Nat.{ℕ, ◌+◌, ◌-◌}
use mathlib.Core.Path.{◌≡◌, ap, ap₂, sym, ◌∙◌}
use mathlib.Core.Bool.{Bool, true, cond, ◌&&◌, ◌||◌}
use mathlib.Core.List.{List, ◌++◌, append_assoc}
use mathlib.Core.Option.{some}
use native.Mathlib.Omega.{arith}
use lib.ListN.{length, replicate, replicate-append-replicate}
use Rattle.lists.specs.Bytes.{bytes_of}
use Rattle.lists.specs.Tests.{and-true}
use Rattle.lists.specs.Rows.{joined}
use Rattle.lists.specs.Sets.{all, is_empty, within}
use Rattle.model.specs.Objects.{Shape, ids}
use Rattle.model.specs.Entries.{Condition, Entry, Log, decided, header_objects, number_of, read_objects, first_named, second_named}
use Rattle.model.specs.Slot.{headers_room, items_begin, items_room, spare_bytes, last_size, mark_of, header_of, item_bytes, item_count, zero_to, last_bytes, slot_of, ok_layout, ok_shape}
use Rattle.model.specs.Table.{Cell, Holds, lookup}
use Rattle.model.specs.Play.{commits_over, whole, alone, says_commit, outcome}
use Rattle.model.specs.Run.{Run, current, commits_now}
use Rattle.model.specs.Histories.{in_log, whole_log}
use Rattle.claims.specs.Named.{WholeIsRun, fresh, slot_before, AsBefore}
use Rattle.laws.proofs.Sizes.{sized}
use Rattle.claims.proofs.Names.{none_named}
use Rattle.claims.proofs.Whole.{whole_cells, whole-won}
use Rattle.claims.proofs.Histories.{run-at}

pub whole-is-run : (sh : Shape) → ok_shape sh ≡ true → WholeIsRun sh
whole-is-run sh shape h p l =
    let log : Log = in_log sh (whole_log sh h) in
    let same = sym (run-at sh shape h p l) in
    record { cells = λ o k. whole_cells log p o k ∙ ap (λ (s : Run). s.cells o k) same; won = λ n. whole-won log p n ∙ ap (λ (s : Run). s.won n) same }

-- ---- without names

module _ (sh : Shape) (c : Condition) (a : c.first ≡ 0) (b : c.second ≡ 0) where
  alone-before : (set : List ℕ) → alone sh set c ≡ within set (read_objects c)
  alone-before set = ap (λ (ns : List ℕ). within set (read_objects c) && (is_empty ns || within set (ids sh))) (none_named c a b) ∙ and-true (within set (read_objects c))

  commits-before : (cells : Holds) (won : List ℕ) → commits_over cells won c ≡ fresh cells c
  unfolding commits_over
  commits-before cells won = ap (λ (ns : List ℕ). fresh cells c && within won ns) (none_named c a b) ∙ and-true (fresh cells c)

  outcome-before : (log : Log) (set : List ℕ) (p : ℕ) (cs : List Cell)
      → outcome sh log set p cs c ≡ cond (within set (read_objects c)) (some (fresh (lookup cs) c)) (says_commit (decided log p log.tail))
  outcome-before log set p cs =
      ap₂ (λ (x y : Bool). cond x (some y) (says_commit (decided log p log.tail))) (alone-before set) (commits-before (lookup cs) (whole log p).won)

  run-before : (s : Run) → commits_now s c ≡ current s.cells c.reads
  run-before s = ap (λ (ns : List ℕ). current s.cells c.reads && all s.won ns) (none_named c a b) ∙ and-true (current s.cells c.reads)

zeros-last : (e : Entry) → first_named e ≡ 0 → second_named e ≡ 0 → last_bytes e ≡ replicate last_size 0
unfolding last_bytes bytes_of
zeros-last e a b = rw (a, b)

slot-before : (sh : Shape) → ok_layout sh.layout ≡ true → (log : Log) (p : ℕ) (e : Entry) → first_named e ≡ 0 → second_named e ≡ 0 → slot_of sh.layout log p e ≡ slot_before sh.layout log p e
unfolding slot_of
slot-before sh k log p e a b =
    let f : List ℕ =
    bytes_of 2 (mark_of e) ++ bytes_of 1 (length (header_objects log p e)) ++ bytes_of 1 (item_count e) ++ bytes_of 4 (number_of e)
    ++ zero_to (headers_room sh.layout) (joined (header_of sh.layout log p) (header_objects log p e)) ++ zero_to (items_room sh.layout) (item_bytes e) in
    let n : spare_bytes sh.layout + last_size ≡ sh.layout.slot_size - (items_begin sh.layout + items_room sh.layout) = omega (arith, (sized sh.layout k).room) in
    ap (λ (t : List ℕ). f ++ replicate (spare_bytes sh.layout) 0 ++ t) (zeros-last e a b)
    ∙ append_assoc f (replicate (spare_bytes sh.layout) 0) (replicate last_size 0)
    ∙ ap (λ (t : List ℕ). f ++ t) (replicate-append-replicate {A = ℕ} (spare_bytes sh.layout) last_size 0)
    ∙ ap (λ (m : ℕ). f ++ replicate m 0) n

pub unnamed : (sh : Shape) → ok_layout sh.layout ≡ true → AsBefore sh
unnamed sh k = record {
  deciding = λ set c a b. alone-before sh c a b set;
  committing = λ cells won c a b. commits-before sh c a b cells won;
  outcomes = λ log set p cs c a b. outcome-before sh c a b log set p cs;
  running = λ s c a b. run-before sh c a b s;
  slots = slot-before sh k;
}
