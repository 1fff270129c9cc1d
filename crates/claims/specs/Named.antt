-- What is claimed of commit records that name other transactions, beside the demands: the log worked out from offset 0 is the run of its
-- appends; and without names all is as it was before a commit record could have any.
use Rattle.std.specs.Prelude.{ℕ, ◌-◌, ◌+◌, ◌≤◌, ◌≡◌, Bool, cond, List, ◌++◌, eqb, length, replicate}
use Rattle.std.proofs.Math.Option.{some}
use Rattle.lists.specs.Bytes.{bytes_of}
use Rattle.lists.specs.Rows.{joined}
use Rattle.lists.specs.Sets.{all, mem, within}
use Rattle.model.specs.Objects.{Layout, Shape}
use Rattle.model.specs.Entries.{Read, Condition, Entry, Log, decided, header_objects, number_of, read_objects, first_named, second_named}
use Rattle.model.specs.Slot.{headers_room, items_begin, items_room, mark_of, header_of, item_bytes, item_count, zero_to, slot_of}
use Rattle.model.specs.Table.{Cell, Holds, lookup, version_in}
use Rattle.model.specs.Play.{commits_over, whole, alone, says_commit, outcome}
use Rattle.model.specs.Run.{Run, current, commits_now}
use Rattle.model.specs.Histories.{in_log, History, whole_log, ran_to}

-- ---- the log worked out

pub record WorkedOut (log : Log) (p : ℕ) (s : Run) : Type 0 where
  pub cells : (o k : ℕ) → lookup (whole log p).cells o k ≡ s.cells o k
  pub won : (n : ℕ) → mem n (whole log p).won ≡ s.won n

abbrev pub WholeIsRun : Shape → Type 0
WholeIsRun sh = (h : History) (p : ℕ) → p ≤ (whole_log sh h).tail → WorkedOut (in_log sh (whole_log sh h)) p (ran_to sh h p)

-- ---- without names

-- no read is stale
abbrev pub fresh : Holds → Condition → Bool
fresh cells c = all (λ (r : Read). eqb (version_in (cells r.object r.key)) r.version) c.reads

-- the slot of an entry, with zeros behind its items
abbrev pub slot_before : Layout → Log → ℕ → Entry → List ℕ
slot_before ly log p e =
    bytes_of 2 (mark_of e)
    ++ bytes_of 1 (length (header_objects log p e))
    ++ bytes_of 1 (item_count e)
    ++ bytes_of 4 (number_of e)
    ++ zero_to (headers_room ly) (joined (header_of ly log p) (header_objects log p e))
    ++ zero_to (items_room ly) (item_bytes e)
    ++ replicate (ly.slot_size - (items_begin ly + items_room ly)) 0

pub record AsBefore (sh : Shape) : Type 0 where
  -- it is decided by a replica that hosts what it reads, by its cells alone, in the run too
  pub deciding : (set : List ℕ) (c : Condition) → c.first ≡ 0 → c.second ≡ 0 → alone sh set c ≡ within set (read_objects c)
  pub committing : (cells : Holds) (won : List ℕ) (c : Condition) → c.first ≡ 0 → c.second ≡ 0 → commits_over cells won c ≡ fresh cells c
  pub outcomes : (log : Log) (set : List ℕ) (p : ℕ) (cs : List Cell) (c : Condition) → c.first ≡ 0 → c.second ≡ 0
      → outcome sh log set p cs c ≡ cond (within set (read_objects c)) (some (fresh (lookup cs) c)) (says_commit (decided log p log.tail))
  pub running : (s : Run) (c : Condition) → c.first ≡ 0 → c.second ≡ 0 → commits_now s c ≡ current s.cells c.reads
  -- and every entry that names none has the bytes that it had
  pub slots : (log : Log) (p : ℕ) (e : Entry) → first_named e ≡ 0 → second_named e ≡ 0 → slot_of sh.layout log p e ≡ slot_before sh.layout log p e
