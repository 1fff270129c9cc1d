-- The calls on a replica: opening fresh and at a checkpoint, play, cell reading; and the audit.
use Rattle.std.specs.Prelude.{ℕ, ◌+◌, ◌-◌, Bool, true, false, not, ◌&&◌, ◌||◌, List, [], ◌∷◌, ◌++◌, map, eqb, leb, ltb, length}
use Rattle.std.specs.Bool.{beq}
use Rattle.std.proofs.Math.Option.{Option, none, some}
use Rattle.lists.specs.Sets.{mem}
use Rattle.model.specs.Objects.{Shape, ids, is_cell, hosted, set_of, everything, bad_set}
use Rattle.model.specs.Entries.{Held, Saved, Entry, plain, numbered, commit, decision, checkpoint, blank, Log, commit_at, if_some, is_none}
use Rattle.model.specs.Rules.{lowest}
use Rattle.model.specs.Table.{Cell, cells_of, table_with, capacity, lookup, cell_of, saved_of}
use Rattle.model.specs.Play.{Played, going, waits, lacks, cells_in, commits_over, whole, play, beginning}
use Rattle.model.specs.Answers.{Refusal, Answer, done, refused, refuse, refuse_at, first_of, answer, bad_directory, frame_and_entries}
use Rattle.model.specs.Append.{Replica, bad_record, bad_replica}

-- a replica's record and table as a call leaves them, with its answer
pub record Left : Type 0 where
  pub answer : Answer (Unit {0})
  pub replica : Replica
  pub table : List ℕ

abbrev pub plainly : ℕ → Answer (Unit {0})
plainly n = refused (record { number = n; told = none })

-- a record at position p with these cells, and its table
abbrev pub left_with : Answer (Unit {0}) → ℕ → ℕ → List ℕ → List Cell → Left
left_with a set p table cells = record { answer = a; replica = record { hosting = set; position = p; count = length cells }; table = table_with table cells }

-- the record of a call that is refused and opens nothing
abbrev pub no_replica : Replica
no_replica = record { hosting = 0; position = 0; count = 0 }

-- Opening fresh: 15, 10.
unfoldable pub open_fresh : Shape → ℕ → Answer Replica
open_fresh sh set = answer (first_of (bad_directory sh ∷ refuse 10 (bad_set sh set) ∷ [])) (record { hosting = set; position = 0; count = 0 })

-- a checkpoint's object and cells; none for another entry
pub record Checkpoint : Type 0 where
  pub object : ℕ
  pub cells : List Cell

abbrev pub checkpoint_in : Entry → Option Checkpoint
checkpoint_in (plain ws) = none
checkpoint_in (numbered n ws) = none
checkpoint_in (commit n c) = none
checkpoint_in (decision d) = none
checkpoint_in (checkpoint o cs) = some (record { object = o; cells = map (λ (c : Saved). cell_of o c.key c.held) cs })
checkpoint_in blank = none

-- Opening at a checkpoint: 15, 1, 2, 3, 13.
abbrev pub open_refusal : Shape → Log → ℕ → List ℕ → Option Refusal
open_refusal sh log o table = first_of (frame_and_entries sh log
    ++ (refuse 3 (leb log.tail o || is_none (checkpoint_in (log.entry o)))
    ∷ refuse 13 (if_some (checkpoint_in (log.entry o)) false (λ c. ltb (capacity table) (length c.cells))) ∷ []))

-- nothing opened, nothing changed
abbrev pub unopened : Refusal → List ℕ → Left
unopened r table = record { answer = refused r; replica = no_replica; table = table }

-- what an opening at a checkpoint leaves (8.2)
abbrev pub open_given : Shape → ℕ → List ℕ → Option Refusal → Option Checkpoint → Left
open_given sh o table (some r) c = unopened r table
open_given sh o table none none = unopened (record { number = 3; told = none }) table
open_given sh o table none (some c) = left_with (done tt) (set_of sh c.object) (o + 1) table c.cells

unfoldable pub open_at : Shape → Log → ℕ → List ℕ → Left
open_at sh log o table = open_given sh o table (open_refusal sh log o table) (checkpoint_in (log.entry o))

-- 3: a stop above the tail or below the position (9.1)
abbrev pub bad_stop : ℕ → Replica → ℕ → Bool
bad_stop tail r stop = ltb tail stop || ltb stop r.position

-- Play: 15, 1, 2, 10, 3, then at an entry 12 before 13.
abbrev pub play_refusal : Shape → Log → Replica → List ℕ → ℕ → Option Refusal
play_refusal sh log r table stop = first_of (frame_and_entries sh log
    ++ (refuse 10 (bad_replica sh log.tail r table) ∷ refuse 3 (bad_stop log.tail r stop) ∷ []))

-- done at the stop; 12 and 13 at the entry where it ended (9.11)
abbrev pub left_by : ℕ → ℕ → List ℕ → Played → Left
left_by set stop table (going cs) = left_with (done tt) set stop table cs
left_by set stop table (waits q cs) = left_with (plainly 12) set q table cs
left_by set stop table (lacks q cs) = left_with (plainly 13) set q table cs

abbrev pub play_given : Replica → ℕ → List ℕ → Played → Option Refusal → Left
play_given r stop table p none = left_by r.hosting stop table p
play_given r stop table p (some x) = record { answer = refused x; replica = r; table = table }

abbrev pub play_from : Shape → Log → Replica → List ℕ → ℕ → Played
play_from sh log r table stop = play sh log (hosted sh r.hosting) (capacity table) r.position (cells_of table r.count) (stop - r.position)

unfoldable pub play_call : Shape → Log → Replica → List ℕ → ℕ → Left
play_call sh log r table stop = play_given r stop table (play_from sh log r table stop) (play_refusal sh log r table stop)

-- Cell reading: 15, 10 (no tail is given, so position is not tested), then 3. None where the cell was never written.
unfoldable pub read_cell : Shape → Replica → List ℕ → ℕ → ℕ → Answer (Option Held)
read_cell sh r table o k =
    answer (first_of (bad_directory sh ∷ refuse 10 (bad_record sh r table) ∷ refuse 3 (not (mem o (hosted sh r.hosting) && is_cell sh o k)) ∷ []))
    (lookup (cells_of table r.count) o k)

-- the audit's play: every object, from the beginning (11.1)
abbrev pub audit_play : Shape → Log → ℕ → ℕ → Played
audit_play sh log room p = let b = beginning log (ids sh) in play sh log (ids sh) room b.position b.cells p

-- whether the commit record at p commits over the cells as played to it (11.3)
abbrev pub commits_there : Shape → Log → ℕ → ℕ → Bool
commits_there sh log room p = if_some (commit_at log p) false (λ c. commits_over (lookup (cells_in (audit_play sh log room p))) (whole log p).won c.condition)

-- equal lists of a checkpoint's cells
abbrev pub same_content : Option ℕ → Option ℕ → Bool
same_content none none = true
same_content none (some y) = false
same_content (some x) none = false
same_content (some x) (some y) = eqb x y

abbrev pub same_saved : List Saved → List Saved → Bool
same_saved [] [] = true
same_saved [] (d ∷ ds) = false
same_saved (c ∷ cs) [] = false
same_saved (c ∷ cs) (d ∷ ds) = eqb c.key d.key && eqb c.held.version d.held.version && same_content c.held.content d.held.content && same_saved cs ds

-- a true record: a decision is judged at its commit record, a checkpoint at itself (11.3, 11.4)
abbrev pub as_played : Shape → Log → ℕ → ℕ → Entry → Bool
as_played sh log room p (plain ws) = true
as_played sh log room p (numbered n ws) = true
as_played sh log room p (commit n c) = true
as_played sh log room p (decision d) = beq (eqb d.outcome 1) (commits_there sh log room d.offset)
as_played sh log room p (checkpoint o cs) = same_saved cs (saved_of o (cells_in (audit_play sh log room p)))
as_played sh log room p blank = true

abbrev pub lowest_false : Shape → Log → ℕ → Option ℕ
lowest_false sh log room = lowest (λ p. not (as_played sh log room p (log.entry p))) log.tail

-- Audit: 15, 1, 2, 13, 11. The scratch table is left as played; 13 tells its offset.
abbrev pub audit_left : ℕ → ℕ → List ℕ → Option ℕ → Played → Left
audit_left set tail table f (going cs) = left_with (answer (refuse_at 11 f) tt) set tail table cs
audit_left set tail table f (waits q cs) = left_with (plainly 12) set q table cs
audit_left set tail table f (lacks q cs) = left_with (answer (refuse_at 13 (some q)) tt) set q table cs

abbrev pub audit_given : ℕ → ℕ → List ℕ → Option ℕ → Played → Option Refusal → Left
audit_given set tail table f p none = audit_left set tail table f p
audit_given set tail table f p (some r) = unopened r table

unfoldable pub audit : Shape → Log → List ℕ → Left
audit sh log table =
    audit_given (everything sh) log.tail table
    (lowest_false sh log (capacity table))
    (audit_play sh log (capacity table) log.tail)
    (first_of (frame_and_entries sh log))
