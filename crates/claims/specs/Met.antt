-- The premises of demand 3 can be met, computed on one history of the eight objects: a refused append, a commit record that a
-- replica of object 5 cannot decide alone, a checkpoint, its decision, and a transaction that aborts.
use Rattle.std.specs.Prelude.{ℕ, ◌*◌, ◌≡◌, refl, true, false, List, [], ◌∷◌, ◌++◌, replicate}
use Rattle.std.proofs.Common.{ap, ◌∙◌}
use Rattle.std.proofs.Math.Option.{Option, some}
use Rattle.lists.specs.Bytes.{be_at, bytes_of}
use Rattle.lists.specs.Splice.{splice}
use Rattle.lists.specs.Rows.{values, joined}
use Rattle.lists.specs.First.{first, first_from}
use Rattle.lists.specs.Equal.{eq_list}
use Rattle.model.specs.Objects.{the_layout, depots, is_object, is_cell, hosted}
use Rattle.model.specs.Entries.{Held, writes_of, stamps, astray, closed, decided, header_objects, earlier, named}
use Rattle.model.specs.Slot.{write_bytes, write_at, read_bytes, read_at, saved_bytes, saved_at, item_bytes, item_count, header_of, slot_of, decode, slot, log_in, objects_in, last_bytes}
use Rattle.model.specs.Rules.{ok_entry, lowest, lowest_bad, ok_write, ok_writes, ok_read, ok_reads, ok_saved, narrow, good_at, repeats, ok_names}
use Rattle.model.specs.Table.{Cell, cell_at, cell_bytes, cells_of, table_with, apply, saved_of, lookup, in_order, store}
use Rattle.model.specs.Play.{play, commits_over, whole, step}
use Rattle.model.specs.Answers.{Answer, done, first_place, bad_frame}
use Rattle.model.specs.Append.{Request, update, decides, saves, condition_given, entry_of, own_tests, append}
use Rattle.model.specs.Replica.{Left, plainly, open_fresh, open_at, play_call, read_cell, audit}
use Rattle.model.specs.Run.{Fed, Run, start, commits_now, accept, run_at}
use Rattle.model.specs.Histories.{Lent, is_refused, in_log, append_to, grown, feed, empty, History, whole_log, stood, ran_to, Passed, Carried, carried, if_opened, fresh, at_checkpoint, opened, Play, played, plays, shown}
use Rattle.model.specs.Worked.{put, read, commit_of, cell}

-- a table with room for two cells
abbrev pub table : List ℕ
table = replicate 48 7

-- and one with one cell in it, the other's bytes as they were
abbrev pub holding : Cell → List ℕ
holding c = cell_bytes c ++ replicate 24 7

-- what number 9 leaves in cell (5,1)
abbrev pub left : Held
left = record { version = 3; content = some 6 }

-- no update has the number 11
abbrev pub unasked : Request
unasked = commit_of 11 []

-- a checkpoint of object 5 by a replica of everything
abbrev pub saved : Request
saved = saves (record { hosting = 255; position = 3; count = 1 }) (holding (cell 5 1 (some 6) 3)) 5

-- six slots of junk; the commit record of 9 is at 2, the checkpoint at 3, the decision at 4, the commit record of 10 at 5
abbrev pub met : History
met = record {
  bytes = replicate (the_layout.slot_size * 6) 7;
  requests = update 9 (put 5 1 6) ∷ update 10 (put 5 1 7) ∷ unasked ∷ commit_of 9 (read 2 7 0) ∷ saved ∷ decides 2 1 ∷ commit_of 10 (read 5 1 0) ∷ [];
}

-- ---- the log (what a `let` binds is computed once, and the calls of the demands are the same without it)

abbrev audits : Lent → Answer (Unit {0})
audits l = let log = in_log depots l in (audit depots log table).answer

audits-so : audits (whole_log depots met) ≡ done tt
unfolding be_at bytes_of splice values joined first first_from eq_list writes_of stamps astray closed decided header_objects repeats objects_in earlier write_bytes write_at read_bytes read_at saved_bytes saved_at item_bytes item_count header_of slot_of last_bytes decode slot log_in ok_entry lowest lowest_bad cell_at cell_bytes cells_of table_with apply saved_of play commits_over whole named entry_of first_place own_tests append open_fresh open_at play_call read_cell audit accept run_at grown feed is_object is_cell hosted ok_write ok_writes ok_read ok_reads ok_names ok_saved narrow good_at lookup in_order store step bad_frame
audits-so = refl

-- the audit passes
pub passes : Passed depots met table
passes = audits-so

-- the third append is refused
pub is-refused : is_refused (append_to depots (stood depots met 2) unasked).new_tail ≡ true
unfolding be_at bytes_of splice values joined first first_from eq_list writes_of stamps astray closed decided header_objects repeats objects_in earlier write_bytes write_at read_bytes read_at saved_bytes saved_at item_bytes item_count header_of slot_of last_bytes decode slot log_in ok_entry lowest lowest_bad cell_at cell_bytes cells_of table_with apply saved_of play commits_over whole named entry_of first_place own_tests append open_fresh open_at play_call read_cell audit accept run_at grown feed is_object is_cell hosted ok_write ok_writes ok_read ok_reads ok_names ok_saved narrow good_at lookup in_order store step bad_frame
is-refused = refl

-- ---- the run

abbrev pub taken : Request → Fed
taken q = record { request = q; was_refused = false }

abbrev pub fed : List Fed
fed = taken (update 9 (put 5 1 6)) ∷ taken (update 10 (put 5 1 7)) ∷ record { request = unasked; was_refused = true } ∷ taken (commit_of 9 (read 2 7 0))
    ∷ taken saved ∷ taken (decides 2 1) ∷ taken (commit_of 10 (read 5 1 0)) ∷ []

-- of the seven appends only the third is refused
pub feeds : feed depots (empty met.bytes) met.requests ≡ fed
unfolding be_at bytes_of splice values joined first first_from eq_list writes_of stamps astray closed decided header_objects repeats objects_in earlier write_bytes write_at read_bytes read_at saved_bytes saved_at item_bytes item_count header_of slot_of last_bytes decode slot log_in ok_entry lowest lowest_bad cell_at cell_bytes cells_of table_with apply saved_of play commits_over whole named entry_of first_place own_tests append open_fresh open_at play_call read_cell audit accept run_at grown feed is_object is_cell hosted ok_write ok_writes ok_read ok_reads ok_names ok_saved narrow good_at lookup in_order store step bad_frame
feeds = refl

ran : (p : ℕ) → ran_to depots met p ≡ run_at p start fed
ran p = ap (run_at p start) feeds

-- number 9 commits at 2, and number 10 aborts at 5
pub nine-commits : commits_now (ran_to depots met 2) (condition_given (read 2 7 0) 0 0) ≡ true
unfolding be_at bytes_of splice values joined first first_from eq_list writes_of stamps astray closed decided header_objects repeats objects_in earlier write_bytes write_at read_bytes read_at saved_bytes saved_at item_bytes item_count header_of slot_of last_bytes decode slot log_in ok_entry lowest lowest_bad cell_at cell_bytes cells_of table_with apply saved_of play commits_over whole named entry_of first_place own_tests append open_fresh open_at play_call read_cell audit accept run_at grown feed is_object is_cell hosted ok_write ok_writes ok_read ok_reads ok_names ok_saved narrow good_at lookup in_order store step bad_frame
nine-commits = ap (λ (s : Run). commits_now s (condition_given (read 2 7 0) 0 0)) (ran 2)

pub ten-aborts : commits_now (ran_to depots met 5) (condition_given (read 5 1 0) 0 0) ≡ false
unfolding be_at bytes_of splice values joined first first_from eq_list writes_of stamps astray closed decided header_objects repeats objects_in earlier write_bytes write_at read_bytes read_at saved_bytes saved_at item_bytes item_count header_of slot_of last_bytes decode slot log_in ok_entry lowest lowest_bad cell_at cell_bytes cells_of table_with apply saved_of play commits_over whole named entry_of first_place own_tests append open_fresh open_at play_call read_cell audit accept run_at grown feed is_object is_cell hosted ok_write ok_writes ok_read ok_reads ok_names ok_saved narrow good_at lookup in_order store step bad_frame
ten-aborts = ap (λ (s : Run). commits_now s (condition_given (read 5 1 0) 0 0)) (ran 5)

ran-left : (run_at 6 start fed).cells 5 1 ≡ some left
unfolding be_at bytes_of splice values joined first first_from eq_list writes_of stamps astray closed decided header_objects repeats objects_in earlier write_bytes write_at read_bytes read_at saved_bytes saved_at item_bytes item_count header_of slot_of last_bytes decode slot log_in ok_entry lowest lowest_bad cell_at cell_bytes cells_of table_with apply saved_of play commits_over whole named entry_of first_place own_tests append open_fresh open_at play_call read_cell audit accept run_at grown feed is_object is_cell hosted ok_write ok_writes ok_read ok_reads ok_names ok_saved narrow good_at lookup in_order store step bad_frame
ran-left = refl

-- ---- replicas of object 5: fresh, and opened at the checkpoint

abbrev pub fresh5 : Carried
fresh5 = record { replica = record { hosting = 16; position = 0; count = 0 }; table = table }

abbrev pub saved5 : Carried
saved5 = record { replica = record { hosting = 16; position = 4; count = 1 }; table = holding (cell 5 1 (some 6) 3) }

pub opens-fresh : opened depots met (fresh 16 table) ≡ some fresh5
unfolding be_at bytes_of splice values joined first first_from eq_list writes_of stamps astray closed decided header_objects repeats objects_in earlier write_bytes write_at read_bytes read_at saved_bytes saved_at item_bytes item_count header_of slot_of last_bytes decode slot log_in ok_entry lowest lowest_bad cell_at cell_bytes cells_of table_with apply saved_of play commits_over whole named entry_of first_place own_tests append open_fresh open_at play_call read_cell audit accept run_at grown feed is_object is_cell hosted ok_write ok_writes ok_read ok_reads ok_names ok_saved narrow good_at lookup in_order store step bad_frame
opens-fresh = refl

abbrev opens_at : Lent → ℕ → Option Carried
opens_at l o = let log = in_log depots l in if_opened (open_at depots log o table)

opens-at : opens_at (stood depots met 5) 3 ≡ some saved5
unfolding be_at bytes_of splice values joined first first_from eq_list writes_of stamps astray closed decided header_objects repeats objects_in earlier write_bytes write_at read_bytes read_at saved_bytes saved_at item_bytes item_count header_of slot_of last_bytes decode slot log_in ok_entry lowest lowest_bad cell_at cell_bytes cells_of table_with apply saved_of play commits_over whole named entry_of first_place own_tests append open_fresh open_at play_call read_cell audit accept run_at grown feed is_object is_cell hosted ok_write ok_writes ok_read ok_reads ok_names ok_saved narrow good_at lookup in_order store step bad_frame
opens-at = refl

pub opens-saved : opened depots met (at_checkpoint 5 3 table) ≡ some saved5
opens-saved = opens-at

-- ---- plays: before the decision, and to the tail

abbrev pub early : Play
early = record { stood_after = 5; stop = 4 }

abbrev pub late : Play
late = record { stood_after = 7; stop = 6 }

-- waiting at the commit record of 9, which it cannot decide alone
abbrev pub waiting : Left
waiting = record { answer = plainly 12; replica = record { hosting = 16; position = 2; count = 0 }; table = table }

-- at the tail, with the cell that 9 wrote
abbrev pub arrived : Left
arrived = record { answer = done tt; replica = record { hosting = 16; position = 6; count = 1 }; table = holding (cell 5 1 (some 6) 3) }

abbrev playing : Lent → Carried → ℕ → Left
playing l r stop = let log = in_log depots l in play_call depots log r.replica r.table stop

early-left : playing (stood depots met 5) fresh5 4 ≡ waiting
unfolding be_at bytes_of splice values joined first first_from eq_list writes_of stamps astray closed decided header_objects repeats objects_in earlier write_bytes write_at read_bytes read_at saved_bytes saved_at item_bytes item_count header_of slot_of last_bytes decode slot log_in ok_entry lowest lowest_bad cell_at cell_bytes cells_of table_with apply saved_of play commits_over whole named entry_of first_place own_tests append open_fresh open_at play_call read_cell audit accept run_at grown feed is_object is_cell hosted ok_write ok_writes ok_read ok_reads ok_names ok_saved narrow good_at lookup in_order store step bad_frame
early-left = refl

late-left : playing (stood depots met 7) (carried waiting) 6 ≡ arrived
unfolding be_at bytes_of splice values joined first first_from eq_list writes_of stamps astray closed decided header_objects repeats objects_in earlier write_bytes write_at read_bytes read_at saved_bytes saved_at item_bytes item_count header_of slot_of last_bytes decode slot log_in ok_entry lowest lowest_bad cell_at cell_bytes cells_of table_with apply saved_of play commits_over whole named entry_of first_place own_tests append open_fresh open_at play_call read_cell audit accept run_at grown feed is_object is_cell hosted ok_write ok_writes ok_read ok_reads ok_names ok_saved narrow good_at lookup in_order store step bad_frame
late-left = refl

pub waits : played depots met fresh5 early ≡ waiting
waits = early-left

pub goes_on : played depots met (carried waiting) late ≡ arrived
goes_on = late-left

pub there : plays depots met fresh5 (early ∷ late ∷ []) ≡ carried arrived
unfolding plays
there = ap (λ (l : Left). carried (played depots met (carried l) late)) waits ∙ ap carried goes_on

-- and shows what the run has there
reads-left : shown depots (carried arrived) 5 1 ≡ done (some left)
unfolding be_at bytes_of splice values joined first first_from eq_list writes_of stamps astray closed decided header_objects repeats objects_in earlier write_bytes write_at read_bytes read_at saved_bytes saved_at item_bytes item_count header_of slot_of last_bytes decode slot log_in ok_entry lowest lowest_bad cell_at cell_bytes cells_of table_with apply saved_of play commits_over whole named entry_of first_place own_tests append open_fresh open_at play_call read_cell audit accept run_at grown feed is_object is_cell hosted ok_write ok_writes ok_read ok_reads ok_names ok_saved narrow good_at lookup in_order store step bad_frame
reads-left = refl

pub shows-so : shown depots (plays depots met fresh5 (early ∷ late ∷ [])) 5 1
    ≡ done ((ran_to depots met (plays depots met fresh5 (early ∷ late ∷ [])).replica.position).cells 5 1)
shows-so = rw (there, ran 6, ran-left) reads-left
