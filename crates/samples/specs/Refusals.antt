-- The numbers of refusals, computed: each append meets a refusal, some two at once, and the first in its order (13.5) is
use Rattle.std.specs.Prelude.{ℕ, ◌*◌, ◌≡◌, refl, Bool, true, ◌&&◌, List, [], ◌∷◌, ◌++◌, map, eqb, replicate}
use Rattle.std.proofs.Math.Option.{Option, some}
use Rattle.lists.specs.Picks.{picks}
use Rattle.model.specs.Reading.{Next, Listed, stream_next, stream_list, offsets_of}
use Rattle.model.specs.Append.{Replica, Request, update, decides, saves, append}
use Rattle.model.specs.Histories.{Lent, in_log, empty, grown}
use Rattle.model.specs.Worked.{code, tells, same_offset, put, read, cell, commit_of}
use Rattle.model.specs.Samples.{small}
use Rattle.lists.specs.Bytes.{be_at, bytes_of}
use Rattle.lists.specs.Splice.{splice}
use Rattle.lists.specs.Rows.{values, joined}
use Rattle.lists.specs.First.{first, first_from}
use Rattle.lists.specs.Equal.{eq_list}
use Rattle.model.specs.Objects.{is_object, is_cell, hosted}
use Rattle.model.specs.Entries.{writes_of, stamps, astray, closed, decided, header_objects, earlier, named}
use Rattle.model.specs.Slot.{write_bytes, write_at, read_bytes, read_at, saved_bytes, saved_at, item_bytes, item_count, header_of, slot_of, decode, slot, log_in, objects_in, last_bytes}
use Rattle.model.specs.Rules.{ok_entry, lowest, lowest_bad, ok_write, ok_writes, ok_read, ok_reads, ok_saved, narrow, good_at, repeats, ok_names}
use Rattle.model.specs.Table.{cell_at, cell_bytes, cells_of, table_with, apply, saved_of, lookup, in_order, store}
use Rattle.model.specs.Play.{play, commits_over, step, waits_at, whole}
use Rattle.model.specs.Answers.{first_place, bad_frame}
use Rattle.model.specs.Reading.{bad_sets, owes, owed, entry_call, item_list, info_in}
use Rattle.model.specs.Append.{entry_of, own_tests}
use Rattle.model.specs.Replica.{open_fresh, open_at, play_call, read_cell, audit}
use Rattle.model.specs.Run.{accept, run_at}
use Rattle.model.specs.Histories.{feed}

-- four entries: a plain update, number 9's update, its commit record, its decision
abbrev base : List Request
base = update 0 (put 2 7 4) ∷ update 9 (put 2 7 1 ++ put 5 1 2) ∷ commit_of 9 [] ∷ decides 2 1 ∷ []

abbrev four : ℕ → Lent
four slots = grown small (empty (replicate (small.layout.slot_size * slots) 7)) base

-- the numbers that a list of appends gets, each on the same log; 0 for done
abbrev codes : Lent → List Request → List ℕ
codes l qs = map (λ (q : Request). code (append small l.bytes l.tail q).new_tail) qs

abbrev by : ℕ → ℕ → ℕ → Request
by set position object = saves (record { hosting = set; position = position; count = 0 }) [] object

-- Update: 3 no write, 3 a key too high, 5 before 4, 4, done. Commit: 3 number 0, 3 before 4, 4, 6. Decision: 3 an offset, 3 an
-- outcome, 7, 8. Checkpoint: 10, 3 before 14, 14, done.
abbrev asked : List Request
asked =
    update 0 [] ∷ update 0 (put 2 10 1)
    ∷ update 9 (put 1 0 1 ++ put 2 0 1 ++ put 3 0 1 ++ put 4 0 1 ++ put 5 0 1) ∷ update 9 (put 1 0 1) ∷ update 0 (put 1 0 1)
    ∷ commit_of 0 [] ∷ commit_of 9 (read 2 7 9) ∷ commit_of 9 [] ∷ commit_of 8 []
    ∷ decides 9 1 ∷ decides 2 3 ∷ decides 0 1 ∷ decides 2 1
    ∷ by 0 4 2 ∷ by 2 3 5 ∷ by 2 3 2 ∷ by 2 4 2
    ∷ []

pub refusals-told : eq_list (let l = four 5 in codes l asked) (3 ∷ 3 ∷ 5 ∷ 4 ∷ 0 ∷ 3 ∷ 3 ∷ 4 ∷ 6 ∷ 3 ∷ 3 ∷ 7 ∷ 8 ∷ 10 ∷ 3 ∷ 14 ∷ 0 ∷ []) ≡ true
unfolding be_at bytes_of splice values joined first first_from picks eq_list writes_of stamps astray closed decided header_objects earlier write_bytes write_at read_bytes read_at saved_bytes saved_at item_bytes item_count header_of slot_of last_bytes decode slot log_in ok_entry lowest lowest_bad cell_at cell_bytes cells_of table_with apply saved_of play commits_over whole named waits_at bad_sets owes owed entry_call item_list info_in entry_of first_place own_tests append open_fresh open_at play_call read_cell audit accept run_at grown feed is_object is_cell hosted ok_write ok_writes ok_read ok_reads ok_names ok_saved narrow good_at lookup in_order store step bad_frame objects_in repeats
refusals-told = refl

-- a full log: 9, and the refusals that come before it
pub full-told : eq_list (let l = four 4 in codes l (update 0 (put 1 0 1) ∷ commit_of 8 [] ∷ decides 2 1 ∷ by 2 4 2 ∷ [])) (9 ∷ 6 ∷ 8 ∷ 9 ∷ []) ≡ true
unfolding be_at bytes_of splice values joined first first_from picks eq_list writes_of stamps astray closed decided header_objects earlier write_bytes write_at read_bytes read_at saved_bytes saved_at item_bytes item_count header_of slot_of last_bytes decode slot log_in ok_entry lowest lowest_bad cell_at cell_bytes cells_of table_with apply saved_of play commits_over whole named waits_at bad_sets owes owed entry_call item_list info_in entry_of first_place own_tests append open_fresh open_at play_call read_cell audit accept run_at grown feed is_object is_cell hosted ok_write ok_writes ok_read ok_reads ok_names ok_saved narrow good_at lookup in_order store step bad_frame objects_in repeats
full-told = refl

-- versions in a read set, on a log with an open number 8: 3, 4 and 6 come before 16; 9 comes after it

-- twelve writes, the last of them of (2, 7)
abbrev twelve : List ℕ
twelve = joined (λ (k : ℕ). put 2 k 1) (0 ∷ 1 ∷ 2 ∷ 3 ∷ 4 ∷ 5 ∷ 6 ∷ []) ++ joined (λ (k : ℕ). put 3 k 1) (0 ∷ 1 ∷ 2 ∷ []) ++ put 5 1 1 ++ put 2 7 4

abbrev sets : ℕ → Lent
sets slots = grown small (empty (replicate (small.layout.slot_size * slots) 7)) (update 0 twelve ∷ update 9 (put 2 7 1) ∷ commit_of 9 [] ∷ update 8 (put 2 7 1) ∷ [])

-- eleven reads: ten with version 0, and one with a commit record's version
abbrev eleven : List ℕ
eleven = joined (λ (k : ℕ). read 1 k 0) (0 ∷ 1 ∷ 2 ∷ []) ++ joined (λ (k : ℕ). read 2 k 0) (0 ∷ 1 ∷ 2 ∷ 3 ∷ 4 ∷ 5 ∷ 6 ∷ []) ++ read 2 7 3

abbrev tells_of : Lent → Request → Option ℕ
tells_of l q = tells (append small l.bytes l.tail q).new_tail

pub astray-told : (let l = sets 5 in
    eq_list (codes l (commit_of 9 (read 2 7 5) ∷ commit_of 9 (read 2 7 2) ∷ commit_of 7 (read 2 7 2) ∷ commit_of 8 (read 2 7 2) ∷ commit_of 8 (read 2 7 4) ∷ commit_of 8 (read 2 7 3)
    ∷ commit_of 8 (read 2 7 1) ∷ commit_of 8 (eleven ++ read 2 8 0) ∷ []))
    (3 ∷ 4 ∷ 6 ∷ 16 ∷ 16 ∷ 0 ∷ 0 ∷ 0 ∷ [])
    && same_offset (tells_of l (commit_of 8 (eleven ++ read 2 8 1))) (some 11)
    && same_offset (tells_of l (commit_of 8 (read 1 0 4 ++ read 2 7 2))) (some 0)) ≡ true
unfolding be_at bytes_of splice values joined first first_from picks eq_list writes_of stamps astray closed decided header_objects earlier write_bytes write_at read_bytes read_at saved_bytes saved_at item_bytes item_count header_of slot_of last_bytes decode slot log_in ok_entry lowest lowest_bad cell_at cell_bytes cells_of table_with apply saved_of play commits_over whole named waits_at bad_sets owes owed entry_call item_list info_in entry_of first_place own_tests append open_fresh open_at play_call read_cell audit accept run_at grown feed is_object is_cell hosted ok_write ok_writes ok_read ok_reads ok_names ok_saved narrow good_at lookup in_order store step bad_frame objects_in repeats
astray-told = refl

pub astray-full : eq_list (let l = sets 4 in codes l (commit_of 8 (read 2 7 2) ∷ commit_of 8 (read 2 7 3) ∷ [])) (16 ∷ 9 ∷ []) ≡ true
unfolding be_at bytes_of splice values joined first first_from picks eq_list writes_of stamps astray closed decided header_objects earlier write_bytes write_at read_bytes read_at saved_bytes saved_at item_bytes item_count header_of slot_of last_bytes decode slot log_in ok_entry lowest lowest_bad cell_at cell_bytes cells_of table_with apply saved_of play commits_over whole named waits_at bad_sets owes owed entry_call item_list info_in entry_of first_place own_tests append open_fresh open_at play_call read_cell audit accept run_at grown feed is_object is_cell hosted ok_write ok_writes ok_read ok_reads ok_names ok_saved narrow good_at lookup in_order store step bad_frame objects_in repeats
astray-full = refl

-- frame: the tail above the slots; a bad entry, with its offset
pub frame-told : (let l = four 5 in
    let above = (append small l.bytes 6 (update 0 (put 1 0 1))).new_tail in
    let junk = (append small l.bytes 5 (update 0 (put 1 0 1))).new_tail in
    eqb (code above) 1 && eqb (code junk) 2 && same_offset (tells junk) (some 4)) ≡ true
unfolding be_at bytes_of splice values joined first first_from picks eq_list writes_of stamps astray closed decided header_objects earlier write_bytes write_at read_bytes read_at saved_bytes saved_at item_bytes item_count header_of slot_of last_bytes decode slot log_in ok_entry lowest lowest_bad cell_at cell_bytes cells_of table_with apply saved_of play commits_over whole named waits_at bad_sets owes owed entry_call item_list info_in entry_of first_place own_tests append open_fresh open_at play_call read_cell audit accept run_at grown feed is_object is_cell hosted ok_write ok_writes ok_read ok_reads ok_names ok_saved narrow good_at lookup in_order store step bad_frame objects_in repeats
frame-told = refl

-- a table out of order: 10 after 1 and 2, before 3 and 14, also where the play's stop is its position; a cell reading, before 3
abbrev rows : List ℕ
rows = joined cell_bytes (cell 2 7 (some 4) 1 ∷ cell 2 3 (some 4) 1 ∷ [])

abbrev two : ℕ → Replica
two position = record { hosting = 2; position = position; count = 2 }

pub disorder-told : (let l = four 5 in
    let log = in_log small l in
    eq_list (code (append small l.bytes 6 (saves (two 6) rows 2)).new_tail ∷ code (append small l.bytes 5 (saves (two 5) rows 2)).new_tail ∷ []) (1 ∷ 2 ∷ [])
    && eq_list (codes l (saves (two 4) rows 5 ∷ saves (two 3) rows 2 ∷ saves (two 4) rows 2 ∷ [])) (10 ∷ 10 ∷ 10 ∷ [])
    && eq_list (code (play_call small log (two 4) rows 4).answer ∷ code (play_call small log (two 4) rows 5).answer ∷ code (play_call small log (two 0) rows 4).answer ∷ []) (10 ∷ 10 ∷ 10 ∷ [])
    && eq_list (code (read_cell small (two 4) rows 5 1) ∷ code (read_cell small (two 4) rows 2 7) ∷ []) (10 ∷ 10 ∷ [])) ≡ true
unfolding be_at bytes_of splice values joined first first_from picks eq_list writes_of stamps astray closed decided header_objects earlier write_bytes write_at read_bytes read_at saved_bytes saved_at item_bytes item_count header_of slot_of last_bytes decode slot log_in ok_entry lowest lowest_bad cell_at cell_bytes cells_of table_with apply saved_of play commits_over whole named waits_at bad_sets owes owed entry_call item_list info_in entry_of first_place own_tests append open_fresh open_at play_call read_cell audit accept run_at grown feed is_object is_cell hosted ok_write ok_writes ok_read ok_reads ok_names ok_saved narrow good_at lookup in_order store step bad_frame objects_in repeats
disorder-told = refl

-- the reader: found, the end, above the tail, no object; the list: done with the rest untouched, and too short
abbrev is_next : Next → ℕ → ℕ → Bool
is_next x c r = eqb (code x.found) c && eqb x.reader r

abbrev is_listed : Listed → ℕ → List ℕ → Bool
is_listed x c l = eqb (code x.count) c && eq_list x.list l

pub streams-told : (let log = in_log small (four 5) in
    is_next (stream_next small log 5 0) 0 2 && is_next (stream_next small log 5 4) 0 4 && is_next (stream_next small log 5 5) 3 5 && is_next (stream_next small log 9 0) 3 0
    && is_listed (stream_list small log 5 (replicate 5 7)) 0 (1 ∷ 2 ∷ 3 ∷ 7 ∷ 7 ∷ []) && is_listed (stream_list small log 2 (replicate 3 7)) 13 (7 ∷ 7 ∷ 7 ∷ [])) ≡ true
unfolding stream_next stream_list offsets_of be_at bytes_of splice values joined first first_from picks eq_list writes_of stamps astray closed decided header_objects earlier write_bytes write_at read_bytes read_at saved_bytes saved_at item_bytes item_count header_of slot_of last_bytes decode slot log_in ok_entry lowest lowest_bad cell_at cell_bytes cells_of table_with apply saved_of play commits_over whole named waits_at bad_sets owes owed entry_call item_list info_in entry_of first_place own_tests append open_fresh open_at play_call read_cell audit accept run_at grown feed is_object is_cell hosted ok_write ok_writes ok_read ok_reads ok_names ok_saved narrow good_at lookup in_order store step bad_frame objects_in repeats
streams-told = refl
