-- More small logs on which demands 2 and 3 are computed true, with what their calls answer (see `model` Samples).
use Rattle.std.specs.Prelude.{◌*◌, ◌≡◌, refl, true, List, [], ◌∷◌, ◌++◌, replicate}
use Rattle.std.proofs.Math.Option.{none, some}
use Rattle.lists.specs.Bytes.{be_at, bytes_of}
use Rattle.lists.specs.Splice.{splice}
use Rattle.lists.specs.Rows.{values, joined}
use Rattle.lists.specs.First.{first, first_from}
use Rattle.lists.specs.Picks.{picks}
use Rattle.lists.specs.Equal.{eq_list}
use Rattle.lists.specs.Sets.{all}
use Rattle.model.specs.Objects.{is_object, is_cell, hosted}
use Rattle.model.specs.Entries.{writes_of, stamps, astray, closed, decided, header_objects, earlier, named}
use Rattle.model.specs.Slot.{write_bytes, write_at, read_bytes, read_at, saved_bytes, saved_at, item_bytes, item_count, header_of, slot_of, decode, slot, log_in, objects_in, last_bytes}
use Rattle.model.specs.Rules.{ok_entry, lowest, lowest_bad, ok_write, ok_writes, ok_read, ok_reads, ok_saved, narrow, good_at, repeats, ok_names}
use Rattle.model.specs.Table.{cell_at, cell_bytes, cells_of, table_with, apply, saved_of, lookup, in_order, store}
use Rattle.model.specs.Play.{play, commits_over, step, waits_at, whole}
use Rattle.model.specs.Answers.{first_place, bad_frame}
use Rattle.model.specs.Reading.{bad_sets, owes, owed, entry_call, item_list, info_in}
use Rattle.model.specs.Append.{Request, update, decides, entry_of, own_tests, append}
use Rattle.model.specs.Replica.{open_fresh, open_at, play_call, read_cell, audit}
use Rattle.model.specs.Run.{accept, run_at}
use Rattle.model.specs.Histories.{empty, grown, feed, fresh, at_checkpoint}
use Rattle.model.specs.Worked.{put, remove, read, cell, commit_of}
use Rattle.model.specs.Samples.{small, Sample, sample_holds, backs_hold, to, but, five, one, all8, only2, only5, save, both, across, passes, fails, indebted}

abbrev bench : List Request
bench = update 0 (put 2 7 43) ∷ update 9 (put 2 7 42) ∷ update 10 (put 2 7 40) ∷ commit_of 9 (read 2 7 1) ∷ commit_of 10 (read 2 7 1) ∷ []

-- Outcomes, versions and waiting.
abbrev pub playing : List Sample
playing =
    -- two transactions that conflict, played in instalments
    passes bench 5 all8 (to 5 3 ∷ to 5 5 ∷ [])
    -- a commit that object 5's replica cannot decide alone: it waits, and goes on by the decision; object 2's decides it alone
    ∷ passes (across ++ (decides 1 1 ∷ [])) 3 only5 (but 2 2 12 1 ∷ to 3 3 ∷ [])
    ∷ passes (across ++ (decides 1 1 ∷ [])) 3 only2 (to 2 2 ∷ [])
    -- a stale read: an abort by decision
    ∷ passes (update 0 (put 2 7 5) ∷ across ++ (decides 2 2 ∷ [])) 4 only5 (to 4 4 ∷ [])
    -- an aborted transaction leaves the version that the next commit reads
    ∷ passes (update 0 (put 2 7 43) ∷ update 9 (put 2 7 42) ∷ commit_of 9 (read 2 7 0) ∷ update 10 (put 2 8 1) ∷ commit_of 10 (read 2 7 1) ∷ []) 5 all8 (to 5 5 ∷ [])
    -- the version is the commit record's, and is read by the next commit
    ∷ passes (update 9 (put 2 7 1) ∷ update 0 (put 5 1 1) ∷ commit_of 9 [] ∷ update 10 (put 5 2 1) ∷ commit_of 10 (read 2 7 3) ∷ []) 5 all8 (to 5 5 ∷ [])
    -- no room for the second cell: the first entry shows, and nothing of the second
    ∷ passes (update 0 (put 2 7 1) ∷ update 0 (put 2 7 2 ++ put 2 8 3) ∷ []) 2 (fresh 2 one) (but 2 2 13 1 ∷ [])
    ∷ []

-- Openings at a checkpoint, and false records.
abbrev pub checkpoints : List Sample
checkpoints =
    -- a removed cell has a version, and is saved and opened as removed; cells in key order
    passes (update 0 (put 2 8 5 ++ put 2 7 4) ∷ update 0 (remove 2 7) ∷ save 2 (cell 2 7 none 2 ∷ cell 2 8 (some 5) 1 ∷ [])
    ∷ update 9 (put 2 7 6) ∷ commit_of 9 (read 2 7 2) ∷ []) 5 (at_checkpoint 3 2 five) (to 5 5 ∷ [])
    -- refused openings: no checkpoint, no room
    ∷ passes (update 0 (put 2 7 4) ∷ []) 1 (at_checkpoint 1 0 five) []
    ∷ passes (update 0 (put 2 7 4) ∷ save 1 (cell 2 7 (some 4) 1 ∷ []) ∷ []) 2 (at_checkpoint 2 1 []) []
    -- false: a decision for commit; a checkpoint's version; a cell missing; the lowest of two
    ∷ fails (update 0 (put 2 7 5) ∷ across ++ (decides 2 1 ∷ [])) 4 3
    ∷ fails (update 0 (put 2 8 4) ∷ update 0 (put 2 7 4) ∷ save 2 (cell 2 7 (some 4) 1 ∷ cell 2 8 (some 4) 1 ∷ []) ∷ []) 3 2
    ∷ fails (update 0 (put 2 8 4) ∷ save 1 [] ∷ across ++ (decides 3 2 ∷ [])) 5 1
    ∷ []

-- Owed decisions, refused appends.
abbrev pub refusing : List Sample
refusing =
    -- a commit that reads outside a set with an object of its headers owes a decision; the lowest; not once it is paid; nothing to everything
    indebted (2 ∷ []) (update 9 (put 2 7 1) ∷ commit_of 9 (read 3 1 0) ∷ update 10 (put 2 7 1) ∷ commit_of 10 (read 4 1 0) ∷ []) 4 1
    ∷ indebted (16 ∷ 2 ∷ []) (update 9 (put 2 7 1) ∷ commit_of 9 (read 3 1 0) ∷ update 10 (put 2 7 1) ∷ commit_of 10 (read 4 1 0) ∷ decides 1 1 ∷ []) 5 3
    ∷ passes (update 9 (put 2 7 1) ∷ commit_of 9 (read 5 1 0) ∷ []) 2 all8 (to 2 1 ∷ [])
    -- refused: a key too high, a fifth object, a commit without update, a closed number, no commit record, a second decision
    ∷ passes (update 0 (put 2 10 1) ∷ update 9 (put 1 0 1 ++ put 2 0 1 ++ put 3 0 1 ++ put 4 0 1) ∷ update 9 (put 5 0 1) ∷ commit_of 8 [] ∷ commit_of 9 []
    ∷ update 9 (put 1 0 1) ∷ decides 0 1 ∷ decides 1 1 ∷ decides 1 1 ∷ []) 3 all8 (to 9 3 ∷ [])
    -- a full log; a later write to the same cell wins; the same key of two objects; a remove of a cell never written
    ∷ passes (update 0 (put 2 1 1 ++ put 2 1 2) ∷ update 0 (put 5 1 1) ∷ update 0 (remove 5 2) ∷ update 0 (put 6 0 1) ∷ update 0 (put 6 0 1)
    ∷ update 0 (put 2 1 4) ∷ []) 5 all8 (to 6 5 ∷ [])
    ∷ []

-- What was appended reads back: an entry of each kind.
abbrev pub written : List Request
written = update 0 (put 2 7 4 ++ remove 5 1) ∷ update 9 both ∷ commit_of 9 (read 1 1 0 ++ read 2 7 1) ∷ decides 2 1 ∷ save 4 (cell 2 7 (some 1) 3 ∷ []) ∷ []

pub written_back : backs_hold (empty (replicate (small.layout.slot_size * 5) 7)) written ≡ true
unfolding be_at bytes_of splice values joined first first_from picks eq_list writes_of stamps astray closed decided header_objects earlier write_bytes write_at read_bytes read_at saved_bytes saved_at item_bytes item_count header_of slot_of last_bytes decode slot log_in ok_entry lowest lowest_bad cell_at cell_bytes cells_of table_with apply saved_of play commits_over whole named waits_at bad_sets owes owed entry_call item_list info_in entry_of first_place own_tests append open_fresh open_at play_call read_cell audit accept run_at grown feed is_object is_cell hosted ok_write ok_writes ok_read ok_reads ok_names ok_saved narrow good_at lookup in_order store step bad_frame objects_in repeats
written_back = refl

pub playing-hold : all sample_holds playing ≡ true
unfolding sample_holds be_at bytes_of splice values joined first first_from picks eq_list writes_of stamps astray closed decided header_objects earlier write_bytes write_at read_bytes read_at saved_bytes saved_at item_bytes item_count header_of slot_of last_bytes decode slot log_in ok_entry lowest lowest_bad cell_at cell_bytes cells_of table_with apply saved_of play commits_over whole named waits_at bad_sets owes owed entry_call item_list info_in entry_of first_place own_tests append open_fresh open_at play_call read_cell audit accept run_at grown feed is_object is_cell hosted ok_write ok_writes ok_read ok_reads ok_names ok_saved narrow good_at lookup in_order store step bad_frame objects_in repeats
playing-hold = refl

pub checkpoints-hold : all sample_holds checkpoints ≡ true
unfolding sample_holds be_at bytes_of splice values joined first first_from picks eq_list writes_of stamps astray closed decided header_objects earlier write_bytes write_at read_bytes read_at saved_bytes saved_at item_bytes item_count header_of slot_of last_bytes decode slot log_in ok_entry lowest lowest_bad cell_at cell_bytes cells_of table_with apply saved_of play commits_over whole named waits_at bad_sets owes owed entry_call item_list info_in entry_of first_place own_tests append open_fresh open_at play_call read_cell audit accept run_at grown feed is_object is_cell hosted ok_write ok_writes ok_read ok_reads ok_names ok_saved narrow good_at lookup in_order store step bad_frame objects_in repeats
checkpoints-hold = refl

pub refusing-hold : all sample_holds refusing ≡ true
unfolding sample_holds be_at bytes_of splice values joined first first_from picks eq_list writes_of stamps astray closed decided header_objects earlier write_bytes write_at read_bytes read_at saved_bytes saved_at item_bytes item_count header_of slot_of last_bytes decode slot log_in ok_entry lowest lowest_bad cell_at cell_bytes cells_of table_with apply saved_of play commits_over whole named waits_at bad_sets owes owed entry_call item_list info_in entry_of first_place own_tests append open_fresh open_at play_call read_cell audit accept run_at grown feed is_object is_cell hosted ok_write ok_writes ok_read ok_reads ok_names ok_saved narrow good_at lookup in_order store step bad_frame objects_in repeats
refusing-hold = refl
