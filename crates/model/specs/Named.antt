-- Commit records that name other transactions, worked out: their bytes, what is refused, and the outcomes that replicas, the audit and the
-- owed call come to (specification 2.15, 3.12, 9.7, 9.14). Rows of the table of `Worked`, and one fact that covers them.
use Rattle.std.specs.Prelude.{ℕ, ◌+◌, ◌*◌, ◌≡◌, refl, Bool, true, false, ◌&&◌, List, [], ◌∷◌, ◌++◌, eqb, replicate}
use Rattle.std.proofs.Math.Option.{none, some}
use Rattle.lists.specs.Bytes.{be_at, bytes_of}
use Rattle.lists.specs.Splice.{splice}
use Rattle.lists.specs.Rows.{values, joined}
use Rattle.lists.specs.Picks.{picks}
use Rattle.lists.specs.First.{first, first_from}
use Rattle.lists.specs.Equal.{eq_list}
use Rattle.lists.specs.Sets.{all}
use Rattle.model.specs.Objects.{a_map, the_layout, depots, is_object, is_cell, hosted}
use Rattle.model.specs.Entries.{writes_of, stamps, astray, closed, decided, header_objects, earlier, named}
use Rattle.model.specs.Slot.{write_bytes, write_at, read_bytes, read_at, saved_bytes, saved_at, item_bytes, item_count, header_of, slot_of, decode, slot, log_in, objects_in, last_bytes, last_begin, two_numbers}
use Rattle.model.specs.Rules.{ok_entry, lowest, lowest_bad, ok_write, ok_writes, ok_read, ok_reads, ok_saved, narrow, good_at, repeats, ok_names}
use Rattle.model.specs.Directory.{record_at, ok_record, at_fault, record_bytes, directory_of, listed_in, fault_of}
use Rattle.model.specs.Table.{Cell, cell_at, cell_bytes, cells_of, table_with, apply, saved_of, lookup, in_order, store}
use Rattle.model.specs.Play.{play, commits_over, step, waits_at, whole}
use Rattle.model.specs.Answers.{Answer, done, refused, first_place, bad_frame}
use Rattle.model.specs.Reading.{Info, check, bad_sets, owes, owed, entry_call, info_in, item_list, stream_next, stream_list, offsets_of}
use Rattle.model.specs.Append.{Request, update, commits, decides, saves, entry_of, own_tests, append}
use Rattle.model.specs.Replica.{open_fresh, open_at, play_call, read_cell, audit}
use Rattle.model.specs.Report.{outcomes, report}
use Rattle.model.specs.Histories.{in_log, grown}
use Rattle.model.specs.Worked.{Row, printed, audited, player, goes_on, handed, both, spoilt, owing, row_holds, ends, stops, put, read, commit_of, line, cell, at, table_of, odd, lent_table, log_by, eight}

-- 9 commits; then 10, which names it
abbrev pub ordered : List Request
ordered = update 9 (put 5 1 6) ∷ commit_of 9 [] ∷ update 10 (put 4 2 1) ∷ commits 10 [] 9 0 ∷ []

-- 10 names 9, which commits above it; then 11, which names 10
abbrev pub early : List Request
early = update 9 (put 5 1 6) ∷ update 10 (put 4 2 1) ∷ commits 10 [] 9 0 ∷ commit_of 9 [] ∷ []

abbrev pub chained : List Request
chained = early ++ (update 11 (put 4 3 1) ∷ commits 11 [] 10 0 ∷ [])

-- the same order with a decision record that falsely says that 9 aborts
abbrev pub denied : List Request
denied = update 9 (put 5 1 6) ∷ commit_of 9 [] ∷ decides 1 2 ∷ update 10 (put 4 2 1) ∷ commits 10 [] 9 0 ∷ []

abbrev five1 : Cell
five1 = cell 5 1 (some 6) 2

abbrev four2 : ℕ → Cell
four2 v = cell 4 2 (some 1) v

-- where the last eight bytes of the entry at p begin
abbrev pub last_in : ℕ → ℕ
last_in p = the_layout.slot_size * p + last_begin the_layout

-- what a commit of 10 that names these is answered, and what the check answers of the same in the slot at 3
abbrev asked : ℕ → ℕ → ℕ → Row
asked a b n = handed eight (update 10 (put 4 2 1) ∷ []) (commits 10 [] a b) n

-- a directory of one map
abbrev alone5 : List ℕ
alone5 = directory_of (record { id = 5; kind = a_map; highest = 9; marked = false } ∷ [])

abbrev single : List Request
single = update 9 (put 5 1 6) ∷ commit_of 9 [] ∷ update 10 (put 5 2 1) ∷ commits 10 [] 9 0 ∷ []

abbrev pub following : List Row
following =
    -- a replica of everything works the order out; another that hosts both objects waits, and takes the decision; one of the first object alone passes the record over
    player ordered 255 96 (ends 4 (four2 4 ∷ five1 ∷ []))
    ∷ player ordered 24 96 (stops 12 3 (five1 ∷ []))
    ∷ player (ordered ++ (decides 3 1 ∷ [])) 24 96 (ends 5 (four2 4 ∷ five1 ∷ []))
    ∷ player ordered 16 96 (ends 4 (five1 ∷ []))
    -- a replica of all objects but one
    ∷ player ordered 127 96 (stops 12 3 (five1 ∷ []))
    ∷ player (ordered ++ (decides 3 1 ∷ [])) 127 96 (ends 5 (four2 4 ∷ five1 ∷ []))
    -- what is owed
    ∷ owing eight ordered 4 (24 ∷ []) 0 (some 3)
    ∷ owing eight ordered 4 (127 ∷ []) 0 (some 3)
    ∷ owing eight ordered 4 (16 ∷ []) 0 none
    ∷ owing eight ordered 4 (255 ∷ []) 0 none
    ∷ owing eight (ordered ++ (decides 3 1 ∷ [])) 5 (24 ∷ []) 0 none
    -- the audit
    ∷ printed ordered 96 (line 1 9 true ∷ line 3 10 true ∷ []) (four2 4 ∷ five1 ∷ [])
    ∷ audited (ordered ++ (decides 3 1 ∷ [])) 96 (ends 5 (four2 4 ∷ five1 ∷ []))
    ∷ audited (ordered ++ (decides 3 2 ∷ [])) 96 (record { answers = 11; told = some 4; position = 5; cells = four2 4 ∷ five1 ∷ [] })
    -- a number that commits above, and one that names a record which aborts
    ∷ printed early 96 (line 2 10 false ∷ line 3 9 true ∷ []) (cell 5 1 (some 6) 4 ∷ [])
    ∷ printed chained 96 (line 2 10 false ∷ line 3 9 true ∷ line 5 11 false ∷ []) (cell 5 1 (some 6) 4 ∷ [])
    ∷ audited (early ++ (decides 2 2 ∷ [])) 96 (ends 5 (cell 5 1 (some 6) 4 ∷ []))
    ∷ audited (early ++ (decides 2 1 ∷ [])) 96 (record { answers = 11; told = some 4; position = 5; cells = cell 5 1 (some 6) 4 ∷ [] })
    -- three in a chain; a number named whose read is stale; a stale read beside a number that committed; a number never used
    ∷ printed (ordered ++ (update 11 (put 4 3 1) ∷ commits 11 [] 10 0 ∷ [])) 96 (line 1 9 true ∷ line 3 10 true ∷ line 5 11 true ∷ []) (four2 4 ∷ cell 4 3 (some 1) 6 ∷ five1 ∷ [])
    ∷ printed (update 0 (put 2 7 1) ∷ update 9 (put 5 1 6) ∷ commit_of 9 (read 2 7 0) ∷ update 10 (put 4 2 1) ∷ commits 10 [] 9 0 ∷ []) 96
    (line 2 9 false ∷ line 4 10 false ∷ []) (cell 2 7 (some 1) 1 ∷ [])
    ∷ printed (update 9 (put 5 1 6) ∷ commit_of 9 [] ∷ update 10 (put 4 2 1) ∷ commits 10 (read 5 1 0) 9 0 ∷ []) 96 (line 1 9 true ∷ line 3 10 false ∷ []) (five1 ∷ [])
    ∷ printed (update 10 (put 4 2 1) ∷ commits 10 [] 7 0 ∷ []) 96 (line 1 10 false ∷ []) []
    -- two numbers: both committed; the first alone; the second alone
    ∷ printed (update 8 (put 5 1 6) ∷ commit_of 8 [] ∷ update 9 (put 5 2 6) ∷ commit_of 9 [] ∷ update 10 (put 4 2 1) ∷ commits 10 [] 8 9 ∷ []) 96
    (line 1 8 true ∷ line 3 9 true ∷ line 5 10 true ∷ []) (four2 6 ∷ five1 ∷ cell 5 2 (some 6) 4 ∷ [])
    ∷ printed (update 9 (put 5 1 6) ∷ commit_of 9 [] ∷ update 10 (put 4 2 1) ∷ commits 10 [] 9 11 ∷ []) 96 (line 1 9 true ∷ line 3 10 false ∷ []) (five1 ∷ [])
    ∷ printed (update 9 (put 5 1 6) ∷ commit_of 9 [] ∷ update 10 (put 4 2 1) ∷ commits 10 [] 8 9 ∷ []) 96 (line 1 9 true ∷ line 3 10 false ∷ []) (five1 ∷ [])
    -- which numbers may be named: in a request, and in a slot
    ∷ asked 0 0 0
    ∷ asked 9 0 0
    ∷ asked 9 11 0
    ∷ asked 0 9 3
    ∷ asked 9 9 3
    ∷ asked 11 9 3
    ∷ asked 10 0 3
    ∷ asked 9 10 3
    ∷ asked 10 11 3
    ∷ asked 4294967296 0 3
    ∷ asked 9 4294967296 3
    ∷ asked 4294967294 4294967295 0
    ∷ spoilt ordered (last_in 3) (two_numbers 0 0) 0 none
    ∷ spoilt ordered (last_in 3) (two_numbers 9 11) 0 none
    ∷ spoilt ordered (last_in 3) (two_numbers 0 9) 2 (some 3)
    ∷ spoilt ordered (last_in 3) (two_numbers 9 9) 2 (some 3)
    ∷ spoilt ordered (last_in 3) (two_numbers 11 9) 2 (some 3)
    ∷ spoilt ordered (last_in 3) (two_numbers 10 0) 2 (some 3)
    ∷ spoilt ordered (last_in 3) (two_numbers 9 10) 2 (some 3)
    -- bad names come before a closed number
    ∷ handed eight ordered (commits 9 [] 9 0) 3
    ∷ handed eight ordered (commits 9 [] 8 0) 4
    -- other kinds have zeros there
    ∷ spoilt ordered (last_in 0 + 2) (1 ∷ []) 2 (some 0)
    ∷ spoilt (update 0 (put 5 1 6) ∷ []) (last_in 0 + 7) (1 ∷ []) 2 (some 0)
    ∷ spoilt (ordered ++ (decides 3 1 ∷ [])) (last_in 4 + 2) (1 ∷ []) 2 (some 4)
    ∷ spoilt (saves (at 2 0 0) [] 2 ∷ []) (last_in 0 + 2) (1 ∷ []) 2 (some 0)
    -- in instalments; from a record without a cell, and from one with rows that no player made: its reads are judged by its own cells, its names by the log
    ∷ goes_on (update 9 (put 5 1 6) ∷ commit_of 9 [] ∷ update 10 (put 4 2 1) ∷ []) (at 255 0 0) (lent_table 48) 0 (at 255 3 1) (table_of (five1 ∷ []) ++ lent_table 24)
    ∷ goes_on ordered (at 255 3 1) (table_of (five1 ∷ []) ++ lent_table 24) 0 (at 255 4 2) (table_of (four2 4 ∷ five1 ∷ []))
    ∷ goes_on ordered (at 255 3 0) (lent_table 48) 0 (at 255 4 1) (table_of (four2 4 ∷ []) ++ lent_table 24)
    ∷ goes_on ordered (at 255 3 1) (table_of (odd 5 1 ∷ []) ++ lent_table 24) 0 (at 255 4 2) (table_of (four2 4 ∷ odd 5 1 ∷ []))
    ∷ goes_on early (at 255 2 1) (table_of (five1 ∷ []) ++ lent_table 24) 0 (at 255 4 1) (table_of (cell 5 1 (some 6) 4 ∷ []) ++ lent_table 24)
    -- a decision record that is false counts for nothing where the outcome is worked out
    ∷ player denied 255 96 (ends 5 (four2 5 ∷ five1 ∷ []))
    ∷ goes_on denied (at 255 3 0) (lent_table 48) 0 (at 255 5 1) (table_of (four2 5 ∷ []) ++ lent_table 24)
    -- a directory of one object: every replica hosts everything
    ∷ both alone5 single 1 96 (ends 4 (five1 ∷ cell 5 2 (some 1) 4 ∷ [])) 1 (five1 ∷ cell 5 2 (some 1) 4 ∷ [])
    ∷ owing alone5 single 4 (1 ∷ []) 0 none
    ∷ []

pub followed : all row_holds following ≡ true
unfolding row_holds be_at bytes_of splice values joined first first_from picks eq_list writes_of stamps astray closed decided header_objects earlier write_bytes write_at read_bytes read_at saved_bytes saved_at item_bytes item_count header_of slot_of last_bytes decode slot log_in ok_entry lowest lowest_bad record_at ok_record at_fault listed_in fault_of record_bytes directory_of cell_at cell_bytes cells_of table_with apply saved_of play commits_over whole named entry_of first_place own_tests append open_fresh open_at play_call read_cell audit grown is_object is_cell hosted ok_write ok_writes ok_read ok_reads ok_names ok_saved narrow good_at lookup in_order store step bad_frame objects_in repeats check waits_at bad_sets owes owed entry_call info_in item_list stream_next stream_list offsets_of report outcomes
followed = refl

-- ---- bytes

-- the commit record of 10 in the ordered log, and what the entry call tells of it
abbrev told : Answer Info → ℕ → ℕ → Bool
told (done i) a b = eqb i.kind 2 && eqb i.number 10 && eqb i.items 0 && eqb i.first a && eqb i.second b
told (refused r) a b = false

pub names-written : (let l = log_by 6 ordered in
    eq_list (slot the_layout l.bytes 3) (
    0x43 ∷ 0x4F ∷ 0x01 ∷ 0x00 ∷ 0x00 ∷ 0x00 ∷ 0x00 ∷ 0x0A
    ∷ 0x00 ∷ 0x00 ∷ 0x00 ∷ 0x04 ∷ 0x00 ∷ 0x01 ∷ 0x00 ∷ 0x00 ∷ 0x00 ∷ 0x00 ∷ 0x00 ∷ 0x00
    ∷ replicate 228 0
    ++ 0x00 ∷ 0x00 ∷ 0x00 ∷ 0x09 ∷ 0x00 ∷ 0x00 ∷ 0x00 ∷ 0x00 ∷ [])
    && told (entry_call depots (in_log depots l) 3) 9 0) ≡ true
unfolding row_holds be_at bytes_of splice values joined first first_from picks eq_list writes_of stamps astray closed decided header_objects earlier write_bytes write_at read_bytes read_at saved_bytes saved_at item_bytes item_count header_of slot_of last_bytes decode slot log_in ok_entry lowest lowest_bad record_at ok_record at_fault listed_in fault_of record_bytes directory_of cell_at cell_bytes cells_of table_with apply saved_of play commits_over whole named entry_of first_place own_tests append open_fresh open_at play_call read_cell audit grown is_object is_cell hosted ok_write ok_writes ok_read ok_reads ok_names ok_saved narrow good_at lookup in_order store step bad_frame objects_in repeats check waits_at bad_sets owes owed entry_call info_in item_list stream_next stream_list offsets_of report outcomes
names-written = refl
