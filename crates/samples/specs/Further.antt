-- Rows beside the worked logs, over the eight objects: what audits and openings tell and leave, byte for byte; the limits of an
-- entry's items; the order of reads; the present field of a lent table.
use Rattle.std.specs.Prelude.{ℕ, ◌≡◌, refl, Bool, true, cond, ◌&&◌, List, [], ◌∷◌, ◌++◌, map, eqb, take, drop}
use Rattle.std.proofs.Math.Option.{none, some}
use Rattle.lists.specs.Bytes.{be_at, bytes_of}
use Rattle.lists.specs.Splice.{splice}
use Rattle.lists.specs.Rows.{values, joined}
use Rattle.lists.specs.First.{first, first_from}
use Rattle.lists.specs.Equal.{eq_list}
use Rattle.lists.specs.Sets.{all}
use Rattle.model.specs.Objects.{the_layout, depots, everything, is_object, is_cell, hosted}
use Rattle.model.specs.Entries.{writes_of, stamps, astray, closed, decided, header_objects, earlier, named}
use Rattle.model.specs.Slot.{write_bytes, write_at, read_bytes, read_at, saved_bytes, saved_at, item_bytes, item_count, header_of, slot_of, decode, slot, log_in, log_of, objects_in, last_bytes}
use Rattle.model.specs.Rules.{ok_entry, lowest, lowest_bad, ok_write, ok_writes, ok_read, ok_reads, ok_saved, narrow, good_at, repeats, ok_names}
use Rattle.model.specs.Table.{Cell, cell_at, cell_bytes, cells_of, table_with, apply, saved_of, lookup, in_order, store}
use Rattle.model.specs.Play.{play, commits_over, step, whole}
use Rattle.model.specs.Answers.{first_place, bad_frame}
use Rattle.model.specs.Append.{Request, update, decides, saves, entry_of, own_tests, append}
use Rattle.model.specs.Replica.{open_fresh, open_at, play_call, read_cell, audit}
use Rattle.model.specs.Report.{outcomes, report}
use Rattle.model.specs.Histories.{Lent, in_log, grown}
use Rattle.model.specs.Worked.{Row, audited, ends, stops, row_holds, left_is, lent_table, fresh_to, over, version_byte, same_cells, code, put, remove, read, cell, log_by, bench, commit_of}
use Rattle.model.specs.Samples.{is_shown, save, both, across}

-- The audit's own record and table.
abbrev pub audits : List Row
audits =
    -- 13 at an update, and at a commit record whose updates lie below it: it tells the entry at which it stopped
    audited (update 0 (put 2 7 1) ∷ update 0 (put 2 7 2 ++ put 5 1 3) ∷ []) 47
    (record { answers = 13; told = some 1; position = 1; cells = cell 2 7 (some 1) 1 ∷ [] })
    ∷ audited (update 9 both ∷ update 0 (remove 5 1) ∷ commit_of 9 [] ∷ []) 24
    (record { answers = 13; told = some 2; position = 2; cells = cell 5 1 none 2 ∷ [] })
    -- 11 tells the lowest false record; the scratch table is as played to the tail
    ∷ audited (across ++ (decides 1 2 ∷ update 0 (put 2 7 9) ∷ save 4 [] ∷ [])) 96
    (record { answers = 11; told = some 2; position = 5; cells = cell 2 7 (some 9) 4 ∷ cell 5 1 (some 2) 2 ∷ [] })
    -- passed: cells in their order, not that of first writing
    ∷ audited (update 0 (put 5 1 1 ++ put 2 7 1) ∷ update 0 (remove 2 7 ++ put 5 1 2) ∷ []) 50 (ends 2 (cell 2 7 none 2 ∷ cell 5 1 (some 2) 2 ∷ []))
    ∷ []

pub audits-left : all row_holds audits ≡ true
unfolding row_holds be_at bytes_of splice values joined first first_from eq_list writes_of stamps astray closed decided header_objects earlier write_bytes write_at read_bytes read_at saved_bytes saved_at item_bytes item_count header_of slot_of last_bytes decode slot log_in ok_entry lowest lowest_bad cell_at cell_bytes cells_of table_with apply saved_of play commits_over whole named entry_of first_place own_tests append open_fresh open_at play_call read_cell audit outcomes report grown is_object is_cell hosted ok_write ok_writes ok_read ok_reads ok_names ok_saved narrow good_at lookup in_order store step bad_frame objects_in repeats
audits-left = refl

-- 1 and 2 leave the scratch table as it was. 2 tells the lowest bad entry: a slot of junk at 5; with the first slot cut off, the entry at 0,
-- whose distance leads below the log.
pub audits-refused : (let l = log_by 6 (bench 1) in
    left_is 0 48 (audit depots (log_of the_layout l.bytes 6) (lent_table 48)) (record { answers = 2; told = some 5; position = 0; cells = [] })
    && left_is 0 48 (audit depots (log_of the_layout (drop the_layout.slot_size l.bytes) 5) (lent_table 48)) (record { answers = 2; told = some 0; position = 0; cells = [] })
    && left_is 0 48 (audit depots (log_of the_layout l.bytes 7) (lent_table 48)) (stops 1 0 [])) ≡ true
unfolding be_at bytes_of splice values joined first first_from eq_list writes_of stamps astray closed decided header_objects earlier write_bytes write_at read_bytes read_at saved_bytes saved_at item_bytes item_count header_of slot_of last_bytes decode slot log_in ok_entry lowest lowest_bad cell_at cell_bytes cells_of table_with apply saved_of play commits_over whole named entry_of first_place own_tests append open_fresh open_at play_call read_cell audit outcomes report grown is_object is_cell hosted ok_write ok_writes ok_read ok_reads ok_names ok_saved narrow good_at lookup in_order store step bad_frame objects_in repeats
audits-refused = refl

-- an entry whose read is astray, put there by hand, is judged, played and audited as any other: number 9 aborts, and 10 commits
pub astray-played : (let l = over (log_by 6 (bench 1)) (version_byte 3) (2 ∷ []) in
    let e = ends 5 (cell 2 7 (some 40) 5 ∷ []) in
    left_is (everything depots) 48 (audit depots (in_log depots l) (lent_table 48)) e && left_is 2 48 (fresh_to l 2 48) e) ≡ true
unfolding be_at bytes_of splice values joined first first_from eq_list writes_of stamps astray closed decided header_objects earlier write_bytes write_at read_bytes read_at saved_bytes saved_at item_bytes item_count header_of slot_of last_bytes decode slot log_in ok_entry lowest lowest_bad cell_at cell_bytes cells_of table_with apply saved_of play commits_over whole named entry_of first_place own_tests append open_fresh open_at play_call read_cell audit outcomes report grown is_object is_cell hosted ok_write ok_writes ok_read ok_reads ok_names ok_saved narrow good_at lookup in_order store step bad_frame objects_in repeats
astray-played = refl

-- the program prints cells ascending by object, then key
pub cells-printed : (let l = log_by 6 (update 0 (put 5 1 1 ++ put 2 8 2 ++ put 2 7 3) ∷ []) in
    same_cells (report depots (in_log depots l) (lent_table 72)).cells (cell 2 7 (some 3) 1 ∷ cell 2 8 (some 2) 1 ∷ cell 5 1 (some 1) 1 ∷ [])) ≡ true
unfolding be_at bytes_of splice values joined first first_from eq_list writes_of stamps astray closed decided header_objects earlier write_bytes write_at read_bytes read_at saved_bytes saved_at item_bytes item_count header_of slot_of last_bytes decode slot log_in ok_entry lowest lowest_bad cell_at cell_bytes cells_of table_with apply saved_of play commits_over whole named entry_of first_place own_tests append open_fresh open_at play_call read_cell audit outcomes report grown is_object is_cell hosted ok_write ok_writes ok_read ok_reads ok_names ok_saved narrow good_at lookup in_order store step bad_frame objects_in repeats
cells-printed = refl

-- An opening at a checkpoint: its object alone, from the next offset, its cells in key order; then a play from there. Refused,
-- no record and nothing changed: no room, an entry that is no checkpoint, an offset that is not below the tail.
abbrev saving : List Request
saving = update 0 (put 2 8 5 ++ put 2 7 4) ∷ update 0 (remove 2 7) ∷ save 2 (cell 2 7 none 2 ∷ cell 2 8 (some 5) 1 ∷ []) ∷ update 0 (put 5 1 1 ++ put 2 7 6) ∷ []

pub openings-left : (let l = log_by 6 saving in
    let o = open_at depots (in_log depots l) 2 (lent_table 50) in
    left_is 2 50 o (ends 3 (cell 2 7 none 2 ∷ cell 2 8 (some 5) 1 ∷ []))
    && left_is 2 50 (play_call depots (in_log depots l) o.replica o.table 4) (ends 4 (cell 2 7 (some 6) 4 ∷ cell 2 8 (some 5) 1 ∷ []))
    && left_is 0 47 (open_at depots (in_log depots l) 2 (lent_table 47)) (stops 13 0 [])
    && left_is 0 50 (open_at depots (in_log depots l) 1 (lent_table 50)) (stops 3 0 [])
    && left_is 0 50 (open_at depots (in_log depots l) 4 (lent_table 50)) (stops 3 0 [])) ≡ true
unfolding be_at bytes_of splice values joined first first_from eq_list writes_of stamps astray closed decided header_objects earlier write_bytes write_at read_bytes read_at saved_bytes saved_at item_bytes item_count header_of slot_of last_bytes decode slot log_in ok_entry lowest lowest_bad cell_at cell_bytes cells_of table_with apply saved_of play commits_over whole named entry_of first_place own_tests append open_fresh open_at play_call read_cell audit outcomes report grown is_object is_cell hosted ok_write ok_writes ok_read ok_reads ok_names ok_saved narrow good_at lookup in_order store step bad_frame objects_in repeats
openings-left = refl

-- What a list of appends is answered, each on the same log of three entries.
abbrev three : Lent
three = log_by 4 (update 0 (put 2 7 4) ∷ update 9 (put 2 7 1) ∷ update 0 (put 2 8 1) ∷ [])

abbrev answered : List Request → List ℕ
answered qs = let l = three in map (λ (q : Request). code (append depots l.bytes l.tail q).new_tail) qs

abbrev many : (ℕ → List ℕ) → ℕ → List ℕ
many f n = joined f (values (λ i. i) 0 n)

abbrev saves2 : ℕ → Request
saves2 n = saves (record { hosting = 2; position = 3; count = n }) (many (λ i. cell_bytes (cell 2 i (some 1) 1)) n) 2

-- 12 writes, reads and cells are done, 13 are refused; keys at the highest and above it; an object that is not in the list
pub limits-told : eq_list (answered (
    update 0 (many (λ i. put 2 i 1) 12) ∷ update 0 (many (λ i. put 2 i 1) 13)
    ∷ commit_of 9 (many (λ i. read 2 i 0) 12) ∷ commit_of 9 (many (λ i. read 2 i 0) 13)
    ∷ saves2 12 ∷ saves2 13
    ∷ update 0 (put 1 9999 1) ∷ update 0 (put 1 10000 1) ∷ update 0 (put 8 0 1) ∷ update 0 (put 8 1 1) ∷ update 0 (put 9 0 1)
    ∷ [])) (0 ∷ 3 ∷ 0 ∷ 3 ∷ 0 ∷ 13 ∷ 0 ∷ 3 ∷ 0 ∷ 3 ∷ 3 ∷ []) ≡ true
unfolding be_at bytes_of splice values joined first first_from eq_list writes_of stamps astray closed decided header_objects earlier write_bytes write_at read_bytes read_at saved_bytes saved_at item_bytes item_count header_of slot_of last_bytes decode slot log_in ok_entry lowest lowest_bad cell_at cell_bytes cells_of table_with apply saved_of play commits_over whole named entry_of first_place own_tests append open_fresh open_at play_call read_cell audit outcomes report grown is_object is_cell hosted ok_write ok_writes ok_read ok_reads ok_names ok_saved narrow good_at lookup in_order store step bad_frame objects_in repeats
limits-told = refl

-- Reads ascend strictly by object, then key: done, done; objects, keys or a cell twice, 3. A version of the tail is done, above it 3.
pub reads-told : eq_list (answered (
    commit_of 9 (read 2 7 1 ++ read 2 8 3) ∷ commit_of 9 (read 2 8 0 ++ read 5 1 0)
    ∷ commit_of 9 (read 5 1 0 ++ read 2 8 0) ∷ commit_of 9 (read 2 8 0 ++ read 2 7 0) ∷ commit_of 9 (read 2 7 0 ++ read 2 7 0)
    ∷ commit_of 9 (read 2 7 4)
    ∷ [])) (0 ∷ 0 ∷ 3 ∷ 3 ∷ 3 ∷ 3 ∷ []) ≡ true
unfolding be_at bytes_of splice values joined first first_from eq_list writes_of stamps astray closed decided header_objects earlier write_bytes write_at read_bytes read_at saved_bytes saved_at item_bytes item_count header_of slot_of last_bytes decode slot log_in ok_entry lowest lowest_bad cell_at cell_bytes cells_of table_with apply saved_of play commits_over whole named entry_of first_place own_tests append open_fresh open_at play_call read_cell audit outcomes report grown is_object is_cell hosted ok_write ok_writes ok_read ok_reads ok_names ok_saved narrow good_at lookup in_order store step bad_frame objects_in repeats
reads-told = refl

-- A lent table: a present field other than 1 is removed, also where its last or its first byte is 1; a cell twice is a bad record.
abbrev stored : ℕ → ℕ → Cell
stored key present = record { object = 2; key = key; value = 9; present = present; version = 1 }

abbrev lent : List ℕ
lent = joined cell_bytes (stored 0 0 ∷ stored 1 1 ∷ stored 2 2 ∷ stored 3 0x0101 ∷ stored 4 0x01000000 ∷ stored 4 1 ∷ [])

abbrev shows : ℕ → Bool
shows key = is_shown (read_cell depots (record { hosting = 2; position = 3; count = 5 }) lent 2 key)
    (some (record { version = 1; content = cond (eqb key 1) (some 9) none }))

abbrev gone : ℕ → List ℕ
gone key = 0 ∷ 0 ∷ 0 ∷ key ∷ 0 ∷ 0 ∷ 0 ∷ 0 ∷ 0x80 ∷ 0 ∷ 0 ∷ 0 ∷ 0 ∷ 0 ∷ 0 ∷ 1 ∷ []

-- as cell reading shows them, and as a checkpoint keeps them; with the cell that is there twice, refused
pub present-told : (eqb (code (read_cell depots (record { hosting = 2; position = 3; count = 6 }) lent 2 4)) 10 && all shows (0 ∷ 1 ∷ 2 ∷ 3 ∷ 4 ∷ [])
    && eq_list (let l = three in take 80 (drop 824 (append depots l.bytes 3 (saves (record { hosting = 2; position = 3; count = 5 }) lent 2)).bytes))
    (gone 0 ++ (0 ∷ 0 ∷ 0 ∷ 1 ∷ 0 ∷ 0 ∷ 0 ∷ 9 ∷ 0 ∷ 0 ∷ 0 ∷ 0 ∷ 0 ∷ 0 ∷ 0 ∷ 1 ∷ []) ++ gone 2 ++ gone 3 ++ gone 4)) ≡ true
unfolding be_at bytes_of splice values joined first first_from eq_list writes_of stamps astray closed decided header_objects earlier write_bytes write_at read_bytes read_at saved_bytes saved_at item_bytes item_count header_of slot_of last_bytes decode slot log_in ok_entry lowest lowest_bad cell_at cell_bytes cells_of table_with apply saved_of play commits_over whole named entry_of first_place own_tests append open_fresh open_at play_call read_cell audit outcomes report grown is_object is_cell hosted ok_write ok_writes ok_read ok_reads ok_names ok_saved narrow good_at lookup in_order store step bad_frame objects_in repeats
present-told = refl
