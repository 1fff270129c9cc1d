-- The worked logs marked (P) as one table, and one fact that covers all its rows (specification §16). Beside it the worked
-- examples of what was asked for later, as another.
use Rattle.std.specs.Prelude.{ℕ, ◌+◌, ◌-◌, ◌*◌, ◌≡◌, refl, Bool, true, false, cond, ◌&&◌, List, [], ◌∷◌, ◌++◌, map, eqb, length, take, drop, replicate}
use Rattle.std.specs.Bool.{beq}
use Rattle.std.proofs.Math.Option.{Option, none, some}
use Rattle.lists.specs.Bytes.{be_at, bytes_of}
use Rattle.lists.specs.Splice.{splice}
use Rattle.lists.specs.Rows.{values, joined}
use Rattle.lists.specs.Picks.{picks}
use Rattle.lists.specs.First.{first, first_from}
use Rattle.lists.specs.Equal.{eq_list}
use Rattle.lists.specs.Sets.{all}
use Rattle.model.specs.Objects.{a_map, a_register, the_objects, the_layout, depots, Shape, everything, is_object, is_cell, hosted}
use Rattle.model.specs.Entries.{checkpoint, Log, writes_of, stamps, astray, closed, decided, header_objects, earlier, named}
use Rattle.model.specs.Slot.{headers_begin, header_size, items_begin, distance_to, header_with, write_bytes, write_at, read_bytes, read_at, saved_bytes, saved_at, item_bytes, item_count, header_of, slot_of, decode, slot, log_in, objects_in, last_bytes}
use Rattle.model.specs.Headers.{BackPointer, nothing, at as entry_at, past, format_at, backs_at, due_format, due_backs}
use Rattle.model.specs.Rules.{ok_entry, lowest, lowest_bad, ok_write, ok_writes, ok_read, ok_reads, ok_saved, narrow, good_at, repeats, ok_names}
use Rattle.model.specs.Directory.{record_size, record_at, ok_record, at_fault, shape_of, record_bytes, directory_of, listed_in, fault_of}
use Rattle.model.specs.Table.{Cell, cell_size, cell_at, cell_bytes, cells_of, table_with, apply, saved_of, cell_of, lookup, in_order, store}
use Rattle.model.specs.Play.{play, commits_over, step, waits_at, whole}
use Rattle.model.specs.Answers.{Answer, done, refused, first_place, bad_frame}
use Rattle.model.specs.Reading.{check, bad_sets, owes, owed, entry_call, info_in, item_list, stream_next, stream_list, offsets_of}
use Rattle.model.specs.Append.{Replica, Request, update, commits, decides, saves, entry_of, own_tests, append}
use Rattle.model.specs.Replica.{Left, unopened, open_fresh, open_at, play_call, read_cell, same_content, audit}
use Rattle.model.specs.Report.{Outcome, outcomes, report}
use Rattle.model.specs.Histories.{Lent, in_log, empty, grown}

-- Arguments of appends, as bytes.
abbrev pub put : ℕ → ℕ → ℕ → List ℕ
put o k v = write_bytes (record { object = o; key = k; operation = 1; value = v })

abbrev pub remove : ℕ → ℕ → List ℕ
remove o k = write_bytes (record { object = o; key = k; operation = 2; value = 0 })

abbrev pub read : ℕ → ℕ → ℕ → List ℕ
read o k v = read_bytes (record { object = o; key = k; version = v })

-- a commit that names no number
abbrev pub commit_of : ℕ → List ℕ → Request
commit_of n reads = commits n reads 0 0

-- the log that these appends leave in n slots of any bytes (here 7)
abbrev pub log_by : ℕ → List Request → Lent
log_by n qs = grown depots (empty (replicate (the_layout.slot_size * n) 7)) qs

-- the bench log (16.1), with the read version of entry 3
abbrev pub bench : ℕ → List Request
bench v = update 0 (put 2 7 43) ∷ update 9 (put 2 7 42) ∷ update 10 (put 2 7 40) ∷ commit_of 9 (read 2 7 v) ∷ commit_of 10 (read 2 7 1) ∷ []

-- a log whose entry at 0 is of object 2, and every other of object 1
abbrev pub sparse : Log
sparse = record { size = 0; used = []; tail = 65537; entry = λ o. checkpoint (cond (eqb o 0) 2 1) [] }

-- What a call on a replica answers (0 for done), what it tells, and the position and the cells that it leaves.
pub record Ends : Type 0 where
  pub answers : ℕ
  pub told : Option ℕ
  pub position : ℕ
  pub cells : List Cell

-- done at a position; refused, telling nothing
abbrev pub ends : ℕ → List Cell → Ends
ends p cs = record { answers = 0; told = none; position = p; cells = cs }

abbrev pub stops : ℕ → ℕ → List Cell → Ends
stops c p cs = record { answers = c; told = none; position = p; cells = cs }

-- The table's rows.
pub data Row : Type 0 where
  -- the appends, an offset, and the 12 bytes of the entry's first header
  header : List Request → ℕ → List ℕ → Row
  -- an offset, and the 12 bytes of object 2's header there, its only earlier entry being 0
  far : ℕ → List ℕ → Row
  -- the appends and the bytes of the scratch table: the audit passes, and what is printed
  printed : List Request → ℕ → List Outcome → List Cell → Row
  -- the appends, the bytes of the scratch table, and what the audit answers, tells and leaves
  audited : List Request → ℕ → Ends → Row
  -- the appends, a hosted set, the bytes of the table, and what a play of a fresh replica to the tail answers, tells and leaves
  player : List Request → ℕ → ℕ → Ends → Row
  -- the appends, a record and its table, and what a play to the tail answers and leaves: the record, and all bytes of the table
  goes_on : List Request → Replica → List ℕ → ℕ → Replica → List ℕ → Row
  -- the appends, a record at the tail and its table, a cell: what a play to the tail, reading the cell and a checkpoint of its object are answered
  takes : List Request → Replica → List ℕ → ℕ → ℕ → List ℕ → Row
  -- an offset, the 12 bytes of a header there, and the format and the back-pointers that are read
  reads : ℕ → List ℕ → ℕ → List BackPointer → Row
  -- an offset, an object's earlier offsets, and the format and the back-pointers due
  due : ℕ → List ℕ → ℕ → List BackPointer → Row
  -- the appends, bytes put over the log's at a place, and what the check answers and tells
  spoilt : List Request → ℕ → List ℕ → ℕ → Option ℕ → Row
  -- an offset, an earlier offset or none, and the distance between them as it is stored
  apart : ℕ → Option ℕ → ℕ → Row
  -- a number of slots, the appends, a commit's number and reads, and what the commit is answered and told
  asks : ℕ → List Request → ℕ → List ℕ → ℕ → Option ℕ → Row
  -- a directory's bytes, and the first place at fault
  faulty : List ℕ → Option ℕ → Row
  -- a directory, a hosted set, and what opening fresh is answered
  opens : List ℕ → ℕ → ℕ → Row
  -- a directory, the appends made with it, one more, and what that is answered
  handed : List ℕ → List Request → Request → ℕ → Row
  -- a directory, the appends made with the eight's, and what the check with the directory answers and tells
  checked : List ℕ → List Request → ℕ → Option ℕ → Row
  -- a directory, the appends made with it, a hosted set, the bytes of the table: what a play of a fresh replica to the tail answers and leaves, and
  -- the hosted set and the cells that an audit leaves
  both : List ℕ → List Request → ℕ → ℕ → Ends → ℕ → List Cell → Row
  -- a directory, the appends made with it, an offset, and the record that opening there leaves
  opens_at : List ℕ → List Request → ℕ → Replica → Row
  -- an offset, an object, its earlier offsets, and the bytes of its header
  headed : ℕ → ℕ → List ℕ → List ℕ → Row
  -- a directory, and what every call with arguments that are all bad is answered, in the order of `all_calls`
  judged : List ℕ → List ℕ → Row
  -- a directory, the appends made with it, a tail, declared sets, and what owed answers, with the offset that owes or what is told
  owing : List ℕ → List Request → ℕ → List ℕ → ℕ → Option ℕ → Row

-- 0 for done, else the number of a refusal
abbrev pub code : {A : Type 0} → Answer A → ℕ
code (done a) = 0
code (refused r) = r.number

-- what a refusal tells
abbrev pub tells : {A : Type 0} → Answer A → Option ℕ
tells (done a) = none
tells (refused r) = r.told

-- the offset that owes, or what a refusal tells
abbrev pub offset_owed : Answer (Option ℕ) → Option ℕ
offset_owed (done o) = o
offset_owed (refused r) = r.told

abbrev pub same_offset : Option ℕ → Option ℕ → Bool
same_offset x y = same_content x y

abbrev pub same_outcomes : List Outcome → List Outcome → Bool
same_outcomes [] [] = true
same_outcomes [] (y ∷ ys) = false
same_outcomes (x ∷ xs) [] = false
same_outcomes (x ∷ xs) (y ∷ ys) = eqb x.offset y.offset && eqb x.number y.number && beq x.commits y.commits && same_outcomes xs ys

abbrev pub same_cells : List Cell → List Cell → Bool
same_cells cs ds = eq_list (joined cell_bytes cs) (joined cell_bytes ds)

-- a lent table of n bytes (here 7)
abbrev pub lent_table : ℕ → List ℕ
lent_table n = replicate n 7

abbrev pub play_in : Shape → Lent → List ℕ → Answer Replica → Left
play_in sh l table (done r) = play_call sh (in_log sh l) r table l.tail
play_in sh l table (refused r) = unopened r table

-- a fresh replica of this set played to the tail over a table of n bytes
abbrev pub fresh_to : Lent → ℕ → ℕ → Left
fresh_to l set n = play_in depots l (lent_table n) (open_fresh depots set)

-- the whole record and the whole table of n bytes: the cells in their order, the bytes past them untouched
abbrev pub left_is : ℕ → ℕ → Left → Ends → Bool
left_is set n x e = eqb (code x.answer) e.answers && same_offset (tells x.answer) e.told
    && eqb x.replica.hosting set && eqb x.replica.position e.position && eqb x.replica.count (length e.cells)
    && eq_list x.table (joined cell_bytes e.cells ++ lent_table (n - cell_size * length e.cells))

abbrev pub same_replica : Replica → Replica → Bool
same_replica r s = eqb r.hosting s.hosting && eqb r.position s.position && eqb r.count s.count

-- a back-pointer as a number of its own
abbrev pub back_number : BackPointer → ℕ
back_number nothing = 0
back_number past = 1
back_number (entry_at q) = q + 2

abbrev pub same_backs : List BackPointer → List BackPointer → Bool
same_backs bs cs = eq_list (map back_number bs) (map back_number cs)

-- a log with these bytes put over its own
abbrev pub over : Lent → ℕ → List ℕ → Lent
over l i bs = record { bytes = splice l.bytes i bs; tail = l.tail }

-- the log that these appends leave in 6 slots, made with this directory
abbrev pub log_with : Shape → List Request → Lent
log_with sh qs = grown sh (empty (replicate (the_layout.slot_size * 6) 7)) qs

-- every call: on 255 bytes as a log, with a tail of 1, a record without a set and with a cell more than its table has, and no object
abbrev pub all_calls : Shape → List ℕ
all_calls sh =
    let l : Lent = record { bytes = replicate 255 7; tail = 1 } in
    let r : Replica = record { hosting = 0; position = 2; count = 1 } in
    let log = in_log sh l in
    code (check sh log) ∷ code (owed sh log (0 ∷ [])) ∷ code (entry_call sh log 1) ∷ length (item_list sh log 0)
    ∷ code (stream_next sh log 0 0).found ∷ code (stream_list sh log 0 []).count
    ∷ code (append sh l.bytes l.tail (update 0 [])).new_tail ∷ code (append sh l.bytes l.tail (commit_of 0 [])).new_tail
    ∷ code (append sh l.bytes l.tail (decides 1 0)).new_tail ∷ code (append sh l.bytes l.tail (saves r [] 0)).new_tail
    ∷ code (open_fresh sh 0) ∷ code (open_at sh log 1 []).answer ∷ code (play_call sh log r [] 3).answer ∷ code (read_cell sh r [] 0 0)
    ∷ code (audit sh log []).answer ∷ []

unfoldable pub row_holds : Row → Bool
row_holds (header qs o h) = let l = log_by 6 qs in eq_list (take (header_size the_layout) (drop headers_begin (slot the_layout l.bytes o))) h
row_holds (far p h) = eq_list (header_of the_layout sparse p 2) h
row_holds (printed qs n os cs) =
    let l = log_by 6 qs in
    let r = report depots (in_log depots l) (lent_table n) in
    left_is (everything depots) n (audit depots (in_log depots l) (lent_table n)) (ends (length qs) cs) && same_outcomes r.commits os && same_cells r.cells cs
row_holds (audited qs n e) = let l = log_by 6 qs in left_is (everything depots) n (audit depots (in_log depots l) (lent_table n)) e
row_holds (player qs set n e) = let l = log_by 6 qs in left_is set n (fresh_to l set n) e
row_holds (goes_on qs r table a r' table') =
    let l = log_by 6 qs in
    let x = play_call depots (in_log depots l) r table l.tail in
    eqb (code x.answer) a && same_replica x.replica r' && eq_list x.table table'
row_holds (takes qs r table o k codes) =
    let l = log_by 6 qs in
    eq_list (code (play_call depots (in_log depots l) r table l.tail).answer ∷ code (read_cell depots r table o k)
    ∷ code (append depots l.bytes l.tail (saves r table o)).new_tail ∷ []) codes
row_holds (reads p h f bs) = eqb (format_at h 0) f && same_backs (backs_at the_layout.pointers p h 0) bs
row_holds (due p qs f bs) = eqb (due_format p qs) f && same_backs (due_backs the_layout.pointers p qs) bs
row_holds (apart p q d) = eqb (distance_to p q) d
row_holds (asks n qs number rs a i) =
    let l = log_by n qs in
    let x = (append depots l.bytes l.tail (commit_of number rs)).new_tail in
    eqb (code x) a && same_offset (tells x) i
row_holds (faulty d k) = same_offset (shape_of d).fault k
row_holds (opens d set a) = eqb (code (open_fresh (shape_of d) set)) a
row_holds (handed d qs q a) = let sh = shape_of d in let l = log_with sh qs in eqb (code (append sh l.bytes l.tail q).new_tail) a
row_holds (checked d qs a o) =
    let sh = shape_of d in
    let x = check sh (in_log sh (log_by 6 qs)) in
    eqb (code x) a && same_offset (tells x) o
row_holds (both d qs set n e every cs) =
    let sh = shape_of d in
    let l = log_with sh qs in
    left_is set n (play_in sh l (lent_table n) (open_fresh sh set)) e
    && left_is every n (audit sh (in_log sh l) (lent_table n)) (ends (length qs) cs)
row_holds (opens_at d qs o r) = let sh = shape_of d in same_replica (open_at sh (in_log sh (log_with sh qs)) o (lent_table 24)).replica r
row_holds (headed p x qs h) = eq_list (header_with the_layout p x qs) h
row_holds (judged d codes) = eq_list (all_calls (shape_of d)) codes
row_holds (owing d qs tail sets a o) =
    let sh = shape_of d in
    let l = log_with sh qs in
    let x = owed sh (in_log sh (record { bytes = l.bytes; tail = tail })) sets in
    eqb (code x) a && same_offset (offset_owed x) o
row_holds (spoilt qs i bs a o) =
    let l = over (log_by 6 qs) i bs in
    let x = check depots (in_log depots l) in
    eqb (code x) a && same_offset (tells x) o

abbrev pub line : ℕ → ℕ → Bool → Outcome
line o n b = record { offset = o; number = n; commits = b }

abbrev pub cell : ℕ → ℕ → Option ℕ → ℕ → Cell
cell o k c v = cell_of o k (record { version = v; content = c })

abbrev only5 : List Request
only5 = update 9 (put 5 1 6) ∷ commit_of 9 (read 2 7 0) ∷ []

abbrev pub rows : List Row
rows =
    -- the empty log
    printed [] 48 [] []
    -- distances: entries 0 and 4 of the bench log, and a sixth entry
    ∷ header (bench 1) 0 (0 ∷ 0 ∷ 0 ∷ 2 ∷ 0 ∷ 0 ∷ 0 ∷ 0 ∷ 0 ∷ 0 ∷ 0 ∷ 0 ∷ [])
    ∷ header (bench 1) 4 (0 ∷ 0 ∷ 0 ∷ 2 ∷ 0 ∷ 1 ∷ 0 ∷ 2 ∷ 0 ∷ 3 ∷ 0 ∷ 4 ∷ [])
    ∷ header (bench 1 ++ (update 0 (put 2 7 1) ∷ [])) 5 (0 ∷ 0 ∷ 0 ∷ 2 ∷ 0 ∷ 1 ∷ 0 ∷ 2 ∷ 0 ∷ 3 ∷ 0 ∷ 4 ∷ [])
    -- the farthest distance, and one more
    ∷ far 65535 (0 ∷ 0 ∷ 0 ∷ 2 ∷ 0xFF ∷ 0xFF ∷ 0 ∷ 0 ∷ 0 ∷ 0 ∷ 0 ∷ 0 ∷ [])
    ∷ far 65536 (0x80 ∷ 0 ∷ 0 ∷ 2 ∷ 0 ∷ 0 ∷ 0 ∷ 0 ∷ 0 ∷ 0 ∷ 0 ∷ 0 ∷ [])
    -- the bench log as printed (16.2), and with read version 0 at entry 3
    ∷ printed (bench 1) 48 (line 3 9 true ∷ line 4 10 false ∷ []) (cell 2 7 (some 42) 4 ∷ [])
    ∷ printed (bench 0) 48 (line 3 9 false ∷ line 4 10 true ∷ []) (cell 2 7 (some 40) 5 ∷ [])
    -- a removed cell's version; a read with version 0 is stale
    ∷ printed (update 0 (put 2 7 43) ∷ update 0 (remove 2 7) ∷ update 9 (put 2 7 1) ∷ commit_of 9 (read 2 7 0) ∷ []) 48
    (line 3 9 false ∷ []) (cell 2 7 none 2 ∷ [])
    -- a read that is not hosted, without and with its decision record
    ∷ player only5 16 48 (stops 12 1 [])
    ∷ player (only5 ++ (decides 1 1 ∷ [])) 16 48 (ends 3 (cell 5 1 (some 6) 2 ∷ []))
    -- a table without a row, and with one
    ∷ player (bench 1) 2 23 (stops 13 0 [])
    ∷ audited (bench 1) 23 (record { answers = 13; told = some 0; position = 0; cells = [] })
    ∷ player (bench 1) 2 24 (ends 5 (cell 2 7 (some 42) 4 ∷ []))
    ∷ audited (bench 1) 24 (ends 5 (cell 2 7 (some 42) 4 ∷ []))
    ∷ []

pub worked : all row_holds rows ≡ true
unfolding row_holds be_at bytes_of splice values joined first first_from eq_list writes_of stamps astray closed decided header_objects earlier write_bytes write_at read_bytes read_at saved_bytes saved_at item_bytes item_count header_of slot_of last_bytes decode slot log_in ok_entry lowest lowest_bad cell_at cell_bytes cells_of table_with apply saved_of play commits_over whole named entry_of first_place own_tests append open_fresh play_call audit outcomes report grown is_object is_cell hosted ok_write ok_writes ok_read ok_reads ok_names ok_saved narrow good_at lookup in_order store step bad_frame objects_in repeats
worked = refl

-- ---- a table in cell order

-- a record of the set at a position with so many counted cells
abbrev pub at : ℕ → ℕ → ℕ → Replica
at set p n = record { hosting = set; position = p; count = n }

-- three updates of objects 2 and 5
abbrev mixed : List Request
mixed = update 0 (put 5 1 6 ++ put 2 9 4) ∷ update 0 (put 2 3 5) ∷ update 0 (remove 2 9) ∷ []

abbrev only7 : List Request
only7 = update 0 (put 2 7 4) ∷ []

-- rows as stored
abbrev pub table_of : List Cell → List ℕ
table_of cs = joined cell_bytes cs

abbrev plain_cell : ℕ → ℕ → Cell
plain_cell o k = cell o k (some 4) 1

-- a row that no player writes
abbrev pub odd : ℕ → ℕ → Cell
odd o k = record { object = o; key = k; value = 77; present = 9; version = 9223372036854775808 }

-- ---- headers as they are read

abbrev none4 : List BackPointer
none4 = nothing ∷ nothing ∷ nothing ∷ nothing ∷ []

abbrev only : ℕ → List BackPointer
only q = entry_at q ∷ nothing ∷ nothing ∷ nothing ∷ []

-- where the first header of the entry at p begins
abbrev header_in : ℕ → ℕ
header_in p = the_layout.slot_size * p + headers_begin

-- ---- versions in read sets

-- the bench log's first four entries
abbrev bench4 : ℕ → List Request
bench4 v = take 4 (bench v)

-- the last byte of the version of the first read at p
abbrev pub version_byte : ℕ → ℕ
version_byte p = the_layout.slot_size * p + items_begin the_layout + 15

abbrev pub later : List Row
later =
    -- a table of 96 bytes, played to 3, byte for byte
    goes_on mixed (at 18 0 0) (lent_table 96) 0 (at 18 3 3) (
    0 ∷ 0 ∷ 0 ∷ 2 ∷ 0 ∷ 0 ∷ 0 ∷ 3 ∷ 0 ∷ 0 ∷ 0 ∷ 5 ∷ 0 ∷ 0 ∷ 0 ∷ 1 ∷ 0 ∷ 0 ∷ 0 ∷ 0 ∷ 0 ∷ 0 ∷ 0 ∷ 2
    ∷ 0 ∷ 0 ∷ 0 ∷ 2 ∷ 0 ∷ 0 ∷ 0 ∷ 9 ∷ 0 ∷ 0 ∷ 0 ∷ 0 ∷ 0 ∷ 0 ∷ 0 ∷ 0 ∷ 0 ∷ 0 ∷ 0 ∷ 0 ∷ 0 ∷ 0 ∷ 0 ∷ 3
    ∷ 0 ∷ 0 ∷ 0 ∷ 5 ∷ 0 ∷ 0 ∷ 0 ∷ 1 ∷ 0 ∷ 0 ∷ 0 ∷ 6 ∷ 0 ∷ 0 ∷ 0 ∷ 1 ∷ 0 ∷ 0 ∷ 0 ∷ 0 ∷ 0 ∷ 0 ∷ 0 ∷ 1
    ∷ lent_table 24)
    -- of 48 bytes: no room for the cell that comes first
    ∷ player mixed 18 48 (stops 13 1 (cell 2 9 (some 4) 1 ∷ cell 5 1 (some 6) 1 ∷ []))
    ∷ audited mixed 48 (record { answers = 13; told = some 1; position = 1; cells = cell 2 9 (some 4) 1 ∷ cell 5 1 (some 6) 1 ∷ [] })
    -- rows out of order, of which one or both are counted; a cell twice
    ∷ takes mixed (at 2 3 2) (table_of (plain_cell 2 9 ∷ plain_cell 2 3 ∷ [])) 2 9 (10 ∷ 10 ∷ 10 ∷ [])
    ∷ takes mixed (at 2 3 1) (table_of (plain_cell 2 9 ∷ plain_cell 2 3 ∷ [])) 2 9 (0 ∷ 0 ∷ 0 ∷ [])
    ∷ takes mixed (at 2 3 2) (table_of (plain_cell 2 3 ∷ plain_cell 2 3 ∷ [])) 2 3 (10 ∷ 10 ∷ 10 ∷ [])
    -- rows of objects that are not hosted or not listed are judged too, by unsigned numbers
    ∷ takes mixed (at 2 3 3) (table_of (odd 1 5 ∷ plain_cell 2 9 ∷ odd 99 0 ∷ [])) 2 9 (0 ∷ 0 ∷ 0 ∷ [])
    ∷ takes mixed (at 2 3 2) (table_of (odd 99 0 ∷ plain_cell 2 9 ∷ [])) 2 9 (10 ∷ 10 ∷ 10 ∷ [])
    ∷ takes mixed (at 2 3 3) (table_of (odd 2 4294967295 ∷ odd 8 0 ∷ odd 2147483650 0 ∷ [])) 5 1 (0 ∷ 3 ∷ 3 ∷ [])
    ∷ takes mixed (at 2 3 3) (table_of (odd 2147483650 0 ∷ odd 2 4294967295 ∷ odd 8 0 ∷ [])) 5 1 (10 ∷ 10 ∷ 10 ∷ [])
    -- an unlisted row moves whole to make room for a new cell
    ∷ goes_on only7 (at 2 0 1) (table_of (odd 3 1 ∷ []) ++ lent_table 25) 0 (at 2 1 2) (
    0 ∷ 0 ∷ 0 ∷ 2 ∷ 0 ∷ 0 ∷ 0 ∷ 7 ∷ 0 ∷ 0 ∷ 0 ∷ 4 ∷ 0 ∷ 0 ∷ 0 ∷ 1 ∷ 0 ∷ 0 ∷ 0 ∷ 0 ∷ 0 ∷ 0 ∷ 0 ∷ 1
    ∷ 0 ∷ 0 ∷ 0 ∷ 3 ∷ 0 ∷ 0 ∷ 0 ∷ 1 ∷ 0 ∷ 0 ∷ 0 ∷ 77 ∷ 0 ∷ 0 ∷ 0 ∷ 9 ∷ 128 ∷ 0 ∷ 0 ∷ 0 ∷ 0 ∷ 0 ∷ 0 ∷ 0
    ∷ 7 ∷ [])
    -- a new cell among rows of objects that are not hosted or not listed
    ∷ goes_on only7 (at 2 0 3) (table_of (odd 1 9 ∷ odd 2 8 ∷ odd 99 0 ∷ []) ++ lent_table 24) 0 (at 2 1 4) (table_of (odd 1 9 ∷ cell 2 7 (some 4) 1 ∷ odd 2 8 ∷ odd 99 0 ∷ []))
    -- a cell written twice by one transaction takes one row
    ∷ player (update 9 (put 2 7 1 ++ put 2 7 2) ∷ commit_of 9 [] ∷ []) 2 24 (ends 2 (cell 2 7 (some 2) 2 ∷ []))
    -- 13 in the middle of rows that fill the table, and nothing moves
    ∷ goes_on only7 (at 2 0 2) (table_of (odd 2 6 ∷ odd 2 8 ∷ [])) 13 (at 2 0 2) (table_of (odd 2 6 ∷ odd 2 8 ∷ []))
    -- a play refused with 10 leaves all as it was
    ∷ goes_on only7 (at 2 0 2) (table_of (odd 2 8 ∷ odd 2 6 ∷ [])) 10 (at 2 0 2) (table_of (odd 2 8 ∷ odd 2 6 ∷ []))
    -- a header as it is read and as it is due: four distances, the last to offset 0; none; the farthest distance, and one more
    ∷ reads 4 (0 ∷ 0 ∷ 0 ∷ 2 ∷ 0 ∷ 1 ∷ 0 ∷ 2 ∷ 0 ∷ 3 ∷ 0 ∷ 4 ∷ []) 0 (entry_at 3 ∷ entry_at 2 ∷ entry_at 1 ∷ entry_at 0 ∷ [])
    ∷ due 4 (3 ∷ 2 ∷ 1 ∷ 0 ∷ []) 0 (entry_at 3 ∷ entry_at 2 ∷ entry_at 1 ∷ entry_at 0 ∷ [])
    ∷ reads 0 (0 ∷ 0 ∷ 0 ∷ 2 ∷ 0 ∷ 0 ∷ 0 ∷ 0 ∷ 0 ∷ 0 ∷ 0 ∷ 0 ∷ []) 0 none4
    ∷ due 0 [] 0 none4
    ∷ reads 65535 (0 ∷ 0 ∷ 0 ∷ 2 ∷ 0xFF ∷ 0xFF ∷ 0 ∷ 0 ∷ 0 ∷ 0 ∷ 0 ∷ 0 ∷ []) 0 (only 0)
    ∷ due 65535 (0 ∷ []) 0 (only 0)
    ∷ reads 65536 (0x80 ∷ 0 ∷ 0 ∷ 2 ∷ 0 ∷ 0 ∷ 0 ∷ 0 ∷ 0 ∷ 0 ∷ 0 ∷ 0 ∷ []) 1 (only 0)
    ∷ due 65536 (0 ∷ []) 1 (only 0)
    -- of five earlier entries four are due; one too far is none; behind a nearest that is too far nothing is told
    ∷ due 5 (4 ∷ 3 ∷ 2 ∷ 1 ∷ 0 ∷ []) 0 (entry_at 4 ∷ entry_at 3 ∷ entry_at 2 ∷ entry_at 1 ∷ [])
    ∷ due 65537 (65536 ∷ 2 ∷ 1 ∷ 0 ∷ []) 0 (entry_at 65536 ∷ entry_at 2 ∷ nothing ∷ nothing ∷ [])
    ∷ due 65538 (1 ∷ 0 ∷ []) 1 (only 1)
    -- past offset 0, alone and behind a right one
    ∷ reads 1 (0 ∷ 0 ∷ 0 ∷ 2 ∷ 0 ∷ 2 ∷ 0 ∷ 0 ∷ 0 ∷ 0 ∷ 0 ∷ 0 ∷ []) 0 (past ∷ nothing ∷ nothing ∷ nothing ∷ [])
    ∷ reads 3 (0 ∷ 0 ∷ 0 ∷ 2 ∷ 0 ∷ 1 ∷ 0 ∷ 4 ∷ 0 ∷ 0 ∷ 0 ∷ 0 ∷ []) 0 (entry_at 2 ∷ past ∷ nothing ∷ nothing ∷ [])
    -- format 1 where a distance would do, and with an offset that is not below the entry's
    ∷ reads 1 (0x80 ∷ 0 ∷ 0 ∷ 2 ∷ 0 ∷ 0 ∷ 0 ∷ 0 ∷ 0 ∷ 0 ∷ 0 ∷ 0 ∷ []) 1 (only 0)
    ∷ reads 1 (0x80 ∷ 0 ∷ 0 ∷ 2 ∷ 0xFF ∷ 0xFF ∷ 0xFF ∷ 0xFF ∷ 0xFF ∷ 0xFF ∷ 0xFF ∷ 0xFF ∷ []) 1 (only 18446744073709551615)
    -- in a log each of these is a bad entry
    ∷ spoilt (bench 1) (header_in 1 + 4) (0 ∷ 1 ∷ []) 0 none
    ∷ spoilt (bench 1) (header_in 1 + 4) (0 ∷ 2 ∷ []) 2 (some 1)
    ∷ spoilt (bench 1) (header_in 3 + 6) (0 ∷ 4 ∷ []) 2 (some 3)
    ∷ spoilt (bench 1) (header_in 1) (0x80 ∷ 0 ∷ 0 ∷ 2 ∷ 0 ∷ 0 ∷ 0 ∷ 0 ∷ 0 ∷ 0 ∷ 0 ∷ 0 ∷ []) 2 (some 1)
    ∷ spoilt (bench 1) (header_in 1) (0x80 ∷ 0 ∷ 0 ∷ 2 ∷ 0xFF ∷ 0xFF ∷ 0xFF ∷ 0xFF ∷ 0xFF ∷ 0xFF ∷ 0xFF ∷ 0xFF ∷ []) 2 (some 1)
    -- distances: none, the nearest, the farthest, one too far, and to offset 0
    ∷ apart 70000 none 0
    ∷ apart 70000 (some 69999) 1
    ∷ apart 70000 (some 4465) 65535
    ∷ apart 70000 (some 4464) 0
    ∷ apart 65535 (some 0) 65535
    ∷ apart 65536 (some 0) 0
    -- versions: 0, a plain update's, a commit record's whose update wrote the cell, and the same record where its number aborts
    ∷ asks 6 (bench4 1) 10 (read 2 7 0) 0 none
    ∷ asks 6 (bench4 1) 10 (read 2 7 1) 0 none
    ∷ asks 6 (bench4 1) 10 (read 2 7 4) 0 none
    ∷ asks 6 (bench4 0) 10 (read 2 7 4) 0 none
    -- a numbered update, of the commit's own number and of another; a decision record; a checkpoint
    ∷ asks 6 (bench4 1) 10 (read 2 7 2) 16 (some 0)
    ∷ asks 6 (bench4 1) 10 (read 2 7 3) 16 (some 0)
    ∷ asks 6 (bench4 1 ++ (decides 3 1 ∷ [])) 10 (read 2 7 5) 16 (some 0)
    ∷ asks 6 (update 0 (put 2 7 4) ∷ saves (at 2 1 1) (table_of (plain_cell 2 7 ∷ [])) 2 ∷ update 9 (put 2 7 1) ∷ []) 9 (read 2 7 2) 16 (some 0)
    -- another key, another object
    ∷ asks 6 (bench4 1) 10 (read 2 8 1) 16 (some 0)
    ∷ asks 6 (bench4 1) 10 (read 2 8 4) 16 (some 0)
    ∷ asks 6 (bench4 1) 10 (read 5 7 1) 16 (some 0)
    -- a remove, and the first and the last of two updates of one number
    ∷ asks 6 (update 0 (put 2 1 1 ++ remove 2 7) ∷ update 9 (put 2 8 1) ∷ update 9 (put 2 9 1) ∷ commit_of 9 [] ∷ update 10 (put 2 7 1) ∷ []) 10
    (read 2 7 1 ++ read 2 8 4 ++ read 2 9 4) 0 none
    -- the first of the reads that are astray is told
    ∷ asks 6 (bench4 1) 10 (read 2 7 1 ++ read 2 8 3) 16 (some 1)
    ∷ asks 6 (bench4 1) 10 (read 2 7 2 ++ read 2 8 3) 16 (some 0)
    -- 3, 4 and 6 come before 16, and 9 after it
    ∷ asks 6 (bench4 1) 10 (read 2 7 5) 3 none
    ∷ asks 6 (bench4 1) 9 (read 2 7 2) 4 none
    ∷ asks 6 (bench4 1) 11 (read 2 7 2) 6 none
    ∷ asks 4 (bench4 1) 10 (read 2 7 2) 16 (some 0)
    ∷ asks 4 (bench4 1) 10 (read 2 7 1) 9 none
    -- an entry whose read is astray is good: entry 3 of the bench log with version 2
    ∷ spoilt (bench 1) (version_byte 3) (2 ∷ []) 0 none
    ∷ []

pub later-worked : all row_holds later ≡ true
unfolding row_holds be_at bytes_of splice values joined first first_from eq_list writes_of stamps astray closed decided header_objects earlier write_bytes write_at read_bytes read_at saved_bytes saved_at item_bytes item_count header_of slot_of last_bytes decode slot log_in ok_entry lowest lowest_bad cell_at cell_bytes cells_of table_with apply saved_of play commits_over whole named entry_of first_place own_tests append open_fresh play_call read_cell audit outcomes report grown is_object is_cell hosted ok_write ok_writes ok_read ok_reads ok_names ok_saved narrow good_at lookup in_order store step bad_frame objects_in repeats backs_at check
later-worked = refl

-- ---- directories

-- the 128 bytes of the eight's directory (1.13), and the shape that they give
abbrev pub eight : List ℕ
eight = directory_of the_objects

pub the-eight : shape_of eight ≡ depots
unfolding be_at bytes_of values joined first first_from lowest record_at ok_record at_fault listed_in fault_of record_bytes directory_of
the-eight = refl

-- maps with the ids 1 to n
abbrev maps : ℕ → List ℕ
maps n = directory_of (values (λ k. record { id = k + 1; kind = a_map; highest = 9; marked = false }) 0 n)

-- registers with these ids
abbrev registers : List ℕ → List ℕ
registers is = directory_of (map (λ i. record { id = i; kind = a_register; highest = 0; marked = true }) is)

-- the eight's with bytes put over those of record k from its byte i on
abbrev eight_but : ℕ → ℕ → List ℕ → List ℕ
eight_but k i bs = splice eight (record_size * k + i) bs

-- two clinics' directory: a map of the keys to 99, a marked register, and a map of the keys to 4,294,967,294 with the highest id
abbrev pub clinics : List ℕ
clinics =
    0x4F ∷ 0x42 ∷ 0 ∷ 0 ∷ 0 ∷ 0 ∷ 0 ∷ 0x0A ∷ 0 ∷ 0 ∷ 0 ∷ 0x63 ∷ 1 ∷ 0 ∷ 0 ∷ 0
    ∷ 0x4F ∷ 0x42 ∷ 0 ∷ 0 ∷ 0 ∷ 0 ∷ 0 ∷ 0x14 ∷ 0 ∷ 0 ∷ 0 ∷ 0 ∷ 2 ∷ 1 ∷ 0 ∷ 0
    ∷ 0x4F ∷ 0x42 ∷ 0 ∷ 0 ∷ 0x7F ∷ 0xFF ∷ 0xFF ∷ 0xFF ∷ 0xFF ∷ 0xFF ∷ 0xFF ∷ 0xFE ∷ 1 ∷ 0 ∷ 0 ∷ 0 ∷ []

abbrev highest_id : ℕ
highest_id = 2147483647

-- an update of the clinics' last map
abbrev to_last : List Request
to_last = update 0 (put highest_id 4294967294 5 ++ put 10 99 6) ∷ []

abbrev pub handed_over : List Row
handed_over =
    -- the eight's directory, cut, and with a byte more
    faulty eight none
    ∷ faulty [] (some 0)
    ∷ faulty (take 5 eight) (some 0)
    ∷ faulty (take 127 eight) (some 7)
    ∷ faulty (eight ++ 0x4F ∷ []) (some 8)
    -- 64 records and more
    ∷ faulty (maps 64) none
    ∷ faulty (maps 65) (some 64)
    ∷ faulty (maps 64 ++ 0x4F ∷ []) (some 64)
    -- ids out of order, twice, 0, and of 32 bits; the later place is at fault, and the first that is
    ∷ faulty (registers (3 ∷ 5 ∷ [])) none
    ∷ faulty (registers (5 ∷ 3 ∷ [])) (some 1)
    ∷ faulty (registers (5 ∷ 5 ∷ [])) (some 1)
    ∷ faulty (registers (0 ∷ 5 ∷ [])) (some 0)
    ∷ faulty (registers (5 ∷ 2147483648 ∷ [])) (some 1)
    ∷ faulty (registers (1 ∷ 2 ∷ 3 ∷ 3 ∷ 5 ∷ 4 ∷ [])) (some 3)
    -- the mark and the zero bytes
    ∷ faulty (eight_but 2 0 (0x4E ∷ [])) (some 2)
    ∷ faulty (eight_but 2 1 (0x43 ∷ [])) (some 2)
    ∷ faulty (eight_but 2 2 (1 ∷ [])) (some 2)
    ∷ faulty (eight_but 2 3 (1 ∷ [])) (some 2)
    ∷ faulty (eight_but 2 14 (1 ∷ [])) (some 2)
    ∷ faulty (eight_but 7 15 (1 ∷ [])) (some 7)
    -- a map's highest key: 0, the highest of all, and one more; a register's
    ∷ faulty (eight_but 0 8 (0 ∷ 0 ∷ 0 ∷ 0 ∷ [])) none
    ∷ faulty (eight_but 0 8 (0xFF ∷ 0xFF ∷ 0xFF ∷ 0xFE ∷ [])) none
    ∷ faulty (eight_but 0 8 (0xFF ∷ 0xFF ∷ 0xFF ∷ 0xFF ∷ [])) (some 0)
    ∷ faulty (eight_but 5 11 (1 ∷ [])) (some 5)
    -- kinds and marks of other numbers
    ∷ faulty (eight_but 1 12 (0 ∷ [])) (some 1)
    ∷ faulty (eight_but 1 12 (3 ∷ [])) (some 1)
    ∷ faulty (eight_but 1 13 (2 ∷ [])) (some 1)
    -- hosted sets: each place has a bit, and a bit past the last record is bad
    ∷ opens clinics 4 0
    ∷ opens clinics 7 0
    ∷ opens clinics 8 10
    ∷ opens clinics 9 10
    ∷ opens clinics 0 10
    ∷ opens eight 255 0
    ∷ opens eight 256 10
    ∷ opens (maps 64) 18446744073709551615 0
    -- what the directory lists is a cell: ids and keys, and no other
    ∷ handed clinics [] (update 0 (put highest_id 4294967294 5)) 0
    ∷ handed clinics [] (update 0 (put highest_id 4294967295 5)) 3
    ∷ handed clinics [] (update 0 (put 20 0 5)) 0
    ∷ handed clinics [] (update 0 (put 20 1 5)) 3
    ∷ handed clinics [] (update 0 (put 1 0 5)) 3
    ∷ handed clinics [] (update 0 (put 2147483658 0 5)) 3
    ∷ handed clinics to_last (saves (at 8 1 0) [] highest_id) 10
    ∷ handed clinics to_last (saves (at 4 1 0) [] highest_id) 0
    -- a log of the eight's objects has none of the clinics'
    ∷ checked clinics (bench 1) 2 (some 0)
    ∷ checked eight (bench 1) 0 none
    -- the last map alone, and an audit of all three
    ∷ both clinics to_last 4 48 (ends 1 (cell highest_id 4294967294 (some 5) 1 ∷ [])) 7 (cell 10 99 (some 6) 1 ∷ cell highest_id 4294967294 (some 5) 1 ∷ [])
    -- opened at a checkpoint of it
    ∷ opens_at clinics (to_last ++ (saves (at 4 1 0) [] highest_id ∷ [])) 1 (at 4 2 0)
    -- the words of its headers, of both formats
    ∷ headed 0 highest_id [] (0x7F ∷ 0xFF ∷ 0xFF ∷ 0xFF ∷ 0 ∷ 0 ∷ 0 ∷ 0 ∷ 0 ∷ 0 ∷ 0 ∷ 0 ∷ [])
    ∷ headed 65536 highest_id (0 ∷ []) (0xFF ∷ 0xFF ∷ 0xFF ∷ 0xFF ∷ 0 ∷ 0 ∷ 0 ∷ 0 ∷ 0 ∷ 0 ∷ 0 ∷ 0 ∷ [])
    -- 15 is ahead of all in every call, and the items are none
    ∷ judged (take 127 eight) (15 ∷ 15 ∷ 15 ∷ 0 ∷ 15 ∷ 15 ∷ 15 ∷ 15 ∷ 15 ∷ 15 ∷ 15 ∷ 15 ∷ 15 ∷ 15 ∷ 15 ∷ [])
    ∷ judged eight (1 ∷ 1 ∷ 1 ∷ 0 ∷ 1 ∷ 1 ∷ 1 ∷ 1 ∷ 1 ∷ 1 ∷ 10 ∷ 1 ∷ 1 ∷ 10 ∷ 1 ∷ [])
    ∷ []

pub handed-over : all row_holds handed_over ≡ true
unfolding row_holds be_at bytes_of splice values joined first first_from picks eq_list writes_of stamps astray closed decided header_objects earlier write_bytes write_at read_bytes read_at saved_bytes saved_at item_bytes item_count header_of slot_of last_bytes decode slot log_in ok_entry lowest lowest_bad record_at ok_record at_fault listed_in fault_of record_bytes directory_of cell_at cell_bytes cells_of table_with apply saved_of play commits_over whole named entry_of first_place own_tests append open_fresh open_at play_call read_cell audit grown is_object is_cell hosted ok_write ok_writes ok_read ok_reads ok_names ok_saved narrow good_at lookup in_order store step bad_frame objects_in repeats check waits_at bad_sets owes owed entry_call info_in item_list stream_next stream_list offsets_of
handed-over = refl

-- ---- decisions owed

-- object 5 is written twice, by transactions that read objects 2 and 3
abbrev two5 : List Request
two5 = only5 ++ (update 10 (put 5 1 7) ∷ commit_of 10 (read 3 1 0) ∷ [])

-- objects 2, 5 and 6 are written, by one that reads a cell of each object, and more of object 1
abbrev reads8 : List Request
reads8 =
    update 9 (put 2 7 1 ++ put 5 1 6 ++ put 6 0 1)
    ∷ commit_of 9 (read 1 0 0 ++ read 1 1 0 ++ read 1 2 0 ++ read 1 3 0 ++ read 1 4 0 ++ read 2 7 0 ++ read 3 1 0 ++ read 4 1 0 ++ read 5 1 0 ++ read 6 0 0 ++ read 7 0 0 ++ read 8 0 0)
    ∷ []

-- the clinics' last map is written, by one that reads the first
abbrev last3 : List Request
last3 = update 9 (put highest_id 0 1) ∷ commit_of 9 (read 10 0 0) ∷ []

abbrev pub debts : List Row
debts =
    -- to one that hosts object 5 and not what was read; not to one that hosts both, or not 5; to none declared nothing
    owing eight only5 2 (16 ∷ []) 0 (some 1)
    ∷ owing eight only5 2 (18 ∷ []) 0 none
    ∷ owing eight only5 2 (2 ∷ []) 0 none
    ∷ owing eight only5 2 [] 0 none
    -- to the first or the second of two
    ∷ owing eight only5 2 (16 ∷ 18 ∷ []) 0 (some 1)
    ∷ owing eight only5 2 (18 ∷ 16 ∷ []) 0 (some 1)
    -- each set by itself: two together have 5 and what was read; one has 5, and the other not what was read
    ∷ owing eight only5 2 (16 ∷ 2 ∷ []) 0 (some 1)
    ∷ owing eight only5 2 (18 ∷ 4 ∷ []) 0 none
    -- before the commit record; a decision record pays, a false one too
    ∷ owing eight only5 1 (16 ∷ []) 0 none
    ∷ owing eight (only5 ++ (decides 1 1 ∷ [])) 3 (16 ∷ []) 0 none
    ∷ owing eight (only5 ++ (decides 1 2 ∷ [])) 3 (16 ∷ []) 0 none
    ∷ owing eight (only5 ++ (decides 1 1 ∷ [])) 2 (16 ∷ []) 0 (some 1)
    -- the lowest of two; the other, where the first is paid or owes this set nothing
    ∷ owing eight two5 4 (16 ∷ []) 0 (some 1)
    ∷ owing eight (two5 ++ (decides 1 1 ∷ [])) 5 (16 ∷ []) 0 (some 3)
    ∷ owing eight (two5 ++ (decides 3 1 ∷ [])) 5 (16 ∷ []) 0 (some 1)
    ∷ owing eight two5 4 (18 ∷ []) 0 (some 3)
    ∷ owing eight two5 4 (20 ∷ 18 ∷ []) 0 (some 1)
    ∷ owing eight two5 4 (22 ∷ []) 0 none
    -- a read of a marked object: to everything nothing
    ∷ owing eight two5 4 (255 ∷ []) 0 none
    -- twelve reads of eight objects: each set lacks one of them, and the last has none of the headers
    ∷ owing eight reads8 2 (254 ∷ 127 ∷ 253 ∷ []) 0 (some 1)
    ∷ owing eight reads8 2 (255 ∷ 127 ∷ []) 0 (some 1)
    ∷ owing eight reads8 2 (255 ∷ 205 ∷ []) 0 none
    -- one of three header objects is enough
    ∷ owing eight reads8 2 (16 ∷ []) 0 (some 1)
    -- a commit without reads
    ∷ owing eight (update 9 (put 5 1 6) ∷ commit_of 9 [] ∷ []) 2 (16 ∷ []) 0 none
    -- sixteen sets and seventeen; an empty one; bits past the directory, in the first set and in the last
    ∷ owing eight only5 2 (replicate 16 16) 0 (some 1)
    ∷ owing eight only5 2 (replicate 17 16) 3 none
    ∷ owing eight only5 2 (0 ∷ 16 ∷ []) 3 none
    ∷ owing eight only5 2 (16 ∷ 0 ∷ []) 3 none
    ∷ owing eight only5 2 (256 ∷ []) 3 none
    ∷ owing eight only5 2 (272 ∷ 16 ∷ []) 3 none
    ∷ owing eight only5 2 (16 ∷ 18446744073709551615 ∷ []) 3 none
    -- sets by place: bit 2 is the clinics' third object, and bit 3 is past the last
    ∷ owing clinics last3 2 (4 ∷ []) 0 (some 1)
    ∷ owing clinics last3 2 (5 ∷ []) 0 none
    ∷ owing clinics last3 2 (8 ∷ []) 3 none
    -- 15, 1 and 2 come before 3
    ∷ owing (take 127 eight) [] 0 (0 ∷ []) 15 (some 7)
    ∷ owing eight only5 7 (0 ∷ []) 1 none
    ∷ owing eight only5 3 (0 ∷ []) 2 (some 2)
    ∷ owing eight only5 3 (replicate 17 16) 2 (some 2)
    ∷ []

pub debts-worked : all row_holds debts ≡ true
unfolding row_holds be_at bytes_of splice values joined first first_from picks eq_list writes_of stamps astray closed decided header_objects earlier write_bytes write_at read_bytes read_at saved_bytes saved_at item_bytes item_count header_of slot_of last_bytes decode slot log_in ok_entry lowest lowest_bad record_at ok_record at_fault listed_in fault_of record_bytes directory_of cell_at cell_bytes cells_of table_with apply saved_of play commits_over whole named entry_of first_place own_tests append open_fresh open_at play_call read_cell audit grown is_object is_cell hosted ok_write ok_writes ok_read ok_reads ok_names ok_saved narrow good_at lookup in_order store step bad_frame objects_in repeats check waits_at bad_sets owes owed entry_call info_in item_list stream_next stream_list offsets_of
debts-worked = refl
