-- The order of the base is another one, computed on one log of objects 2 and 5: rows in order of first writing, where those of a
-- play and of an audit now are in cell order; and a table out of order was read, where it is now refused.
use Rattle.std.specs.Prelude.{◌≡◌, refl, true, ◌&&◌, List, [], ◌∷◌, ◌++◌, eqb}
use Rattle.std.proofs.Math.Option.{none, some}
use Rattle.lists.specs.Bytes.{be_at, bytes_of}
use Rattle.lists.specs.Splice.{splice}
use Rattle.lists.specs.Rows.{values, joined}
use Rattle.lists.specs.First.{first, first_from}
use Rattle.lists.specs.Equal.{eq_list}
use Rattle.model.specs.Objects.{depots, is_object, is_cell, hosted}
use Rattle.model.specs.Entries.{writes_of, stamps, astray, closed, decided, header_objects, earlier, named}
use Rattle.model.specs.Slot.{write_bytes, write_at, read_bytes, read_at, saved_bytes, saved_at, item_bytes, item_count, header_of, slot_of, decode, slot, log_in, objects_in, last_bytes}
use Rattle.model.specs.Rules.{ok_entry, lowest, lowest_bad, ok_write, ok_writes, ok_read, ok_reads, ok_saved, narrow, good_at, repeats, ok_names}
use Rattle.model.specs.Table.{Cell, cell_at, cell_bytes, cells_of, table_with, apply, saved_of, lookup, in_order, store}
use Rattle.model.specs.Play.{play, commits_over, whole, step}
use Rattle.model.specs.Answers.{first_place, bad_frame}
use Rattle.model.specs.Append.{Replica, Request, update, entry_of, own_tests, append}
use Rattle.model.specs.Replica.{open_fresh, play_call, read_cell, audit}
use Rattle.model.specs.Histories.{in_log, grown}
use Rattle.model.specs.Worked.{put, remove, cell, log_by, lent_table, left_is, ends, code}
use Rattle.laws.specs.FirstWriting.{store_last, apply_last, step_last, play_last, play_call_last, read_cell_last, audit_last}

abbrev three : List Request
three = update 0 (put 5 1 6 ++ put 2 9 4) ∷ update 0 (put 2 3 5) ∷ update 0 (remove 2 9) ∷ []

abbrev begins : Replica
begins = record { hosting = 18; position = 0; count = 0 }

abbrev first_written : List Cell
first_written = cell 5 1 (some 6) 1 ∷ cell 2 9 none 3 ∷ cell 2 3 (some 5) 2 ∷ []

abbrev in_cell_order : List Cell
in_cell_order = cell 2 3 (some 5) 2 ∷ cell 2 9 none 3 ∷ cell 5 1 (some 6) 1 ∷ []

abbrev ended : Replica
ended = record { hosting = 18; position = 3; count = 3 }

pub orders-differ : (let l = log_by 3 three in
    let log = in_log depots l in
    left_is 18 96 (play_call_last depots log begins (lent_table 96) 3) (ends 3 first_written)
    && left_is 18 96 (play_call depots log begins (lent_table 96) 3) (ends 3 in_cell_order)
    && left_is 255 96 (audit_last depots log (lent_table 96)) (ends 3 first_written)
    && left_is 255 96 (audit depots log (lent_table 96)) (ends 3 in_cell_order)
    && eqb (code (read_cell_last depots ended (joined cell_bytes first_written) 2 9)) 0
    && eqb (code (read_cell depots ended (joined cell_bytes first_written) 2 9)) 10) ≡ true
unfolding be_at bytes_of splice values joined first first_from eq_list writes_of stamps astray closed decided header_objects earlier write_bytes write_at read_bytes read_at saved_bytes saved_at item_bytes item_count header_of slot_of last_bytes decode slot log_in ok_entry lowest lowest_bad cell_at cell_bytes cells_of table_with apply saved_of play commits_over whole named entry_of first_place own_tests append open_fresh play_call read_cell audit grown is_object is_cell hosted ok_write ok_writes ok_read ok_reads ok_names ok_saved narrow good_at lookup in_order store step bad_frame objects_in repeats store_last apply_last step_last play_last play_call_last read_cell_last audit_last
orders-differ = refl
