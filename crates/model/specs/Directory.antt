-- The directory that is handed to each call: its bytes, the first place at fault in it, and the shape that it gives (specification
-- 1.9 to 1.13).
use Rattle.std.specs.Prelude.{ℕ, zero, suc, ◌+◌, ◌*◌, ◌/◌, ◌^◌, Bool, true, cond, not, ◌&&◌, ◌||◌, List, ◌++◌, eqb, leb, ltb, length}
use Rattle.std.proofs.Math.Option.{Option}
use Rattle.lists.specs.Bytes.{be_at, bytes_of}
use Rattle.lists.specs.Rows.{values, joined}
use Rattle.model.specs.Objects.{ObjectKind, a_map, a_register, Object, Shape, the_layout}
use Rattle.model.specs.Rules.{lowest}

-- a record's bytes, its mark (bytes 0 and 1 as one number), and the most records (1.9, 1.10)
abbrev pub record_size : ℕ
record_size = 16

abbrev pub mark_object : ℕ
mark_object = 0x4F42

abbrev pub most_records : ℕ
most_records = 64

-- the kind of an object: 1 a map, 2 a register (1.10)
abbrev pub kind_of : ℕ → ObjectKind
kind_of v = cond (eqb v 2) a_register a_map

abbrev pub kind_byte : ObjectKind → ℕ
kind_byte a_map = 1
kind_byte a_register = 2

-- whether it is marked: 1 or 0
abbrev pub marked_byte : Bool → ℕ
marked_byte b = cond b 1 0

-- the id in the record at byte i
abbrev pub id_at : List ℕ → ℕ → ℕ
id_at d i = be_at 4 d (i + 4)

-- the object of the record at byte i (1.10)
unfoldable pub record_at : List ℕ → ℕ → Object
record_at d i = record { id = id_at d i; kind = kind_of (be_at 1 d (i + 12)); highest = be_at 4 d (i + 8); marked = eqb (be_at 1 d (i + 13)) 1 }

-- a map's highest key is below the greatest number of 4 bytes, and a register's is 0 (1.11)
abbrev pub ok_kind_and_key : ℕ → ℕ → Bool
ok_kind_and_key kind highest = (eqb kind 1 && ltb highest 4294967295) || (eqb kind 2 && eqb highest 0)

-- the record at byte i by itself: its mark, its zero bytes, and each field in its range (1.10, 1.11)
unfoldable pub ok_record : List ℕ → ℕ → Bool
ok_record d i = eqb (be_at 2 d i) mark_object && eqb (be_at 2 d (i + 2)) 0 && eqb (be_at 2 d (i + 14)) 0
    && leb 1 (id_at d i) && ltb (id_at d i) (2 ^ 31)
    && ok_kind_and_key (be_at 1 d (i + 12)) (be_at 4 d (i + 8)) && leb (be_at 1 d (i + 13)) 1

-- the id at place k is above that of the place before (1.11)
abbrev pub follows : List ℕ → ℕ → Bool
follows d zero = true
follows d (suc k) = ltb (id_at d (record_size * k)) (id_at d (record_size * suc k))

-- place k is at fault: past the most records, missing or cut, not a record, or not above the one before it (1.12)
unfoldable pub at_fault : List ℕ → ℕ → Bool
at_fault d k = leb most_records k || ltb (length d) (record_size * k + record_size) || not (ok_record d (record_size * k)) || not (follows d k)

-- how many places are judged: every record begun, and at least one (1.12)
abbrev pub places : List ℕ → ℕ
places d = cond (eqb (length d) 0) 1 ((length d + 15) / record_size)

-- the objects that it lists, and its first place at fault (1.12)
unfoldable pub listed_in : List ℕ → List Object
listed_in d = values (λ k. record_at d (record_size * k)) 0 (length d / record_size)

unfoldable pub fault_of : List ℕ → Option ℕ
fault_of d = lowest (at_fault d) (places d)

-- the shape that a directory's bytes give (1.13)
abbrev pub shape_of : List ℕ → Shape
shape_of d = record { objects = listed_in d; layout = the_layout; fault = fault_of d }

-- the bytes of a list of objects
unfoldable pub record_bytes : Object → List ℕ
record_bytes b = bytes_of 2 mark_object ++ bytes_of 2 0 ++ bytes_of 4 b.id ++ bytes_of 4 b.highest
    ++ bytes_of 1 (kind_byte b.kind) ++ bytes_of 1 (marked_byte b.marked) ++ bytes_of 2 0

unfoldable pub directory_of : List Object → List ℕ
directory_of bs = joined record_bytes bs
