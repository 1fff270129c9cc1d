-- The table's cells, and what a cell holds (specification §7).
use Rattle.std.specs.Prelude.{ℕ, ◌+◌, ◌*◌, ◌/◌, Bool, cond, ◌&&◌, ◌||◌, List, [], ◌∷◌, ◌++◌, eqb, ltb, length, drop}
use Rattle.std.proofs.Math.Option.{Option, none, some}
use Rattle.lists.specs.Bytes.{be_at, bytes_of}
use Rattle.lists.specs.Rows.{values, joined}
use Rattle.lists.specs.Sets.{mem, ascending}
use Rattle.model.specs.Entries.{Write, Held, Saved, content_of}
use Rattle.model.specs.Slot.{value_field}

-- a row as stored, of any values (7.4)
pub record Cell : Type 0 where
  pub object : ℕ
  pub key : ℕ
  pub value : ℕ
  pub present : ℕ
  pub version : ℕ

abbrev pub cell_size : ℕ
cell_size = 24

unfoldable pub cell_at : List ℕ → ℕ → Cell
cell_at t i = record { object = be_at 4 t i; key = be_at 4 t (i + 4); value = be_at 4 t (i + 8); present = be_at 4 t (i + 12); version = be_at 8 t (i + 16) }

unfoldable pub cell_bytes : Cell → List ℕ
cell_bytes c = bytes_of 4 c.object ++ bytes_of 4 c.key ++ bytes_of 4 c.value ++ bytes_of 4 c.present ++ bytes_of 8 c.version

-- the counted cells of a table
unfoldable pub cells_of : List ℕ → ℕ → List Cell
cells_of table count = values (λ i. cell_at table (cell_size * i)) 0 count

-- a table with these cells first, the rest as it was (7.5)
unfoldable pub table_with : List ℕ → List Cell → List ℕ
table_with table cells = joined cell_bytes cells ++ drop (cell_size * length cells) table

-- how many rows it has (7.5)
abbrev pub capacity : List ℕ → ℕ
capacity table = length table / cell_size

-- What each cell of the objects holds, by object and key; none where it was never written.
abbrev pub Holds : Type 0
Holds = ℕ → ℕ → Option Held

abbrev pub is_of : ℕ → ℕ → Cell → Bool
is_of o k c = eqb c.object o && eqb c.key k

-- what a row holds (7.6)
abbrev pub held_by : Cell → Held
held_by c = record { version = c.version; content = cond (eqb c.present 1) (some c.value) none }

-- what a cell holds: its first row (7.7)
unfoldable pub lookup : List Cell → Holds
lookup [] o k = none
lookup (c ∷ cs) o k = cond (is_of o k c) (some (held_by c)) (lookup cs o k)

abbrev pub present_field : Option ℕ → ℕ
present_field none = 0
present_field (some v) = 1

abbrev pub cell_of : ℕ → ℕ → Held → Cell
cell_of o k h = record { object = o; key = k; value = value_field h.content; present = present_field h.content; version = h.version }

-- by object, then key
abbrev pub cell_before : Cell → Cell → Bool
cell_before c d = ltb c.object d.object || (eqb c.object d.object && ltb c.key d.key)

-- the rows of a table that is in order: each before the next (7.4)
unfoldable pub in_order : List Cell → Bool
in_order cs = ascending cell_before cs

-- a cell written: in its row, or in a new one before the first that comes after it (7.10)
unfoldable pub store : List Cell → ℕ → ℕ → Held → List Cell
store [] o k h = cell_of o k h ∷ []
store (c ∷ cs) o k h = cond (is_of o k c) (cell_of o k h ∷ cs)
    (cond (cell_before (cell_of o k h) c) (cell_of o k h ∷ c ∷ cs) (c ∷ store cs o k h))

-- the hosted writes made in order, with one version (9.4)
unfoldable pub apply : List ℕ → ℕ → List Write → List Cell → List Cell
apply set v [] cs = cs
apply set v (w ∷ ws) cs = apply set v ws (cond (mem w.object set) (store cs w.object w.key (record { version = v; content = content_of w })) cs)

-- a cell's version: 0 where it was never written (1.5)
abbrev pub version_in : Option Held → ℕ
version_in none = 0
version_in (some h) = h.version

-- a checkpoint's cell put into a list that ascends by key, in place of one with the same key
abbrev pub insert_saved : Saved → List Saved → List Saved
insert_saved c [] = c ∷ []
insert_saved c (d ∷ ds) = cond (ltb c.key d.key) (c ∷ d ∷ ds) (cond (eqb c.key d.key) (c ∷ ds) (d ∷ insert_saved c ds))

-- the cells of object o ever written, ascending by key; of a cell that is there twice, the first
unfoldable pub saved_of : ℕ → List Cell → List Saved
saved_of o [] = []
saved_of o (c ∷ cs) = cond (eqb c.object o) (insert_saved (record { key = c.key; held = held_by c }) (saved_of o cs)) (saved_of o cs)
