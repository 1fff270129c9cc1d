-- Rows in order: the place of a cell among them, its row, and the rows of one object.
use Rattle.std.specs.Prelude.{◌≡◌, Bool, true, cond, List, [], ◌∷◌, ℕ, zero, suc, ◌+◌, ◌-◌, ◌*◌, ◌≤◌, eqb, length}
use Rattle.lists.specs.Rows.{values}
use Rattle.model.specs.Table.{Cell, cell_at, cells_of, in_order, cell_size}
use Rattle.laws.proofs.CellOrder.{lex_before}
use Rattle.table.specs.Rows.{row_in}

-- the row comes before the cell of object o with key k
abbrev pub before : ℕ → ℕ → Cell → Bool
before o k c = lex_before c.object c.key o k

-- the n rows of a table from row i on
unfoldable pub rows_of : List ℕ → ℕ → ℕ → List Cell
rows_of t i n = values (λ j. cell_at t (cell_size * j)) i n

-- how many rows stand in front of the cell's place: those that come before it
unfoldable pub place_in : List Cell → ℕ → ℕ → ℕ
place_in [] o k = 0
place_in (c ∷ cs) o k = cond (before o k c) (suc (place_in cs o k)) 0

-- a row's place plus 1 with n rows in front; 0 stays none
abbrev pub behind : ℕ → ℕ → ℕ
behind n zero = 0
behind n (suc i) = n + suc i

-- the row of a cell among the rows from one place to another, plus 1; 0 where it has none there
unfoldable pub row_between : List ℕ → ℕ → ℕ → ℕ → ℕ → ℕ
row_between t from to o k = behind from (row_in (rows_of t from (to - from)) o k)

-- the rows of object o
unfoldable pub of_object : ℕ → List Cell → List Cell
of_object o [] = []
of_object o (c ∷ cs) = cond (eqb c.object o) (c ∷ of_object o cs) (of_object o cs)

-- ---- what functions over rows in order require and promise

-- the counted rows lie in the table, in order
pub record Ordered (t : List ℕ) (count : ℕ) : Type 0 where
  pub room : cell_size * count ≤ length t
  pub ascends : in_order (cells_of t count) ≡ true

-- the rows from one place to another lie in the table, in order
pub record OrderedRows (t : List ℕ) (from to : ℕ) : Type 0 where
  pub forward : from ≤ to
  pub room : cell_size * to ≤ length t
  pub ascends : in_order (rows_of t from (to - from)) ≡ true

-- the n counted rows from the first on are those of object o
pub record Stretched (t : List ℕ) (count o first n : ℕ) : Type 0 where
  pub within : first + n ≤ count
  pub rows : rows_of t first n ≡ of_object o (cells_of t count)

-- rows that the table has
pub record RowsWithin (t : List ℕ) (from to : ℕ) : Type 0 where
  pub forward : from ≤ to
  pub room : cell_size * to ≤ length t
