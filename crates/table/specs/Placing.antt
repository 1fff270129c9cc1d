-- What the functions that write a cell ask of one another: where the search for it ended.
use Rattle.std.specs.Prelude.{◌≡◌, List, ℕ, ◌+◌, ◌-◌, ◌*◌, ◌≤◌, ◌<◌, length, get_or, set}
use Rattle.model.specs.Entries.{Held}
use Rattle.model.specs.Directory.{most_records}
use Rattle.model.specs.Table.{Cell, cell_size, cells_of}
use Rattle.laws.specs.Ruled.{Ruled, records}
use Rattle.laws.proofs.ByPlace.{id_of}
use Rattle.table.specs.Rows.{row_in, RowPut}
use Rattle.table.specs.Runs.{heads_in, most_new, least_index, count_at, used, Standing, standing, second_run, both_runs, Counts, LeftAs, CellToPut, CellToAdd}
use Rattle.table.specs.Indexing.{NewPlace}

-- a slot of the index of a table with so many rows
pub record SlotOf (count : ℕ) (x : List ℕ) (slot : ℕ) : Type 0 where
  pub inside : slot < length x
  pub long : least_index ≤ length x
  pub short : length x < 4294967296
  pub new : used x ≤ count
  pub row : get_or x slot 0 ≤ used x

-- the row of a cell, plus 1, by what a slot of the index tells; 0 where the second run has none
pub record RowTold (t : List ℕ) (s : Standing) (o k r : ℕ) : Type 0 where
  pub found : 1 ≤ r → r ≡ row_in (cells_of t s.count) o k
  pub none : r ≡ 0 → row_in (second_run t s) o k ≡ 0

-- a place for a hint: behind the tree, and before the counts
pub record HintAt (x : List ℕ) (r : ℕ) : Type 0 where
  pub low : heads_in x + 2 * most_new x ≤ r
  pub high : r + (most_records + 2) ≤ length x

-- the index is left with other hints alone: a table stands with it as before
pub record Hinted (x x' : List ℕ) : Type 0 where
  pub size : length x' ≡ length x
  pub stands : (d t t' : List ℕ) (count : ℕ) (cs : List Cell) → LeftAs d t t' (standing count x) cs → LeftAs d t t' (standing count x') cs

-- the cell has no row in the second run: its way ends at an empty slot
pub record NotNew (d t : List ℕ) (s : Standing) (slot o k : ℕ) (h : Held) : Type 0 where
  pub put : CellToPut d t s o k h
  pub place : NewPlace s.index (second_run t s) o k slot
  pub none : get_or s.index slot 0 ≡ 0

-- nor in the main one
pub record Nowhere (d t : List ℕ) (s : Standing) (slot o k : ℕ) (h : Held) : Type 0 where
  pub new : NotNew d t s slot o k h
  pub room : cell_size * s.count + cell_size ≤ length t
  pub fresh : row_in (both_runs t s) o k ≡ 0

-- and the index has room
pub record ToAppend (d t : List ℕ) (s : Standing) (slot o k : ℕ) : Type 0 where
  pub add : CellToAdd t s o k
  pub counts : Counts d s.index (second_run t s)
  pub place : NewPlace s.index (second_run t s) o k slot

-- one row of object o more is counted: x is left as x'
pub record Noted (d x x' : List ℕ) (o : ℕ) : Type 0 where
  pub size : length x' ≡ length x
  pub before : (i : ℕ) → i + (most_records + 1) < length x → get_or x' i 0 ≡ get_or x i 0
  pub all : used x' ≡ used x + 1
  pub own : (q : ℕ) → q < records d → id_of d q ≡ o → get_or x' (count_at x q) 0 ≡ get_or x (count_at x q) 0 + 1
  pub others : (q : ℕ) → q < records d → (id_of d q ≡ o → ⊥) → get_or x' (count_at x q) 0 ≡ get_or x (count_at x q) 0

-- what that asks: the counts can grow
pub record ToNote (d x : List ℕ) : Type 0 where
  pub ruled : Ruled d
  pub long : least_index ≤ length x
  pub all : used x + 1 < 4294967296
  pub each : (k : ℕ) → k < records d → get_or x (count_at x k) 0 + 1 < 4294967296

-- the object at place k has a count
pub record CountOf (x : List ℕ) (k : ℕ) : Type 0 where
  pub long : least_index ≤ length x
  pub high : k < most_records

-- a row of the main run, plus 1, and an index
pub record OldRow (t x : List ℕ) (row : ℕ) : Type 0 where
  pub some : 1 ≤ row
  pub room : cell_size * row ≤ length t
  pub long : least_index ≤ length x

-- the row is written, and only a hint of the index differs
pub record OldPut (t t' x x' : List ℕ) (n : ℕ) (c : Cell) : Type 0 where
  pub row : RowPut t t' (n - 1) c
  pub place : ℕ
  pub hint : ℕ
  pub hinted : HintAt x place
  pub index : x' ≡ set x place hint
