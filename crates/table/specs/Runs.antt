-- A table while a call plays: a main run of rows in order and, right behind it, a second one of new rows as they came, no cell twice.
use Rattle.std.specs.Prelude.{◌≡◌, Bool, true, List, [], ◌∷◌, ◌++◌, map, ℕ, ◌+◌, ◌-◌, ◌*◌, ◌/◌, ◌≤◌, ◌<◌, eqb, length, get_or, take, drop}
use Rattle.lists.specs.Sets.{all}
use Rattle.model.specs.Entries.{Held}
use Rattle.model.specs.Table.{Cell, cells_of, table_with, in_order, store, cell_size}
use Rattle.laws.specs.FirstWriting.{insert_cell}
use Rattle.model.specs.Directory.{most_records}
use Rattle.laws.specs.Ruled.{Ruled, records}
use Rattle.laws.proofs.ByPlace.{id_of}
use Rattle.laws.proofs.Ordered.{once}
use Rattle.table.specs.Rows.{row_in}
use Rattle.tree.specs.Tree.{Tree}
use Rattle.codec.specs.Cells.{rank_of}
use Rattle.table.specs.Order.{rows_of, of_object}
use Rattle.table.specs.Seek.{cell_form}

-- a row put in at a place
abbrev pub insert_at : List Cell → ℕ → Cell → List Cell
insert_at cs i c = take i cs ++ c ∷ drop i cs

-- the rows of the second run put into the main one
unfoldable pub merged : List Cell → List Cell → List Cell
merged a [] = a
merged a (c ∷ b) = insert_cell c (merged a b)

-- no cell of the second run has a row in the main one
unfoldable pub apart : List Cell → List Cell → Bool
apart a b = all (λ c. eqb (row_in a c.object c.key) 0) b

pub record Runs (a b : List Cell) : Type 0 where
  pub main : in_order a ≡ true
  pub second : once b ≡ true
  pub alone : apart a b ≡ true

-- how many rows the second run has: the last number of the index
abbrev pub used : List ℕ → ℕ
used x = get_or x (length x - 1) 0

-- how a table stands while a call plays: the rows of the main run, all rows, and the index of the others
pub record Standing : Type 0 where
  pub main : ℕ
  pub count : ℕ
  pub index : List ℕ

abbrev pub standing : ℕ → List ℕ → Standing
standing count x = record { main = count - used x; count = count; index = x }

abbrev pub main_run : List ℕ → Standing → List Cell
main_run t s = cells_of t s.main

abbrev pub second_run : List ℕ → Standing → List Cell
second_run t s = rows_of t s.main (s.count - s.main)

-- the table's cells in order
unfoldable pub both_runs : List ℕ → Standing → List Cell
both_runs t s = merged (main_run t s) (second_run t s)

-- ---- the index

-- an index is a lent array. Its first quarter holds the heads of a tree, the second the children of its nodes, the third hints, which
-- may be any numbers. The last numbers of all count the rows: of the object at each place of a directory, and all.
abbrev pub heads_in : List ℕ → ℕ
heads_in x = length x / 4

-- how many rows it has room for
abbrev pub most_new : List ℕ → ℕ
most_new x = length x / 8

-- the shortest index: its last quarter has room for the counts
abbrev pub least_index : ℕ
least_index = 4 * (most_records + 1)

-- how many numbers the index of a call has, by how long the log is
abbrev pub short_index : ℕ
short_index = 8192

abbrev pub mid_index : ℕ
mid_index = 65536

abbrev pub long_index : ℕ
long_index = 131072

-- where the count of the object at place k stands
abbrev pub count_at : List ℕ → ℕ → ℕ
count_at x k = length x - (most_records + 1) + k

-- the rank of the row at place i
abbrev pub rank_in : List Cell → ℕ → ℕ
rank_in b i = get_or (map (λ (c : Cell). rank_of c.object c.key) b) i 0

-- an index of these rows: the node i is the row at place i
pub record Indexed (x : List ℕ) (b : List Cell) : Type 0 where
  pub long : least_index ≤ length x
  pub short : length x < 4294967296
  pub all : used x ≡ length b
  pub tree : Tree (rank_in b) (cell_form (heads_in x)) (most_new x) (length b) x

-- the counts of these rows, by the places of directory d
pub record Counts (d x : List ℕ) (b : List Cell) : Type 0 where
  pub ruled : Ruled d
  pub each : (k : ℕ) → k < records d → get_or x (count_at x k) 0 ≡ length (of_object (id_of d k) b)

-- an index with its counts
pub record CountedIndex (d x : List ℕ) (b : List Cell) : Type 0 where
  pub index : Indexed x b
  pub counts : Counts d x b

-- ---- what functions over two runs require and promise

pub record TwoRuns (t : List ℕ) (s : Standing) : Type 0 where
  pub within : s.main ≤ s.count
  pub room : cell_size * s.count ≤ length t
  pub runs : Runs (main_run t s) (second_run t s)
  pub index : Indexed s.index (second_run t s)

-- with the counts of the second
pub record CountedRuns (d t : List ℕ) (s : Standing) : Type 0 where
  pub two : TwoRuns t s
  pub counts : Counts d s.index (second_run t s)

-- table t left as t', with two runs of these cells and the bytes past the counted rows as they were
pub record LeftAs (d t t' : List ℕ) (s : Standing) (cs : List Cell) : Type 0 where
  pub counted : CountedRuns d t' s
  pub cells : both_runs t' s ≡ cs
  pub past : drop (cell_size * s.count) t' ≡ drop (cell_size * s.count) t

-- the table as a call leaves it: these cells in order, and no byte past them touched
pub record Ended (t t' : List ℕ) (count : ℕ) (cs : List Cell) : Type 0 where
  pub bytes : t' ≡ table_with t cs
  pub rows : cells_of t' count ≡ cs
  pub ascends : in_order cs ≡ true
  pub size : length cs ≡ count

-- the two made one in the middle of a call, and an index x' of no rows, whatever the directory
pub record Renewed (t t' : List ℕ) (s : Standing) (x' : List ℕ) : Type 0 where
  pub left : (d : List ℕ) → Ruled d → LeftAs d t t' (standing s.count x') (both_runs t s)
  pub none : Indexed x' []

-- there is room for the cells once this one is written
pub record CellToPut (d t : List ℕ) (s : Standing) (o k : ℕ) (h : Held) : Type 0 where
  pub counted : CountedRuns d t s
  pub room : cell_size * length (store (both_runs t s) o k h) ≤ length t

-- the cell has no row, and there is room for one in the second run
pub record CellToAdd (t : List ℕ) (s : Standing) (o k : ℕ) : Type 0 where
  pub two : TwoRuns t s
  pub fewer : s.count < s.main + most_new s.index
  pub room : cell_size * s.count + cell_size ≤ length t
  pub fresh : row_in (both_runs t s) o k ≡ 0
