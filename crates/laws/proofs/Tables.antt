-- The cells of a table: read and stored back they are the table's bytes, and stored and read back they are the cells.
use mathlib.Core.Path.{◌≡◌, refl, ap, ap₂, sym, ◌∙◌}
use mathlib.Core.Bool.{true, not, Bool, false, cond}
use mathlib.Core.List.{List, [], ◌++◌, ◌∷◌}
use Prim.Native.Nat.{ℕ, ◌+◌, ◌-◌, ◌*◌, ◌^◌, ◌≤◌, ◌<◌}
use native.Mathlib.Nat.{zero-add}
use native.Mathlib.Omega.{arith}
use lib.Dec.{ltb}
use lib.ListN.{length, get_or, take, drop, take-append-drop}
use lib.Seq.{take-add, drop_at, drop-drop}
use borrow.Author.Tests.{ltb-true, lt-ltb}
use Rattle.model.specs.Entries.{Held}
use Rattle.lists.specs.Bytes.{be_at, be_at-lt, bytes_of, bytes_of-be_at}
use Rattle.lists.specs.Rows.{joined, values, length-values, length-joined, values_same, values-joined, joined-values}
use Rattle.lists.specs.Tests.{both, and_l, and_r}
use Rattle.lists.specs.Sets.{all, all-get_or}
use Rattle.lists.specs.First.{seeking-from}
use Rattle.lists.specs.Every.{failing, every-all}
use Rattle.model.specs.Table.{Cell, cell_at, cell_bytes, cells_of, table_with, cell_size, is_of, cell_of, cell_before, store}
use Rattle.laws.proofs.Items.{fits_cell, length-cell, cell-back}

pub length-cells : (table : List ℕ) (count : ℕ) → length (cells_of table count) ≡ count
unfolding cells_of
length-cells table count = length-values _ 0 count

pub length-stored : (cells : List Cell) → length (joined cell_bytes cells) ≡ cell_size * length cells
length-stored cells = length-joined cell_bytes cell_size length-cell cells

-- the places as the laws of rows have them
cells-from : (table : List ℕ) (count : ℕ) → cells_of table count ≡ values (λ i. cell_at table (0 + cell_size * i)) 0 count
unfolding cells_of
cells-from table count = values_same _ _ 0 count (λ k l m. ap (cell_at table) (sym (zero-add (cell_size * k))))

pub cells-back : (table : List ℕ) (cells : List Cell) → all fits_cell cells ≡ true → cells_of (table_with table cells) (length cells) ≡ cells
unfolding table_with
cells-back table cells h =
    cells-from (table_with table cells) (length cells)
    ∙ values-joined cell_bytes cell_at cell_size fits_cell length-cell cell-back [] cells (drop (cell_size * length cells) table) 0 refl h

-- cells stored twice: the second counts, if they are no fewer
pub table-again : (t : List ℕ) (cs ds : List Cell) → length cs ≤ length ds → table_with (table_with t cs) ds ≡ table_with t ds
unfolding table_with
table-again t cs ds h =
    let n : ℕ = cell_size * length ds - cell_size * length cs in
    let e : cell_size * length ds ≡ cell_size * length cs + n = omega arith in
    ap (λ (s : List ℕ). joined cell_bytes ds ++ s)
    (ap (λ (m : ℕ). drop m (table_with t cs)) e
    ∙ sym (drop-drop n (cell_size * length cs) (table_with t cs))
    ∙ ap (drop n) (drop_at (joined cell_bytes cs) (drop (cell_size * length cs) t) (cell_size * length cs) (length-stored cs))
    ∙ drop-drop n (cell_size * length cs) t
    ∙ ap (λ (m : ℕ). drop m t) (sym e))

-- a test that each cell passes
pub all-store : (f : Cell → Bool) (cs : List Cell) (o k : ℕ) (h : Held) → all f cs ≡ true → f (cell_of o k h) ≡ true → all f (store cs o k h) ≡ true
unfolding store
all-store f [] o k h a e = both e refl
all-store f (c ∷ cs) o k h a e = go (is_of o k c) (cell_before (cell_of o k h) c) (all-store f cs o k h (and_r (f c) (all f cs) a) e)
  where
    go : (q r : Bool) → all f (store cs o k h) ≡ true
        → all f (cond q (cell_of o k h ∷ cs) (cond r (cell_of o k h ∷ c ∷ cs) (c ∷ store cs o k h))) ≡ true
    go true r ih = both e (and_r (f c) (all f cs) a)
    go false true ih = both e a
    go false false ih = both (and_l (f c) (all f cs) a) ih

module _ (table : List ℕ) (bytes : all (λ x. ltb x 256) table ≡ true) where
  small : (k : ℕ) → get_or table k 0 < 256
  small k = ltb-true (get_or table k 0) 256 (all-get_or (λ x. ltb x 256) table k 0 bytes refl)

  -- a number read and stored again
  pub word : (n i : ℕ) → i + n ≤ length table → bytes_of n (be_at n table i) ≡ take n (drop i table)
  word n i h = bytes_of-be_at n table i (λ k l. small (i + k)) h

  -- one number more
  pub next : (m n i : ℕ) {xs : List ℕ} → i + m + n ≤ length table → xs ≡ take m (drop i table) → xs ++ bytes_of n (be_at n table (i + m)) ≡ take (m + n) (drop i table)
  next m n i h e =
      ap₂ (λ (a b : List ℕ). a ++ b) e (word n (i + m) h ∙ ap (take n) (sym (drop-drop m i table))) ∙ sym (take-add m n (drop i table))

  -- a cell's bytes
  pub cell-bytes : (i : ℕ) → i + cell_size ≤ length table → cell_bytes (cell_at table i) ≡ take cell_size (drop i table)
  unfolding cell_at cell_bytes
  cell-bytes i h =
      next 16 8 i (omega arith) (next 12 4 i (omega arith) (next 8 4 i (omega arith) (next 4 4 i (omega arith) (word 4 i (omega arith)))))

  pub table-back : (count : ℕ) → cell_size * count ≤ length table → table_with table (cells_of table count) ≡ table
  unfolding table_with
  table-back count h =
      ap₂ (λ (a b : List ℕ). a ++ b)
      (ap (joined cell_bytes) (cells-from table count)
      ∙ joined-values cell_bytes cell_at cell_size table 0 count (λ k l. cell-bytes (0 + cell_size * k) (omega arith)))
      (ap (λ (n : ℕ). drop (cell_size * n) table) (length-cells table count))
      ∙ take-append-drop (cell_size * count) table

  -- a cell read from bytes fits them
  cell-fits : (i : ℕ) → fits_cell (cell_at table i) ≡ true
  unfolding cell_at
  cell-fits i = both (both (both (both (field 4 i) (field 4 (i + 4))) (field 4 (i + 8))) (field 4 (i + 12))) (field 8 (i + 16))
    where
      field : (n j : ℕ) → ltb (be_at n table j) (256 ^ n) ≡ true
      field n j = lt-ltb (be_at n table j) (256 ^ n) (be_at-lt n table j (λ k l. small (j + k)))

  pub cells_fit : (count : ℕ) → all fits_cell (cells_of table count) ≡ true
  unfolding cells_of
  cells_fit count =
      every-all fits_cell (λ i. cell_at table (cell_size * i))
      (seeking-from (failing fits_cell (λ i. cell_at table (cell_size * i))) count count (omega arith) (λ i l. ap not (cell-fits (cell_size * i)))) (omega arith)
