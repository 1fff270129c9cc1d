-- The rows of a table from a place on as the nodes of a tree (crate tree), so that a cell's row is found whatever the order of the rows.
-- The key of the node i is the rank of the row at main + i.
use Rattle.std.specs.Prelude.{◌≡◌, List, ℕ, ◌+◌, ◌-◌, ◌*◌, ◌/◌, ◌%◌, ◌^◌, ◌≤◌, ◌<◌, length}
use Rattle.std.specs.Int.Bits.{bit_and}
use Rattle.lists.specs.Bytes.{be_at}
use Rattle.tree.specs.Form.{Form, by_head}
use Rattle.tree.specs.Tree.{Tree}
use Rattle.tree.specs.Search.{Place}
use Rattle.model.specs.Table.{cell_size}
use Rattle.codec.specs.Cells.{rank_of}

-- a hash of the cell of object o with key k
unfoldable pub hash_of : ℕ → ℕ → ℕ
hash_of o k = (k * 1640531527 + o * 1481765933) / 65536

-- the head of a cell among so many, by its rank
unfoldable pub head_of : ℕ → ℕ → ℕ
head_of heads r = bit_and (hash_of (r / 2 ^ 32) (r % 2 ^ 32)) (heads - 1)

abbrev pub cell_form : ℕ → Form
cell_form heads = by_head heads (head_of heads)

-- the rank of the cell of the row at main + i
abbrev pub rank_at : List ℕ → ℕ → ℕ → ℕ
rank_at t main i = be_at 8 t (cell_size * (main + i))

-- the used rows from main on are of different cells, and the nodes of a tree with room for `most`
pub record RowTree (t : List ℕ) (main heads most used : ℕ) (index : List ℕ) : Type 0 where
  pub rows : cell_size * (main + used) ≤ length t
  pub tree : Tree (rank_at t main) (cell_form heads) most used index
  pub once : (i j : ℕ) → i < j → j < used → rank_at t main i ≡ rank_at t main j → ⊥

-- s is the slot where the way of the cell of object o with key k ends
abbrev pub CellPlace : List ℕ → ℕ → ℕ → ℕ → ℕ → List ℕ → ℕ → ℕ → ℕ → Type 0
CellPlace t main heads most used index o k s = Place (rank_at t main) (cell_form heads) most used index (rank_of o k) s

-- what a search asks: some rows with their tree
pub record Seeks (t : List ℕ) (main : ℕ) (index : List ℕ) (heads : ℕ) : Type 0 where
  pub most : ℕ
  pub used : ℕ
  pub rows : RowTree t main heads most used index

-- what it finds
pub record Sought (t : List ℕ) (main : ℕ) (index : List ℕ) (heads o k s : ℕ) : Type 0 where
  pub place : (most used : ℕ) → RowTree t main heads most used index → CellPlace t main heads most used index o k s
