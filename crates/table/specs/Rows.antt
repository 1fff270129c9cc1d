-- Rows of a table by their place, and the code's values as the model has them.
use Rattle.std.specs.Prelude.{◌≡◌, true, cond, List, [], ◌∷◌, ℕ, zero, suc, ◌*◌, Option as Told, Some, None}
use Rattle.std.proofs.Math.Option.{Option, none, some}
use Rattle.lists.specs.Splice.{splice}
use Rattle.model.specs.Entries.{Held}
use Rattle.model.specs.Table.{Cell, is_of, cell_bytes, cell_size}
use Rattle.laws.proofs.Items.{fits_cell}
use Rattle.codec.specs.Cells.{held_of}
use Rattle.table.specs.declared.rows.Row.{Row}
use Rattle.codec.specs.declared.cells.Written.{Written}

-- a row's place plus 1 in a list with one row more in front; 0 stays none
abbrev pub further : ℕ → ℕ
further zero = zero
further (suc i) = suc (suc i)

-- the place of a cell's first row, plus 1; 0 where it has none
unfoldable pub row_in : List Cell → ℕ → ℕ → ℕ
row_in [] o k = 0
row_in (c ∷ cs) o k = cond (is_of o k c) 1 (further (row_in cs o k))

-- row i of table t put in, and the table then is t'; its fields fit their bytes
pub record RowPut (t t' : List ℕ) (i : ℕ) (c : Cell) : Type 0 where
  pub bytes : t' ≡ splice t (cell_size * i) (cell_bytes c)
  pub fits : fits_cell c ≡ true

abbrev pub cell_in : Row → Cell
cell_in r = record { object = r.object.0; key = r.key; value = r.value; present = r.present; version = r.version.0 }

abbrev pub held_case : Told Written → Option Held
held_case None = none
held_case (Some h) = some (held_of h)
