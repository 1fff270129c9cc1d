-- A cell's place among all cells, and what a written cell holds, as the model has it.
use Rattle.std.proofs.Math.Option.{Option, none, some}
use Rattle.std.specs.Prelude.{ℕ, ◌+◌, ◌*◌, ◌^◌}
use Rattle.model.specs.Entries.{Held}
use Rattle.codec.specs.declared.cells.Content.{Content}
use Rattle.codec.specs.declared.cells.Content.TheVariants.{Removed, Value}
use Rattle.codec.specs.declared.cells.Written.{Written}

abbrev pub content_in : Content → Option ℕ
content_in Removed = none
content_in (Value v) = some v

abbrev pub held_of : Written → Held
held_of w = record { version = w.version.0; content = content_in w.content }

-- object and key as one number: that of the first eight bytes of a row of a table, and of an item
abbrev pub rank_of : ℕ → ℕ → ℕ
rank_of o k = o * 2 ^ 32 + k
