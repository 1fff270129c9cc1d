-- The constant table of the eight objects as the code has it, read by place.
use Rattle.std.specs.Prelude.{Bool, true, false, List, [], ◌∷◌, ℕ, get_or}
use Rattle.codec.specs.declared.objects.Object.{Object}

-- a row of the code's table: kind 1 map, 2 register
abbrev row : ℕ → ℕ → ℕ → Bool → Object
row i t h m = record { id = i; kind = t; highest = h; marked = m }

-- the constant table
abbrev pub table : List Object
table =
    row 1 1 9999 true
    ∷ row 2 1 499 false
    ∷ row 3 1 499 true
    ∷ row 4 1 499 true
    ∷ row 5 1 9999 false
    ∷ row 6 2 0 true
    ∷ row 7 2 0 false
    ∷ row 8 2 0 false
    ∷ []

-- the row at a place; past the table a row of zeros, as the code's array has it
abbrev pub at : ℕ → Object
at k = get_or table k (record { id = 0; kind = 0; highest = 0; marked = false })
