-- What a program reads of its input.
use Rattle.std.specs.Prelude.{Bool, cond, ◌&&◌, List, [], ℕ, ◌+◌, leb, ltb, length, take, drop}
use Rattle.lists.specs.Bytes.{be_at}

-- n bytes from a place on lie in the input, which does not end there
abbrev pub inside : List ℕ → ℕ → ℕ → Bool
inside input at n = ltb at (length input) && leb (at + n) (length input)

abbrev pub number_at : ℕ → List ℕ → ℕ → ℕ
number_at n input at = cond (inside input at n) (be_at n input at) 0

abbrev pub part_at : List ℕ → ℕ → ℕ → List ℕ
part_at input at n = cond (inside input at n) (take n (drop at input)) []

abbrev pub place_after : List ℕ → ℕ → ℕ → ℕ
place_after input at n = cond (inside input at n) (at + n) (length input)
