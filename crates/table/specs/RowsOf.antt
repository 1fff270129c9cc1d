-- Rows of a table by their places.
use Rattle.std.specs.Prelude.{◌≡◌, refl, List, ◌∷◌, ◌++◌, ℕ, zero, suc, ◌+◌, ◌-◌, ◌*◌, ◌≤◌, ◌<◌, length, get_or, take}
use Rattle.std.proofs.Common.{ap, ap₂, sym, ◌∙◌, add-zero, zero-add, arith, take_at}
use Rattle.std.proofs.Math.Nat.{sub-zero}
use Rattle.lists.specs.Rows.{values, length-values, get_or-values}
use Rattle.model.specs.Table.{Cell, cell_at, cells_of, in_order, cell_size}
use Rattle.table.specs.Order.{rows_of}

pub values-add : {A : Type 0} (f : ℕ → A) (i m n : ℕ) → values f i (m + n) ≡ values f i m ++ values f (i + m) n
unfolding values
values-add f i zero n = ap₂ (values f) (sym (add-zero i)) (zero-add n)
values-add f i (suc m) n =
    let e : suc m + n ≡ suc (m + n) = omega arith in
    let s : suc i + m ≡ i + suc m = omega arith in
    ap (values f i) e ∙ ap (λ t. f i ∷ t) (values-add f (suc i) m n ∙ ap (λ (j : ℕ). values f (suc i) m ++ values f j n) s)

pub cells-rows : (t : List ℕ) (n : ℕ) → cells_of t n ≡ rows_of t 0 n
unfolding cells_of rows_of
cells-rows t n = refl

pub length-rows : (t : List ℕ) (i n : ℕ) → length (rows_of t i n) ≡ n
unfolding rows_of
length-rows t i n = length-values _ i n

pub row_of : (t : List ℕ) (i n j : ℕ) (d : Cell) → i ≤ j → j < i + n → get_or (rows_of t i n) (j - i) d ≡ cell_at t (cell_size * j)
unfolding rows_of
row_of t i n j d l m =
    let e : i + (j - i) ≡ j = omega arith in
    get_or-values (λ (x : ℕ). cell_at t (cell_size * x)) i n (j - i) d (omega arith) ∙ ap (λ (x : ℕ). cell_at t (cell_size * x)) e

-- the counted rows are those of the two runs
pub runs-rows : (t : List ℕ) (m n : ℕ) → m ≤ n → cells_of t n ≡ cells_of t m ++ rows_of t m (n - m)
unfolding cells_of rows_of
runs-rows t m n l =
    let e : n ≡ m + (n - m) = omega arith in
    ap (values (λ (x : ℕ). cell_at t (cell_size * x)) 0) e ∙ values-add (λ (x : ℕ). cell_at t (cell_size * x)) 0 m (n - m)
    ∙ ap (λ (i : ℕ). values (λ (x : ℕ). cell_at t (cell_size * x)) 0 m ++ values (λ (x : ℕ). cell_at t (cell_size * x)) i (n - m)) (zero-add m)

-- the first rows as a stretch
pub cells-stretch : (t : List ℕ) (n : ℕ) → in_order (rows_of t 0 (n - 0)) ≡ in_order (cells_of t n)
cells-stretch t n = ap (λ (m : ℕ). in_order (rows_of t 0 m)) (sub-zero n) ∙ ap in_order (sym (cells-rows t n))

-- the first rows of a stretch
pub rows-front : (t : List ℕ) (i m n : ℕ) → m ≤ n → take m (rows_of t i n) ≡ rows_of t i m
unfolding rows_of
rows-front t i m n l =
    let g : ℕ → Cell = λ x. cell_at t (cell_size * x) in
    let e : n ≡ m + (n - m) = omega arith in
    ap (λ (x : ℕ). take m (values g i x)) e ∙ ap (take m) (values-add g i m (n - m)) ∙ take_at (values g i m) (values g (i + m) (n - m)) m (length-values g i m)
