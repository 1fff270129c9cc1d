-- A tree of rows: heads are below their number, a row's rank fits 64 bits, and the row that a search in the tree finds is the first of its cell.
use Rattle.std.specs.Prelude.{◌≡◌, Bool, false, cond, length, get_or}
use Rattle.std.proofs.Math.Path.{refl, sym}
use Rattle.std.proofs.Common.{ap, ap₂, ◌∙◌, arith, eqb-true, ltb-true}
use Rattle.std.proofs.Math.Bool.{true}
use mathlib.Core.List.{List, [], ◌∷◌}
use Prim.Native.Nat.{ℕ, zero, suc, ◌+◌, ◌-◌, ◌*◌, ◌/◌, ◌%◌, ◌^◌, ◌≤◌, ◌<◌}
use Rattle.std.specs.Int.Bits.{bit_and}
use Rattle.std.proofs.lemmas.Nat.{and_le_r}
use Rattle.lists.specs.Highest.{highest, highest-le, highest-at}
use Rattle.lists.specs.Rows.{values, values-snoc}
use Rattle.lists.specs.Tests.{ands}
use Rattle.tree.specs.Tree.{of_key}
use Rattle.tree.specs.Search.{place-answer}
use Rattle.model.specs.Rules.{fits}
use Rattle.model.specs.Table.{Cell, cell_at, is_of, cell_size}
use Rattle.laws.proofs.Items.{fits_cell}
use Rattle.table.specs.Rows.{row_in}
use Rattle.codec.specs.Cells.{rank_of}
use Rattle.table.specs.Order.{rows_of, behind}
use Rattle.table.specs.Ranks.{is-rank}
use Rattle.table.specs.Ordered.{or_row, row-append}
use Rattle.table.specs.RowsOf.{length-rows}
use Rattle.table.specs.Seek.{hash_of, head_of, rank_at, RowTree, CellPlace}

-- ---- heads

pub head-below : (heads r : ℕ) → 1 ≤ heads → head_of heads r < heads
unfolding head_of
head-below heads r s = omega (arith, and_le_r (hash_of (r / 2 ^ 32) (r % 2 ^ 32)) (heads - 1))

pub head-rank : (heads o k : ℕ) → k < 2 ^ 32 → bit_and (hash_of o k) (heads - 1) ≡ head_of heads (rank_of o k)
unfolding head_of
head-rank heads o k l =
    let a : o ≡ (o * 2 ^ 32 + k) / 2 ^ 32 = omega arith in
    let b : k ≡ (o * 2 ^ 32 + k) % 2 ^ 32 = omega arith in
    ap₂ (λ (x y : ℕ). bit_and (hash_of x y) (heads - 1)) a b

pub rank-fits : (c : Cell) → fits_cell c ≡ true → rank_of c.object c.key < 2 ^ 64
rank-fits c e =
    let o : fits 4 c.object ≡ true = search (ands, e) in
    let k : fits 4 c.key ≡ true = search (ands, e) in
    omega (arith, ltb-true c.object (256 ^ 4) o, ltb-true c.key (256 ^ 4) k)

-- ---- the row found is the only one, so the first

module _ (t : List ℕ) (main o k : ℕ) where
  abbrev has : ℕ → Bool
  has i = is_of o k (cell_at t (cell_size * (main + i)))

  last_row : (n : ℕ) → ((i j : ℕ) → i < j → j < n → has i ≡ true → has j ≡ true → ⊥) → highest has n ≡ row_in (rows_of t main n) o k
  unfolding highest row_in rows_of values
  last_row zero once = refl
  last_row (suc n) once =
      step (has n) (row_in (rows_of t main n) o k) refl (last_row n (λ i j a b. once i j a (omega arith)))
      ∙ sym (ap (λ (x : List Cell). row_in x o k) (values-snoc (λ (j : ℕ). cell_at t (cell_size * j)) main n)
      ∙ row-append (rows_of t main n) (cell_at t (cell_size * (main + n)) ∷ []) o k)
    where
      none : has n ≡ true → (h : ℕ) → highest has n ≡ h → h ≡ 0
      none e zero f = refl
      none e (suc h) f = absurd (once (highest has n - 1) n (omega (arith, highest-le has n)) (omega arith) (highest-at has n (omega arith)) e)

      step : (b : Bool) (r : ℕ) → has n ≡ b → highest has n ≡ r → cond b (suc n) (highest has n) ≡ or_row r (behind (length (rows_of t main n)) (cond b 1 0))
      step true zero e f = omega (arith, length-rows t main n)
      step true (suc r) e f = absurd (omega (arith, none e (suc r) f))
      step false zero e f = f
      step false (suc r) e f = f

pub place-row : {t : List ℕ} {main heads most used : ℕ} {index : List ℕ} → RowTree t main heads most used index → ((j : ℕ) → get_or t j 0 < 256)
    → (o k : ℕ) {s : ℕ} → k < 2 ^ 32 → CellPlace t main heads most used index o k s → get_or index s 0 ≡ row_in (rows_of t main used) o k
place-row {t} {main} {heads} {most} {used} {index} w small o k {s} l p =
    place-answer p ∙ ap (λ (f : ℕ → Bool). highest f used) (λ x i. is i x)
    ∙ last_row t main o k used (λ i j a b e f. w.once i j a b (rank i e ∙ sym (rank j f)))
  where
    is : (i : ℕ) → of_key (rank_at t main) (rank_of o k) i ≡ is_of o k (cell_at t (cell_size * (main + i)))
    is i = is-rank t small (cell_size * (main + i)) o k l

    rank : (i : ℕ) → is_of o k (cell_at t (cell_size * (main + i))) ≡ true → rank_at t main i ≡ rank_of o k
    rank i e = eqb-true (rank_at t main i) (rank_of o k) (is i ∙ e)
