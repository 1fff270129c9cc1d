-- The bytes of a table: what a row of it holds, a row put in the place of another, and the table with other cells.
use Rattle.std.specs.Prelude.{◌≡◌, refl, Bool, true, false, cond, List, [], ◌∷◌, ◌++◌, ℕ, suc, ◌+◌, ◌-◌, ◌*◌, ◌^◌, ◌≤◌, ◌<◌, eqb, ltb, length, get_or, take, drop, set}
use Rattle.std.proofs.Common.{ap, ap₂, sym, subst, ◌∙◌, append_assoc, zero-add, arith, length-append, length-set, length-drop, drop_at, take_at, length-take-le, drop-drop, lt-ltb}
use Rattle.std.proofs.Math.Option.{Option, none, some}
use Rattle.std.proofs.Math.Seq.{split_at}
use Rattle.std.proofs.lemmas.List.{set_split}
use Rattle.lists.specs.Tests.{and_l, and_r, both, ands}
use Rattle.lists.specs.Sets.{all}
use Rattle.lists.specs.Bytes.{bytes_of, length-bytes_of}
use Rattle.lists.specs.Rows.{values, joined, length-values, get_or-values, joined-append}
use Rattle.lists.specs.Splice.{splice, splice-then}
use Rattle.model.specs.Entries.{Held}
use Rattle.model.specs.Slot.{value_field}
use Rattle.model.specs.Rules.{fits}
use Rattle.model.specs.Table.{Cell, cell_at, cell_bytes, cells_of, table_with, is_of, held_by, lookup, cell_of, present_field, cell_size}
use Rattle.laws.proofs.Items.{fits_cell, length-cell}
use Rattle.laws.proofs.Tables.{length-cells, length-stored, table-back}
use Rattle.table.specs.Rows.{row_in}
use Rattle.table.specs.RowLaws.{row-some, row-le}

-- the row of a cell lies in the table, as the counted rows do
pub row_room : (t : List ℕ) (count row o k : ℕ) → row ≡ row_in (cells_of t count) o k → cell_size * count ≤ length t → cell_size * row ≤ length t
row_room t count row o k e l = omega (arith, row-le (cells_of t count) o k, length-cells t count, e)

-- what a counted row holds
pub row-held : (t : List ℕ) (count row o k : ℕ) → row ≡ row_in (cells_of t count) o k → 1 ≤ row
    → lookup (cells_of t count) o k ≡ some (held_by (cell_at t (cell_size * (row - 1))))
unfolding cells_of
row-held t count row o k e l =
    let g : ℕ → Cell = λ i. cell_at t (cell_size * i) in
    let i : ℕ = row - 1 in
    let r : row_in (values g 0 count) o k ≡ suc i = omega (arith, e) in
    let h = row-some (values g 0 count) o k i (g 0) r in
    let n : length (values g 0 count) ≡ count = length-values g 0 count in
    let u : i < count = omega (arith, h.0, n) in
    h.1 ∙ ap (λ (c : Cell). some (held_by c)) (get_or-values g 0 count i (g 0) u ∙ ap g (zero-add i))

-- a stretch in the middle replaced by one as long
splice-mid : (a b b' z : List ℕ) (i : ℕ) → length a ≡ i → length b ≡ length b' → splice (a ++ b ++ z) i b' ≡ a ++ b' ++ z
unfolding splice
splice-mid a b b' z i n e =
    ap₂ (λ (s t : List ℕ). s ++ b' ++ t)
    (ap (take i) (append_assoc a b z) ∙ take_at a (b ++ z) i n)
    (drop_at (a ++ b) z (i + length b') (omega (arith, length-append a b)))

-- the five fields put in one after the other
pub row_put : (t : List ℕ) (s : ℕ) (c : Cell) {t₁ t₂ t₃ t₄ t₅ : List ℕ} → s + cell_size ≤ length t
    → t₁ ≡ splice t s (bytes_of 4 c.object)
    → t₂ ≡ splice t₁ (s + 4) (bytes_of 4 c.key)
    → t₃ ≡ splice t₂ (s + 8) (bytes_of 4 c.value)
    → t₄ ≡ splice t₃ (s + 12) (bytes_of 4 c.present)
    → t₅ ≡ splice t₄ (s + 16) (bytes_of 8 c.version)
    → t₅ ≡ splice t s (cell_bytes c)
unfolding cell_bytes
row_put t s c h e₁ e₂ e₃ e₄ e₅ =
    let a = bytes_of 4 c.object in
    let b = a ++ bytes_of 4 c.key in
    let d = b ++ bytes_of 4 c.value in
    let g = d ++ bytes_of 4 c.present in
    let la : length a ≡ 4 = length-bytes_of 4 c.object in
    let lb : length b ≡ 8 = length-append a (bytes_of 4 c.key) ∙ omega (arith, la, length-bytes_of 4 c.key) in
    let ld : length d ≡ 12 = length-append b (bytes_of 4 c.value) ∙ omega (arith, lb, length-bytes_of 4 c.value) in
    let lg : length g ≡ 16 = length-append d (bytes_of 4 c.present) ∙ omega (arith, ld, length-bytes_of 4 c.present) in
    let f₂ = splice-then t s a (bytes_of 4 c.key) e₁ e₂ (omega (arith, la)) (omega (arith, la)) in
    let f₃ = splice-then t s b (bytes_of 4 c.value) f₂ e₃ (omega (arith, lb)) (omega (arith, lb)) in
    let f₄ = splice-then t s d (bytes_of 4 c.present) f₃ e₄ (omega (arith, ld)) (omega (arith, ld)) in
    splice-then t s g (bytes_of 8 c.version) f₄ e₅ (omega (arith, lg)) (omega (arith, lg))

-- the fields of a written cell's row fit, where its numbers do
pub cell-fits : (o k w : ℕ) (x : Option ℕ) → o < 2 ^ 32 → k < 2 ^ 32 → w < 2 ^ 64 → value_field x < 2 ^ 32
    → fits_cell (cell_of o k (record { version = w; content = x })) ≡ true
cell-fits o k w x a b c d =
    both (both (both (both (lt-ltb o (2 ^ 32) a) (lt-ltb k (2 ^ 32) b)) (lt-ltb (value_field x) (2 ^ 32) d)) (present x)) (lt-ltb w (2 ^ 64) c)
  where
    present : (y : Option ℕ) → fits 4 (present_field y) ≡ true
    present none = refl
    present (some n) = refl

-- the bytes of a table with a row in the middle
with-mid : (t : List ℕ) (p : List Cell) (c : Cell) (q : List Cell) (n : ℕ) → length (p ++ c ∷ q) ≡ n
    → table_with t (p ++ c ∷ q) ≡ joined cell_bytes p ++ cell_bytes c ++ (joined cell_bytes q ++ drop (cell_size * n) t)
unfolding table_with joined
with-mid t p c q n e =
    ap₂ (λ (a b : List ℕ). a ++ b) (joined-append cell_bytes p (c ∷ q)) (ap (λ (m : ℕ). drop (cell_size * m) t) e) ∙ simp append_assoc

-- what a cell whose fields fit holds
held_fits : (c : Cell) → fits_cell c ≡ true → fits 4 (value_field (held_by c).content) ≡ true
held_fits c f = go (eqb c.present 1)
  where
    go : (b : Bool) → fits 4 (value_field (cond b (some c.value) none)) ≡ true
    go true = search (ands, f)
    go false = refl

lookup-fits : (cs : List Cell) → all fits_cell cs ≡ true → (o k : ℕ) (h : Held) → lookup cs o k ≡ some h → fits 4 (value_field h.content) ≡ true
unfolding lookup
lookup-fits [] a o k h e = let z : ◌≡◌ {A = ℕ} 0 1 = cc in absurd (omega arith)
lookup-fits (c ∷ cs) a o k h e = go (is_of o k c) e (λ f. lookup-fits cs (and_r (fits_cell c) (all fits_cell cs) a) o k h f)
  where
    go : (b : Bool) → cond b (some (held_by c)) (lookup cs o k) ≡ some h → (lookup cs o k ≡ some h → fits 4 (value_field h.content) ≡ true) → fits 4 (value_field h.content) ≡ true
    go true e ih = let p : held_by c ≡ h = cc in subst (λ (x : Held). fits 4 (value_field x.content) ≡ true) p (held_fits c (and_l (fits_cell c) (all fits_cell cs) a))
    go false e ih = ih e

module _ (t : List ℕ) (bytes : all (λ x. ltb x 256) t ≡ true) (count : ℕ) (room : cell_size * count ≤ length t) where
  pub row-replaced : (i : ℕ) (c : Cell) → i < count → splice t (cell_size * i) (cell_bytes c) ≡ table_with t (set (cells_of t count) i c)
  row-replaced i c l =
      let cs = cells_of t count in
      let n : length cs ≡ count = length-cells t count in
      let p = take i cs in
      let q = drop (suc i) cs in
      let old = get_or cs i c in
      let u : i < length cs = omega (arith, n) in
      let split : cs ≡ p ++ old ∷ q = split_at cs i c u in
      let new : set cs i c ≡ p ++ c ∷ q = set_split cs i c u in
      let at : length (joined cell_bytes p) ≡ cell_size * i = length-stored p ∙ ap (λ (m : ℕ). cell_size * m) (length-take-le i cs (omega (arith, n))) in
      ap (λ (s : List ℕ). splice s (cell_size * i) (cell_bytes c)) (sym (table-back t bytes count room) ∙ ap (table_with t) split ∙ with-mid t p old q count (ap length (sym split) ∙ n))
      ∙ splice-mid (joined cell_bytes p) (cell_bytes old) (cell_bytes c) (joined cell_bytes q ++ drop (cell_size * count) t) (cell_size * i) at (length-cell old ∙ sym (length-cell c))
      ∙ sym (ap (table_with t) new ∙ with-mid t p c q count (ap length (sym new) ∙ length-set cs i c ∙ n))

-- ---- the bytes of a table with cells

pub length-table_with : (t : List ℕ) (cs : List Cell) → cell_size * length cs ≤ length t → length (table_with t cs) ≡ length t
unfolding table_with
length-table_with t cs h =
    length-append (joined cell_bytes cs) (drop (cell_size * length cs) t) ∙ omega (arith, length-stored cs, length-drop (cell_size * length cs) t)

-- cells stored twice: the second counts, if they are no fewer
pub table-again : (t : List ℕ) (cs ds : List Cell) → length cs ≤ length ds → table_with (table_with t cs) ds ≡ table_with t ds
unfolding table_with
table-again t cs ds h =
    let n : ℕ = cell_size * length ds - cell_size * length cs in
    let e : cell_size * length ds ≡ cell_size * length cs + n = omega arith in
    ap (λ (s : List ℕ). joined cell_bytes ds ++ s)
    (ap (λ (m : ℕ). drop m (table_with t cs)) e
    ∙ sym (drop-drop n (cell_size * length cs) (table_with t cs))
    ∙ ap (drop n) (drop_at (joined cell_bytes cs) (drop (cell_size * length cs) t) (cell_size * length cs) (length-stored cs))
    ∙ drop-drop n (cell_size * length cs) t
    ∙ ap (λ (m : ℕ). drop m t) (sym e))
