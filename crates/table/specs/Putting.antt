-- A cell written into a table with two runs: in its row, or in a new row of the second run.
use Rattle.std.specs.Prelude.{◌≡◌, Bool, false, cond, ℕ, zero, suc, ◌+◌, ◌-◌, ◌*◌, ◌≤◌, eqb, ltb, take, drop, set}
use Rattle.std.proofs.Math.Path.{refl, ap, ap₂}
use Rattle.std.proofs.Common.{sym, subst, ◌∙◌, arith, length-set, take_at, drop_at, eq-eqb}
use Rattle.std.proofs.Math.Bool.{true}
use mathlib.Core.List.{List, [], ◌∷◌, ◌++◌, append-nil, append_assoc}
use Rattle.std.proofs.Math.Option.{some}
use Rattle.std.proofs.Math.ListN.{length, length-append}
use Rattle.std.proofs.lemmas.List.{set-append_left}
use Rattle.lists.specs.Tests.{and_l, and_r, both}
use Rattle.lists.specs.Rows.{joined}
use Rattle.lists.specs.Sets.{all, all_append}
use Rattle.lists.specs.Splice.{splice}
use Rattle.model.specs.Entries.{Held, is_none}
use Rattle.model.specs.Table.{Cell, is_of, held_by, lookup, cell_bytes, cells_of, table_with, cell_of, cell_before, store, cell_size}
use Rattle.laws.proofs.Items.{fits_cell}
use Rattle.laws.proofs.Tables.{length-cells, length-stored, cells-back, cells_fit}
use Rattle.laws.specs.FirstWriting.{insert_cell}
use Rattle.laws.proofs.CellOrder.{of-turned}
use Rattle.laws.proofs.Ordered.{once}
use Rattle.laws.proofs.Sorted.{length-insert, all_insert}
use Rattle.table.specs.Rows.{row_in, RowPut}
use Rattle.table.specs.Stored.{row-replaced, length-table_with}
use Rattle.table.specs.Order.{rows_of, behind}
use Rattle.table.specs.Runs.{merged, apart, Runs, Standing, Indexed, Counts, CountedIndex, main_run, second_run, both_runs, TwoRuns, LeftAs, Ended, CellToAdd}
use Rattle.table.specs.Ordered.{or_row, row-append, none-append, row-found}
use Rattle.table.specs.RowsOf.{length-rows, runs-rows}
use Rattle.table.specs.Moves.{take_cells, drop_cells, rows-put}
use Rattle.table.specs.Inserted.{none_first, none-cons}
use Rattle.table.specs.Indexing.{indexed-bare, counts-bare}
use Rattle.table.specs.Merged.{length_merged, none-merged, ordered-merged, apart_none}
use Rattle.table.specs.Stores.{store-new, store-set, store-second, store-last, store-main, same-bare, runs-bare}

-- ---- tests of each row

module _ (f : Cell → Bool) where
  all_set : (cs : List Cell) (i : ℕ) (c : Cell) → all f cs ≡ true → f c ≡ true → all f (set cs i c) ≡ true
  all_set [] i c a e = refl
  all_set (d ∷ cs) zero c a e = both e (and_r (f d) (all f cs) a)
  all_set (d ∷ cs) (suc i) c a e = both (and_l (f d) (all f cs) a) (all_set cs i c (and_r (f d) (all f cs) a) e)

  pub all_left : (a b : List Cell) → all f (a ++ b) ≡ true → all f a ≡ true
  all_left [] b e = refl
  all_left (c ∷ a) b e = both (and_l (f c) (all f (a ++ b)) e) (all_left a b (and_r (f c) (all f (a ++ b)) e))

  pub all_right : (a b : List Cell) → all f (a ++ b) ≡ true → all f b ≡ true
  all_right [] b e = e
  all_right (c ∷ a) b e = all_right a b (and_r (f c) (all f (a ++ b)) e)

  pub all-merged : (a b : List Cell) → all f a ≡ true → all f b ≡ true → all f (merged a b) ≡ true
  unfolding merged
  all-merged a [] p q = p
  all-merged a (c ∷ b) p q = all_insert f c (merged a b) ∙ both (and_l (f c) (all f b) q) (all-merged a b p (and_r (f c) (all f b) q))

-- ---- rows by the two runs

none-of-insert : (c : Cell) (cs : List Cell) (o k : ℕ) → row_in (insert_cell c cs) o k ≡ 0 → (is_of o k c ≡ false) × (row_in cs o k ≡ 0)
unfolding insert_cell
none-of-insert c [] o k e = ((none_first c [] o k e).0, (none_first c [] o k e).1)
none-of-insert c (d ∷ cs) o k e = go (cell_before d c) e (λ f. none-of-insert c cs o k f)
  where
    go : (b : Bool) → row_in (cond b (d ∷ insert_cell c cs) (c ∷ d ∷ cs)) o k ≡ 0 → (row_in (insert_cell c cs) o k ≡ 0 → (is_of o k c ≡ false) × (row_in cs o k ≡ 0))
        → (is_of o k c ≡ false) × (row_in (d ∷ cs) o k ≡ 0)
    go true e ih =
        let h = none_first d (insert_cell c cs) o k e in
        let i = ih h.1 in
        (i.0, none-cons d cs o k h.0 i.1)
    go false e ih = none_first c (d ∷ cs) o k e

none-of-merged : (a b : List Cell) (o k : ℕ) → row_in (merged a b) o k ≡ 0 → (row_in a o k ≡ 0) × (row_in b o k ≡ 0)
unfolding merged row_in
none-of-merged a [] o k e = (e, refl)
none-of-merged a (c ∷ b) o k e =
    let h = none-of-insert c (merged a b) o k e in
    let i = none-of-merged a b o k h.1 in
    (i.0, none-cons c b o k h.0 i.1)

set-right : (a b : List Cell) (i : ℕ) (c : Cell) → set (a ++ b) (length a + i) c ≡ a ++ set b i c
set-right [] b i c = let z : 0 + i ≡ i = omega arith in ap (λ (m : ℕ). set b m c) z
set-right (d ∷ a) b i c =
    let e : suc (length a) + i ≡ suc (length a + i) = omega arith in
    ap (λ (m : ℕ). set (d ∷ (a ++ b)) m c) e ∙ ap (λ (t : List Cell). d ∷ t) (set-right a b i c)

apart-last : (a b : List Cell) (c : Cell) → apart a b ≡ true → row_in a c.object c.key ≡ 0 → apart a (b ++ (c ∷ [])) ≡ true
unfolding apart
apart-last a b c e z = all_append (λ x. eqb (row_in a x.object x.key) 0) b (c ∷ []) e (both (eq-eqb (row_in a c.object c.key) 0 z) refl)

-- a cell that has no row does not get another one's
none_last : (cs : List Cell) (o k : ℕ) (c : Cell) → is_none (lookup cs o k) ≡ true → is_of o k c ≡ false → is_none (lookup (cs ++ (c ∷ [])) o k) ≡ true
unfolding lookup
none_last [] o k c e f = rw f refl
none_last (d ∷ cs) o k c e f = go (is_of o k d) e (λ g. none_last cs o k c g f)
  where
    go : (b : Bool) → is_none (cond b (some (held_by d)) (lookup cs o k)) ≡ true → (is_none (lookup cs o k) ≡ true → is_none (lookup (cs ++ (c ∷ [])) o k) ≡ true)
        → is_none (cond b (some (held_by d)) (lookup (cs ++ (c ∷ [])) o k)) ≡ true
    go true e ih = e
    go false e ih = ih e

once_last : (b : List Cell) (c : Cell) → once b ≡ true → row_in b c.object c.key ≡ 0 → once (b ++ (c ∷ [])) ≡ true
unfolding lookup
once_last [] c e z = refl
once_last (d ∷ b) c e z =
    let n = none_first d b c.object c.key z in
    let t = is_none (lookup b d.object d.key) in
    both (none_last b d.object d.key c (and_l t (once b) e) (other (is_of d.object d.key c) refl n.0)) (once_last b c (and_r t (once b) e) n.1)
  where
    other : (x : Bool) → is_of d.object d.key c ≡ x → is_of c.object c.key d ≡ false → is_of d.object d.key c ≡ false
    other false p q = p
    other true p q =
        let n : false ≡ true = sym q ∙ of-turned d c p in
        let z : ◌≡◌ {A = ℕ} 0 1 = cc in
        absurd (omega arith)

-- ---- a table with the rows of two runs

left-rows : {d : List ℕ} (t t' : List ℕ) (p q cs : List Cell) (s : Standing) → t' ≡ table_with t (p ++ q) → all fits_cell (p ++ q) ≡ true → length p ≡ s.main
    → s.main + length q ≡ s.count → cell_size * s.count ≤ length t → CountedIndex d s.index q → Runs p q → merged p q ≡ cs → LeftAs d t t' s cs
unfolding both_runs table_with
left-rows {d} t t' p q cs s e f lp lq room i runs c =
    let m : ℕ = s.main in
    let n : ℕ = s.count in
    let ln : length (p ++ q) ≡ n = length-append p q ∙ omega arith in
    let all-rows : cells_of t' n ≡ p ++ q = ap₂ cells_of e (sym ln) ∙ cells-back t (p ++ q) f in
    let a : cells_of t' m ≡ p = sym (take_cells t' m n (omega arith)) ∙ ap (take m) all-rows ∙ take_at p q m lp in
    let b : rows_of t' m (n - m) ≡ q = sym (drop_cells t' m n (omega arith)) ∙ ap (drop m) all-rows ∙ drop_at p q m lp in
    let size : length t' ≡ length t = ap length e ∙ length-table_with t (p ++ q) (omega arith) in
    record {
      counted = record {
        two = record {
          within = omega arith;
          room = omega arith;
          runs = rw (a, b) runs;
          index = subst (Indexed s.index) (sym b) i.index;
        };
        counts = subst (Counts d s.index) (sym b) i.counts;
      };
      cells = ap₂ merged a b ∙ c;
      past =
          ap (drop (cell_size * n)) e
          ∙ drop_at (joined cell_bytes (p ++ q)) (drop (cell_size * length (p ++ q)) t) (cell_size * n) (length-stored (p ++ q) ∙ ap (λ (x : ℕ). cell_size * x) ln)
          ∙ ap (λ (x : ℕ). drop (cell_size * x) t) ln;
    }

module _ (t : List ℕ) (bytes : all (λ x. ltb x 256) t ≡ true) (s : Standing) (two : TwoRuns t s) where
  abbrev a₀ : List Cell
  a₀ = main_run t s

  abbrev b₀ : List Cell
  b₀ = second_run t s

  rows₀ : cells_of t s.count ≡ a₀ ++ b₀
  rows₀ = runs-rows t s.main s.count two.within

  fit₀ : all fits_cell (a₀ ++ b₀) ≡ true
  fit₀ = ap (all fits_cell) (sym rows₀) ∙ cells_fit t bytes s.count

  la₀ : length a₀ ≡ s.main
  la₀ = length-cells t s.main

  lb₀ : length b₀ ≡ s.count - s.main
  lb₀ = length-rows t s.main (s.count - s.main)

  -- the two runs made one
  pub ended-merged : (t' : List ℕ) → t' ≡ table_with t (merged (main_run t s) (second_run t s)) → Ended t t' s.count (both_runs t s)
  unfolding both_runs
  ended-merged t' e =
      let m = merged a₀ b₀ in
      let n : length m ≡ s.count = length_merged a₀ b₀ ∙ omega (arith, la₀, lb₀, two.within) in
      let f : all fits_cell m ≡ true = all-merged fits_cell a₀ b₀ (all_left fits_cell a₀ b₀ fit₀) (all_right fits_cell a₀ b₀ fit₀) in
      record { bytes = e; rows = ap₂ cells_of e (sym n) ∙ cells-back t m f; ascends = ordered-merged a₀ b₀ two.runs; size = n }

  -- a cell with no counted row has none in the one run
  pub none_both : (o k : ℕ) → row_in (cells_of t s.count) o k ≡ 0 → row_in (both_runs t s) o k ≡ 0
  unfolding both_runs
  none_both o k e =
      let z = none-append a₀ b₀ o k (ap (λ (x : List Cell). row_in x o k) (sym rows₀) ∙ e) in
      none-merged a₀ b₀ o k z.0 z.1

  -- and takes one more
  pub one_more : (o k : ℕ) (h : Held) → row_in (both_runs t s) o k ≡ 0 → length (store (both_runs t s) o k h) ≡ s.count + 1
  unfolding both_runs
  one_more o k h e =
      ap length (store-new (merged a₀ b₀) o k h e) ∙ length-insert (cell_of o k h) (merged a₀ b₀)
      ∙ omega (arith, length_merged a₀ b₀, la₀, lb₀, two.within)

  -- a new row of the second run, and an index of one row more
  pub left-added : {d : List ℕ} (o k : ℕ) (h : Held) (t' x : List ℕ) → CellToAdd t s o k → RowPut t t' s.count (cell_of o k h)
      → CountedIndex d x (second_run t s ++ (cell_of o k h ∷ [])) → LeftAs d t t' (record { main = s.main; count = s.count + 1; index = x }) (store (both_runs t s) o k h)
  unfolding both_runs joined
  left-added o k h t' x w f index =
      let n = cell_of o k h in
      let z = none-of-merged a₀ b₀ o k w.fresh in
      let q = b₀ ++ (n ∷ []) in
      let put : t' ≡ table_with t (a₀ ++ q) = f.bytes ∙ ap (splice t (cell_size * s.count)) (sym (append-nil (cell_bytes n))) ∙ rows-put t bytes s.count (n ∷ []) (omega (arith, w.room)) ∙ ap (table_with t) (ap (λ (y : List Cell). y ++ (n ∷ [])) rows₀ ∙ append_assoc a₀ b₀ (n ∷ [])) in
      left-rows t t' a₀ q (store (merged a₀ b₀) o k h) (record { main = s.main; count = s.count + 1; index = x }) put
      (all_append fits_cell a₀ q (all_left fits_cell a₀ b₀ fit₀) (all_append fits_cell b₀ (n ∷ []) (all_right fits_cell a₀ b₀ fit₀) (both f.fits refl)))
      la₀ (omega (arith, length-append b₀ (n ∷ []), lb₀, two.within)) (omega (arith, w.room)) index
      (record { main = two.runs.main; second = once_last b₀ n two.runs.second z.1; alone = apart-last a₀ b₀ n two.runs.alone z.0 })
      (sym (store-last a₀ b₀ o k h z.0 z.1))

  -- a row that is there, in either run
  pub left-written : {d : List ℕ} → Counts d s.index (second_run t s) → (o k : ℕ) (h : Held) (row : ℕ) (t' : List ℕ) → row ≡ row_in (cells_of t s.count) o k → 1 ≤ row → RowPut t t' (row - 1) (cell_of o k h)
      → LeftAs d t t' s (store (both_runs t s) o k h)
  unfolding both_runs
  left-written {d} counts o k h row t' e l f = go (row_in a₀ o k) refl (row_in b₀ o k) refl
    where
      n : Cell
      n = cell_of o k h

      row₀ : row ≡ or_row (row_in a₀ o k) (behind (length a₀) (row_in b₀ o k))
      row₀ = e ∙ ap (λ (x : List Cell). row_in x o k) rows₀ ∙ row-append a₀ b₀ o k

      go : (r : ℕ) → row_in a₀ o k ≡ r → (q : ℕ) → row_in b₀ o k ≡ q → LeftAs d t t' s (store (merged a₀ b₀) o k h)
      go (suc i) p q u =
          let w = row-found a₀ o k i n p in
          let at : row ≡ suc i = row₀ ∙ ap (λ (x : ℕ). or_row x (behind (length a₀) (row_in b₀ o k))) p in
          let v : row - 1 ≡ i = omega arith in
          let put : t' ≡ table_with t (set a₀ i n ++ b₀) =
          f.bytes ∙ ap (λ (x : ℕ). splice t (cell_size * x) (cell_bytes n)) v ∙ row-replaced t bytes s.count two.room i n (omega (arith, w.0, la₀, two.within))
          ∙ ap (λ (x : List Cell). table_with t (set x i n)) rows₀ ∙ ap (table_with t) (set-append_left a₀ b₀ i n w.0) in
          left-rows t t' (set a₀ i n) b₀ (store (merged a₀ b₀) o k h) s put
          (all_append fits_cell (set a₀ i n) b₀ (all_set fits_cell a₀ i n (all_left fits_cell a₀ b₀ fit₀) f.fits) (all_right fits_cell a₀ b₀ fit₀))
          (length-set a₀ i n ∙ la₀) (omega (arith, lb₀, two.within)) two.room (record { index = two.index; counts = counts })
          (runs-bare a₀ b₀ (set a₀ i n) b₀ (same-bare a₀ o k i h n w.1) refl two.runs)
          (ap (λ (x : List Cell). merged x b₀) (sym (store-set a₀ o k h i two.runs.main p)) ∙ sym (store-main a₀ b₀ o k h (apart_none a₀ b₀ o k i two.runs.alone p)))
      go zero p (suc i) u =
          let w = row-found b₀ o k i n u in
          let at : row ≡ length a₀ + suc i = row₀ ∙ ap₂ (λ (x y : ℕ). or_row x (behind (length a₀) y)) p u in
          let v : row - 1 ≡ length a₀ + i = omega arith in
          let put : t' ≡ table_with t (a₀ ++ set b₀ i n) =
          f.bytes ∙ ap (λ (x : ℕ). splice t (cell_size * x) (cell_bytes n)) v ∙ row-replaced t bytes s.count two.room (length a₀ + i) n (omega (arith, w.0, la₀, lb₀, two.within))
          ∙ ap (λ (x : List Cell). table_with t (set x (length a₀ + i) n)) rows₀ ∙ ap (table_with t) (set-right a₀ b₀ i n) in
          left-rows t t' a₀ (set b₀ i n) (store (merged a₀ b₀) o k h) s put
          (all_append fits_cell a₀ (set b₀ i n) (all_left fits_cell a₀ b₀ fit₀) (all_set fits_cell b₀ i n (all_right fits_cell a₀ b₀ fit₀) f.fits))
          la₀ (omega (arith, length-set b₀ i n, lb₀, two.within)) two.room
          (record { index = indexed-bare b₀ (set b₀ i n) (same-bare b₀ o k i h n w.1) two.index; counts = counts-bare b₀ (set b₀ i n) (same-bare b₀ o k i h n w.1) counts })
          (runs-bare a₀ b₀ a₀ (set b₀ i n) refl (same-bare b₀ o k i h n w.1) two.runs)
          (sym (store-second a₀ b₀ o k h i u))
      go zero p zero u =
          let z : row ≡ 0 = row₀ ∙ ap₂ (λ (x y : ℕ). or_row x (behind (length a₀) y)) p u in
          absurd (omega arith)
