-- An index of new rows: of none at first, of one row more, with another hint; and what a search in it tells. It goes by the rows'
-- cells alone (`rank_in`).
use Rattle.std.specs.Prelude.{◌≡◌, refl, Bool, true, false, cond, List, [], ◌∷◌, map, ℕ, suc, ◌+◌, ◌-◌, ◌*◌, ◌^◌, ◌≤◌, ◌<◌, eqb, length, get_or, replicate}
use Rattle.std.proofs.Common.{ap, sym, subst, ◌∙◌, arith, eq-eqb}
use Rattle.lists.specs.Bytes.{be_at}
use Rattle.std.proofs.lemmas.List.{length-map, length-replicate, get_or-replicate}
use Rattle.std.proofs.Math.ListN.{get_or-map}
use Rattle.model.specs.Table.{Cell, is_of, cell_at, cell_size}
use Rattle.laws.specs.Ruled.{Ruled}
use Rattle.laws.proofs.ByPlace.{id_of, few-records}
use Rattle.laws.proofs.CellOrder.{of-itself}
use Rattle.laws.proofs.Ordered.{once}
use Rattle.tree.specs.Form.{head-formed}
use Rattle.tree.specs.Tree.{Tree, tree-zeros}
use Rattle.tree.specs.Search.{Place}
use Rattle.tree.specs.Kept.{tree-keys, place-keys}
use Rattle.table.specs.Rows.{row_in}
use Rattle.table.specs.RowLaws.{row-once}
use Rattle.codec.specs.Cells.{rank_of}
use Rattle.table.specs.Order.{rows_of, of_object}
use Rattle.table.specs.Ranks.{rank-at, is-rank, key-small}
use Rattle.table.specs.RowsOf.{length-rows, row_of}
use Rattle.table.specs.Seek.{head_of, cell_form, rank_at, RowTree, CellPlace}
use Rattle.table.specs.SeekLaws.{head-below, place-row}
use Rattle.table.specs.Runs.{heads_in, most_new, least_index, count_at, rank_in, Indexed, Counts, CountedIndex}
use Rattle.table.specs.Stores.{bare}

-- ---- ranks

abbrev rank : Cell → ℕ
rank c = rank_of c.object c.key

ranks-bare : (b : List Cell) → map rank (map bare b) ≡ map rank b
ranks-bare [] = refl
ranks-bare (c ∷ b) = ap (λ (x : List ℕ). rank c ∷ x) (ranks-bare b)

-- those of a table's rows
pub rank-row : (t : List ℕ) (main n i : ℕ) → i < n → rank_in (rows_of t main n) i ≡ rank_at t main i
rank-row t main n i l =
    let d : Cell = record { object = 0; key = 0; value = 0; present = 0; version = 0 } in
    let e : main + i - main ≡ i = omega arith in
    get_or-map rank (rows_of t main n) i d
    ∙ ap rank (ap (λ (j : ℕ). get_or (rows_of t main n) j d) (sym e) ∙ row_of t main n (main + i) d (omega arith) (omega arith))
    ∙ sym (rank-at t (cell_size * (main + i)))

-- ---- none, and another hint

-- an array of zeros is an index of no rows
pub indexed-zeros : (n : ℕ) → least_index ≤ n → n < 4294967296 → Indexed (replicate n 0) []
indexed-zeros n l h =
    let x : List ℕ = replicate n 0 in
    let size : length x ≡ n = length-replicate {A = ℕ} n 0 in
    record {
      long = omega (arith, size);
      short = omega (arith, size);
      all = get_or-replicate n (length x - 1) 0 0 (omega (arith, size));
      tree = tree-zeros (rank_in []) (most_new x) n (head-formed (heads_in x) (head_of (heads_in x)) (λ k. head-below (heads_in x) k (omega (arith, size)))) (omega (arith, size)) (omega (arith, size));
    }

pub counted_zeros : {d : List ℕ} → Ruled d → (n : ℕ) → least_index ≤ n → n < 4294967296 → CountedIndex d (replicate n 0) []
unfolding of_object
counted_zeros {d} r n l h =
    let x : List ℕ = replicate n 0 in
    record {
      index = indexed-zeros n l h;
      counts = record { ruled = r; each = λ k m. get_or-replicate n (count_at x k) 0 0 (omega (arith, m, l, few-records r, length-replicate {A = ℕ} n 0)) };
    }

-- an index goes by object and key alone
count-bare : (o : ℕ) (c : List Cell) → length (of_object o (map bare c)) ≡ length (of_object o c)
unfolding of_object
count-bare o [] = refl
count-bare o (d ∷ c) = go (eqb d.object o) (count-bare o c)
  where
    go : (t : Bool) → length (of_object o (map bare c)) ≡ length (of_object o c)
        → length (cond t (bare d ∷ of_object o (map bare c)) (of_object o (map bare c))) ≡ length (cond t (d ∷ of_object o c) (of_object o c))
    go true ih = ap suc ih
    go false ih = ih

pub indexed-bare : {x : List ℕ} (b b' : List Cell) → map bare b' ≡ map bare b → Indexed x b → Indexed x b'
indexed-bare {x} b b' e i =
    let n : length b' ≡ length b = sym (length-map b' bare) ∙ ap length e ∙ length-map b bare in
    let r : map rank b' ≡ map rank b = sym (ranks-bare b') ∙ ap (map rank) e ∙ ranks-bare b in
    record {
      long = i.long;
      short = i.short;
      all = i.all ∙ sym n;
      tree = subst (λ (m : ℕ). Tree (rank_in b') (cell_form (heads_in x)) (most_new x) m x) (sym n)
          (subst (λ (y : List ℕ). Tree (λ j. get_or y j 0) (cell_form (heads_in x)) (most_new x) (length b) x) (sym r) i.tree);
    }

pub counts-bare : {d x : List ℕ} (b b' : List Cell) → map bare b' ≡ map bare b → Counts d x b → Counts d x b'
counts-bare {d} b b' e c = record { ruled = c.ruled; each = λ k l. c.each k l ∙ sym (objects (id_of d k)) }
  where
    objects : (o : ℕ) → length (of_object o b') ≡ length (of_object o b)
    objects o = sym (count-bare o b') ∙ ap (λ (c : List Cell). length (of_object o c)) e ∙ count-bare o b

-- ---- a search

-- the way of a cell ends at this slot, which tells its row
pub record NewPlace (x : List ℕ) (b : List Cell) (o k slot : ℕ) : Type 0 where
  pub place : Place (rank_in b) (cell_form (heads_in x)) (most_new x) (length b) x (rank_of o k) slot
  pub row : get_or x slot 0 ≡ row_in b o k

-- two rows of a table with one rank are of one cell
rank-apart : (t : List ℕ) → ((j : ℕ) → get_or t j 0 < 256) → (i j : ℕ) → be_at 8 t i ≡ be_at 8 t j → is_of (cell_at t j).object (cell_at t j).key (cell_at t i) ≡ true
rank-apart t small i j e =
    let d = cell_at t j in
    sym (is-rank t small i d.object d.key (key-small t small j)) ∙ eq-eqb (be_at 8 t i) (rank_of d.object d.key) (e ∙ rank-at t j)

-- the index as a tree of the table's rows
pub indexed-rows : (t : List ℕ) (main n : ℕ) (x : List ℕ) → ((j : ℕ) → get_or t j 0 < 256) → cell_size * (main + n) ≤ length t → once (rows_of t main n) ≡ true → Indexed x (rows_of t main n)
    → RowTree t main (heads_in x) (most_new x) n x
indexed-rows t main n x small room e i =
    let b = rows_of t main n in
    let l : length b ≡ n = length-rows t main n in
    record {
      rows = room;
      tree = tree-keys (λ q h. sym (rank-row t main n q h)) (subst (λ (m : ℕ). Tree (rank_in b) (cell_form (heads_in x)) (most_new x) m x) l i.tree);
      once = λ p q u v f. apart p q u v f;
    }
  where
    at : (q : ℕ) → q < n → get_or (rows_of t main n) q (cell_at t 0) ≡ cell_at t (cell_size * (main + q))
    at q h = let j : main + q - main ≡ q = omega arith in ap (λ (m : ℕ). get_or (rows_of t main n) m (cell_at t 0)) (sym j) ∙ row_of t main n (main + q) (cell_at t 0) (omega arith) (omega arith)

    apart : (p q : ℕ) → p < q → q < n → rank_at t main p ≡ rank_at t main q → ⊥
    apart p q u v f =
        let b = rows_of t main n in
        let c = cell_at t (cell_size * (main + p)) in
        let d = cell_at t (cell_size * (main + q)) in
        let s = rank-apart t small (cell_size * (main + p)) (cell_size * (main + q)) f in
        let w : is_of d.object d.key (get_or b p (cell_at t 0)) ≡ true = ap (is_of d.object d.key) (at p (omega arith)) ∙ s in
        let z : is_of d.object d.key (get_or b q (cell_at t 0)) ≡ true = ap (is_of d.object d.key) (at q v) ∙ of-itself d in
        let l : length b ≡ n = length-rows t main n in
        omega (arith, row-once b d.object d.key p (cell_at t 0) e (omega arith) w, row-once b d.object d.key q (cell_at t 0) e (omega arith) z)

-- what the search promises, said of the rows
pub new-place : (t : List ℕ) (main n : ℕ) (x : List ℕ) (o k slot : ℕ) → ((j : ℕ) → get_or t j 0 < 256) → k < 2 ^ 32
    → RowTree t main (heads_in x) (most_new x) n x → CellPlace t main (heads_in x) (most_new x) n x o k slot → NewPlace x (rows_of t main n) o k slot
new-place t main n x o k slot small l w p =
    let b = rows_of t main n in
    let m : length b ≡ n = length-rows t main n in
    record {
      place = subst (λ (q : ℕ). Place (rank_in b) (cell_form (heads_in x)) (most_new x) q x (rank_of o k) slot) (sym m) (place-keys (λ q h. rank-row t main n q h) p);
      row = place-row w small o k l p;
    }
