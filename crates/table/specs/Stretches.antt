-- The rows of one object: in rows in order, a stretch between two places.
use Rattle.std.specs.Prelude.{◌≡◌, refl, Bool, cond, ◌&&◌, eqb, ltb, take, drop}
use Rattle.std.proofs.Common.{ap, ap₂, sym, ◌∙◌, add-one, length-drop, length-take-le, ltb-true, ltb-false, lt-ltb, eqb-true, ne_eqb}
use Rattle.std.proofs.Math.Bool.{true, false}
use mathlib.Core.List.{List, [], ◌∷◌, ◌++◌, map}
use Prim.Native.Nat.{ℕ, suc, ◌+◌, ◌-◌, ◌*◌, ◌^◌, ◌≤◌, ◌<◌}
use native.Mathlib.Omega.{arith}
use Rattle.std.proofs.Math.ListN.{length}
use Rattle.std.proofs.lemmas.Bool.{eqb-false}
use Rattle.lists.specs.Tests.{and_l, and_r, both, ands}
use Rattle.lists.specs.Sets.{all, all-weaken, ascending}
use Rattle.lists.specs.Rows.{values, map-values}
use Rattle.model.specs.Entries.{Saved}
use Rattle.model.specs.Table.{Cell, cell_at, cells_of, held_by, insert_saved, saved_of, cell_before, in_order, cell_size}
use Rattle.laws.proofs.Items.{fits_cell}
use Rattle.laws.proofs.Tables.{length-cells, cells_fit}
use Rattle.table.specs.Order.{before, rows_of, place_in, of_object, OrderedRows, Stretched}
use Rattle.laws.proofs.CellOrder.{lex-less, lex-more, lex-key-more, lex-case, before-trans}
use Rattle.table.specs.Ordered.{place-le, first-before}
use Rattle.laws.proofs.Ordered.{rest-ordered}
use Rattle.table.specs.RowsOf.{length-rows, runs-rows, rows-front}
use Rattle.table.specs.Moves.{drop_cells}

-- a checkpoint saves these
pub saved_rows_lem : (o : ℕ) (cs : List Cell) → saved_of o (of_object o cs) ≡ saved_of o cs
unfolding saved_of of_object
saved_rows_lem o [] = refl
saved_rows_lem o (c ∷ cs) = go (eqb c.object o) refl (saved_rows_lem o cs)
  where
    go : (b : Bool) → eqb c.object o ≡ b → saved_of o (of_object o cs) ≡ saved_of o cs
        → saved_of o (cond b (c ∷ of_object o cs) (of_object o cs)) ≡ cond b (insert_saved (record { key = c.key; held = held_by c }) (saved_of o cs)) (saved_of o cs)
    go true e ih = rw e (ap (insert_saved (record { key = c.key; held = held_by c })) ih)
    go false e ih = ih

-- what a checkpoint saves of a row
abbrev pub saved_by : Cell → Saved
saved_by c = record { key = c.key; held = held_by c }

-- without the second, rows in order are in order
ordered-skip : (c d : Cell) (cs : List Cell) → in_order (c ∷ d ∷ cs) ≡ true → in_order (c ∷ cs) ≡ true
unfolding in_order
ordered-skip c d [] a = refl
ordered-skip c d (e ∷ cs) a =
    let r : Bool = ascending cell_before (e ∷ cs) in
    let b : (cell_before d e && r) ≡ true = and_r (cell_before c d) (cell_before d e && r) a in
    both (before-trans c d e (and_l (cell_before c d) (cell_before d e && r) a) (and_l (cell_before d e) r b)) (and_r (cell_before d e) r b)

-- in order, the first row of an object is saved in front of the others
saved-first : (o : ℕ) (c : Cell) (cs : List Cell) → in_order (c ∷ cs) ≡ true → c.object ≡ o
    → insert_saved (saved_by c) (map saved_by (of_object o cs)) ≡ saved_by c ∷ map saved_by (of_object o cs)
unfolding of_object
saved-first o c [] a e = refl
saved-first o c (d ∷ cs) a e = go (eqb d.object o) refl (saved-first o c cs (ordered-skip c d cs a) e)
  where
    go : (b : Bool) → eqb d.object o ≡ b → insert_saved (saved_by c) (map saved_by (of_object o cs)) ≡ saved_by c ∷ map saved_by (of_object o cs)
        → insert_saved (saved_by c) (map saved_by (cond b (d ∷ of_object o cs) (of_object o cs))) ≡ saved_by c ∷ map saved_by (cond b (d ∷ of_object o cs) (of_object o cs))
    go true q ih =
        let same : d.object ≡ o = eqb-true d.object o q in
        let l : c.key < d.key = lex-case c.object c.key d.object d.key (first-before c (d ∷ cs) 0 c a (omega arith)) (λ u. absurd (omega arith)) (λ u v. v) in
        rw (lt-ltb c.key d.key l)
    go false q ih = ih

-- a checkpoint saves the rows of its object one for one
pub saved-ordered : (o : ℕ) (cs : List Cell) → in_order cs ≡ true → saved_of o cs ≡ map saved_by (of_object o cs)
unfolding saved_of of_object
saved-ordered o [] a = refl
saved-ordered o (c ∷ cs) a = go (eqb c.object o) refl (saved-ordered o cs (rest-ordered c cs a))
  where
    go : (b : Bool) → eqb c.object o ≡ b → saved_of o cs ≡ map saved_by (of_object o cs)
        → cond b (insert_saved (saved_by c) (saved_of o cs)) (saved_of o cs) ≡ map saved_by (cond b (c ∷ of_object o cs) (of_object o cs))
    go true q ih = ap (insert_saved (saved_by c)) ih ∙ saved-first o c cs a (eqb-true c.object o q)
    go false q ih = ih

-- a row of object o or a later one does not come before object o, key 0
not-ahead : (o : ℕ) (x : Cell) → o ≤ x.object → before o 0 x ≡ false
not-ahead o x m = go (eqb x.object o) refl
  where
    go : (b : Bool) → eqb x.object o ≡ b → before o 0 x ≡ false
    go true e = lex-key-more x.object x.key o 0 (eqb-true x.object o e) (omega arith)
    go false e = let n = eqb-false x.object o e in lex-more x.object x.key o 0 (omega arith)

-- no row comes before object o, key 0, where the first does not
none_ahead : (o : ℕ) (c : Cell) (cs : List Cell) → in_order (c ∷ cs) ≡ true → o ≤ c.object → place_in cs o 0 ≡ 0
unfolding place_in in_order
none_ahead o c [] a l = refl
none_ahead o c (d ∷ cs) a l =
    let m : o ≤ d.object = lex-case c.object c.key d.object d.key (and_l (cell_before c d) (ascending cell_before (d ∷ cs)) a) (λ u. omega arith) (λ u v. omega arith) in
    rw (not-ahead o d m)

-- rows in order after a row of a later object are of none but later ones
none-later : (o : ℕ) (c : Cell) (cs : List Cell) → in_order (c ∷ cs) ≡ true → o < c.object → of_object o cs ≡ []
unfolding of_object in_order
none-later o c [] a l = refl
none-later o c (d ∷ cs) a l =
    let m : o < d.object = lex-case c.object c.key d.object d.key (and_l (cell_before c d) (ascending cell_before (d ∷ cs)) a) (λ u. omega arith) (λ u v. omega arith) in
    rw (ne_eqb d.object o (λ e. omega arith)) (none-later o d cs (and_r (cell_before c d) (ascending cell_before (d ∷ cs)) a) m)

-- in order, they are the rows between two places
pub object-stretch : (o : ℕ) (cs : List Cell) → in_order cs ≡ true → of_object o cs ≡ take (place_in cs (suc o) 0 - place_in cs o 0) (drop (place_in cs o 0) cs)
unfolding of_object place_in
object-stretch o [] a = refl
object-stretch o (c ∷ cs) a = go (ltb c.object o) refl (eqb c.object o) refl (object-stretch o cs (rest-ordered c cs a))
  where
    go : (p : Bool) → ltb c.object o ≡ p → (q : Bool) → eqb c.object o ≡ q
        → of_object o cs ≡ take (place_in cs (suc o) 0 - place_in cs o 0) (drop (place_in cs o 0) cs)
        → cond (eqb c.object o) (c ∷ of_object o cs) (of_object o cs)
        ≡ take (cond (before (suc o) 0 c) (suc (place_in cs (suc o) 0)) 0 - cond (before o 0 c) (suc (place_in cs o 0)) 0) (drop (cond (before o 0 c) (suc (place_in cs o 0)) 0) (c ∷ cs))
    -- of an object before
    go true p q u ih =
        let l : c.object < o = ltb-true c.object o p in
        let x : before o 0 c ≡ true = lex-less c.object c.key o 0 l in
        let y : before (suc o) 0 c ≡ true = lex-less c.object c.key (suc o) 0 (omega arith) in
        let z : suc (place_in cs (suc o) 0) - suc (place_in cs o 0) ≡ place_in cs (suc o) 0 - place_in cs o 0 = omega arith in
        rw (x, y, ne_eqb c.object o (λ e. omega arith)) (ih ∙ ap (λ (m : ℕ). take m (drop (place_in cs o 0) cs)) (sym z))
    -- of the object
    go false p true u ih =
        let e : c.object ≡ o = eqb-true c.object o u in
        let x : before o 0 c ≡ false = lex-key-more c.object c.key o 0 e (omega arith) in
        let y : before (suc o) 0 c ≡ true = lex-less c.object c.key (suc o) 0 (omega arith) in
        let n : place_in cs o 0 ≡ 0 = none_ahead o c cs a (omega arith) in
        let z : suc (place_in cs (suc o) 0) - 0 ≡ suc (place_in cs (suc o) 0 - 0) = omega arith in
        rw (x, y, u) (ap (λ (t : List Cell). c ∷ t) (ih ∙ ap (λ (m : ℕ). take (place_in cs (suc o) 0 - m) (drop m cs)) n) ∙ ap (λ (m : ℕ). take m (c ∷ cs)) (sym z))
    -- of an object after
    go false p false u ih =
        let n = eqb-false c.object o u in
        let l : o < c.object = omega (arith, ltb-false c.object o p) in
        let x : before o 0 c ≡ false = lex-more c.object c.key o 0 l in
        let y : before (suc o) 0 c ≡ false = not-ahead (suc o) c l in
        rw (x, y, u) (none-later o c cs a l)

-- ---- as two searches find it

pub place_mono : (o : ℕ) (cs : List Cell) → place_in cs o 0 ≤ place_in cs (suc o) 0
unfolding place_in
place_mono o [] = omega arith
place_mono o (c ∷ cs) = go (before o 0 c) refl (place_mono o cs)
  where
    go : (p : Bool) → before o 0 c ≡ p → place_in cs o 0 ≤ place_in cs (suc o) 0
        → cond p (suc (place_in cs o 0)) 0 ≤ cond (before (suc o) 0 c) (suc (place_in cs (suc o) 0)) 0
    go true e ih =
        let y : before (suc o) 0 c ≡ true = lex-case c.object c.key o 0 e (λ l. lex-less c.object c.key (suc o) 0 (omega arith)) (λ m l. absurd (omega arith)) in
        rw y (omega arith)
    go false e ih = omega arith

-- past the last object
place-all : (m : ℕ) (cs : List Cell) → all (λ c. ltb c.object m) cs ≡ true → place_in cs m 0 ≡ length cs
unfolding place_in
place-all m [] e = refl
place-all m (c ∷ cs) e =
    let r : Bool = all (λ x. ltb x.object m) cs in
    rw (lex-less c.object c.key m 0 (ltb-true c.object m (and_l (ltb c.object m) r e))) (ap suc (place-all m cs (and_r (ltb c.object m) r e)))

all-behind : (f : Cell → Bool) (xs ys : List Cell) → all f (xs ++ ys) ≡ true → all f ys ≡ true
all-behind f [] ys e = e
all-behind f (x ∷ xs) ys e = all-behind f xs ys (and_r (f x) (all f (xs ++ ys)) e)

pub last-object : (t : List ℕ) (from to : ℕ) → all (λ x. ltb x 256) t ≡ true → from ≤ to → from + place_in (rows_of t from (to - from)) (2 ^ 32) 0 ≡ to
last-object t from to bytes l =
    let rs = rows_of t from (to - from) in
    let fit : all fits_cell rs ≡ true =
    all-behind fits_cell (cells_of t from) rs (ap (all fits_cell) (sym (runs-rows t from to l)) ∙ cells_fit t bytes to) in
    let past : place_in rs (2 ^ 32) 0 ≡ length rs =
    place-all (2 ^ 32) rs (all-weaken fits_cell (λ c. ltb c.object (2 ^ 32)) rs (λ c e. search ands) fit) in
    omega (arith, past, length-rows t from (to - from))

-- how many they are
module _ (o : ℕ) (cs : List Cell) where
  pub object-le : length (of_object o cs) ≤ length cs
  unfolding of_object
  object-le = go cs
    where
      by : (c : Cell) (ds : List Cell) (b : Bool) → length (of_object o ds) ≤ length ds → length (cond b (c ∷ of_object o ds) (of_object o ds)) ≤ suc (length ds)
      by c ds true h = omega arith
      by c ds false h = omega arith

      go : (ds : List Cell) → length (of_object o ds) ≤ length ds
      go [] = omega arith
      go (c ∷ ds) = by c ds (eqb c.object o) (go ds)

  object-count : in_order cs ≡ true → length (of_object o cs) ≡ place_in cs (suc o) 0 - place_in cs o 0
  object-count a =
      let p : ℕ = place_in cs o 0 in
      let q : ℕ = place_in cs (suc o) 0 in
      ap length (object-stretch o cs a)
      ∙ length-take-le (q - p) (drop p cs) (omega (arith, length-drop p cs, place-le cs (suc o) 0))

pub counted-between : (t : List ℕ) (from to o p q : ℕ) → OrderedRows t from to → p ≡ from + place_in (rows_of t from (to - from)) o 0
    → q ≡ from + place_in (rows_of t from (to - from)) (o + 1) 0 → (p ≤ q) × (q - p ≡ length (of_object o (rows_of t from (to - from))))
counted-between t from to o p q w e f =
    let cs = rows_of t from (to - from) in
    let g : place_in cs (o + 1) 0 ≡ place_in cs (suc o) 0 = ap (λ (m : ℕ). place_in cs m 0) (add-one o) in
    (omega (arith, place_mono o cs), omega (arith, object-count o cs w.ascends, place_mono o cs))

pub stretched : (t : List ℕ) (count o p q : ℕ) → in_order (cells_of t count) ≡ true → p ≡ place_in (cells_of t count) o 0 → q ≡ place_in (cells_of t count) (o + 1) 0
    → (p ≤ q) × Stretched t count o p (q - p)
stretched t count o p q a e f =
    let cs = cells_of t count in
    let n : length cs ≡ count = length-cells t count in
    let g : q ≡ place_in cs (suc o) 0 = f ∙ ap (λ (m : ℕ). place_in cs m 0) (add-one o) in
    let l : p ≤ q = omega (arith, place_mono o cs) in
    let m : q ≤ count = omega (arith, place-le cs (suc o) 0) in
    let d : drop p cs ≡ rows_of t p (count - p) = drop_cells t p count (omega arith) in
    let u : count - p ≡ (q - p) + (count - q) = omega arith in (
      l,
      record {
        within = omega arith;
        rows = sym (
            object-stretch o cs a
            ∙ ap₂ (λ (x y : ℕ). take (y - x) (drop x cs)) (sym e) (sym g)
            ∙ ap (take (q - p)) d
            ∙ rows-front t p (q - p) (count - p) (omega arith));
      },
    )

-- a checkpoint saves the rows of the stretch, each at its place
pub saved-stretch : (t : List ℕ) (count o first n : ℕ) → in_order (cells_of t count) ≡ true → Stretched t count o first n
    → saved_of o (cells_of t count) ≡ values (λ i. saved_by (cell_at t (cell_size * i))) first n
unfolding rows_of
saved-stretch t count o first n a s =
    saved-ordered o (cells_of t count) a ∙ ap (map saved_by) (sym s.rows) ∙ map-values saved_by (λ i. cell_at t (cell_size * i)) first n
