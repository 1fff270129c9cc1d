-- Laws of rows in order: each comes before all behind it. So those before a cell stand in front of its place, and a row that is
-- the cell is its only one.
use Rattle.std.specs.Prelude.{◌≡◌, refl, Bool, true, false, cond, ◌&&◌, List, [], ◌∷◌, ◌++◌, ℕ, zero, suc, ◌+◌, ◌≤◌, ◌<◌, ltb, length, get_or}
use Rattle.std.proofs.Common.{ap, ap₂, sym, ◌∙◌, arith, lt-ltb}
use Rattle.lists.specs.Tests.{and_l, and_r, both, clash}
use Rattle.lists.specs.Sets.{ascending}
use Rattle.model.specs.Table.{Cell, is_of, cell_before, in_order}
use Rattle.table.specs.Rows.{further, row_in}
use Rattle.table.specs.Order.{before, place_in, behind}
use Rattle.laws.proofs.CellOrder.{lex_before, lex-trans, lex-irr, lex-differ, is-of, before-trans}
use Rattle.laws.proofs.Ordered.{rest-ordered}

-- the first is before each other
pub first-before : (c : Cell) (cs : List Cell) (i : ℕ) (d : Cell) → in_order (c ∷ cs) ≡ true → i < length cs → cell_before c (get_or cs i d) ≡ true
unfolding in_order
first-before c [] i d e l = absurd (omega arith)
first-before c (x ∷ cs) zero d e l = and_l (cell_before c x) (ascending cell_before (x ∷ cs)) e
first-before c (x ∷ cs) (suc i) d e l =
    before-trans c x (get_or cs i d) (and_l (cell_before c x) (ascending cell_before (x ∷ cs)) e)
    (first-before x cs i d (and_r (cell_before c x) (ascending cell_before (x ∷ cs)) e) (omega arith))

pub ordered-pair : (cs : List Cell) (i j : ℕ) (d : Cell) → in_order cs ≡ true → i < j → j < length cs → cell_before (get_or cs i d) (get_or cs j d) ≡ true
ordered-pair [] i j d e l m = absurd (omega arith)
ordered-pair (c ∷ cs) i zero d e l m = absurd (omega arith)
ordered-pair (c ∷ cs) zero (suc j) d e l m = first-before c cs j d e (omega arith)
ordered-pair (c ∷ cs) (suc i) (suc j) d e l m = ordered-pair cs i j d (rest-ordered c cs e) (omega arith) (omega arith)

-- ---- the place of a cell

pub place-le : (cs : List Cell) (o k : ℕ) → place_in cs o k ≤ length cs
unfolding place_in
place-le [] o k = omega arith
place-le (c ∷ cs) o k = go (before o k c) (place-le cs o k)
  where
    go : (b : Bool) → place_in cs o k ≤ length cs → cond b (suc (place_in cs o k)) 0 ≤ suc (length cs)
    go true h = omega arith
    go false h = omega arith

-- a row that is not before the cell is not in front of its place
pub place-under : (cs : List Cell) (o k i : ℕ) (d : Cell) → i < length cs → before o k (get_or cs i d) ≡ false → place_in cs o k ≤ i
unfolding place_in
place-under [] o k i d l e = absurd (omega arith)
place-under (c ∷ cs) o k zero d l e = let z : place_in (c ∷ cs) o k ≡ 0 = rw e in omega arith
place-under (c ∷ cs) o k (suc i) d l e = go (before o k c) (place-under cs o k i d (omega arith) e)
  where
    go : (b : Bool) → place_in cs o k ≤ i → cond b (suc (place_in cs o k)) 0 ≤ suc i
    go true h = omega arith
    go false h = omega arith

-- in order, a row that is before the cell is in front of its place
pub place-above : (cs : List Cell) (o k i : ℕ) (d : Cell) → in_order cs ≡ true → i < length cs → before o k (get_or cs i d) ≡ true → i < place_in cs o k
unfolding place_in
place-above [] o k i d a l e = absurd (omega arith)
place-above (c ∷ cs) o k zero d a l e = let z : place_in (c ∷ cs) o k ≡ suc (place_in cs o k) = rw e in omega arith
place-above (c ∷ cs) o k (suc i) d a l e =
    let x = get_or cs i d in
    let f : before o k c ≡ true = lex-trans c.object c.key x.object x.key o k (first-before c cs i d a (omega arith)) e in
    let z : place_in (c ∷ cs) o k ≡ suc (place_in cs o k) = rw f in
    let h : i < place_in cs o k = place-above cs o k i d (rest-ordered c cs a) (omega arith) e in
    omega arith

-- ---- the row of a cell

-- the cell's own row is not before it
pub own-not-before : (c : Cell) (o k : ℕ) → is_of o k c ≡ true → before o k c ≡ false
own-not-before c o k e =
    let w = is-of c o k e in
    ap₂ (λ (x y : ℕ). lex_before x y o k) w.0 w.1 ∙ lex-irr o k

-- a row with the cell is its row
pub row-at-place : (cs : List Cell) (o k i : ℕ) (d : Cell) → in_order cs ≡ true → i < length cs → is_of o k (get_or cs i d) ≡ true → row_in cs o k ≡ suc i
unfolding row_in
row-at-place [] o k i d a l e = absurd (omega arith)
row-at-place (c ∷ cs) o k zero d a l e = rw e
row-at-place (c ∷ cs) o k (suc i) d a l e =
    let w = is-of (get_or cs i d) o k e in
    let b : before o k c ≡ true = ap₂ (λ (x y : ℕ). lex_before c.object c.key x y) (sym w.0) (sym w.1) ∙ first-before c cs i d a (omega arith) in
    let f : is_of o k c ≡ false = lex-differ c.object c.key o k b in
    rw (f, row-at-place cs o k i d (rest-ordered c cs a) (omega arith) e)

pub row-found : (cs : List Cell) (o k i : ℕ) (d : Cell) → row_in cs o k ≡ suc i → (i < length cs) × (is_of o k (get_or cs i d) ≡ true)
unfolding row_in
row-found [] o k i d e = absurd (omega arith)
row-found (c ∷ cs) o k i d e = go (is_of o k c) refl (row_in cs o k) refl i e (λ j f. row-found cs o k j d f)
  where
    go : (b : Bool) → is_of o k c ≡ b → (r : ℕ) → row_in cs o k ≡ r → (i : ℕ) → cond b 1 (further r) ≡ suc i
        → ((j : ℕ) → row_in cs o k ≡ suc j → (j < length cs) × (is_of o k (get_or cs j d) ≡ true))
        → (i < suc (length cs)) × (is_of o k (get_or (c ∷ cs) i d) ≡ true)
    go true p r q zero e ih = (omega arith, p)
    go true p r q (suc i) e ih = absurd (omega arith)
    go false p zero q i e ih = absurd (omega arith)
    go false p (suc r) q zero e ih = absurd (omega arith)
    go false p (suc r) q (suc i) e ih =
        let h = ih i (omega arith) in
        (omega (arith, h.0), h.1)

-- where the row at the cell's place is not the cell, it has none
pub row-not-at-place : (cs : List Cell) (o k : ℕ) (d : Cell) → in_order cs ≡ true → (ltb (place_in cs o k) (length cs) && is_of o k (get_or cs (place_in cs o k) d)) ≡ false → row_in cs o k ≡ 0
row-not-at-place cs o k d a e = go (row_in cs o k) refl
  where
    go : (r : ℕ) → row_in cs o k ≡ r → row_in cs o k ≡ 0
    go zero q = q
    go (suc i) q =
        let h = row-found cs o k i d q in
        let p = place_in cs o k in
        let x = get_or cs i d in
        let u : p ≤ i = place-under cs o k i d h.0 (own-not-before x o k h.1) in
        let v : i ≤ p = front i h.0 h.1 in
        let s : p ≡ i = omega arith in
        clash (ltb p (length cs) && is_of o k (get_or cs p d))
        (both (lt-ltb p (length cs) (omega (arith, h.0))) (ap (λ (m : ℕ). is_of o k (get_or cs m d)) s ∙ h.1)) e
      where
        front : (i : ℕ) → i < length cs → is_of o k (get_or cs i d) ≡ true → i ≤ place_in cs o k
        front zero l e = omega arith
        front (suc i) l e =
            let x = get_or cs (suc i) d in
            let y = get_or cs i d in
            let w = is-of x o k e in
            place-above cs o k i d a (omega arith)
            (ap₂ (λ (m n : ℕ). lex_before y.object y.key m n) (sym w.0) (sym w.1) ∙ ordered-pair cs i (suc i) d a (omega arith) l)

-- ---- the row of a cell in two lists, one behind the other

-- the first row, or where there is none the second
abbrev pub or_row : ℕ → ℕ → ℕ
or_row zero r = r
or_row (suc i) r = suc i

pub behind-none : (r : ℕ) → behind 0 r ≡ r
behind-none zero = refl
behind-none (suc i) = omega arith

further-behind : (n r : ℕ) → further (behind n r) ≡ behind (suc n) r
further-behind n zero = refl
further-behind n (suc i) =
    let e : n + suc i ≡ suc (n + i) = omega arith in
    ap further e ∙ omega arith

pub row-append : (a b : List Cell) (o k : ℕ) → row_in (a ++ b) o k ≡ or_row (row_in a o k) (behind (length a) (row_in b o k))
unfolding row_in
row-append [] b o k = sym (behind-none (row_in b o k))
row-append (c ∷ a) b o k = go (is_of o k c) (row_in a o k) (row-append a b o k)
  where
    go : (t : Bool) (r : ℕ) → row_in (a ++ b) o k ≡ or_row r (behind (length a) (row_in b o k))
        → cond t 1 (further (row_in (a ++ b) o k)) ≡ or_row (cond t 1 (further r)) (behind (suc (length a)) (row_in b o k))
    go true r ih = refl
    go false zero ih = ap further ih ∙ further-behind (length a) (row_in b o k)
    go false (suc r) ih = ap further ih

pub none-append : (a b : List Cell) (o k : ℕ) → row_in (a ++ b) o k ≡ 0 → (row_in a o k ≡ 0) × (row_in b o k ≡ 0)
none-append a b o k e = go (row_in a o k) (row_in b o k) (sym (row-append a b o k) ∙ e)
  where
    go : (r s : ℕ) → or_row r (behind (length a) s) ≡ 0 → (r ≡ 0) × (s ≡ 0)
    go zero zero f = (refl, refl)
    go zero (suc i) f = absurd (omega arith)
    go (suc i) s f = absurd (omega arith)
