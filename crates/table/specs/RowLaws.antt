-- Laws of rows in any order: what the row of a cell holds.
-- Each is an induction over the cells; the case of a cell is whether it is the one looked for.
use Rattle.std.specs.Prelude.{◌≡◌, refl, Bool, true, false, cond, List, [], ◌∷◌, ℕ, zero, suc, ◌≤◌, ◌<◌, length, get_or}
use Rattle.std.proofs.Common.{ap, ap₂, sym, ◌∙◌, arith}
use Rattle.std.proofs.Math.Option.{none, some}
use Rattle.lists.specs.Tests.{and_l, and_r}
use Rattle.model.specs.Entries.{is_none}
use Rattle.model.specs.Table.{Cell, is_of, held_by, lookup}
use Rattle.laws.proofs.CellOrder.{is-of}
use Rattle.laws.proofs.Ordered.{once}
use Rattle.table.specs.Rows.{further, row_in}

-- ---- one row more in front

pub further-none : (r : ℕ) → further r ≡ 0 → r ≡ 0
further-none zero e = refl
further-none (suc r) e = absurd (omega arith)

further-some : (r i : ℕ) → further r ≡ suc i → (r ≡ i) × (1 ≤ i)
further-some zero i e = absurd (omega arith)
further-some (suc r) i e = omega arith

-- ---- what the row holds

pub row-none : (cs : List Cell) (o k : ℕ) → row_in cs o k ≡ 0 → lookup cs o k ≡ none
unfolding row_in lookup
row-none [] o k e = refl
row-none (c ∷ cs) o k e = go (is_of o k c) e (λ f. row-none cs o k f)
  where
    go : (b : Bool) → cond b 1 (further (row_in cs o k)) ≡ 0 → (row_in cs o k ≡ 0 → lookup cs o k ≡ none) → cond b (some (held_by c)) (lookup cs o k) ≡ none
    go true e ih = absurd (omega arith)
    go false e ih = ih (further-none (row_in cs o k) e)

pub row-some : (cs : List Cell) (o k i : ℕ) (d : Cell) → row_in cs o k ≡ suc i → (i < length cs) × (lookup cs o k ≡ some (held_by (get_or cs i d)))
unfolding row_in lookup
row-some [] o k i d e = absurd (omega arith)
row-some (c ∷ cs) o k zero d e = go (is_of o k c) e
  where
    go : (b : Bool) → cond b 1 (further (row_in cs o k)) ≡ 1 → (0 < suc (length cs)) × (cond b (some (held_by c)) (lookup cs o k) ≡ some (held_by c))
    go true e = (omega arith, refl)
    go false e = absurd (omega (arith, further-some (row_in cs o k) 0 e))
row-some (c ∷ cs) o k (suc i) d e = go (is_of o k c) e (λ f. row-some cs o k i d f)
  where
    go : (b : Bool) → cond b 1 (further (row_in cs o k)) ≡ suc (suc i) → (row_in cs o k ≡ suc i → (i < length cs) × (lookup cs o k ≡ some (held_by (get_or cs i d))))
        → (suc i < suc (length cs)) × (cond b (some (held_by c)) (lookup cs o k) ≡ some (held_by (get_or cs i d)))
    go true e ih = absurd (omega arith)
    go false e ih = let h = ih (further-some (row_in cs o k) (suc i) e).0 in (omega (arith, h.0), h.1)

pub row-le : (cs : List Cell) (o k : ℕ) → row_in cs o k ≤ length cs
unfolding row_in
row-le [] o k = omega arith
row-le (c ∷ cs) o k = go (is_of o k c) (row_in cs o k) (row-le cs o k)
  where
    go : (b : Bool) (r : ℕ) → r ≤ length cs → cond b 1 (further r) ≤ suc (length cs)
    go true r h = omega arith
    go false zero h = omega arith
    go false (suc r) h = omega arith

-- a cell that holds nothing has no row
pub none_row : (cs : List Cell) (o k : ℕ) → is_none (lookup cs o k) ≡ true → row_in cs o k ≡ 0
none_row cs o k e = go (row_in cs o k) refl
  where
    go : (r : ℕ) → row_in cs o k ≡ r → row_in cs o k ≡ 0
    go zero f = f
    go (suc i) f =
        let d : Cell = record { object = 0; key = 0; value = 0; present = 0; version = 0 } in
        let n : false ≡ true = sym (ap is_none (row-some cs o k i d f).1) ∙ e in
        let z : ◌≡◌ {A = ℕ} 0 1 = cc in
        absurd (omega arith)

-- ---- rows of which no cell is there twice

-- the row of a cell is the one that is its own
pub row-once : (cs : List Cell) (o k i : ℕ) (d : Cell) → once cs ≡ true → i < length cs → is_of o k (get_or cs i d) ≡ true → row_in cs o k ≡ suc i
unfolding row_in
row-once [] o k i d a l e = absurd (omega arith)
row-once (c ∷ cs) o k zero d a l e = ap (λ (b : Bool). cond b 1 (further (row_in cs o k))) e
row-once (c ∷ cs) o k (suc i) d a l e =
    let r : row_in cs o k ≡ suc i = row-once cs o k i d (and_r (is_none (lookup cs c.object c.key)) (once cs) a) (omega arith) e in
    go (is_of o k c) refl r
  where
    go : (b : Bool) → is_of o k c ≡ b → row_in cs o k ≡ suc i → cond b 1 (further (row_in cs o k)) ≡ suc (suc i)
    go false p r = ap further r
    go true p r =
        let s = is-of c o k p in
        let z : row_in cs o k ≡ 0 = ap₂ (λ (x y : ℕ). row_in cs x y) (sym s.0) (sym s.1) ∙ none_row cs c.object c.key (and_l (is_none (lookup cs c.object c.key)) (once cs) a) in
        absurd (omega arith)

-- ---- two names of one cell
