-- Rows in order: a cell is there once, and a cell written keeps the order. What is held then holds of any rows. By induction
-- over the rows, with the three cases of `store`: its own row, a row that comes after it, any other.
use mathlib.Core.Path.{◌≡◌, refl, ap, ap₂, sym, ◌∙◌}
use mathlib.Core.Bool.{Bool, true, false, cond, ◌&&◌}
use mathlib.Core.List.{List, [], ◌∷◌}
use mathlib.Core.Option.{Option, none, some}
use Prim.Native.Nat.{ℕ, suc, ◌+◌, ◌≤◌}
use native.Mathlib.Omega.{arith}
use lib.Dec.{eqb}
use lib.ListN.{length}
use borrow.Author.Tests.{eqb-true, eq-eqb}
use Rattle.lists.specs.Tests.{and_l, and_r, both, clash}
use Rattle.lists.specs.Sets.{mem, leads, ascends, first-leads, rest-ascends}
use Rattle.model.specs.Entries.{Write, Held, content_of, is_none}
use Rattle.model.specs.Table.{Cell, is_of, held_by, lookup, cell_of, cell_before, in_order, store, apply}
use Rattle.laws.proofs.CellOrder.{is-of, before-differ, before-trans, before-total, same_left}

pub held-cell : (o k : ℕ) (h : Held) → held_by (cell_of o k h) ≡ h
held-cell o k h = go h.version h.content
  where
    go : (v : ℕ) (x : Option ℕ) → held_by (cell_of o k (record { version = v; content = x })) ≡ record { version = v; content = x }
    go v none = refl
    go v (some x) = refl

-- ---- what a stored cell holds: of any rows

pub lookup-store : (cs : List Cell) (o k : ℕ) (h : Held) (o' k' : ℕ) → lookup (store cs o k h) o' k' ≡ cond (eqb o o' && eqb k k') (some h) (lookup cs o' k')
unfolding lookup store
lookup-store [] o k h o' k' = rw (held-cell o k h)
lookup-store (c ∷ cs) o k h o' k' = go (is_of o k c) (cell_before (cell_of o k h) c) refl (lookup-store cs o k h o' k')
  where
    twice : (b : Bool) (x y z : Option Held) → cond b x z ≡ cond b x (cond b y z)
    twice true x y z = refl
    twice false x y z = refl

    swap : (a b : Bool) → is_of o' k' c ≡ a → (eqb o o' && eqb k k') ≡ b → is_of o k c ≡ false
        → cond a (some (held_by c)) (cond b (some h) (lookup cs o' k')) ≡ cond b (some h) (cond a (some (held_by c)) (lookup cs o' k'))
    swap true true p q e =
        let u = is-of c o' k' p in
        let x : c.object ≡ o = u.0 ∙ sym (eqb-true o o' (and_l (eqb o o') (eqb k k') q)) in
        let y : c.key ≡ k = u.1 ∙ sym (eqb-true k k' (and_r (eqb o o') (eqb k k') q)) in
        clash (is_of o k c) (both (eq-eqb c.object o x) (eq-eqb c.key k y)) e
    swap true false p q e = refl
    swap false b p q e = refl

    go : (q r : Bool) → is_of o k c ≡ q → lookup (store cs o k h) o' k' ≡ cond (eqb o o' && eqb k k') (some h) (lookup cs o' k')
        → lookup (cond q (cell_of o k h ∷ cs) (cond r (cell_of o k h ∷ c ∷ cs) (c ∷ store cs o k h))) o' k'
        ≡ cond (eqb o o' && eqb k k') (some h) (cond (is_of o' k' c) (some (held_by c)) (lookup cs o' k'))
    go true r q ih =
        let u = is-of c o k q in
        let same : is_of o' k' c ≡ (eqb o o' && eqb k k') = ap₂ (λ (x y : ℕ). eqb x o' && eqb y k') u.0 u.1 in
        rw (held-cell o k h, same) (twice (eqb o o' && eqb k k') (some h) (some (held_by c)) (lookup cs o' k'))
    go false true q ih = rw (held-cell o k h)
    go false false q ih = rw ih (swap (is_of o' k' c) (eqb o o' && eqb k k') refl refl q)

-- a write adds at most one row: to any rows
pub store-few : (cs : List Cell) (o k : ℕ) (h : Held) → length (store cs o k h) ≤ length cs + 1
unfolding store
store-few [] o k h = omega arith
store-few (c ∷ cs) o k h = go (is_of o k c) (cell_before (cell_of o k h) c) (store-few cs o k h)
  where
    go : (q r : Bool) → length (store cs o k h) ≤ length cs + 1
        → length (cond q (cell_of o k h ∷ cs) (cond r (cell_of o k h ∷ c ∷ cs) (c ∷ store cs o k h))) ≤ length (c ∷ cs) + 1
    go true r ih = omega arith
    go false true ih = omega arith
    go false false ih = omega arith

-- and takes none away
pub store-grows : (cs : List Cell) (o k : ℕ) (h : Held) → length cs ≤ length (store cs o k h)
unfolding store
store-grows [] o k h = omega arith
store-grows (c ∷ cs) o k h = go (is_of o k c) (cell_before (cell_of o k h) c) (store-grows cs o k h)
  where
    go : (q r : Bool) → length cs ≤ length (store cs o k h)
        → length (c ∷ cs) ≤ length (cond q (cell_of o k h ∷ cs) (cond r (cell_of o k h ∷ c ∷ cs) (c ∷ store cs o k h)))
    go true r ih = omega arith
    go false true ih = omega arith
    go false false ih = omega arith

-- ---- rows in order

pub rest-ordered : (c : Cell) (cs : List Cell) → in_order (c ∷ cs) ≡ true → in_order cs ≡ true
unfolding in_order
rest-ordered c cs a = rest-ascends cell_before c cs a

pub first-ordered : (c : Cell) (cs : List Cell) → in_order (c ∷ cs) ≡ true → leads cell_before c cs ≡ true
unfolding in_order
first-ordered c cs a = first-leads cell_before c cs a

pub ordered-cons : (c : Cell) (cs : List Cell) → leads cell_before c cs ≡ true → in_order cs ≡ true → in_order (c ∷ cs) ≡ true
unfolding in_order
ordered-cons c cs l a = ascends cell_before c cs l a

-- before the first, and so before any
leads-on : (n c : Cell) (cs : List Cell) → cell_before n c ≡ true → leads cell_before c cs ≡ true → leads cell_before n cs ≡ true
leads-on n c [] p l = refl
leads-on n c (d ∷ cs) p l = before-trans n c d p l

-- a cell that comes before the first has no row
pub none_before : (n : Cell) (cs : List Cell) → leads cell_before n cs ≡ true → in_order cs ≡ true → lookup cs n.object n.key ≡ none
unfolding lookup
none_before n [] l a = refl
none_before n (c ∷ cs) l a =
    let other : is_of n.object n.key c ≡ false = go (is_of n.object n.key c) refl in
    rw other (none_before n cs (leads-on n c cs l (first-ordered c cs a)) (rest-ordered c cs a))
  where
    go : (b : Bool) → is_of n.object n.key c ≡ b → is_of n.object n.key c ≡ false
    go true e = clash (is_of c.object c.key n)
        (let s = is-of c n.object n.key e in both (eq-eqb n.object c.object (sym s.0)) (eq-eqb n.key c.key (sym s.1)))
        (before-differ n c l)
    go false e = e

-- so the first is not among the others
pub first-once : (c : Cell) (cs : List Cell) → in_order (c ∷ cs) ≡ true → lookup cs c.object c.key ≡ none
first-once c cs a = none_before c cs (first-ordered c cs a) (rest-ordered c cs a)

-- no cell twice
abbrev pub once : List Cell → Bool
once [] = true
once (c ∷ cs) = is_none (lookup cs c.object c.key) && once cs

pub ordered-once : (cs : List Cell) → in_order cs ≡ true → once cs ≡ true
ordered-once [] a = refl
ordered-once (c ∷ cs) a = both (ap is_none (first-once c cs a)) (ordered-once cs (rest-ordered c cs a))

-- ---- a cell written keeps the order

store-leads : (x : Cell) (cs : List Cell) (o k : ℕ) (h : Held) → cell_before x (cell_of o k h) ≡ true → leads cell_before x cs ≡ true → leads cell_before x (store cs o k h) ≡ true
unfolding store
store-leads x [] o k h p l = p
store-leads x (c ∷ cs) o k h p l = go (is_of o k c) (cell_before (cell_of o k h) c)
  where
    go : (q r : Bool) → leads cell_before x (cond q (cell_of o k h ∷ cs) (cond r (cell_of o k h ∷ c ∷ cs) (c ∷ store cs o k h))) ≡ true
    go true r = p
    go false true = p
    go false false = l

-- a row in place of one of the same cell
same-leads : (n c : Cell) (cs : List Cell) → is_of n.object n.key c ≡ true → leads cell_before c cs ≡ true → leads cell_before n cs ≡ true
same-leads n c [] w l = refl
same-leads n c (d ∷ cs) w l = sym (same_left c n d w) ∙ l

pub ordered-store : (cs : List Cell) (o k : ℕ) (h : Held) → in_order cs ≡ true → in_order (store cs o k h) ≡ true
unfolding store in_order
ordered-store [] o k h a = refl
ordered-store (c ∷ cs) o k h a = go (is_of o k c) (cell_before (cell_of o k h) c) refl refl (ordered-store cs o k h (rest-ordered c cs a))
  where
    go : (q r : Bool) → is_of o k c ≡ q → cell_before (cell_of o k h) c ≡ r → in_order (store cs o k h) ≡ true
        → in_order (cond q (cell_of o k h ∷ cs) (cond r (cell_of o k h ∷ c ∷ cs) (c ∷ store cs o k h))) ≡ true
    go true r q p ih = ordered-cons (cell_of o k h) cs (same-leads (cell_of o k h) c cs q (first-ordered c cs a)) (rest-ordered c cs a)
    go false true q p ih = both p a
    go false false q p ih =
        let w : is_of c.object c.key (cell_of o k h) ≡ false = turned (is_of c.object c.key (cell_of o k h)) refl q in
        ordered-cons c (store cs o k h) (store-leads c cs o k h (before-total (cell_of o k h) c p w) (first-ordered c cs a)) ih
      where
        turned : (b : Bool) → is_of c.object c.key (cell_of o k h) ≡ b → is_of o k c ≡ false → is_of c.object c.key (cell_of o k h) ≡ false
        turned true e f = clash (is_of o k c)
            (let s = is-of (cell_of o k h) c.object c.key e in both (eq-eqb c.object o (sym s.0)) (eq-eqb c.key k (sym s.1))) f
        turned false e f = e

-- and adds a row where the cell was never written
pub length-store : (cs : List Cell) (o k : ℕ) (h : Held) → in_order cs ≡ true → length (store cs o k h) ≡ cond (is_none (lookup cs o k)) (length cs + 1) (length cs)
unfolding store lookup
length-store [] o k h a = refl
length-store (c ∷ cs) o k h a = go (is_of o k c) (cell_before (cell_of o k h) c) refl refl (length-store cs o k h (rest-ordered c cs a))
  where
    more : (b : Bool) → suc (cond b (length cs + 1) (length cs)) ≡ cond b (length (c ∷ cs) + 1) (length (c ∷ cs))
    more true = omega arith
    more false = refl

    go : (q r : Bool) → is_of o k c ≡ q → cell_before (cell_of o k h) c ≡ r → length (store cs o k h) ≡ cond (is_none (lookup cs o k)) (length cs + 1) (length cs)
        → length (cond q (cell_of o k h ∷ cs) (cond r (cell_of o k h ∷ c ∷ cs) (c ∷ store cs o k h)))
        ≡ cond (is_none (cond q (some (held_by c)) (lookup cs o k))) (length (c ∷ cs) + 1) (length (c ∷ cs))
    go true r q p ih = refl
    go false true q p ih =
        let none-there : lookup cs o k ≡ none = none_before (cell_of o k h) cs (leads-on (cell_of o k h) c cs p (first-ordered c cs a)) (rest-ordered c cs a) in
        rw none-there (omega arith)
    go false false q p ih = ap suc ih ∙ more (is_none (lookup cs o k))

-- ---- the writes of an entry

pub ordered-apply : (set : List ℕ) (v : ℕ) (ws : List Write) (cs : List Cell) → in_order cs ≡ true → in_order (apply set v ws cs) ≡ true
unfolding apply
ordered-apply set v [] cs a = a
ordered-apply set v (w ∷ ws) cs a =
    ordered-apply set v ws (cond (mem w.object set) (store cs w.object w.key (record { version = v; content = content_of w })) cs) (go (mem w.object set))
  where
    go : (b : Bool) → in_order (cond b (store cs w.object w.key (record { version = v; content = content_of w })) cs) ≡ true
    go true = ordered-store cs w.object w.key (record { version = v; content = content_of w }) a
    go false = a

pub apply-grows : (set : List ℕ) (v : ℕ) (ws : List Write) (cs : List Cell) → length cs ≤ length (apply set v ws cs)
unfolding apply
apply-grows set v [] cs = omega arith
apply-grows set v (w ∷ ws) cs = go (mem w.object set) (λ ds. apply-grows set v ws ds)
  where
    h : Held
    h = record { version = v; content = content_of w }

    go : (b : Bool) → ((ds : List Cell) → length ds ≤ length (apply set v ws ds))
        → length cs ≤ length (apply set v ws (cond b (store cs w.object w.key (record { version = v; content = content_of w })) cs))
    go true ih = omega (arith, ih (store cs w.object w.key h), store-grows cs w.object w.key h)
    go false ih = omega (arith, ih cs)
