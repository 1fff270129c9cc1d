-- How many cells of a set's objects were written: a cell written for the first time adds one, and what other objects hold
-- does not matter. By induction over the keys, then over the directory, whose ids ascend, so that an object is in it once.
use Prim.Native.Nat.{ℕ, zero, suc, ◌+◌, ◌<◌, ◌≤◌}
use mathlib.Core.Path.{◌≡◌, refl, ap₂, sym, subst}
use mathlib.Core.Bool.{Bool, true, false, cond, ◌&&◌, ◌||◌}
use mathlib.Core.List.{List, [], ◌∷◌}
use mathlib.Core.Option.{none, some}
use native.Mathlib.Omega.{arith}
use borrow.Author.Tests.{eqb-true, eqb-false, eq-eqb, ne_eqb, ltb-true, leb-true}
use lib.Dec.{eqb, leb, ltb}
use Rattle.lists.specs.Tests.{and_l, and_r, both, clash}
use Rattle.lists.specs.Sets.{mem, ascending, rest-ascends}
use Rattle.model.specs.Objects.{Object}
use Rattle.model.specs.Entries.{Held, is_none}
use Rattle.model.specs.Table.{Holds}
use Rattle.model.specs.Histories.{keys_written, cells_written}
use Rattle.laws.proofs.Items.{ids_of, cell_in, cell-object}

-- ---- the same cell

abbrev pub same : ℕ → ℕ → ℕ → ℕ → Bool
same o k o' k' = eqb o o' && eqb k k'

pub same_object : (o k o' k' : ℕ) → same o k o' k' ≡ true → o ≡ o'
same_object o k o' k' e = eqb-true o o' (and_l (eqb o o') (eqb k k') e)

pub same_key : (o k o' k' : ℕ) → same o k o' k' ≡ true → k ≡ k'
same_key o k o' k' e = eqb-true k k' (and_r (eqb o o') (eqb k k') e)

pub same-eq : (o k o' k' : ℕ) → o ≡ o' → k ≡ k' → same o k o' k' ≡ true
same-eq o k o' k' p q = both (eq-eqb o o' p) (eq-eqb k k' q)

pub other-object : (o k o' k' : ℕ) → (o ≡ o' → ⊥) → same o k o' k' ≡ false
other-object o k o' k' d = rw (ne_eqb o o' d)

pub other_key : (o k o' k' : ℕ) → (k ≡ k' → ⊥) → same o k o' k' ≡ false
other_key o k o' k' d = go (eqb o o')
  where
    go : (x : Bool) → (x && eqb k k') ≡ false
    go true = ne_eqb k k' d
    go false = refl

-- cells with one more written
abbrev pub put : Holds → ℕ → ℕ → Held → Holds
put cells o k h o' k' = cond (same o k o' k') (some h) (cells o' k')

-- ---- cells that are the same for the set's objects

keys-same : (cells cells' : Holds) (o n : ℕ) → ((k : ℕ) → cells o k ≡ cells' o k) → keys_written cells o n ≡ keys_written cells' o n
keys-same cells cells' o zero e = refl
keys-same cells cells' o (suc n) e = rw (e n, keys-same cells cells' o n e)

pub written_same : (bs : List Object) (set : List ℕ) (cells cells' : Holds) → ((o k : ℕ) → mem o set ≡ true → cells o k ≡ cells' o k)
    → cells_written bs set cells ≡ cells_written bs set cells'
written_same [] set cells cells' e = refl
written_same (b ∷ bs) set cells cells' e = ap₂ (λ (x y : ℕ). x + y) (go (mem b.id set) refl) (written_same bs set cells cells' e)
  where
    go : (m : Bool) → mem b.id set ≡ m → cond m (keys_written cells b.id (suc b.highest)) 0 ≡ cond m (keys_written cells' b.id (suc b.highest)) 0
    go true m = keys-same cells cells' b.id (suc b.highest) (λ k. e b.id k m)
    go false m = refl

-- ---- nothing written

pub written_none : (bs : List Object) (set : List ℕ) → cells_written bs set (λ o k. none) ≡ 0
written_none [] set = refl
written_none (b ∷ bs) set = rw (keys b.id (suc b.highest), written_none bs set) (go (mem b.id set))
  where
    keys : (o n : ℕ) → keys_written (λ o k. none) o n ≡ 0
    keys o zero = refl
    keys o (suc n) = keys o n

    go : (m : Bool) → cond m 0 0 + 0 ≡ 0
    go true = refl
    go false = refl

-- ---- the directory

abbrev pub by_id : Object → Object → Bool
by_id a b = ltb a.id b.id

-- an id below the first of an ascending directory is not in it
below_all : (x : ℕ) (c : Object) (bs : List Object) → x < c.id → ascending by_id (c ∷ bs) ≡ true → mem x (ids_of (c ∷ bs)) ≡ false
below_all x c [] l a = rw (ne_eqb c.id x (omega arith))
below_all x c (d ∷ bs) l a =
    let u : c.id < d.id = ltb-true c.id d.id (and_l (by_id c d) (ascending by_id (d ∷ bs)) a) in
    rw (ne_eqb c.id x (omega arith)) (below_all x d bs (omega arith) (and_r (by_id c d) (ascending by_id (d ∷ bs)) a))

once : (b : Object) (bs : List Object) → ascending by_id (b ∷ bs) ≡ true → mem b.id (ids_of bs) ≡ false
once b [] a = refl
once b (c ∷ bs) a = below_all b.id c bs (ltb-true b.id c.id (and_l (by_id b c) (ascending by_id (c ∷ bs)) a)) (and_r (by_id b c) (ascending by_id (c ∷ bs)) a)

-- ---- one cell written for the first time

module _ (cells : Holds) (o k : ℕ) (h : Held) (new : is_none (cells o k) ≡ true) where
  keys-other : (x : ℕ) → (o ≡ x → ⊥) → (n : ℕ) → keys_written (put cells o k h) x n ≡ keys_written cells x n
  keys-other x d n = keys-same (put cells o k h) cells x n (λ k'. rw (other-object o k x k' d))

  keys_below : (n : ℕ) → n ≤ k → keys_written (put cells o k h) o n ≡ keys_written cells o n
  keys_below zero l = refl
  keys_below (suc n) l = let d : k ≡ n → ⊥ = omega arith in rw (other_key o k o n d, keys_below n (omega arith))

  keys-new : (n : ℕ) → k < n → keys_written (put cells o k h) o n ≡ keys_written cells o n + 1
  keys-new zero l = absurd (omega arith)
  keys-new (suc n) l = go (eqb k n) refl (λ q. keys-new n q)
    where
      past : (k ≡ n → ⊥) → k < n
      past d = omega arith

      out : (b : Bool) (x : ℕ) → cond b (x + 1) (x + 1 + 1) ≡ cond b x (x + 1) + 1
      out true x = refl
      out false x = refl

      go : (b : Bool) → eqb k n ≡ b → (k < n → keys_written (put cells o k h) o n ≡ keys_written cells o n + 1)
          → keys_written (put cells o k h) o (suc n) ≡ keys_written cells o (suc n) + 1
      go true e ih = rw (← eqb-true k n e, same-eq o k o k refl refl, keys_below k (omega arith), new)
      go false e ih = let d = eqb-false k n e in rw (other_key o k o n d, ih (past d)) (out (is_none (cells o n)) (keys_written cells o n))

  module _ (set : List ℕ) (hosted : mem o set ≡ true) where
    written-other : (bs : List Object) → mem o (ids_of bs) ≡ false → cells_written bs set (put cells o k h) ≡ cells_written bs set cells
    written-other [] m = refl
    written-other (b ∷ bs) m = go (eqb b.id o) refl m (λ i. written-other bs i)
      where
        go : (x : Bool) → eqb b.id o ≡ x → (x || mem o (ids_of bs)) ≡ false → (mem o (ids_of bs) ≡ false → cells_written bs set (put cells o k h) ≡ cells_written bs set cells)
            → cells_written (b ∷ bs) set (put cells o k h) ≡ cells_written (b ∷ bs) set cells
        go true e i ih = clash true refl i
        go false e i ih = rw (keys-other b.id (λ q. eqb-false b.id o e (sym q)) (suc b.highest), ih i)

    pub written_new : (bs : List Object) → ascending by_id bs ≡ true → cell_in bs o k ≡ true → cells_written bs set (put cells o k h) ≡ cells_written bs set cells + 1
    written_new [] a c = clash false c refl
    written_new (b ∷ bs) a c = go (eqb b.id o) refl c (λ i. written_new bs (rest-ascends by_id b bs a) i)
      where
        tall : (y x : Bool) → leb k b.highest ≡ y → (y || x) ≡ true → x ≡ false → k < suc b.highest
        tall true x e i j = omega (arith, leb-true k b.highest e)
        tall false x e i j = clash x i j

        one-more : (m n i j : ℕ) → m ≡ n + 1 → i ≡ j → m + i ≡ n + j + 1
        one-more m n i j e f = omega arith

        absent : (x : Bool) → cell_in bs o k ≡ x → mem o (ids_of bs) ≡ false → cell_in bs o k ≡ false
        absent true e m = clash (mem o (ids_of bs)) (cell-object bs o k e) m
        absent false e m = e

        go : (x : Bool) → eqb b.id o ≡ x → ((x && leb k b.highest) || cell_in bs o k) ≡ true
            → (cell_in bs o k ≡ true → cells_written bs set (put cells o k h) ≡ cells_written bs set cells + 1)
            → cells_written (b ∷ bs) set (put cells o k h) ≡ cells_written (b ∷ bs) set cells + 1
        go true e i ih =
            let q = eqb-true b.id o e in
            let m : mem o (ids_of bs) ≡ false = rw q at (once b bs a) in
            let e = keys-new (suc b.highest) (tall (leb k b.highest) (cell_in bs o k) refl i (absent (cell_in bs o k) refl m)) in
            let f : keys_written (put cells o k h) b.id (suc b.highest) ≡ keys_written cells b.id (suc b.highest) + 1 =
            subst (λ (x : ℕ). keys_written (put cells o k h) x (suc b.highest) ≡ keys_written cells x (suc b.highest) + 1) (sym q) e in
            let s : mem b.id set ≡ true = subst (λ (x : ℕ). mem x set ≡ true) (sym q) hosted in
            rw s (one-more _ _ _ _ f (written-other bs m))
        go false e i ih = rw (keys-other b.id (λ q. eqb-false b.id o e (sym q)) (suc b.highest), ih i) (omega arith)
