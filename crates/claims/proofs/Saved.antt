-- The cells that a checkpoint saves are those that the table holds of its object, key by key: putting a cell into an ascending
-- list gives its key that cell and leaves the other keys as they were. And what is said of each key is said of each saved cell.
use Prim.Native.Nat.{ℕ, ◌<◌}
use mathlib.Core.Path.{◌≡◌, refl, ap, sym, ◌∙◌}
use mathlib.Core.Bool.{Bool, true, false, cond, ◌&&◌, ◌||◌}
use mathlib.Core.List.{List, [], ◌∷◌, map}
use mathlib.Core.Option.{Option, some, some-injective}
use native.Mathlib.Omega.{arith}
use borrow.Author.Tests.{eqb-true, eqb-false, eq-eqb, ne_eqb, ltb-true}
use lib.Dec.{eqb, ltb}
use Rattle.lists.specs.Tests.{and_l, and_r, both, clash}
use Rattle.lists.specs.Sets.{all, mem, ascending, first-leads, rest-ascends}
use Rattle.model.specs.Entries.{Held, Saved}
use Rattle.model.specs.Rules.{saved_before}
use Rattle.model.specs.Table.{Cell, held_by, lookup, insert_saved, saved_of}
use Rattle.model.specs.Terms.{saved_for}
use Rattle.laws.proofs.Refusals.{not_none}

-- ---- the table

insert-for : (c : Saved) (l : List Saved) (k : ℕ) → saved_for (insert_saved c l) k ≡ saved_for (c ∷ l) k
insert-for c [] k = refl
insert-for c (d ∷ l) k = go (ltb c.key d.key) (eqb c.key d.key) refl (insert-for c l k)
  where
    twice : (a : Bool) (x y z : Option Held) → cond a x z ≡ cond a x (cond a y z)
    twice true x y z = refl
    twice false x y z = refl

    swap : (a b : Bool) (x y z : Option Held) → (a ≡ true → b ≡ true → ⊥) → cond b y (cond a x z) ≡ cond a x (cond b y z)
    swap true true x y z n = absurd (n refl refl)
    swap true false x y z n = refl
    swap false b x y z n = refl

    go : (b e : Bool) → eqb c.key d.key ≡ e → saved_for (insert_saved c l) k ≡ saved_for (c ∷ l) k
        → saved_for (cond b (c ∷ d ∷ l) (cond e (c ∷ l) (d ∷ insert_saved c l))) k ≡ saved_for (c ∷ d ∷ l) k
    go true e q ih = refl
    go false true q ih = rw (← eqb-true c.key d.key q) (twice (eqb c.key k) (some c.held) (some d.held) (saved_for l k))
    go false false q ih = rw ih (swap (eqb c.key k) (eqb d.key k) (some c.held) (some d.held) (saved_for l k)
        (λ i j. eqb-false c.key d.key q (eqb-true c.key k i ∙ sym (eqb-true d.key k j))))

pub saved-for : (o : ℕ) (cs : List Cell) (k : ℕ) → saved_for (saved_of o cs) k ≡ lookup cs o k
unfolding lookup saved_of
saved-for o [] k = refl
saved-for o (c ∷ cs) k = go (eqb c.object o) (saved-for o cs k)
  where
    it : Saved
    it = record { key = c.key; held = held_by c }

    go : (b : Bool) → saved_for (saved_of o cs) k ≡ lookup cs o k
        → saved_for (cond b (insert_saved it (saved_of o cs)) (saved_of o cs)) k ≡ cond (b && eqb c.key k) (some (held_by c)) (lookup cs o k)
    go true ih = insert-for it (saved_of o cs) k ∙ rw ih
    go false ih = ih

-- ---- each key and each saved cell

abbrev pub saved_as : ℕ → Held → Saved
saved_as k h = record { key = k; held = h }

abbrev pub keys_of : List Saved → List ℕ
keys_of cs = map (λ (c : Saved). c.key) cs

module _ (f : Saved → Bool) where
  pub all-for : (cs : List Saved) (k : ℕ) (h : Held) → all f cs ≡ true → saved_for cs k ≡ some h → f (saved_as k h) ≡ true
  all-for [] k h a e = not_none h (sym e)
  all-for (c ∷ cs) k h a e = go (eqb c.key k) refl e (λ i. all-for cs k h (and_r (f c) (all f cs) a) i)
    where
      go : (b : Bool) → eqb c.key k ≡ b → cond b (some c.held) (saved_for cs k) ≡ some h → (saved_for cs k ≡ some h → f (saved_as k h) ≡ true)
          → f (saved_as k h) ≡ true
      go true q i ih =
          let p : c.key ≡ k = eqb-true c.key k q in
          let r : c.held ≡ h = some-injective c.held h i in
          let s : c ≡ saved_as k h = λ j. saved_as (p j) (r j) in
          sym (ap f s) ∙ and_l (f c) (all f cs) a
      go false q i ih = ih i

-- the first key is below the others
below-keys : (c : Saved) (cs : List Saved) (k : ℕ) (h : Held) → ascending saved_before (c ∷ cs) ≡ true → saved_for cs k ≡ some h → c.key < k
below-keys c [] k h a e = not_none h (sym e)
below-keys c (d ∷ cs) k h a e = go (eqb d.key k) refl e (λ i. below-keys d cs k h (rest-ascends saved_before c (d ∷ cs) a) i)
  where
    l : c.key < d.key
    l = ltb-true c.key d.key (first-leads saved_before c (d ∷ cs) a)

    go : (b : Bool) → eqb d.key k ≡ b → cond b (some d.held) (saved_for cs k) ≡ some h → (saved_for cs k ≡ some h → d.key < k) → c.key < k
    go true q i ih = omega (arith, l, eqb-true d.key k q)
    go false q i ih = omega (arith, l, ih i)

module _ (f : Saved → Bool) where
  pub for-all : (cs : List Saved) → ascending saved_before cs ≡ true → ((k : ℕ) (h : Held) → saved_for cs k ≡ some h → f (saved_as k h) ≡ true) → all f cs ≡ true
  for-all [] a t = refl
  for-all (c ∷ cs) a t = both (t c.key c.held (rw (eq-eqb c.key c.key refl))) (for-all cs (rest-ascends saved_before c cs a) (λ k h e. t k h (later k h e)))
    where
      later : (k : ℕ) (h : Held) → saved_for cs k ≡ some h → saved_for (c ∷ cs) k ≡ some h
      later k h e =
          let l : c.key < k = below-keys c cs k h a e in
          let n : c.key ≡ k → ⊥ = omega arith in
          rw (ne_eqb c.key k n) e

-- ---- the keys

pub held-key : (cs : List Saved) (k : ℕ) (h : Held) → saved_for cs k ≡ some h → mem k (keys_of cs) ≡ true
held-key [] k h e = not_none h (sym e)
held-key (c ∷ cs) k h e = go (eqb c.key k) e (λ i. held-key cs k h i)
  where
    go : (b : Bool) → cond b (some c.held) (saved_for cs k) ≡ some h → (saved_for cs k ≡ some h → mem k (keys_of cs) ≡ true) → (b || mem k (keys_of cs)) ≡ true
    go true i ih = refl
    go false i ih = ih i

pub key-held : (cs : List Saved) (k : ℕ) → mem k (keys_of cs) ≡ true → (h : Held) × (saved_for cs k ≡ some h)
key-held [] k m = clash false m refl
key-held (c ∷ cs) k m = go (eqb c.key k) m (λ i. key-held cs k i)
  where
    go : (b : Bool) → (b || mem k (keys_of cs)) ≡ true → (mem k (keys_of cs) ≡ true → (h : Held) × (saved_for cs k ≡ some h))
        → (h : Held) × (cond b (some c.held) (saved_for cs k) ≡ some h)
    go true i ih = (c.held, refl)
    go false i ih = ih i

pub keys-ascend : (cs : List Saved) → ascending saved_before cs ≡ true → ascending ltb (keys_of cs) ≡ true
keys-ascend [] a = refl
keys-ascend (c ∷ []) a = refl
keys-ascend (c ∷ d ∷ cs) a = both (first-leads saved_before c (d ∷ cs) a) (keys-ascend (d ∷ cs) (rest-ascends saved_before c (d ∷ cs) a))
