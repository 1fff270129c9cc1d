-- The cells of a checkpoint are known by what they say of each key: they ascend, and two ascending lists that say the same of
-- every key are the same list. So comparing a checkpoint with a table's cells is comparing what the two say.
use Prim.Native.Nat.{ℕ, ◌<◌}
use mathlib.Core.Path.{◌≡◌, refl, ap, ap₂, sym, ◌∙◌}
use mathlib.Core.Logic.{◌↔◌}
use mathlib.Core.Bool.{Bool, true, false}
use mathlib.Core.List.{List, [], ◌∷◌}
use mathlib.Core.Option.{Option, none, some, some-injective}
use native.Mathlib.Omega.{arith}
use borrow.Author.Tests.{eqb-true, eqb-false, eq-eqb, ne_eqb, ltb-true, ltb-false}
use lib.Dec.{eqb, ltb}
use Rattle.laws.proofs.Same.{same-saved}
use Rattle.lists.specs.Tests.{both}
use Rattle.lists.specs.Sets.{ascending, first-leads, rest-ascends}
use Rattle.model.specs.Entries.{Saved}
use Rattle.model.specs.Rules.{saved_before}
use Rattle.model.specs.Table.{Cell, lookup, saved_of}
use Rattle.model.specs.Replica.{same_content, same_saved}
use Rattle.model.specs.Terms.{saved_for}
use Rattle.laws.proofs.Refusals.{not_none}
use Rattle.laws.proofs.Appends.{saved-ascends}
use Rattle.claims.proofs.Saved.{saved-for}

-- ---- lists that say the same

abbrev Ascends : List Saved → Type 0
Ascends cs = ascending saved_before cs ≡ true

first_said : (c : Saved) (cs : List Saved) → saved_for (c ∷ cs) c.key ≡ some c.held
first_said c cs = rw (eq-eqb c.key c.key refl)

rest-said : (c : Saved) (cs : List Saved) (k : ℕ) → (c.key ≡ k → ⊥) → saved_for (c ∷ cs) k ≡ saved_for cs k
rest-said c cs k d = rw (ne_eqb c.key k d)

-- of a key below the first nothing is said
below-said : (k : ℕ) (c : Saved) (cs : List Saved) → k < c.key → Ascends (c ∷ cs) → saved_for (c ∷ cs) k ≡ none
below-said k c [] l a = rest-said c [] k (omega arith)
below-said k c (d ∷ cs) l a =
    let u : c.key < d.key = ltb-true c.key d.key (first-leads saved_before c (d ∷ cs) a) in
    rest-said c (d ∷ cs) k (omega arith) ∙ below-said k d cs (omega arith) (rest-ascends saved_before c (d ∷ cs) a)

-- nor, in the rest, of the first's
once-said : (c : Saved) (cs : List Saved) → Ascends (c ∷ cs) → saved_for cs c.key ≡ none
once-said c [] a = refl
once-said c (d ∷ cs) a = below-said c.key d cs (ltb-true c.key d.key (first-leads saved_before c (d ∷ cs) a)) (rest-ascends saved_before c (d ∷ cs) a)

-- where a list says nothing of the other's first, the two differ
differ : {P : Type 0} (c : Saved) (cs ds : List Saved) → saved_for ds c.key ≡ none → saved_for (c ∷ cs) c.key ≡ saved_for ds c.key → P
differ c cs ds n e = not_none c.held (sym (first_said c cs) ∙ e ∙ n)

pub saved-known : (cs ds : List Saved) → Ascends cs → Ascends ds → ((k : ℕ) → saved_for cs k ≡ saved_for ds k) → cs ≡ ds
saved-known [] [] a b h = refl
saved-known [] (d ∷ ds) a b h = differ d ds [] refl (sym (h d.key))
saved-known (c ∷ cs) [] a b h = differ c cs [] refl (h c.key)
saved-known (c ∷ cs) (d ∷ ds) a b h =
    go (ltb c.key d.key) (eqb c.key d.key) refl refl (λ r. saved-known cs ds (rest-ascends saved_before c cs a) (rest-ascends saved_before d ds b) r)
  where
    above : ltb c.key d.key ≡ false → eqb c.key d.key ≡ false → d.key < c.key
    above p q = omega (arith, ltb-false c.key d.key p, eqb-false c.key d.key q)

    rest : c.key ≡ d.key → (k : ℕ) (x : Bool) → eqb c.key k ≡ x → saved_for cs k ≡ saved_for ds k
    rest e k true q =
        let f = eqb-true c.key k q in
        ap (saved_for cs) (sym f) ∙ once-said c cs a ∙ sym (once-said d ds b) ∙ ap (saved_for ds) (sym e ∙ f)
    rest e k false q =
        let n = eqb-false c.key k q in
        sym (rest-said c cs k n) ∙ h k ∙ rest-said d ds k (λ i. n (e ∙ i))

    held : c.key ≡ d.key → c.held ≡ d.held
    held e = some-injective _ _ (sym (first_said c cs) ∙ h c.key ∙ ap (saved_for (d ∷ ds)) e ∙ first_said d ds)

    first : c.key ≡ d.key → c ≡ d
    first e = let g = held e in λ i. record { key = e i; held = g i }

    go : (x y : Bool) → ltb c.key d.key ≡ x → eqb c.key d.key ≡ y → (((k : ℕ) → saved_for cs k ≡ saved_for ds k) → cs ≡ ds) → c ∷ cs ≡ d ∷ ds
    go true y p q ih = differ c cs (d ∷ ds) (below-said c.key d ds (ltb-true c.key d.key p) b) (h c.key)
    go false true p q ih = let e = eqb-true c.key d.key q in ap₂ (λ x xs. x ∷ xs) (first e) (ih (λ k. rest e k (eqb c.key k) refl))
    go false false p q ih = differ d ds (c ∷ cs) (below-said d.key c cs (above p q) a) (sym (h d.key))

-- ---- the comparison of a checkpoint with a table's cells

content-same : (x : Option ℕ) → same_content x x ≡ true
content-same none = refl
content-same (some x) = eq-eqb x x refl

saved-same : (cs : List Saved) → same_saved cs cs ≡ true
saved-same [] = refl
saved-same (c ∷ cs) =
    both (both (both (eq-eqb c.key c.key refl) (eq-eqb c.held.version c.held.version refl)) (content-same c.held.content)) (saved-same cs)

pub same-said : (o : ℕ) (cs : List Saved) (table : List Cell) → Ascends cs
    → (same_saved cs (saved_of o table) ≡ true) ↔ ((k : ℕ) → saved_for cs k ≡ lookup table o k)
same-said o cs table a = (
  λ e k. ap (λ y. saved_for y k) (same-saved cs (saved_of o table) e) ∙ saved-for o table k,
  λ h. ap (same_saved cs) (sym (saved-known cs (saved_of o table) a (saved-ascends o table) (λ k. h k ∙ sym (saved-for o table k)))) ∙ saved-same cs,
)
