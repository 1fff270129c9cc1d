-- The place of the first element that passes a test: there is none exactly where every element fails; else the list falls apart there; and a
-- loop over places finds it. By induction over the list, or over how many values it has.
use Prim.Native.Nat.{ℕ, zero, suc, ◌+◌, ◌<◌}
use mathlib.Core.Path.{◌≡◌, refl, ap, sym, ◌∙◌}
use mathlib.Core.Logic.{◌⊎◌, inl, inr}
use mathlib.Core.Bool.{Bool, true, false, cond}
use mathlib.Core.List.Memᴰ
use mathlib.Core.List.{List, [], ◌∷◌, ◌++◌, Memᴰ}
use mathlib.Core.Option.{Option, none, some}
use native.Mathlib.Omega.{arith}
use native.Mathlib.Nat.{add-zero}
use lib.ListN.{length}
use Rattle.lists.specs.Rows.{values}
use Rattle.model.specs.Entries.{if_some}
use Rattle.model.specs.Answers.{first_place}
use Rattle.laws.proofs.Refusals.{not_none}

-- one place further
abbrev further : Option ℕ → Option ℕ
further x = if_some x none (λ i. some (suc i))

-- the list falls apart at the first element that passes
pub record First {A : Type 0} (f : A → Bool) (xs : List A) (i : ℕ) : Type 0 where
  pub before : List A
  pub here : A
  pub rest : List A
  pub parts : xs ≡ before ++ here ∷ rest
  pub place : length before ≡ i
  pub fails : (x : A) → Memᴰ x before → f x ≡ false
  pub passes : f here ≡ true

module _ {A : Type 0} (f : A → Bool) where
  -- ---- no place

  pub no_place : (xs : List A) → first_place f xs ≡ none → (x : A) → Memᴰ x xs → f x ≡ false
  unfolding first_place
  no_place [] e x m = absurd (Memᴰ.not-nil m)
  no_place (y ∷ ys) e x m = go (f y) refl (first_place f ys) refl e (Memᴰ.cases_cons m) (λ d n. no_place ys d x n)
    where
      go : (b : Bool) → f y ≡ b → (p : Option ℕ) → first_place f ys ≡ p → cond b (some 0) (further p) ≡ none
          → (x ≡ y) ⊎ Memᴰ x ys → (first_place f ys ≡ none → Memᴰ x ys → f x ≡ false) → f x ≡ false
      go true q p r d s ih = not_none 0 d
      go false q (some i) r d s ih = not_none (suc i) d
      go false q none r d (inl s) ih = ap f s ∙ q
      go false q none r d (inr n) ih = ih r n

  pub place_none : (xs : List A) → ((x : A) → Memᴰ x xs → f x ≡ false) → first_place f xs ≡ none
  unfolding first_place
  place_none [] h = refl
  place_none (y ∷ ys) h = rw (h y (Memᴰ.head refl), place_none ys (λ x m. h x (Memᴰ.tail m)))

  -- ---- a place

  pub place-first : (xs : List A) (i : ℕ) → first_place f xs ≡ some i → First f xs i
  unfolding first_place
  place-first [] i e = not_none i (sym e)
  place-first (y ∷ ys) i e = go (f y) refl (first_place f ys) refl e (λ j d. place-first ys j d)
    where
      further-on : (j : ℕ) → f y ≡ false → suc j ≡ i → First f ys j → First f (y ∷ ys) i
      further-on j q s a = record {
        before = y ∷ a.before;
        here = a.here;
        rest = a.rest;
        parts = ap (λ zs. y ∷ zs) a.parts;
        place = ap suc a.place ∙ s;
        fails = λ x m. one x (Memᴰ.cases_cons m);
        passes = a.passes;
      }
        where
          one : (x : A) → (x ≡ y) ⊎ Memᴰ x a.before → f x ≡ false
          one x (inl t) = ap f t ∙ q
          one x (inr n) = a.fails x n

      go : (b : Bool) → f y ≡ b → (p : Option ℕ) → first_place f ys ≡ p → cond b (some 0) (further p) ≡ some i
          → ((j : ℕ) → first_place f ys ≡ some j → First f ys j) → First f (y ∷ ys) i
      go true q p r d ih = record {
        before = [];
        here = y;
        rest = ys;
        parts = refl;
        place = ap (λ (x : Option ℕ). if_some x 0 (λ j. j)) d;
        fails = λ x m. absurd (Memᴰ.not-nil m);
        passes = q;
      }
      go false q none r d ih = not_none i (sym d)
      go false q (some j) r d ih = further-on j q (ap (λ (x : Option ℕ). if_some x 0 (λ k. k)) d) (ih j r)

  pub first-place : (before : List A) (x : A) (rest : List A) → ((y : A) → Memᴰ y before → f y ≡ false) → f x ≡ true
      → first_place f (before ++ x ∷ rest) ≡ some (length before)
  unfolding first_place
  first-place [] x rest h e = rw e
  first-place (y ∷ ys) x rest h e = rw (h y (Memᴰ.head refl), first-place ys x rest (λ z m. h z (Memᴰ.tail m)) e)

  -- ---- values: a loop over the places has met none below p

  pub values-place : (g : ℕ → A) (i n p : ℕ) → p < n → ((k : ℕ) → k < p → f (g (i + k)) ≡ false) → f (g (i + p)) ≡ true
      → first_place f (values g i n) ≡ some p
  unfolding first_place values
  values-place g i zero p l h e = absurd (omega arith)
  values-place g i (suc n) zero l h e =
      let z : f (g i) ≡ true = ap (λ (j : ℕ). f (g j)) (sym (add-zero i)) ∙ e in
      rw z
  values-place g i (suc n) (suc p) l h e =
      let z : f (g i) ≡ false = ap (λ (j : ℕ). f (g j)) (sym (add-zero i)) ∙ h 0 (omega arith) in
      let s : (k : ℕ) → i + suc k ≡ suc i + k = λ k. omega arith in
      let r : first_place f (values g (suc i) n) ≡ some p = values-place g (suc i) n p (omega arith)
      (λ k m. ap (λ (j : ℕ). f (g j)) (sym (s k)) ∙ h (suc k) (omega arith)) (ap (λ (j : ℕ). f (g j)) (sym (s p)) ∙ e) in
      rw (z, r)

  pub values-no-place : (g : ℕ → A) (i n : ℕ) → ((k : ℕ) → k < n → f (g (i + k)) ≡ false) → first_place f (values g i n) ≡ none
  unfolding first_place values
  values-no-place g i zero h = refl
  values-no-place g i (suc n) h =
      let z : f (g i) ≡ false = ap (λ (j : ℕ). f (g j)) (sym (add-zero i)) ∙ h 0 (omega arith) in
      let s : (k : ℕ) → i + suc k ≡ suc i + k = λ k. omega arith in
      let r : first_place f (values g (suc i) n) ≡ none = values-no-place g (suc i) n (λ k m. ap (λ (j : ℕ). f (g j)) (sym (s k)) ∙ h (suc k) (omega arith)) in
      rw (z, r)
