-- Equal lists of numbers: the test, the invariant of a loop that compares two slices, what the answer means.
use Rattle.std.specs.Prelude.{◌≡◌, refl, Bool, true, false, cond, List, [], ◌∷◌, ℕ, suc, ◌+◌, ◌≤◌, ◌<◌, eqb, length, get_or, drop}
use Rattle.std.proofs.Common.{ap, ap₂, ◌∙◌, add-one, arith, drop_of_length-le, drop-cons, eqb-true, eq-eqb, ne_eqb}

unfoldable pub eq_list : List ℕ → List ℕ → Bool
eq_list [] [] = true
eq_list [] (y ∷ ys) = false
eq_list (x ∷ xs) [] = false
eq_list (x ∷ xs) (y ∷ ys) = cond (eqb x y) (eq_list xs ys) false

pub eq_list-refl : (l : List ℕ) → eq_list l l ≡ true
unfolding eq_list
eq_list-refl [] = refl
eq_list-refl (x ∷ xs) = rw (eq-eqb x x refl, eq_list-refl xs)

pub eq_list-size : (a b : List ℕ) → (length a ≡ length b → ⊥) → eq_list a b ≡ false
unfolding eq_list
eq_list-size [] [] h = absurd (h refl)
eq_list-size [] (y ∷ ys) h = refl
eq_list-size (x ∷ xs) [] h = refl
eq_list-size (x ∷ xs) (y ∷ ys) h = ap (λ (t : Bool). cond (eqb x y) t false) (eq_list-size xs ys (λ e. h (ap suc e))) ∙ cond_same (eqb x y)
  where
    cond_same : (t : Bool) → cond t false false ≡ false
    cond_same true = refl
    cond_same false = refl

eq_list-step : (a b : List ℕ) (i : ℕ) → i < length a → i < length b → eq_list (drop i a) (drop i b) ≡ cond (eqb (get_or a i 0) (get_or b i 0)) (eq_list (drop (i + 1) a) (drop (i + 1) b)) false
unfolding eq_list
eq_list-step a b i ha hb = rw (add-one, drop-cons a i 0 ha, drop-cons b i 0 hb)

-- the invariant of a loop that compares two lists
pub record Matching (a b : List ℕ) (i : ℕ) : Type 0 where
  pub passed : i ≤ length a
  pub size : length a ≡ length b
  pub rest : eq_list a b ≡ eq_list (drop i a) (drop i b)

pub matching-none : (a b : List ℕ) → length a ≡ length b → Matching a b 0
matching-none a b e = record { passed = omega arith; size = e; rest = refl }

pub matching-more : {a b : List ℕ} {i : ℕ} → Matching a b i → i < length a → get_or a i 0 ≡ get_or b i 0 → Matching a b (i + 1)
matching-more {a} {b} {i} m h e =
    record { passed = omega arith; size = m.size; rest = m.rest ∙ eq_list-step a b i h (omega (arith, m.size)) ∙ rw (eq-eqb _ _ e) }

pub matching-not : {a b : List ℕ} {i : ℕ} → Matching a b i → i < length a → (get_or a i 0 ≡ get_or b i 0 → ⊥) → eq_list a b ≡ false
matching-not {a} {b} {i} m h n = m.rest ∙ eq_list-step a b i h (omega (arith, m.size)) ∙ rw (ne_eqb _ _ n)

pub matching-all : {a b : List ℕ} {i : ℕ} → Matching a b i → length a ≤ i → eq_list a b ≡ true
unfolding eq_list
matching-all {a} {b} {i} m h =
    let hb : length b ≤ i = omega (arith, m.size) in
    m.rest ∙ rw (drop_of_length-le a h, drop_of_length-le b hb)

-- what the answer means
pub eq_list-true : (a b : List ℕ) → eq_list a b ≡ true → a ≡ b
unfolding eq_list
eq_list-true [] [] e = refl
eq_list-true [] (y ∷ ys) e = cc
eq_list-true (x ∷ xs) [] e = cc
eq_list-true (x ∷ xs) (y ∷ ys) e = by (eqb x y) refl e (λ r. eq_list-true xs ys r)
  where
    by : (t : Bool) → eqb x y ≡ t → cond t (eq_list xs ys) false ≡ true → (eq_list xs ys ≡ true → xs ≡ ys) → x ∷ xs ≡ y ∷ ys
    by true q r ih = ap₂ (λ (z : ℕ) (zs : List ℕ). z ∷ zs) (eqb-true x y q) (ih r)
    by false q r ih = cc
