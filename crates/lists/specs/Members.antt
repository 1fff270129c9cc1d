-- Tests over a list, and what they say of its members: a test of some or of every element passes exactly where its words hold.
use Rattle.std.specs.Prelude.{◌≡◌, refl, ◌⊎◌, Bool, true, false, ◌&&◌, ◌||◌, ℕ, eqb}
use Rattle.std.proofs.Common.{ap, sym, ◌∙◌, inl, inr, eqb-true, eq-eqb}
use mathlib.Core.List.Memᴰ
use mathlib.Core.List.{List, [], ◌∷◌, map, Memᴰ}
use Rattle.lists.specs.Tests.{and_l, and_r, both, clash}
use Rattle.lists.specs.Sets.{all, any, mem}

module _ {A : Type 0} (f : A → Bool) where
  pub all_in : (xs : List A) → all f xs ≡ true → (x : A) → Memᴰ x xs → f x ≡ true
  all_in [] h x m = absurd (Memᴰ.not-nil m)
  all_in (y ∷ ys) h x m = go (Memᴰ.cases_cons m) (λ n. all_in ys (and_r (f y) (all f ys) h) x n)
    where
      go : (x ≡ y) ⊎ Memᴰ x ys → (Memᴰ x ys → f x ≡ true) → f x ≡ true
      go (inl e) ih = ap f e ∙ and_l (f y) (all f ys) h
      go (inr n) ih = ih n

  pub in_all : (xs : List A) → ((x : A) → Memᴰ x xs → f x ≡ true) → all f xs ≡ true
  in_all [] h = refl
  in_all (y ∷ ys) h = both (h y (Memᴰ.head refl)) (in_all ys (λ x m. h x (Memᴰ.tail m)))

  -- an element that fails
  pub all-false : (xs : List A) → all f xs ≡ false → (x : A) × Memᴰ x xs × (f x ≡ false)
  all-false [] e = clash true refl e
  all-false (x ∷ xs) e = by (f x) refl e (λ r. all-false xs r)
    where
      by : (b : Bool) → f x ≡ b → (b && all f xs) ≡ false → (all f xs ≡ false → (y : A) × Memᴰ y xs × (f y ≡ false))
          → (y : A) × Memᴰ y (x ∷ xs) × (f y ≡ false)
      by true q r ih = let (y, m, h) = ih r in (y, Memᴰ.tail m, h)
      by false q r ih = (x, Memᴰ.head refl, q)

  pub false-all : (x : A) (xs : List A) → Memᴰ x xs → f x ≡ false → all f xs ≡ false
  false-all x xs m h = go (all f xs) refl
    where
      go : (b : Bool) → all f xs ≡ b → b ≡ false
      go true e = clash (f x) (all_in xs e x m) h
      go false e = refl

  pub any-in : (xs : List A) → any f xs ≡ true → (x : A) × Memᴰ x xs × (f x ≡ true)
  any-in [] e = clash false e refl
  any-in (x ∷ xs) e = by (f x) refl e (λ r. any-in xs r)
    where
      by : (b : Bool) → f x ≡ b → (b || any f xs) ≡ true → (any f xs ≡ true → (y : A) × Memᴰ y xs × (f y ≡ true))
          → (y : A) × Memᴰ y (x ∷ xs) × (f y ≡ true)
      by true q r ih = (x, Memᴰ.head refl, q)
      by false q r ih = let (y, m, h) = ih r in (y, Memᴰ.tail m, h)

  pub in-any : (x : A) (xs : List A) → Memᴰ x xs → f x ≡ true → any f xs ≡ true
  in-any x [] m h = absurd (Memᴰ.not-nil m)
  in-any x (y ∷ ys) m h = go (Memᴰ.cases_cons m) (λ n. in-any x ys n h) (f y) refl
    where
      go : (x ≡ y) ⊎ Memᴰ x ys → (Memᴰ x ys → any f ys ≡ true) → (b : Bool) → f y ≡ b → (b || any f ys) ≡ true
      go s ih true q = refl
      go (inl e) ih false q = clash (f y) (ap f (sym e) ∙ h) q
      go (inr n) ih false q = ih n

-- a number of a list of numbers taken from other values
module _ {A : Type 0} (g : A → ℕ) where
  pub mem-map : (n : ℕ) (xs : List A) → mem n (map g xs) ≡ true → (x : A) × Memᴰ x xs × (g x ≡ n)
  mem-map n [] e = clash false e refl
  mem-map n (x ∷ xs) e = by (eqb (g x) n) refl e (λ r. mem-map n xs r)
    where
      by : (b : Bool) → eqb (g x) n ≡ b → (b || mem n (map g xs)) ≡ true → (mem n (map g xs) ≡ true → (y : A) × Memᴰ y xs × (g y ≡ n))
          → (y : A) × Memᴰ y (x ∷ xs) × (g y ≡ n)
      by true q r ih = (x, Memᴰ.head refl, eqb-true (g x) n q)
      by false q r ih = let (y, m, h) = ih r in (y, Memᴰ.tail m, h)

  pub map-mem : (n : ℕ) (x : A) (xs : List A) → Memᴰ x xs → g x ≡ n → mem n (map g xs) ≡ true
  map-mem n x [] m h = absurd (Memᴰ.not-nil m)
  map-mem n x (y ∷ ys) m h = go (Memᴰ.cases_cons m) (λ k. map-mem n x ys k h) (eqb (g y) n) refl
    where
      go : (x ≡ y) ⊎ Memᴰ x ys → (Memᴰ x ys → mem n (map g ys) ≡ true) → (b : Bool) → eqb (g y) n ≡ b → (b || mem n (map g ys)) ≡ true
      go s ih true q = refl
      go (inl e) ih false q = clash (eqb (g y) n) (eq-eqb (g y) n (ap g (sym e) ∙ h)) q
      go (inr k) ih false q = ih k
