-- Lists of values stored one after the other in stretches of one width: how they are read and written.
use Rattle.std.specs.Prelude.{◌≡◌, Bool, eqb, get_or}
use Rattle.std.proofs.Math.Path.{refl, ap, ap₂, sym, subst}
use Rattle.std.proofs.Common.{◌∙◌, add-zero, zero-add, take-add, drop-drop, ne_eqb}
use Rattle.std.proofs.Math.Bool.{true}
use mathlib.Core.List.{List, [], ◌∷◌, ◌++◌, map, append_assoc, append-nil}
use Prim.Native.Nat.{ℕ, zero, suc, ◌+◌, ◌*◌, ◌≤◌, ◌<◌}
use Rattle.std.proofs.Math.Nat.{mul-zero, mul-suc}
use Rattle.std.proofs.Math.Numerals.{add-one}
use native.Mathlib.Omega.{arith}
use Rattle.std.proofs.Math.ListN.{length, take, drop, length-append, get_or-eq_default}
use Rattle.lists.specs.Sets.{all, is_empty}
use Rattle.lists.specs.Splice.{splice, Filled, filled_next}
use Rattle.lists.specs.Tests.{and_l, and_r}

module _ {A : Type 0} where
  -- f i, f (i + 1), .. f (i + n - 1) (the `let` has the checker compute each value once at most)
  unfoldable pub values : (ℕ → A) → ℕ → ℕ → List A
  values f i zero = []
  values f i (suc n) = let x = f i in x ∷ values f (suc i) n

  -- the bytes of each value, one after the other
  unfoldable pub joined : (A → List ℕ) → List A → List ℕ
  joined put [] = []
  joined put (x ∷ xs) = put x ++ joined put xs

-- ---- values: how many, which, and when they are the same

module _ {A : Type 0} where
  pub length-values : (f : ℕ → A) (i n : ℕ) → length (values f i n) ≡ n
  unfolding values
  length-values f i zero = refl
  length-values f i (suc n) = ap suc (length-values f (suc i) n)

  pub get_or-values : (f : ℕ → A) (i n k : ℕ) (d : A) → k < n → get_or (values f i n) k d ≡ f (i + k)
  unfolding values
  get_or-values f i zero k d h = absurd (omega arith)
  get_or-values f i (suc n) zero d h = ap f (sym (add-zero i))
  get_or-values f i (suc n) (suc k) d h =
      let e : suc i + k ≡ i + suc k = omega arith in
      get_or-values f (suc i) n k d (omega arith) ∙ ap f e

  pub get_or-values-past : (f : ℕ → A) (i n k : ℕ) (d : A) → n ≤ k → get_or (values f i n) k d ≡ d
  get_or-values-past f i n k d h = get_or-eq_default (values f i n) d (omega (arith, length-values f i n))

  pub values_same : (f g : ℕ → A) (i n : ℕ) → ((k : ℕ) → i ≤ k → k < i + n → f k ≡ g k) → values f i n ≡ values g i n
  unfolding values
  values_same f g i zero h = refl
  values_same f g i (suc n) h =
      ap₂ (λ (x : A) (xs : List A). x ∷ xs) (h i (omega arith) (omega arith))
      (values_same f g (suc i) n (λ k l m. h k (omega arith) (omega arith)))

  pub is_empty-values : (f : ℕ → A) (i n : ℕ) → is_empty (values f i n) ≡ eqb n 0
  unfolding values
  is_empty-values f i zero = refl
  is_empty-values f i (suc n) = sym (ne_eqb (suc n) 0 (λ e. absurd (omega arith)))

  -- one value more at the end
  pub values-snoc : (f : ℕ → A) (i n : ℕ) → values f i (suc n) ≡ values f i n ++ (f (i + n) ∷ [])
  unfolding values
  values-snoc f i zero = ap (λ (m : ℕ). f m ∷ []) (sym (add-zero i))
  values-snoc f i (suc n) =
      let e : suc i + n ≡ i + suc n = omega arith in
      ap (λ (t : List A). f i ∷ t) (values-snoc f (suc i) n ∙ ap (λ (m : ℕ). values f (suc i) n ++ (f m ∷ [])) e)

pub map-values : {A B : Type 0} (g : A → B) (f : ℕ → A) (i n : ℕ) → map g (values f i n) ≡ values (λ k. g (f k)) i n
unfolding values
map-values g f i zero = refl
map-values g f i (suc n) = ap (λ t. g (f i) ∷ t) (map-values g f (suc i) n)

-- ---- values stored in stretches of w bytes each

pub joined-append : {A : Type 0} (put : A → List ℕ) (xs ys : List A) → joined put (xs ++ ys) ≡ joined put xs ++ joined put ys
unfolding joined
joined-append put [] ys = refl
joined-append put (x ∷ xs) ys =
    ap (λ t. put x ++ t) (joined-append put xs ys) ∙ sym (append_assoc (put x) (joined put xs) (joined put ys))

module _ {A : Type 0} (put : A → List ℕ) (w : ℕ) where
  pub length-joined : ((x : A) → length (put x) ≡ w) → (xs : List A) → length (joined put xs) ≡ w * length xs
  unfolding joined
  length-joined size [] = sym (mul-zero w)
  length-joined size (x ∷ xs) =
      omega (arith, length-append (put x) (joined put xs), size x, length-joined size xs, mul-suc w (length xs))

  -- one value more, stored right after the others
  pub filled_row : (g : ℕ → A) (k : ℕ) {xs ws vs : List ℕ} → Filled xs (w * k) (joined put (values g 0 k)) ws → vs ≡ splice ws (w * k) (put (g k))
      → length (put (g k)) ≡ w → w * (k + 1) ≤ length xs → Filled xs (w * (k + 1)) (joined put (values g 0 (k + 1))) vs
  unfolding joined
  filled_row g k {xs} {ws} {vs} f e size room =
      let n : w * (k + 1) ≡ w * k + w = rw add-one (omega (arith, mul-suc w k)) in
      let l : joined put (values g 0 k) ++ put (g k) ≡ joined put (values g 0 (k + 1)) =
      ap (λ (t : List ℕ). joined put (values g 0 k) ++ t) (sym (append-nil (put (g k))))
      ∙ ap (λ (m : ℕ). joined put (values g 0 k) ++ joined put (g m ∷ [])) (sym (zero-add k))
      ∙ sym (joined-append put (values g 0 k) (g (0 + k) ∷ []))
      ∙ ap (joined put) (sym (values-snoc g 0 k))
      ∙ ap (λ (m : ℕ). joined put (values g 0 m)) (sym (add-one k)) in
      subst (λ (t : List ℕ). Filled xs (w * (k + 1)) t vs) l (filled_next (w * (k + 1)) (put (g k)) f e (omega arith) room)

module _ {A : Type 0} (put : A → List ℕ) (get : List ℕ → ℕ → A) (w : ℕ) where
  -- what was stored is read back
  pub values-joined : (ok : A → Bool) → ((x : A) → length (put x) ≡ w) → ((p : List ℕ) (x : A) (q : List ℕ) → ok x ≡ true → get (p ++ put x ++ q) (length p) ≡ x)
      → (p : List ℕ) (xs : List A) (q : List ℕ) (at : ℕ) → length p ≡ at → all ok xs ≡ true
      → values (λ i. get (p ++ joined put xs ++ q) (at + w * i)) 0 (length xs) ≡ xs
  unfolding values joined
  values-joined ok size back p xs q at e h =
      let l : length p ≡ at + w * 0 = e ∙ omega (arith, mul-zero w) in
      go xs (p ++ joined put xs ++ q) p 0 refl l h
    where
      go : (ys : List A) (s r : List ℕ) (i : ℕ) → s ≡ r ++ joined put ys ++ q → length r ≡ at + w * i → all ok ys ≡ true
          → values (λ k. get s (at + w * k)) i (length ys) ≡ ys
      go [] s r i e l h = refl
      go (y ∷ ys) s r i e l h =
          let a : s ≡ r ++ put y ++ (joined put ys ++ q) = e ∙ simp append_assoc in
          let b : s ≡ r ++ put y ++ joined put ys ++ q = e ∙ simp append_assoc in
          let m : length (r ++ put y) ≡ at + w * suc i = omega (arith, length-append r (put y), size y, mul-suc w i) in
          ap₂ (λ (z : A) (zs : List A). z ∷ zs)
          (ap₂ get a (sym l) ∙ back r y (joined put ys ++ q) (and_l (ok y) (all ok ys) h))
          (go ys s (r ++ put y) (suc i) b m (and_r (ok y) (all ok ys) h))

  -- what was read is stored back
  joined-from : (bs : List ℕ) (at i n : ℕ) → ((k : ℕ) → k < i + n → put (get bs (at + w * k)) ≡ take w (drop (at + w * k) bs))
      → joined put (values (λ k. get bs (at + w * k)) i n) ≡ take (w * n) (drop (at + w * i) bs)
  unfolding values joined
  joined-from bs at i zero h = rw mul-zero
  joined-from bs at i (suc n) h =
      let e : w + w * n ≡ w * suc n = omega (arith, mul-suc w n) in
      let l : at + w * suc i ≡ at + w * i + w = omega (arith, mul-suc w i) in
      ap₂ (λ (a b : List ℕ). a ++ b) (h i (omega arith)) (joined-from bs at (suc i) n (λ k u. h k (omega arith)))
      ∙ ap (λ (t : List ℕ). take w (drop (at + w * i) bs) ++ take (w * n) t)
      (ap (λ (m : ℕ). drop m bs) l ∙ sym (drop-drop w (at + w * i) bs))
      ∙ sym (take-add w (w * n) (drop (at + w * i) bs))
      ∙ ap (λ (m : ℕ). take m (drop (at + w * i) bs)) e

  pub joined-values : (bs : List ℕ) (at n : ℕ) → ((k : ℕ) → k < n → put (get bs (at + w * k)) ≡ take w (drop (at + w * k) bs))
      → joined put (values (λ k. get bs (at + w * k)) 0 n) ≡ take (w * n) (drop at bs)
  joined-values bs at n h =
      let e : at + w * 0 ≡ at = omega (arith, mul-zero w) in
      joined-from bs at 0 n (λ k u. h k (omega arith)) ∙ ap (λ (m : ℕ). take (w * n) (drop m bs)) e
