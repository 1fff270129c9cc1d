-- Tests over lists, and sets of numbers kept as lists.
use Rattle.std.specs.Prelude.{◌≡◌, refl, Bool, true, false, cond, not, ◌&&◌, ◌||◌, List, [], ◌∷◌, ◌++◌, ℕ, zero, suc, eqb, ltb, get_or}
use Rattle.std.proofs.Common.{ap, ap₂, sym, ◌∙◌, arith, eqb-true, ltb-true, ltb-false, lt-ltb, eq-eqb, ne_eqb}
use Rattle.std.proofs.lemmas.Bool.{eqb-false}
use Rattle.lists.specs.Tests.{and_l, and_r, both, neither, clash}

abbrev pub all {ℓ} : {A : Type ℓ} → (A → Bool) → List A → Bool
all f [] = true
all f (x ∷ xs) = f x && all f xs

abbrev pub any {ℓ} : {A : Type ℓ} → (A → Bool) → List A → Bool
any f [] = false
any f (x ∷ xs) = f x || any f xs

abbrev pub is_empty {ℓ} : {A : Type ℓ} → List A → Bool
is_empty [] = true
is_empty (x ∷ xs) = false

-- x is in the list
abbrev pub mem : ℕ → List ℕ → Bool
mem x l = any (λ y. eqb y x) l

-- some element of xs is in the set
abbrev pub meets : List ℕ → List ℕ → Bool
meets set xs = any (λ x. mem x set) xs

-- every element of xs is in the set
abbrev pub within : List ℕ → List ℕ → Bool
within set xs = all (λ x. mem x set) xs

-- each element is before the next
abbrev pub ascending {ℓ} : {A : Type ℓ} → (A → A → Bool) → List A → Bool
ascending before [] = true
ascending before (x ∷ []) = true
ascending before (x ∷ y ∷ xs) = before x y && ascending before (y ∷ xs)

-- x put into a strictly ascending list, once
abbrev pub insert_once : ℕ → List ℕ → List ℕ
insert_once x [] = x ∷ []
insert_once x (y ∷ l) = cond (ltb x y) (x ∷ y ∷ l) (cond (eqb x y) (y ∷ l) (y ∷ insert_once x l))

-- the numbers of a list, strictly ascending
abbrev pub ascending_set : List ℕ → List ℕ
ascending_set [] = []
ascending_set (x ∷ xs) = insert_once x (ascending_set xs)

-- ---- a test of each element

module _ {A : Type 0} where
  pub all-get_or : (f : A → Bool) (xs : List A) (k : ℕ) (d : A) → all f xs ≡ true → f d ≡ true → f (get_or xs k d) ≡ true
  all-get_or f [] k d h e = e
  all-get_or f (x ∷ xs) zero d h e = and_l (f x) (all f xs) h
  all-get_or f (x ∷ xs) (suc k) d h e = all-get_or f xs k d (and_r (f x) (all f xs) h) e

  -- a test that follows from another, of each element
  pub all-weaken : (f g : A → Bool) (xs : List A) → ((x : A) → f x ≡ true → g x ≡ true) → all f xs ≡ true → all g xs ≡ true
  all-weaken f g [] h e = refl
  all-weaken f g (x ∷ xs) h e =
      both (h x (and_l (f x) (all f xs) e)) (all-weaken f g xs h (and_r (f x) (all f xs) e))

  pub all_append : (f : A → Bool) (xs ys : List A) → all f xs ≡ true → all f ys ≡ true → all f (xs ++ ys) ≡ true
  all_append f [] ys h k = k
  all_append f (x ∷ xs) ys h k = both (and_l (f x) (all f xs) h) (all_append f xs ys (and_r (f x) (all f xs) h) k)

  pub any_append : (f : A → Bool) (xs ys : List A) → any f (xs ++ ys) ≡ (any f xs || any f ys)
  any_append f [] ys = refl
  any_append f (x ∷ xs) ys = go (f x) (any_append f xs ys)
    where
      go : (b : Bool) → any f (xs ++ ys) ≡ (any f xs || any f ys) → (b || any f (xs ++ ys)) ≡ ((b || any f xs) || any f ys)
      go true ih = refl
      go false ih = ih

  -- some element passes where not every element fails
  pub any-not-all : (f : A → Bool) (xs : List A) → any f xs ≡ not (all (λ x. not (f x)) xs)
  any-not-all f [] = refl
  any-not-all f (x ∷ xs) = go (f x) (any-not-all f xs)
    where
      go : (b : Bool) → any f xs ≡ not (all (λ x. not (f x)) xs) → (b || any f xs) ≡ not (not b && all (λ x. not (f x)) xs)
      go true ih = refl
      go false ih = ih

-- ---- laws of ascending lists

module _ {A : Type 0} (before : A → A → Bool) where
  -- x is before the first of a list
  abbrev pub leads : A → List A → Bool
  leads x [] = true
  leads x (y ∷ l) = before x y

  pub ascends : (x : A) (l : List A) → leads x l ≡ true → ascending before l ≡ true → ascending before (x ∷ l) ≡ true
  ascends x [] p q = refl
  ascends x (y ∷ l) p q = both p q

  pub first-leads : (x : A) (l : List A) → ascending before (x ∷ l) ≡ true → leads x l ≡ true
  first-leads x [] e = refl
  first-leads x (y ∷ l) e = and_l (before x y) (ascending before (y ∷ l)) e

  pub rest-ascends : (x : A) (l : List A) → ascending before (x ∷ l) ≡ true → ascending before l ≡ true
  rest-ascends x [] e = refl
  rest-ascends x (y ∷ l) e = and_r (before x y) (ascending before (y ∷ l)) e

-- ---- laws of ascending sets

-- a number that is neither below nor equal is above
above : (x y : ℕ) → ltb x y ≡ false → eqb x y ≡ false → ltb y x ≡ true
above x y a b = lt-ltb y x (omega (arith, ltb-false x y a, eqb-false x y b))

insert-head : (y x : ℕ) (l : List ℕ) → ltb y x ≡ true → leads ltb y l ≡ true → leads ltb y (insert_once x l) ≡ true
insert-head y x [] h a = h
insert-head y x (z ∷ l) h a = go (ltb x z) (eqb x z)
  where
    go : (b c : Bool) → leads ltb y (cond b (x ∷ z ∷ l) (cond c (z ∷ l) (z ∷ insert_once x l))) ≡ true
    go true c = h
    go false true = a
    go false false = a

pub ascending-insert : (x : ℕ) (l : List ℕ) → ascending ltb l ≡ true → ascending ltb (insert_once x l) ≡ true
ascending-insert x [] a = refl
ascending-insert x (z ∷ l) a = go (ltb x z) (eqb x z) refl refl (ascending-insert x l (rest-ascends ltb z l a))
  where
    go : (b c : Bool) → ltb x z ≡ b → eqb x z ≡ c → ascending ltb (insert_once x l) ≡ true
        → ascending ltb (cond b (x ∷ z ∷ l) (cond c (z ∷ l) (z ∷ insert_once x l))) ≡ true
    go true c p q ih = ascends ltb x (z ∷ l) p a
    go false true p q ih = a
    go false false p q ih = ascends ltb z (insert_once x l) (insert-head z x l (above x z p q) (first-leads ltb z l a)) ih

-- the set of a list ascends strictly
pub ascending-set : (l : List ℕ) → ascending ltb (ascending_set l) ≡ true
ascending-set [] = refl
ascending-set (x ∷ l) = ascending-insert x (ascending_set l) (ascending-set l)

-- a test that some element passes, or each
pub any-insert : (f : ℕ → Bool) (x : ℕ) (l : List ℕ) → any f (insert_once x l) ≡ (f x || any f l)
any-insert f x [] = refl
any-insert f x (z ∷ l) = go (ltb x z) (eqb x z) refl (any-insert f x l)
  where
    same : (b c : Bool) → (b || c) ≡ (b || (b || c))
    same true c = refl
    same false c = refl

    swap : (a b c : Bool) → (a || (b || c)) ≡ (b || (a || c))
    swap true true c = refl
    swap true false c = refl
    swap false b c = refl

    go : (b c : Bool) → eqb x z ≡ c → any f (insert_once x l) ≡ (f x || any f l)
        → any f (cond b (x ∷ z ∷ l) (cond c (z ∷ l) (z ∷ insert_once x l))) ≡ (f x || (f z || any f l))
    go true c e ih = refl
    go false true e ih = rw (eqb-true x z e) (same (f z) (any f l))
    go false false e ih = ap (λ (t : Bool). f z || t) ih ∙ swap (f z) (f x) (any f l)

pub any-set : (f : ℕ → Bool) (l : List ℕ) → any f (ascending_set l) ≡ any f l
any-set f [] = refl
any-set f (x ∷ l) = any-insert f x (ascending_set l) ∙ ap (λ (t : Bool). f x || t) (any-set f l)

pub all_insert : (f : ℕ → Bool) (x : ℕ) (l : List ℕ) → f x ≡ true → all f l ≡ true → all f (insert_once x l) ≡ true
all_insert f x [] h k = both h k
all_insert f x (y ∷ l) h k = go (ltb x y) (eqb x y) (all_insert f x l h (and_r (f y) (all f l) k))
  where
    go : (b c : Bool) → all f (insert_once x l) ≡ true → all f (cond b (x ∷ y ∷ l) (cond c (y ∷ l) (y ∷ insert_once x l))) ≡ true
    go true c ih = both h k
    go false true ih = k
    go false false ih = both (and_l (f y) (all f l) k) ih

-- the set of a list holds the same numbers
pub mem-set : (y : ℕ) (l : List ℕ) → mem y (ascending_set l) ≡ mem y l
mem-set y l = any-set (λ z. eqb z y) l

pub mem-append : (x : ℕ) (xs ys : List ℕ) → mem x (xs ++ ys) ≡ (mem x xs || mem x ys)
mem-append x xs ys = any_append (λ y. eqb y x) xs ys

-- ---- an ascending list is known by its members

before-all : (x y : ℕ) (l : List ℕ) → ltb x y ≡ true → leads ltb y l ≡ true → leads ltb x l ≡ true
before-all x y [] h k = refl
before-all x y (z ∷ l) h k = lt-ltb x z (omega (arith, ltb-true x y h, ltb-true y z k))

-- a number before the first is not in the list
lead-out : (x : ℕ) (l : List ℕ) → leads ltb x l ≡ true → ascending ltb l ≡ true → mem x l ≡ false
lead-out x [] h a = refl
lead-out x (y ∷ l) h a =
    neither (ne_eqb y x (λ e. omega (arith, ltb-true x y h)))
    (lead-out x l (before-all x y l h (first-leads ltb y l a)) (rest-ascends ltb y l a))

-- the first of an ascending list is not one of the others
pub first-once : (x : ℕ) (l : List ℕ) → ascending ltb (x ∷ l) ≡ true → mem x l ≡ false
first-once x l a = lead-out x l (first-leads ltb x l a) (rest-ascends ltb x l a)

first-in : (x : ℕ) (l : List ℕ) → mem x (x ∷ l) ≡ true
first-in x l = rw (eq-eqb x x refl)

-- a number that is not the first
past : (x z : ℕ) (l : List ℕ) → eqb x z ≡ false → mem z (x ∷ l) ≡ mem z l
past x z l e = rw e

-- where the first is lower than every other member, the members differ
lower-first : {P : Type 0} (x y : ℕ) (l m : List ℕ) → ltb x y ≡ true → ascending ltb (y ∷ m) ≡ true → mem x (x ∷ l) ≡ mem x (y ∷ m) → P
lower-first x y l m h b e = clash (mem x (y ∷ m)) (sym e ∙ first-in x l) (lead-out x (y ∷ m) h b)

-- two strictly ascending lists with the same members are the same
pub set-same-members : (l m : List ℕ) → ascending ltb l ≡ true → ascending ltb m ≡ true → ((x : ℕ) → mem x l ≡ mem x m) → l ≡ m
set-same-members [] [] a b h = refl
set-same-members [] (y ∷ m) a b h = clash (mem y (y ∷ m)) (first-in y m) (sym (h y))
set-same-members (x ∷ l) [] a b h = clash (mem x (x ∷ l)) (first-in x l) (h x)
set-same-members (x ∷ l) (y ∷ m) a b h =
    go (ltb x y) (eqb x y) refl refl (λ k. set-same-members l m (rest-ascends ltb x l a) (rest-ascends ltb y m b) k)
  where
    rest : x ≡ y → (z : ℕ) (c : Bool) → eqb x z ≡ c → mem z l ≡ mem z m
    rest e z true q =
        let f = eqb-true x z q in
        ap (λ (k : ℕ). mem k l) (sym f) ∙ first-once x l a
        ∙ sym (first-once y m b) ∙ ap (λ (k : ℕ). mem k m) (sym e ∙ f)
    rest e z false q = sym (past x z l q) ∙ h z ∙ past y z m (ap (λ (k : ℕ). eqb k z) (sym e) ∙ q)

    go : (c d : Bool) → ltb x y ≡ c → eqb x y ≡ d → (((z : ℕ) → mem z l ≡ mem z m) → l ≡ m) → x ∷ l ≡ y ∷ m
    go true d p q ih = lower-first x y l m p b (h x)
    go false true p q ih = let e = eqb-true x y q in ap₂ (λ (z : ℕ) (t : List ℕ). z ∷ t) e (ih (λ z. rest e z (eqb x z) refl))
    go false false p q ih = lower-first y x m l (above x y p q) a (sym (h y))

pub set-of-ascending : (l : List ℕ) → ascending ltb l ≡ true → ascending_set l ≡ l
set-of-ascending l a = set-same-members (ascending_set l) l (ascending-set l) a (λ x. mem-set x l)

-- lists with the same members have the same set
pub set_same : (xs ys : List ℕ) → ((x : ℕ) → mem x xs ≡ mem x ys) → ascending_set xs ≡ ascending_set ys
set_same xs ys h =
    set-same-members (ascending_set xs) (ascending_set ys) (ascending-set xs) (ascending-set ys)
    (λ x. mem-set x xs ∙ h x ∙ sym (mem-set x ys))

pub set-union : (xs ys : List ℕ) → ascending_set (ascending_set xs ++ ascending_set ys) ≡ ascending_set (xs ++ ys)
set-union xs ys =
    set_same (ascending_set xs ++ ascending_set ys) (xs ++ ys)
    (λ x. mem-append x (ascending_set xs) (ascending_set ys)
    ∙ ap₂ (λ (a b : Bool). a || b) (mem-set x xs) (mem-set x ys) ∙ sym (mem-append x xs ys))

pub empty-set : (xs : List ℕ) → is_empty (ascending_set xs) ≡ is_empty xs
empty-set [] = refl
empty-set (x ∷ xs) = some (ascending_set xs)
  where
    some : (l : List ℕ) → is_empty (insert_once x l) ≡ false
    some [] = refl
    some (y ∷ l) = go (ltb x y) (eqb x y)
      where
        go : (b c : Bool) → is_empty (cond b (x ∷ y ∷ l) (cond c (y ∷ l) (y ∷ insert_once x l))) ≡ false
        go true c = refl
        go false true = refl
        go false false = refl
