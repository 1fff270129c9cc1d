-- A strictly ascending list whose members all are in another list is not longer than it, since each member can be taken out of
-- the other once; so the numbers of a list are few where some short list has them all.
use Prim.Native.Nat.{ℕ, suc, ◌<◌, ◌≤◌}
use mathlib.Core.Path.{◌≡◌, refl, ap, sym, ◌∙◌}
use mathlib.Core.Bool.{Bool, true, false, cond, ◌||◌}
use mathlib.Core.List.{List, [], ◌∷◌}
use native.Mathlib.Omega.{arith}
use borrow.Author.Tests.{eqb-true, eq-eqb, ltb-true}
use lib.Dec.{eqb, ltb}
use lib.ListN.{length}
use Rattle.lists.specs.Tests.{or_case, clash}
use Rattle.lists.specs.Sets.{mem, ascending, ascending_set, ascending-set, mem-set, first-leads, rest-ascends}

-- the list without the first x
abbrev without : ℕ → List ℕ → List ℕ
without x [] = []
without x (y ∷ ys) = cond (eqb y x) ys (y ∷ without x ys)

length_without : (x : ℕ) (ys : List ℕ) → mem x ys ≡ true → suc (length (without x ys)) ≡ length ys
length_without x [] h = clash false h refl
length_without x (y ∷ ys) h = go (eqb y x) h (λ m. length_without x ys m)
  where
    go : (b : Bool) → (b || mem x ys) ≡ true → (mem x ys ≡ true → suc (length (without x ys)) ≡ length ys)
        → suc (length (cond b ys (y ∷ without x ys))) ≡ suc (length ys)
    go true h ih = refl
    go false h ih = ap suc (ih h)

-- what is not x stays
mem-without : (z x : ℕ) (ys : List ℕ) → (x ≡ z → ⊥) → mem z ys ≡ true → mem z (without x ys) ≡ true
mem-without z x [] n h = h
mem-without z x (y ∷ ys) n h = go (eqb y x) (eqb y z) refl refl h (λ m. mem-without z x ys n m)
  where
    go : (b c : Bool) → eqb y x ≡ b → eqb y z ≡ c → (c || mem z ys) ≡ true → (mem z ys ≡ true → mem z (without x ys) ≡ true)
        → mem z (cond b ys (y ∷ without x ys)) ≡ true
    go true true p q h ih = absurd (n (sym (eqb-true y x p) ∙ eqb-true y z q))
    go true false p q h ih = h
    go false true p q h ih = rw q
    go false false p q h ih = rw q (ih h)

-- the first is below every other member
below-members : (x z : ℕ) (xs : List ℕ) → ascending ltb (x ∷ xs) ≡ true → mem z xs ≡ true → x < z
below-members x z [] a h = clash false h refl
below-members x z (y ∷ xs) a h =
    let l : x < y = ltb-true x y (first-leads ltb x (y ∷ xs) a) in
    or_case (eqb y z) (mem z xs) h (λ e. omega (arith, eqb-true y z e))
    (λ m. omega (arith, below-members y z xs (rest-ascends ltb x (y ∷ xs) a) m))

pub ascending-few : (xs os : List ℕ) → ascending ltb xs ≡ true → ((x : ℕ) → mem x xs ≡ true → mem x os ≡ true) → length xs ≤ length os
ascending-few [] os a h = omega arith
ascending-few (x ∷ xs) os a h =
    let first : mem x os ≡ true = h x (rw (eq-eqb x x refl)) in
    let rest : length xs ≤ length (without x os) = ascending-few xs (without x os) (rest-ascends ltb x xs a) (λ z m. others z m) in
    omega (arith, length_without x os first)
  where
    later : (z : ℕ) (b : Bool) → mem z xs ≡ true → (b || mem z xs) ≡ true
    later z true m = refl
    later z false m = m

    others : (z : ℕ) → mem z xs ≡ true → mem z (without x os) ≡ true
    others z m =
        let l : x < z = below-members x z xs a m in
        mem-without z x os (λ e. absurd (omega arith)) (h z (later z (eqb x z) m))

-- the numbers of a list are at most n where some list of at most n numbers has them all
pub few-numbers : (n : ℕ) (xs os : List ℕ) → length os ≤ n → ((x : ℕ) → mem x xs ≡ true → mem x os ≡ true) → length (ascending_set xs) ≤ n
few-numbers n xs os l h = omega (arith, ascending-few (ascending_set xs) os (ascending-set xs) (λ x m. h x (sym (mem-set x xs) ∙ m)))
