-- Two sets of a directory's objects bit by bit: their and is the set of the common objects. They have an object in common where it is not 0,
-- since a set without objects is 0, and all objects of the second are in the first where it is the second, since equal bits are one number.
use Rattle.std.specs.Prelude.{◌≡◌, refl, Bool, true, false, not, ◌&&◌, ◌||◌, List, [], ◌∷◌, ℕ, zero, suc, ◌/◌, ◌%◌, ◌^◌, ◌<◌, eqb, ltb, length, get_or}
use Rattle.std.proofs.Common.{ap, ap₂, sym, subst, ◌∙◌, pow-suc, div-one, arith, eq-eqb, ne_eqb, eqb-true}
use Rattle.std.proofs.Math.Nat.{pow-succ', div-div-eq-div-mul}
use Rattle.std.proofs.lemmas.List.{length-map}
use Rattle.std.specs.Int.Bits.{bit_and}
use Rattle.std.proofs.lemmas.Nat.{and_le_r, and_shr, and_mod}
use Rattle.std.proofs.lemmas.Bool.{eqb-false}
use Rattle.lists.specs.Tests.{and_l, and_r, neither, or_case, both, clash}
use Rattle.lists.specs.Sets.{mem, meets, within, is_empty, ascending, ascending_set, mem-set}
use Rattle.model.specs.Objects.{Object, hosted_by, hosted}
use Rattle.model.specs.Directory.{shape_of, listed_in}
use Rattle.model.specs.Terms.{Listed}
use Rattle.laws.specs.Ruled.{Ruled, records}
use Rattle.laws.proofs.Items.{ids_of}
use Rattle.laws.proofs.Records.{ids-ascend}
use Rattle.laws.proofs.Directory.{hosted-listed}
use Rattle.laws.proofs.ByPlace.{whole, bit-hosted}
use Rattle.directory.specs.Sets.{hosted-none}

-- ---- lists with an element in common

-- an element of a list, first or later
first-mem : (y : ℕ) (t : List ℕ) → mem y (y ∷ t) ≡ true
first-mem y t = ap (λ (b : Bool). b || mem y t) (eq-eqb y y refl)

later-mem : (b : Bool) {m : Bool} → m ≡ true → (b || m) ≡ true
later-mem true e = refl
later-mem false e = e

-- the element x is in both
meets_at : (s t : List ℕ) (x : ℕ) → mem x t ≡ true → mem x s ≡ true → meets s t ≡ true
meets_at s [] x h i = h
meets_at s (y ∷ t) x h i = go (mem y s) refl (λ m. meets_at s t x m i)
  where
    go : (b : Bool) → mem y s ≡ b → (mem x t ≡ true → meets s t ≡ true) → (b || meets s t) ≡ true
    go true e ih = refl
    go false e ih = or_case (eqb y x) (mem x t) h (λ q. clash (mem y s) (ap (λ (z : ℕ). mem z s) (eqb-true y x q) ∙ i) e) ih

-- no element is
meets-none : (s t : List ℕ) → ((x : ℕ) → mem x t ≡ true → mem x s ≡ false) → meets s t ≡ false
meets-none s [] h = refl
meets-none s (y ∷ t) h = neither (h y (first-mem y t)) (meets-none s t (λ x m. h x (later-mem (eqb y x) m)))

-- the list of the common elements tells
meets-by : (s t u : List ℕ) → ((x : ℕ) → mem x u ≡ (mem x s && mem x t)) → meets s t ≡ not (is_empty u)
meets-by s t [] h = meets-none s t (λ x m. go (mem x s) (mem x t) (h x) m)
  where
    go : (a b : Bool) → false ≡ (a && b) → b ≡ true → a ≡ false
    go true b e m = sym m ∙ sym e
    go false b e m = refl
meets-by s t (y ∷ u) h =
    let e : (mem y s && mem y t) ≡ true = sym (h y) ∙ first-mem y u in
    meets_at s t y (and_r (mem y s) (mem y t) e) (and_l (mem y s) (mem y t) e)

-- ---- lists whose elements are all in another

-- each is
within-each : (s t : List ℕ) → ((x : ℕ) → mem x t ≡ true → mem x s ≡ true) → within s t ≡ true
within-each s [] h = refl
within-each s (y ∷ t) h = both (h y (first-mem y t)) (within-each s t (λ x m. h x (later-mem (eqb y x) m)))

each_within : (s t : List ℕ) → within s t ≡ true → (x : ℕ) → mem x t ≡ true → mem x s ≡ true
each_within s [] h x m = clash false m refl
each_within s (y ∷ t) h x m =
    or_case (eqb y x) (mem x t) m (λ q. ap (λ (z : ℕ). mem z s) (sym (eqb-true y x q)) ∙ and_l (mem y s) (within s t) h)
    (λ k. each_within s t (and_r (mem y s) (within s t) h) x k)

-- each of a list is where each of its ascending set is
pub within-set : (s t : List ℕ) → within s (ascending_set t) ≡ within s t
within-set s t = same (within s (ascending_set t)) (within s t)
    (λ h. within-each s t (λ x m. each_within s (ascending_set t) h x (mem-set x t ∙ m)))
    (λ h. within-each s (ascending_set t) (λ x m. each_within s t h x (sym (mem-set x t) ∙ m)))
  where
    same : (a b : Bool) → (a ≡ true → b ≡ true) → (b ≡ true → a ≡ true) → a ≡ b
    same true b f g = sym (f refl)
    same false true f g = g refl
    same false false f g = refl

-- ---- the common objects of two sets

-- the lowest bit of an and
and-bit : (a b : ℕ) → eqb (bit_and a b % 2) 1 ≡ (eqb (a % 2) 1 && eqb (b % 2) 1)
and-bit a b = ap (λ (t : ℕ). eqb t 1) (and_mod a b 1) ∙ go (a % 2) (b % 2) (omega arith) (omega arith)
  where
    go : (p q : ℕ) → p < 2 → q < 2 → eqb (bit_and p q) 1 ≡ (eqb p 1 && eqb q 1)
    go zero q l m = refl
    go (suc zero) zero l m = refl
    go (suc zero) (suc zero) l m = refl
    go (suc zero) (suc (suc q)) l m = absurd (omega arith)
    go (suc (suc p)) q l m = absurd (omega arith)

-- a number of a list stands at a place of it
mem-placed : (x : ℕ) (xs : List ℕ) → mem x xs ≡ true → (k : ℕ) × (k < length xs) × (get_or xs k 0 ≡ x)
mem-placed x [] e = clash false e refl
mem-placed x (y ∷ ys) e = by (eqb y x) refl e (λ r. mem-placed x ys r)
  where
    by : (b : Bool) → eqb y x ≡ b → (b || mem x ys) ≡ true → (mem x ys ≡ true → (k : ℕ) × (k < length ys) × (get_or ys k 0 ≡ x))
        → (k : ℕ) × (k < length (y ∷ ys)) × (get_or (y ∷ ys) k 0 ≡ x)
    by true q r ih = (0, omega arith, eqb-true y x q)
    by false q r ih = let (k, l, h) = ih r in (suc k, omega arith, h)

module _ (bs : List Object) (ascends : ascending (λ (a b : Object). ltb a.id b.id) bs ≡ true) (a b : ℕ) where
  mem-and : (x : ℕ) → mem x (hosted_by bs (bit_and a b)) ≡ (mem x (hosted_by bs a) && mem x (hosted_by bs b))
  mem-and x = go (mem x (ids_of bs)) refl
    where
      at : (k : ℕ) → k < length bs → get_or (ids_of bs) k 0 ≡ x → mem x (hosted_by bs (bit_and a b)) ≡ (mem x (hosted_by bs a) && mem x (hosted_by bs b))
      at k l e =
          subst (λ (y : ℕ). mem y (hosted_by bs (bit_and a b)) ≡ (mem y (hosted_by bs a) && mem y (hosted_by bs b))) e
          (bit-hosted bs ascends (bit_and a b) k l ∙ ap (λ (t : ℕ). eqb (t % 2) 1) (and_shr a b k) ∙ and-bit (a / 2 ^ k) (b / 2 ^ k)
          ∙ sym (ap₂ (λ (s t : Bool). s && t) (bit-hosted bs ascends a k l) (bit-hosted bs ascends b k l)))

      out : mem x (ids_of bs) ≡ false → (set : ℕ) → mem x (hosted_by bs set) ≡ false
      out e set = by (mem x (hosted_by bs set)) refl
        where
          by : (t : Bool) → mem x (hosted_by bs set) ≡ t → t ≡ false
          by true i = clash (mem x (ids_of bs)) (hosted-listed x bs set i) e
          by false i = refl

      go : (t : Bool) → mem x (ids_of bs) ≡ t → mem x (hosted_by bs (bit_and a b)) ≡ (mem x (hosted_by bs a) && mem x (hosted_by bs b))
      go true e = let (k, l, h) = mem-placed x (ids_of bs) e in at k (omega (arith, l, length-map bs (λ (b : Object). b.id))) h
      go false e = out e (bit_and a b) ∙ sym (ap₂ (λ (s t : Bool). s && t) (out e a) (out e b))

-- it is enough that one of them has no bit past the last record
pub hosted-meet : {d : List ℕ} → Ruled d → (a b : ℕ) → Listed (shape_of d) b → not (eqb (bit_and a b) 0) ≡ meets (hosted (shape_of d) a) (hosted (shape_of d) b)
unfolding hosted listed_in
hosted-meet {d} r a b l =
    let bs = (shape_of d).objects in
    let both : Listed (shape_of d) (bit_and a b) = omega (arith, and_le_r a b) in
    ap not (sym (hosted-none d r (bit_and a b) both))
    ∙ sym (meets-by (hosted_by bs a) (hosted_by bs b) (hosted_by bs (bit_and a b)) (mem-and bs (ids-ascend d (records d) (whole r)) a b))

-- ---- a set within another

-- numbers of n bits are the same where all bits are
same_bits : (n x y : ℕ) → x < 2 ^ n → y < 2 ^ n → ((k : ℕ) → k < n → eqb (x / 2 ^ k % 2) 1 ≡ eqb (y / 2 ^ k % 2) 1) → x ≡ y
same_bits zero x y l m h = omega arith
same_bits (suc n) x y l m h =
    let p = pow-suc 2 n in
    let half : x / 2 ≡ y / 2 = same_bits n (x / 2) (y / 2) (omega arith) (omega arith) (λ k q. sym (next x k) ∙ h (suc k) (omega arith) ∙ next y k) in
    let low : eqb (x % 2) 1 ≡ eqb (y % 2) 1 = sym (ap (λ (z : ℕ). eqb (z % 2) 1) (div-one x)) ∙ h 0 (omega arith) ∙ ap (λ (z : ℕ). eqb (z % 2) 1) (div-one y) in
    last (eqb (x % 2) 1) (eqb (y % 2) 1) refl refl low half
  where
    next : (z k : ℕ) → eqb (z / 2 ^ suc k % 2) 1 ≡ eqb (z / 2 / 2 ^ k % 2) 1
    next z k = ap (λ (w : ℕ). eqb (w % 2) 1) (ap (λ (w : ℕ). z / w) (pow-succ' 2 k) ∙ sym (div-div-eq-div-mul z 2 (2 ^ k)))

    last : (s t : Bool) → eqb (x % 2) 1 ≡ s → eqb (y % 2) 1 ≡ t → s ≡ t → x / 2 ≡ y / 2 → x ≡ y
    last true true e f g i = let a = eqb-true (x % 2) 1 e in let b = eqb-true (y % 2) 1 f in omega arith
    last false false e f g i = let a = eqb-false (x % 2) 1 e in let b = eqb-false (y % 2) 1 f in omega arith
    last true false e f g i = clash true refl g
    last false true e f g i = clash true refl (sym g)

module _ (bs : List Object) (ascends : ascending (λ (a b : Object). ltb a.id b.id) bs ≡ true) (a b : ℕ) (l : b < 2 ^ length bs) where
  -- the common objects are all of the second
  and-all : within (hosted_by bs a) (hosted_by bs b) ≡ true → bit_and a b ≡ b
  and-all h = same_bits (length bs) (bit_and a b) b (omega (arith, and_le_r a b)) l
      (λ k q.
      sym (bit-hosted bs ascends (bit_and a b) k q) ∙ mem-and bs ascends a b (get_or (ids_of bs) k 0)
      ∙ go (mem (get_or (ids_of bs) k 0) (hosted_by bs a)) (mem (get_or (ids_of bs) k 0) (hosted_by bs b)) (each_within (hosted_by bs a) (hosted_by bs b) h (get_or (ids_of bs) k 0))
      ∙ bit-hosted bs ascends b k q)
    where
      go : (s t : Bool) → (t ≡ true → s ≡ true) → (s && t) ≡ t
      go true t f = refl
      go false true f = clash true refl (sym (f refl))
      go false false f = refl

  all-and : bit_and a b ≡ b → within (hosted_by bs a) (hosted_by bs b) ≡ true
  all-and e = within-each (hosted_by bs a) (hosted_by bs b) (λ x m. and_l (mem x (hosted_by bs a)) (mem x (hosted_by bs b))
      (sym (mem-and bs ascends a b x) ∙ ap (λ (s : ℕ). mem x (hosted_by bs s)) e ∙ m))

  within-and : eqb (bit_and a b) b ≡ within (hosted_by bs a) (hosted_by bs b)
  within-and = go (within (hosted_by bs a) (hosted_by bs b)) refl
    where
      go : (t : Bool) → within (hosted_by bs a) (hosted_by bs b) ≡ t → eqb (bit_and a b) b ≡ t
      go true e = eq-eqb (bit_and a b) b (and-all e)
      go false e = ne_eqb (bit_and a b) b (λ i. clash (within (hosted_by bs a) (hosted_by bs b)) (all-and i) e)

pub hosted-within : {d : List ℕ} → Ruled d → (a b : ℕ) → Listed (shape_of d) b → eqb (bit_and a b) b ≡ within (hosted (shape_of d) a) (hosted (shape_of d) b)
unfolding hosted listed_in
hosted-within {d} r a b l = within-and (shape_of d).objects (ids-ascend d (records d) (whole r)) a b l
