-- Sets of objects over any directory: the objects of a set ascend and are listed, there are as many as the set has bits, an or of
-- two sets is their union, and the lowest bit is the first of them. By induction over the directory, a bit for each object.
use Prim.Native.Nat.{ℕ, zero, suc, ◌+◌, ◌-◌, ◌*◌, ◌/◌, ◌%◌, ◌^◌, ◌≤◌, ◌<◌, min}
use mathlib.Core.Path.{◌≡◌, refl, ap, ap₂, sym, ◌∙◌}
use mathlib.Core.Bool.{Bool, true, false, cond, ◌||◌}
use mathlib.Core.List.{List, [], ◌∷◌, ◌++◌}
use native.Mathlib.Nat.{pow-suc}
use native.Mathlib.Omega.{arith}
use borrow.Author.Tests.{eqb-true, eqb-false, eq-eqb, ne_eqb, ltb-true, ltb-false, lt-ltb, le-ltb}
use lib.Bits.{bit_and, bit_or, and_step, and_self, or_shr, or_mod}
use lib.Count.{ones, ones_in, ones_step, count_trailing_zeros, under}
use lib.Dec.{eqb, ltb}
use lib.ListN.{length, get_or}
use Rattle.lists.specs.Tests.{clash, or_l, or_r, neither}
use Rattle.lists.specs.Sets.{mem, is_empty, ascending, leads, ascends, rest-ascends, first-leads, ascending_set, ascending-set, mem-append, mem-set, set-same-members}
use Rattle.model.specs.Objects.{Object, Shape, hosted_by, bit_of, every_bit, everything, bad_set}
use Rattle.laws.proofs.Items.{ids_of}

abbrev by_id : Object → Object → Bool
by_id a b = ltb a.id b.id

-- ---- listed, and ascending

pub hosted-listed : (x : ℕ) (bs : List Object) (set : ℕ) → mem x (hosted_by bs set) ≡ true → mem x (ids_of bs) ≡ true
hosted-listed x [] set h = h
hosted-listed x (b ∷ bs) set h = go (eqb (set % 2) 1) (eqb b.id x) refl h (λ m. hosted-listed x bs (set / 2) m)
  where
    go : (t e : Bool) → eqb b.id x ≡ e → mem x (cond t (b.id ∷ hosted_by bs (set / 2)) (hosted_by bs (set / 2))) ≡ true
        → (mem x (hosted_by bs (set / 2)) ≡ true → mem x (ids_of bs) ≡ true) → (e || mem x (ids_of bs)) ≡ true
    go t true i m ih = refl
    go true false i m ih = ih (rw i at m)
    go false false i m ih = ih m

-- the objects after the first have greater ids
above-first : (b : Object) (bs : List Object) → ascending by_id (b ∷ bs) ≡ true → (y : ℕ) → mem y (ids_of bs) ≡ true → b.id < y
above-first b [] a y m = clash false m refl
above-first b (c ∷ bs) a y m = go (eqb c.id y) refl m (λ h. above-first c bs (rest-ascends by_id b (c ∷ bs) a) y h)
  where
    first : b.id < c.id
    first = ltb-true b.id c.id (first-leads by_id b (c ∷ bs) a)

    go : (e : Bool) → eqb c.id y ≡ e → (e || mem y (ids_of bs)) ≡ true → (mem y (ids_of bs) ≡ true → c.id < y) → b.id < y
    go true i h rest = omega (arith, first, eqb-true c.id y i)
    go false i h rest = omega (arith, first, rest h)

-- a number below all of a list leads it
leads-all : (x : ℕ) (ys : List ℕ) → ((y : ℕ) → mem y ys ≡ true → x < y) → leads ltb x ys ≡ true
leads-all x [] h = refl
leads-all x (y ∷ ys) h = lt-ltb x y (h y (rw (eq-eqb y y refl)))

pub hosted-ascends : (bs : List Object) (set : ℕ) → ascending by_id bs ≡ true → ascending ltb (hosted_by bs set) ≡ true
hosted-ascends [] set a = refl
hosted-ascends (b ∷ bs) set a = go (eqb (set % 2) 1) (hosted-ascends bs (set / 2) (rest-ascends by_id b bs a))
  where
    go : (t : Bool) → ascending ltb (hosted_by bs (set / 2)) ≡ true → ascending ltb (cond t (b.id ∷ hosted_by bs (set / 2)) (hosted_by bs (set / 2))) ≡ true
    go true ih = ascends ltb b.id (hosted_by bs (set / 2)) (leads-all b.id (hosted_by bs (set / 2)) (λ y m. above-first b bs a y (hosted-listed y bs (set / 2) m))) ih
    go false ih = ih

-- ---- as many as bits

bit-cases : (n : ℕ) → (eqb (n % 2) 1 ≡ true → n % 2 ≡ 1) × (eqb (n % 2) 1 ≡ false → n % 2 ≡ 0)
bit-cases n = (λ e. eqb-true (n % 2) 1 e, λ e. let d = eqb-false (n % 2) 1 e in omega arith)

pub hosted-none : (bs : List Object) (set : ℕ) → set ≤ every_bit bs → is_empty (hosted_by bs set) ≡ eqb set 0
hosted-none [] set l = let z : set ≡ 0 = omega arith in sym (eq-eqb set 0 z)
hosted-none (b ∷ bs) set l = go (eqb (set % 2) 1) refl (hosted-none bs (set / 2) (omega arith))
  where
    go : (t : Bool) → eqb (set % 2) 1 ≡ t → is_empty (hosted_by bs (set / 2)) ≡ eqb (set / 2) 0 → is_empty (cond t (b.id ∷ hosted_by bs (set / 2)) (hosted_by bs (set / 2))) ≡ eqb set 0
    go true e ih = let o = (bit-cases set).0 e in sym (ne_eqb set 0 (omega arith))
    go false e ih = ih ∙ same (eqb (set / 2) 0) refl
      where
        same : (b : Bool) → eqb (set / 2) 0 ≡ b → b ≡ eqb set 0
        same true i = let o = (bit-cases set).1 e in let z = eqb-true (set / 2) 0 i in sym (eq-eqb set 0 (omega arith))
        same false i = let z = eqb-false (set / 2) 0 i in sym (ne_eqb set 0 (omega arith))

pub hosted-size : (bs : List Object) (set : ℕ) → set ≤ every_bit bs → ones set ≡ length (hosted_by bs set)
unfolding ones ones_in
hosted-size [] set l = let z : set ≡ 0 = omega arith in ap ones z
hosted-size (b ∷ bs) set l = ones_step set ∙ go (eqb (set % 2) 1) refl (hosted-size bs (set / 2) (omega arith))
  where
    go : (t : Bool) → eqb (set % 2) 1 ≡ t → ones (set / 2) ≡ length (hosted_by bs (set / 2)) → set % 2 + ones (set / 2) ≡ length (cond t (b.id ∷ hosted_by bs (set / 2)) (hosted_by bs (set / 2)))
    go true e ih = let o = (bit-cases set).0 e in omega (arith, ih)
    go false e ih = let o = (bit-cases set).1 e in omega (arith, ih)

-- ---- the union of two sets

-- the lowest bit of an or
or-bit : (a b : ℕ) → eqb (bit_or a b % 2) 1 ≡ (eqb (a % 2) 1 || eqb (b % 2) 1)
or-bit a b = ap (λ (t : ℕ). eqb t 1) (or_mod a b 1) ∙ go (a % 2) (b % 2) (omega arith) (omega arith)
  where
    go : (p q : ℕ) → p < 2 → q < 2 → eqb (bit_or p q) 1 ≡ (eqb p 1 || eqb q 1)
    go zero zero l m = refl
    go zero (suc zero) l m = refl
    go zero (suc (suc q)) l m = absurd (omega arith)
    go (suc zero) zero l m = refl
    go (suc zero) (suc zero) l m = refl
    go (suc zero) (suc (suc q)) l m = absurd (omega arith)
    go (suc (suc p)) q l m = absurd (omega arith)

mem-or : (x : ℕ) (bs : List Object) (a b : ℕ) → mem x (hosted_by bs (bit_or a b)) ≡ (mem x (hosted_by bs a) || mem x (hosted_by bs b))
mem-or x [] a b = refl
mem-or x (o ∷ bs) a b =
    ap₂ (λ (t : Bool) (s : ℕ). mem x (cond t (o.id ∷ hosted_by bs s) (hosted_by bs s))) (or-bit a b) (or_shr a b 1)
    ∙ go (eqb (a % 2) 1) (eqb (b % 2) 1) (mem-or x bs (a / 2) (b / 2))
  where
    u : List ℕ
    u = hosted_by bs (bit_or (a / 2) (b / 2))

    pick : (s t : Bool) (e p q r : Bool) → r ≡ (p || q) → (cond (s || t) (e || r) r) ≡ (cond s (e || p) p || cond t (e || q) q)
    pick true true true p q r i = refl
    pick true true false p q r i = i
    pick true false true p q r i = refl
    pick true false false p q r i = i
    pick false true true true q r i = refl
    pick false true true false q r i = refl
    pick false true false p q r i = i
    pick false false e p q r i = i

    out : (t : Bool) (ys : List ℕ) → mem x (cond t (o.id ∷ ys) ys) ≡ cond t (eqb o.id x || mem x ys) (mem x ys)
    out true ys = refl
    out false ys = refl

    go : (s t : Bool) → mem x u ≡ (mem x (hosted_by bs (a / 2)) || mem x (hosted_by bs (b / 2)))
        → mem x (cond (s || t) (o.id ∷ u) u) ≡ (mem x (cond s (o.id ∷ hosted_by bs (a / 2)) (hosted_by bs (a / 2))) || mem x (cond t (o.id ∷ hosted_by bs (b / 2)) (hosted_by bs (b / 2))))
    go s t ih =
        out (s || t) u ∙ pick s t (eqb o.id x) (mem x (hosted_by bs (a / 2))) (mem x (hosted_by bs (b / 2))) (mem x u) ih
        ∙ ap₂ (λ (p q : Bool). p || q) (sym (out s (hosted_by bs (a / 2)))) (sym (out t (hosted_by bs (b / 2))))

pub hosted-or : (bs : List Object) (a b : ℕ) → ascending by_id bs ≡ true → hosted_by bs (bit_or a b) ≡ ascending_set (hosted_by bs a ++ hosted_by bs b)
hosted-or bs a b asc =
    let u : List ℕ = hosted_by bs a ++ hosted_by bs b in
    set-same-members (hosted_by bs (bit_or a b)) (ascending_set u) (hosted-ascends bs (bit_or a b) asc) (ascending-set u)
    (λ x. mem-or x bs a b ∙ sym (mem-append x (hosted_by bs a) (hosted_by bs b)) ∙ sym (mem-set x u))

-- ---- the first object of a set, and the others: the number one less has the same bits but for the lowest that is set and those below it

others-odd : (n : ℕ) → n % 2 ≡ 1 → bit_and n (n - 1) ≡ n / 2 * 2
others-odd n o =
    let half : (n - 1) / 2 ≡ n / 2 = omega arith in
    let bit : (n - 1) % 2 ≡ 0 = omega arith in
    and_step n (n - 1) ∙ ap₂ (λ (x y : ℕ). bit_and (n / 2) x * 2 + min y ((n - 1) % 2)) half o
    ∙ ap₂ (λ (x y : ℕ). x * 2 + min 1 y) (and_self (n / 2)) bit ∙ omega arith

others-even : (n : ℕ) → 1 ≤ n → n % 2 ≡ 0 → bit_and n (n - 1) ≡ bit_and (n / 2) (n / 2 - 1) * 2
others-even n s o =
    let half : (n - 1) / 2 ≡ n / 2 - 1 = omega arith in
    let bit : (n - 1) % 2 ≡ 1 = omega arith in
    and_step n (n - 1) ∙ ap₂ (λ (x y : ℕ). bit_and (n / 2) x * 2 + min y ((n - 1) % 2)) half o
    ∙ ap (λ (y : ℕ). bit_and (n / 2) (n / 2 - 1) * 2 + min 0 y) bit ∙ omega arith

-- the objects of an even number are those of its half
hosted-double : (b : Object) (bs : List Object) (set half : ℕ) → set ≡ half * 2 → hosted_by (b ∷ bs) set ≡ hosted_by bs half
hosted-double b bs set half e =
    let bit : set % 2 ≡ 0 = omega arith in
    let rest : set / 2 ≡ half = omega arith in
    ap₂ (λ (x y : ℕ). cond (eqb x 1) (b.id ∷ hosted_by bs y) (hosted_by bs y)) bit rest

-- a word of w bits has a bit for each object
pub hosted-lowest : (w : ℕ) (bs : List Object) (set : ℕ) → length bs ≤ w → 1 ≤ set → set ≤ every_bit bs
    → hosted_by bs set ≡ get_or (ids_of bs) (count_trailing_zeros w set) 0 ∷ hosted_by bs (bit_and set (set - 1))
unfolding count_trailing_zeros
hosted-lowest w [] set h s l = absurd (omega arith)
hosted-lowest zero (b ∷ bs) set h s l = absurd (omega arith)
hosted-lowest (suc w) (b ∷ bs) set h s l = go (eqb (set % 2) 1) refl (λ i. hosted-lowest w bs (set / 2) (omega arith) i (omega arith))
  where
    go : (t : Bool) → eqb (set % 2) 1 ≡ t
        → (1 ≤ set / 2 → hosted_by bs (set / 2) ≡ get_or (ids_of bs) (count_trailing_zeros w (set / 2)) 0 ∷ hosted_by bs (bit_and (set / 2) (set / 2 - 1)))
        → cond t (b.id ∷ hosted_by bs (set / 2)) (hosted_by bs (set / 2))
        ≡ get_or (ids_of (b ∷ bs)) (under (set % 2) (count_trailing_zeros w (set / 2))) 0 ∷ hosted_by (b ∷ bs) (bit_and set (set - 1))
    go true e ih =
        let o = (bit-cases set).0 e in
        ap₂ (λ (x : ℕ) (r : List ℕ). get_or (ids_of (b ∷ bs)) (under x (count_trailing_zeros w (set / 2))) 0 ∷ r) (sym o)
        (sym (hosted-double b bs (bit_and set (set - 1)) (set / 2) (others-odd set o)))
    go false e ih =
        let o = (bit-cases set).1 e in
        ih (omega arith)
        ∙ ap₂ (λ (x : ℕ) (r : List ℕ). get_or (ids_of (b ∷ bs)) (under x (count_trailing_zeros w (set / 2))) 0 ∷ r) (sym o)
        (sym (hosted-double b bs (bit_and set (set - 1)) (bit_and (set / 2) (set / 2 - 1)) (others-even set s o)))

-- its bit is that of an object
pub lowest-below : (w : ℕ) (bs : List Object) (set : ℕ) → length bs ≤ w → 1 ≤ set → set ≤ every_bit bs → count_trailing_zeros w set < length bs
unfolding count_trailing_zeros
lowest-below w [] set h s l = absurd (omega arith)
lowest-below zero (b ∷ bs) set h s l = absurd (omega arith)
lowest-below (suc w) (b ∷ bs) set h s l = go (set % 2) refl (λ i. lowest-below w bs (set / 2) (omega arith) i (omega arith))
  where
    go : (r : ℕ) → set % 2 ≡ r → (1 ≤ set / 2 → count_trailing_zeros w (set / 2) < length bs) → under r (count_trailing_zeros w (set / 2)) < suc (length bs)
    go zero e ih = let i = ih (omega arith) in omega arith
    go (suc r) e ih = omega arith

-- ---- hosted sets that a record may have

-- all bits together are one less than the next power of two
pub every-bit : (bs : List Object) → every_bit bs + 1 ≡ 2 ^ length bs
every-bit [] = refl
every-bit (b ∷ bs) = let ih = every-bit bs in let p = pow-suc 2 (length bs) in omega arith

pub bit-listed : (bs : List Object) (o : ℕ) → bit_of bs o ≤ every_bit bs
bit-listed [] o = omega arith
bit-listed (b ∷ bs) o = go (eqb b.id o) (bit-listed bs o)
  where
    go : (t : Bool) → bit_of bs o ≤ every_bit bs → cond t 1 (2 * bit_of bs o) ≤ 1 + 2 * every_bit bs
    go true ih = omega arith
    go false ih = omega arith

module _ (sh : Shape) (set : ℕ) where
  -- a set is taken exactly where it has a bit, and none past the last object's
  pub set_words : bad_set sh set ≡ false → (set ≡ 0 → ⊥) × (set < 2 ^ length sh.objects)
  set_words h = (eqb-false set 0 (or_l _ _ h), omega (arith, ltb-false (everything sh) set (or_r (eqb set 0) _ h), every-bit sh.objects))

  pub words-set : (set ≡ 0 → ⊥) → set < 2 ^ length sh.objects → bad_set sh set ≡ false
  words-set some listed = neither (ne_eqb set 0 some) (le-ltb (everything sh) set (omega (arith, every-bit sh.objects)))
