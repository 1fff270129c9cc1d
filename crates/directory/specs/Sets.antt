-- The objects of a set of 64 bits over a directory within its rules: the laws of sets over any objects, with the ids that stand in the
-- directory's bytes.
use Rattle.std.specs.Prelude.{ℕ, suc, ◌+◌, ◌-◌, ◌*◌, ◌/◌, ◌%◌, ◌^◌, ◌≤◌, ◌<◌, ◌≡◌, refl, Bool, true, false, cond, not, ◌&&◌, ◌||◌, List, [], ◌∷◌, ◌++◌, eqb, ltb, length}
use Rattle.std.proofs.Math.Path.{ap}
use Rattle.std.proofs.Common.{ap₂, sym, subst, ◌∙◌, append-nil, arith, pow_pos, length-append, eq-eqb, ne_eqb, ltb-true, lt-ltb, le-ltb}
use Rattle.std.proofs.Math.Nat.{pow-succ', pow-le-pow_right}
use Rattle.std.specs.Int.Bits.{bit_and, bit_or, and_le_r, or_lt}
use Rattle.std.specs.Int.Count.{ones, count_trailing_zeros}
use Rattle.std.proofs.Math.Seq.{append_snoc}
use Rattle.lists.specs.Sets.{mem, is_empty, ascending, ascending_set}
use Rattle.model.specs.Objects.{Object, Shape, is_object, set_of, hosted_by, hosted, every_bit, everything, bad_set}
use Rattle.model.specs.Terms.{Listed}
use Rattle.model.specs.Directory.{record_size, id_at, listed_in, shape_of}
use Rattle.laws.specs.Ruled.{Ruled, records, PlaceOf}
use Rattle.laws.proofs.ByPlace.{whole, how-many, id-at, few-records, everything-at, bits-past, no-bits-past, object-by, hosted-by, only-by, set-by}
use Rattle.laws.proofs.Items.{ids_of}
use Rattle.laws.proofs.Records.{ids-ascend}
use Rattle.laws.proofs.Directory.{every-bit, bit-listed}
use Rattle.laws.proofs.Directory as laws

-- an object that the directory lists
pub record ListedObject (d : List ℕ) (id : ℕ) : Type 0 where
  pub ruled : Ruled d
  pub known : is_object (shape_of d) id ≡ true

-- the set without its lowest bit
abbrev pub others_of : ℕ → ℕ
others_of set = bit_and set (set - 1)

-- a list without its first
abbrev pub after_first : List ℕ → List ℕ
after_first [] = []
after_first (x ∷ xs) = xs

-- the first object of the set stands at place k of the directory
pub record Lowest (d : List ℕ) (set k : ℕ) : Type 0 where
  pub below : k < records d
  pub first : hosted (shape_of d) set ≡ id_at d (record_size * k) ∷ hosted (shape_of d) (others_of set)
  pub rest : Listed (shape_of d) (others_of set)
  pub less : others_of set < set

-- the set has these objects, and no bit past the last record
pub record SetHas (d : List ℕ) (set : ℕ) (xs : List ℕ) : Type 0 where
  pub listed : Listed (shape_of d) set
  pub objects : hosted (shape_of d) set ≡ xs

-- the set of one object
pub record Only (d : List ℕ) (o r : ℕ) : Type 0 where
  pub set : r ≡ set_of (shape_of d) o
  pub one : hosted (shape_of d) r ≡ o ∷ []
  pub listed : Listed (shape_of d) r

-- the set of all objects of two sets
pub record United (d : List ℕ) (a b r : ℕ) : Type 0 where
  pub all : hosted (shape_of d) r ≡ ascending_set (hosted (shape_of d) a ++ hosted (shape_of d) b)
  pub listed : Listed (shape_of d) a → Listed (shape_of d) b → Listed (shape_of d) r

-- the set with one object more
pub record SetWith (d : List ℕ) (set x r : ℕ) : Type 0 where
  pub objects : hosted (shape_of d) r ≡ ascending_set (hosted (shape_of d) set ++ (x ∷ []))
  pub listed : Listed (shape_of d) set → Listed (shape_of d) r

pub set-with : {d : List ℕ} {set x one r : ℕ} → Only d x one → United d set one r → SetWith d set x r
set-with {d} {set} o u = record { objects = u.all ∙ ap (λ (t : List ℕ). ascending_set (hosted (shape_of d) set ++ t)) o.one; listed = λ l. u.listed l o.listed }

module _ (d : List ℕ) (r : Ruled d) where
  abbrev sh : Shape
  sh = shape_of d

  ascends : ascending (λ (a b : Object). ltb a.id b.id) sh.objects ≡ true
  unfolding listed_in
  ascends = ids-ascend d (records d) (whole r)

  pub set-ascends : (set : ℕ) → ascending ltb (hosted sh set) ≡ true
  unfolding hosted
  set-ascends set = laws.hosted-ascends sh.objects set ascends

  pub united : (a b : ℕ) → United d a b (bit_or a b)
  unfolding hosted
  united a b = record { all = laws.hosted-or sh.objects a b ascends; listed = λ l m. or_lt (length sh.objects) a b l m }

  module _ (set : ℕ) (l : Listed sh set) where
    listed-all : set ≤ everything sh
    listed-all = omega (arith, every-bit sh.objects)

    pub hosted-none : is_empty (hosted sh set) ≡ eqb set 0
    unfolding hosted
    hosted-none = laws.hosted-none sh.objects set listed-all

    pub hosted-size : ones set ≡ length (hosted sh set)
    unfolding hosted
    hosted-size = laws.hosted-size sh.objects set listed-all

    few : length sh.objects ≤ 64
    few = omega (arith, how-many d (records d) (whole r), few-records r)

    pub lowest-of : 1 ≤ set → Lowest d set (count_trailing_zeros 64 set)
    unfolding hosted
    lowest-of some =
        let k = count_trailing_zeros 64 set in
        let place : k < records d = omega (arith, laws.lowest-below 64 sh.objects set few some listed-all, how-many d (records d) (whole r)) in
        let less : others_of set < set = omega (arith, and_le_r set (set - 1)) in
        record {
          below = place;
          first = laws.hosted-lowest 64 sh.objects set few some listed-all ∙ ap (λ (x : ℕ). x ∷ hosted sh (others_of set)) (id-at d (records d) (whole r) k place);
          rest = omega (arith, less, l);
          less = less;
        }

    pub others-of : 1 ≤ set → hosted sh (others_of set) ≡ after_first (hosted sh set)
    others-of some = ap after_first (sym (lowest-of some).first)

-- none is left of none
none-set : (bs : List Object) → hosted_by bs 0 ≡ []
none-set [] = refl
none-set (b ∷ bs) = none-set bs

-- ---- over four objects

after-four : (xs : List ℕ) → not (is_empty (after_first (after_first (after_first (after_first xs))))) ≡ ltb 4 (length xs)
after-four [] = refl
after-four (a ∷ []) = refl
after-four (a ∷ b ∷ []) = refl
after-four (a ∷ b ∷ c ∷ []) = refl
after-four (a ∷ b ∷ c ∷ e ∷ []) = refl
after-four (a ∷ b ∷ c ∷ e ∷ f ∷ xs) = sym (lt-ltb 4 (length (a ∷ b ∷ c ∷ e ∷ f ∷ xs)) (omega arith))

-- what is left of a set without bits past the last record has none
pub left-listed : (d : List ℕ) {set rest : ℕ} → rest ≡ others_of set → Listed (shape_of d) set → Listed (shape_of d) rest
left-listed d {set} e l = omega (arith, e, and_le_r set (set - 1), l)

-- the first four objects taken away, one after the other
pub over-four : {d : List ℕ} → Ruled d → (set a b c e : ℕ) → Listed (shape_of d) e
    → hosted (shape_of d) a ≡ after_first (hosted (shape_of d) set) → hosted (shape_of d) b ≡ after_first (hosted (shape_of d) a)
    → hosted (shape_of d) c ≡ after_first (hosted (shape_of d) b) → hosted (shape_of d) e ≡ after_first (hosted (shape_of d) c)
    → not (eqb e 0) ≡ ltb 4 (length (hosted (shape_of d) set))
over-four {d} r set a b c e l ha hb hc he =
    ap not (sym (hosted-none d r e l))
    ∙ ap (λ (xs : List ℕ). not (is_empty xs)) (he ∙ ap after_first (hc ∙ ap after_first (hb ∙ ap after_first ha)))
    ∙ after-four (hosted (shape_of d) set)

-- the set of none
pub has-none : (d : List ℕ) → SetHas d 0 []
unfolding hosted
has-none d = record { listed = pow_pos (length (shape_of d).objects); objects = none-set (shape_of d).objects }

pub others-none : (d : List ℕ) (set : ℕ) → set ≡ 0 → hosted (shape_of d) 0 ≡ after_first (hosted (shape_of d) set)
unfolding hosted
others-none d set e =
    none-set (shape_of d).objects ∙ ap after_first (sym (none-set (shape_of d).objects)) ∙ ap (λ (n : ℕ). after_first (hosted (shape_of d) n)) (sym e)

-- ---- a loop over the objects of a set, `while rest != 0 { let k = lowest(rest); ..; rest = others(rest); }`

-- the objects met of a set, with those of the set that is left
pub record Meeting (d : List ℕ) (set rest : ℕ) (met : List ℕ) : Type 0 where
  pub listed : Listed (shape_of d) rest
  pub all : hosted (shape_of d) set ≡ met ++ hosted (shape_of d) rest

pub meeting-none : (d : List ℕ) (set : ℕ) → Listed (shape_of d) set → Meeting d set set []
meeting-none d set l = record { listed = l; all = refl }

pub meeting-more : {d : List ℕ} {set rest : ℕ} {met : List ℕ} {k : ℕ} → Meeting d set rest met → Lowest d rest k → Meeting d set (others_of rest) (met ++ (id_at d (record_size * k) ∷ []))
meeting-more {d} {set} {rest} {met} {k} m l = record {
  listed = l.rest;
  all = m.all ∙ ap (λ (t : List ℕ). met ++ t) l.first ∙ sym (append_snoc met (id_at d (record_size * k)) (hosted (shape_of d) (others_of rest)));
}

pub meeting-all : {d : List ℕ} {set rest : ℕ} {met : List ℕ} → Meeting d set rest met → rest ≡ 0 → met ≡ hosted (shape_of d) set
unfolding hosted
meeting-all {d} {set} {rest} {met} m z =
    sym (m.all ∙ ap (λ (r : ℕ). met ++ hosted (shape_of d) r) z ∙ ap (λ (t : List ℕ). met ++ t) (none-set (shape_of d).objects) ∙ append-nil met)

-- one object more is no more than all
pub meeting-few : {d : List ℕ} {set rest : ℕ} {met : List ℕ} {k : ℕ} → Meeting d set rest met → Lowest d rest k → length met < length (hosted (shape_of d) set)
meeting-few {d} {set} {rest} {met} {k} m l =
    omega (arith, ap length m.all, length-append met (hosted (shape_of d) rest), ap length l.first)

-- ---- the set of one object

-- one bit, as the shift leaves it
pub one_bit : (k : ℕ) → k < 64 → 1 * 2 ^ k % 2 ^ 64 ≡ 2 ^ k
one_bit k l =
    let h : suc k ≤ 64 = omega arith in
    let most : 2 ^ suc k ≤ 2 ^ 64 = pow-le-pow_right {n = 2} (omega arith) h in
    let p = pow-succ' 2 k in
    omega arith

-- the place of an object is that of a record
pub object-below : {d : List ℕ} {o k : ℕ} → Ruled d → PlaceOf d o k → is_object (shape_of d) o ≡ true → k < records d
object-below {d} {o} {k} r p e = ltb-true k (records d) (sym (object-by r p) ∙ e)

pub place-few : {d : List ℕ} {o k : ℕ} → Ruled d → PlaceOf d o k → is_object (shape_of d) o ≡ true → k < 64
place-few {d} {o} {k} r p e = omega (arith, object-below r p e, few-records r)

pub only_one : {d : List ℕ} {o k : ℕ} → Ruled d → PlaceOf d o k → is_object (shape_of d) o ≡ true → Only d o (1 * 2 ^ k % 2 ^ 64)
only_one {d} {o} {k} r p e =
    let l = object-below r p e in
    let b : 2 ^ k ≡ 1 * 2 ^ k % 2 ^ 64 = sym (one_bit k (place-few r p e)) in
    let s = set-by r p l in
    subst (Only d o) b (record { set = sym s; one = only-by r p l; listed = omega (arith, s, bit-listed (shape_of d).objects o, every-bit (shape_of d).objects) })

-- ---- the set of all objects

pub every-hosted : (bs : List Object) → hosted_by bs (every_bit bs) ≡ ids_of bs
every-hosted [] = refl
every-hosted (b ∷ bs) =
    let odd : (1 + 2 * every_bit bs) % 2 ≡ 1 = omega arith in
    let half : (1 + 2 * every_bit bs) / 2 ≡ every_bit bs = omega arith in
    ap₂ (λ (x y : ℕ). cond (eqb x 1) (b.id ∷ hosted_by bs y) (hosted_by bs y)) odd half ∙ ap (λ (xs : List ℕ). b.id ∷ xs) (every-hosted bs)

pub hosts-all : (sh : Shape) (x : ℕ) → mem x (hosted sh (everything sh)) ≡ is_object sh x
unfolding hosted is_object
hosts-all sh x = ap (mem x) (every-hosted sh.objects)

pub all-full : {d : List ℕ} → Ruled d → (n : ℕ) → n ≡ records d → 64 ≤ n → 2 ^ 64 - 1 ≡ everything (shape_of d)
all-full {d} r n e l =
    let full : n ≡ 64 = omega (arith, e, few-records r) in
    let power = everything-at d (records d) (whole r) ∙ ap (λ (m : ℕ). 2 ^ m) (sym e ∙ full) in
    omega (arith, power)

pub all-power : {d : List ℕ} → Ruled d → (n : ℕ) → n ≡ records d → n < 64 → 1 * 2 ^ n % 2 ^ 64 - 1 ≡ everything (shape_of d)
all-power {d} r n e l =
    let power = everything-at d (records d) (whole r) ∙ ap (λ (m : ℕ). 2 ^ m) (sym e) in
    omega (arith, one_bit n l, power)

-- ---- a set that a record may not have

module _ (d : List ℕ) (set : ℕ) where
  pub bad-none : set ≡ 0 → true ≡ bad_set (shape_of d) set
  bad-none e = sym (ap (λ (t : Bool). t || ltb (everything (shape_of d)) set) (eq-eqb set 0 e))

  pub good-full : Ruled d → (set ≡ 0 → ⊥) → 64 ≤ records d → set < 2 ^ 64 → false ≡ bad_set (shape_of d) set
  good-full r some l fits =
      sym (ap₂ (λ (s t : Bool). s || t) (ne_eqb set 0 some) (no-bits-past r set (omega (arith, few-records r)) fits))

  pub bad-past : Ruled d → (set ≡ 0 → ⊥) → (n : ℕ) → n ≡ records d → not (eqb (set / 2 ^ n) 0) ≡ bad_set (shape_of d) set
  bad-past r some n e =
      ap (λ (m : ℕ). not (eqb (set / 2 ^ m) 0)) e ∙ sym (ap₂ (λ (s t : Bool). s || t) (ne_eqb set 0 some) (bits-past r set))

-- ---- an object of a set

module _ {d : List ℕ} {o k : ℕ} (r : Ruled d) (p : PlaceOf d o k) (set : ℕ) where
  pub hosted-nowhere : records d ≤ k → false ≡ mem o (hosted (shape_of d) set)
  hosted-nowhere l = sym (hosted-by r p set ∙ ap (λ (t : Bool). t && eqb (set / 2 ^ k % 2) 1) (le-ltb k (records d) l))

  pub hosted-bit : k < records d → eqb (set / 2 ^ k % 2) 1 ≡ mem o (hosted (shape_of d) set)
  hosted-bit l = sym (hosted-by r p set ∙ ap (λ (t : Bool). t && eqb (set / 2 ^ k % 2) 1) (lt-ltb k (records d) l))
