-- The place of an object by a search in order: what is left to look at has the place, and where the search ends the object stands or is
-- not listed.
use Rattle.std.specs.Prelude.{ℕ, ◌+◌, ◌≤◌, ◌<◌, ◌≡◌, refl, Bool, true, false, cond, not, ◌&&◌, List, eqb, ltb}
use Rattle.std.proofs.Common.{ap, sym, ◌∙◌, arith, eqb-true, ltb-true, ltb-false, lt-ltb}
use Rattle.std.proofs.lemmas.Bool.{eqb-false}
use Rattle.lists.specs.Tests.{and_l, and_r}
use Rattle.model.specs.Objects.{a_map, a_register, is_map_kind}
use Rattle.model.specs.Directory.{kind_of}
use Rattle.laws.specs.Ruled.{Ruled, records, PlaceOf}
use Rattle.laws.proofs.ByPlace.{id_of, rises, whole, found-place, no_place}

pub map-kind : (v : ℕ) → not (eqb v 2) ≡ is_map_kind (kind_of v)
map-kind v = go (eqb v 2)
  where
    go : (t : Bool) → not t ≡ is_map_kind (cond t a_register a_map)
    go true = refl
    go false = refl

-- ---- a search

-- the ids before place k are below o, and that at place k is not
pub record Searched (d : List ℕ) (o k : ℕ) : Type 0 where
  pub below : k ≤ records d
  pub under : (j : ℕ) → j < k → id_of d j < o
  pub over : k < records d → o ≤ id_of d k

-- such a place lies between low and high
pub record Searching (d : List ℕ) (o low high : ℕ) : Type 0 where
  pub forward : low ≤ high
  pub below : high ≤ records d
  pub under : (j : ℕ) → j < low → id_of d j < o
  pub over : high < records d → o ≤ id_of d high

pub searching-all : (d : List ℕ) (o n : ℕ) → n ≡ records d → Searching d o 0 n
searching-all d o n e = record { forward = omega arith; below = omega arith; under = λ j l. absurd (omega arith); over = λ l. absurd (omega arith) }

module _ {d : List ℕ} {o low high : ℕ} (s : Searching d o low high) (mid : ℕ) (l : low ≤ mid) (h : mid < high) where
  pub searching-up : Ruled d → id_of d mid < o → Searching d o (mid + 1) high
  searching-up r less = record { forward = omega arith; below = s.below; under = λ j m. under j m; over = s.over }
    where
      under : (j : ℕ) → j < mid + 1 → id_of d j < o
      under j m = go (ltb j mid) refl
        where
          go : (t : Bool) → ltb j mid ≡ t → id_of d j < o
          go true e = omega (arith, rises d (records d) (whole r) j mid (ltb-true j mid e) (omega (arith, s.below)), less)
          go false e = let same : j ≡ mid = omega (arith, ltb-false j mid e) in omega (arith, ap (id_of d) same, less)

  pub searching-down : o ≤ id_of d mid → Searching d o low mid
  searching-down more = record { forward = l; below = omega (arith, s.below); under = s.under; over = λ m. more }

pub searched : {d : List ℕ} {o low high : ℕ} → Searching d o low high → high ≤ low → Searched d o low
searched {d} {o} {low} {high} s l =
    let same : low ≡ high = omega (arith, s.forward) in
    record { below = omega (arith, s.forward, s.below); under = s.under; over = λ m. omega (arith, s.over (omega arith), ap (id_of d) same) }

-- ---- a place that was tested

abbrev pub stands_at : List ℕ → ℕ → ℕ → Bool
stands_at d k o = ltb k (records d) && eqb (id_of d k) o

-- t is the test's result
module _ {d : List ℕ} (r : Ruled d) (o k : ℕ) (t : Bool) (told : t ≡ stands_at d k o) where
  pub place_found : t ≡ true → PlaceOf d o k
  place_found i =
      let e : stands_at d k o ≡ true = sym told ∙ i in
      found-place r o k (ltb-true k (records d) (and_l (ltb k (records d)) (eqb (id_of d k) o) e)) (eqb-true (id_of d k) o (and_r (ltb k (records d)) (eqb (id_of d k) o) e))

  -- the search ended where another object stands, or at the end
  pub place_none : Searched d o k → t ≡ false → PlaceOf d o (records d)
  place_none s i = no_place r o k s.below s.under (λ l. beyond l)
    where
      beyond : k < records d → o < id_of d k
      beyond l =
          let other = eqb-false (id_of d k) o (sym (ap (λ (b : Bool). b && eqb (id_of d k) o) (lt-ltb k (records d) l)) ∙ sym told ∙ i) in
          let m = s.over l in
          omega arith
