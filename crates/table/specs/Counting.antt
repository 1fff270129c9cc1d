-- Rows counted one after the other, and the counts of an index when it has one row more: the counted places are all different.
use Rattle.std.specs.Prelude.{◌≡◌, refl, Bool, cond, ℕ, suc, ◌+◌, ◌-◌, ◌*◌, ◌≤◌, ◌<◌, eqb, get_or, set}
use Rattle.std.proofs.Common.{ap, ap₂, sym, ◌∙◌, length-set, get_or-set_same, get_or-set_other, eqb-true, eq-eqb}
use Rattle.std.proofs.Math.Bool.{true, false}
use mathlib.Core.List.{List, [], ◌∷◌, ◌++◌}
use native.Mathlib.Omega.{arith}
use Rattle.std.proofs.Math.ListN.{length}
use Rattle.std.proofs.lemmas.Bool.{eqb-false}
use Rattle.lists.specs.Tests.{clash}
use Rattle.lists.specs.Rows.{values-snoc}
use Rattle.model.specs.Objects.{is_object}
use Rattle.model.specs.Directory.{shape_of, most_records}
use Rattle.model.specs.Table.{Cell, cell_at, cell_size}
use Rattle.laws.specs.Ruled.{Ruled, records, PlaceOf}
use Rattle.laws.proofs.ByPlace.{id_of, apart, object-at, whole, few-records}
use Rattle.table.specs.Order.{rows_of, of_object, OrderedRows}
use Rattle.table.specs.RowsOf.{length-rows, cells-stretch}
use Rattle.table.specs.Stretches.{object-le}
use Rattle.table.specs.Runs.{used, least_index, count_at, Standing, standing, TwoRuns}
use Rattle.table.specs.Placing.{Noted}

-- ---- rows

module _ (o : ℕ) where
  count-append : (a b : List Cell) → length (of_object o (a ++ b)) ≡ length (of_object o a) + length (of_object o b)
  unfolding of_object
  count-append [] b = omega arith
  count-append (c ∷ a) b = go (eqb c.object o) (count-append a b)
    where
      go : (p : Bool) → length (of_object o (a ++ b)) ≡ length (of_object o a) + length (of_object o b)
          → length (cond p (c ∷ of_object o (a ++ b)) (of_object o (a ++ b))) ≡ length (cond p (c ∷ of_object o a) (of_object o a)) + length (of_object o b)
      go true ih = omega (arith, ih)
      go false ih = ih

-- one row more at the end
rows_snoc : (t : List ℕ) (i n : ℕ) → rows_of t i (suc n) ≡ rows_of t i n ++ (cell_at t (cell_size * (i + n)) ∷ [])
unfolding rows_of
rows_snoc t i n = values-snoc (λ (j : ℕ). cell_at t (cell_size * j)) i n

-- n of the rows up to i are of object o
pub record Counting (t : List ℕ) (from to o n i : ℕ) : Type 0 where
  pub low : from ≤ i
  pub high : i ≤ to
  pub sum : n ≡ length (of_object o (rows_of t from (i - from)))

pub counting-none : (t : List ℕ) (from to o : ℕ) → from ≤ to → Counting t from to o 0 from
counting-none t from to o l = record {
  low = omega arith;
  high = l;
  sum = omega (arith, object-le o (rows_of t from (from - from)), length-rows t from (from - from));
}

pub counting_more : {t : List ℕ} {from to o n i : ℕ} → Counting t from to o n i → i < to → (m : ℕ) → m ≡ length (of_object o (cell_at t (cell_size * i) ∷ []))
    → Counting t from to o (n + m) (i + 1)
counting_more {t} {from} {to} {o} {n} {i} c l m e =
    let low = c.low in
    let j : i + 1 - from ≡ suc (i - from) = omega arith in
    let k : from + (i - from) ≡ i = omega arith in
    let r : rows_of t from (i + 1 - from) ≡ rows_of t from (i - from) ++ (cell_at t (cell_size * i) ∷ []) =
    ap (rows_of t from) j ∙ rows_snoc t from (i - from) ∙ ap (λ (x : ℕ). rows_of t from (i - from) ++ (cell_at t (cell_size * x) ∷ [])) k in
    record {
      low = omega arith;
      high = omega arith;
      sum = ap₂ ◌+◌ c.sum e ∙ sym (count-append o (rows_of t from (i - from)) (cell_at t (cell_size * i) ∷ [])) ∙ ap (λ (x : List Cell). length (of_object o x)) (sym r);
    }

-- so they are not more than there are rows
pub counting-le : {t : List ℕ} {from to o n i : ℕ} → Counting t from to o n i → n ≤ to
counting-le {t} {from} {to} {o} {n} {i} c =
    omega (arith, c.low, c.high, c.sum, object-le o (rows_of t from (i - from)), length-rows t from (i - from))

pub counting-all : {t : List ℕ} {from to o n i : ℕ} → Counting t from to o n i → to ≤ i → n ≡ length (of_object o (rows_of t from (to - from)))
counting-all {t} {from} {to} {o} {n} {i} c l =
    let high = c.high in
    let e : i ≡ to = omega arith in
    c.sum ∙ ap (λ (x : ℕ). length (of_object o (rows_of t from (x - from)))) e

-- ---- the two runs

-- a search in the main run
pub main-ordered : (t : List ℕ) (s : Standing) → TwoRuns t s → OrderedRows t 0 s.main
main-ordered t s two = record {
  forward = omega arith;
  room = omega (arith, two.within, two.room);
  ascends = cells-stretch t s.main ∙ two.runs.main;
}

-- there are as many rows as the index says, or more
pub used-within : (t : List ℕ) (count : ℕ) (x : List ℕ) → TwoRuns t (standing count x) → used x ≤ count
used-within t count x two =
    let m : ℕ = count - used x in
    omega (arith, two.index.all, length-rows t m (count - m))

-- ---- one row more

module _ {d : List ℕ} (r : Ruled d) (x : List ℕ) (long : least_index ≤ length x) (o k : ℕ) (p : PlaceOf d o k) where
  abbrev more : List ℕ
  more = set x (length x - 1) (used x + 1)

  -- the directory does not list the object
  pub noted-all : records d ≤ k → Noted d x more o
  noted-all none = record {
    size = size;
    before = λ i l. get_or-set_other x (length x - 1) i (used x + 1) 0 (λ e. omega arith);
    all = ap (λ (n : ℕ). get_or more (n - 1) 0) size ∙ get_or-set_same x (length x - 1) (used x + 1) 0 (omega arith);
    own = λ q h e. clash (is_object (shape_of d) o) (ap (is_object (shape_of d)) (sym e) ∙ object-at d (records d) (whole r) q h) (p.nowhere (omega (arith, p.below)));
    others = λ q h e. get_or-set_other x (length x - 1) (count_at x q) (used x + 1) 0 (λ e. omega (arith, few-records r));
  }
    where
      size : length more ≡ length x
      size = length-set x (length x - 1) (used x + 1)

  pub noted-both : k < records d → Noted d x (set more (count_at x k) (get_or more (count_at x k) 0 + 1)) o
  noted-both there = record {
    size = size;
    before = λ i l. other i (λ e. omega arith) ∙ first i (λ e. omega arith);
    all = ap (λ (n : ℕ). get_or y (n - 1) 0) size ∙ other (length x - 1) (λ e. omega (arith, few)) ∙ get_or-set_same x (length x - 1) (used x + 1) 0 (omega arith);
    own = λ q h e. ap (λ (j : ℕ). get_or y (count_at x j) 0) (same q h e) ∙ counted ∙ ap (λ (j : ℕ). get_or x (count_at x j) 0 + 1) (sym (same q h e));
    others = λ q h e.
        other (count_at x q) (λ i. let j : q ≡ k = omega arith in e (ap (id_of d) j ∙ p.there there))
        ∙ first (count_at x q) (λ i. omega (arith, few-records r));
  }
    where
      y : List ℕ
      y = set more (count_at x k) (get_or more (count_at x k) 0 + 1)

      few : k < most_records
      few = omega (arith, few-records r)

      wide : length more ≡ length x
      wide = length-set x (length x - 1) (used x + 1)

      size : length y ≡ length x
      size = length-set more (count_at x k) (get_or more (count_at x k) 0 + 1) ∙ wide

      first : (i : ℕ) → (i ≡ length x - 1 → ⊥) → get_or more i 0 ≡ get_or x i 0
      first i d = get_or-set_other x (length x - 1) i (used x + 1) 0 d

      other : (i : ℕ) → (i ≡ count_at x k → ⊥) → get_or y i 0 ≡ get_or more i 0
      other i d = get_or-set_other more (count_at x k) i (get_or more (count_at x k) 0 + 1) 0 d

      counted : get_or y (count_at x k) 0 ≡ get_or x (count_at x k) 0 + 1
      counted =
          get_or-set_same more (count_at x k) (get_or more (count_at x k) 0 + 1) 0 (omega (arith, wide, few))
          ∙ ap (λ (n : ℕ). n + 1) (first (count_at x k) (λ e. omega (arith, few)))

      -- it has one place
      same : (q : ℕ) → q < records d → id_of d q ≡ o → q ≡ k
      same q h e = go (eqb q k) refl
        where
          go : (t : Bool) → eqb q k ≡ t → q ≡ k
          go true i = eqb-true q k i
          go false i =
              clash (eqb (id_of d q) (id_of d k)) (eq-eqb (id_of d q) (id_of d k) (e ∙ sym (p.there there)))
              (apart d (records d) (whole r) q k h there (eqb-false q k i))
