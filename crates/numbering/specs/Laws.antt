-- Laws of the numbers of cells: the names rise, a cell's number is below their number, and the name there is the cell's; by the list of objects,
-- of which each has one stretch of names. Then the same of a directory without fault.
use Prim.Native.Nat.{ℕ, zero, suc, ◌+◌, ◌*◌, ◌^◌, ◌≤◌, ◌<◌}
use Rattle.std.specs.Prelude.{◌≡◌, refl, Bool, true, false, ◌&&◌, ◌||◌, List, [], ◌∷◌, ◌++◌, leb, ltb, length, get_or}
use Rattle.std.proofs.Math.Path.{ap, sym}
use Rattle.std.proofs.Common.{ap₂, ◌∙◌, zero-add, length-append, get_or-append-add}
use Rattle.std.proofs.Math.Bool.{cond}
use native.Mathlib.Omega.{arith}
use borrow.Author.Tests.{eqb-true, eq-eqb, ne_eqb, ltb-true, lt-ltb, leb-true}
use Rattle.std.proofs.Math.Dec.{eqb}
use Rattle.std.proofs.Math.ListN.{get_or-append}
use Rattle.lists.specs.Tests.{ands, and_l, and_r, or_case, clash}
use Rattle.lists.specs.Rows.{values, length-values, get_or-values}
use Rattle.lists.specs.Sets.{all, any, ascending, all-weaken, all_append, rest-ascends}
use Rattle.model.specs.Objects.{Object, is_cell, ok_object}
use Rattle.model.specs.Directory.{most_records, record_at, listed_in, shape_of}
use Rattle.laws.specs.Ruled.{Ruled, records, PlaceOf}
use Rattle.laws.proofs.ByPlace.{id_of, whole, how-many, few-records, apart, cell-by, highest_of}
use Rattle.laws.proofs.Records.{placed, all_listed, listed-good, ids-ascend}
use Rattle.numbering.specs.Names.{Name, name, names_in, total, number_in, base_at, name_before, Rising}

abbrev by_id : Object → Object → Bool
by_id a b = ltb a.id b.id

-- ---- how many

pub length-names : (bs : List Object) → length (names_in bs) ≡ total bs
unfolding names_in total
length-names [] = refl
length-names (b ∷ bs) = omega (arith, length-append (values (name b.id) 0 (b.highest + 1)) (names_in bs), length-values (name b.id) 0 (b.highest + 1), length-names bs)

-- ---- in order

-- every name has a higher object
abbrev past : ℕ → Name → Bool
past o x = ltb o x.object

or-true : (a b : Bool) → a ≡ true → (a || b) ≡ true
or-true a b e = ap (λ (t : Bool). t || b) e

or_right : (a b : Bool) → b ≡ true → (a || b) ≡ true
or_right true b e = refl
or_right false b e = e

key-before : (o i j : ℕ) → i < j → name_before (name o i) (name o j) ≡ true
key-before o i j l = or_right (ltb o o) (eqb o o && ltb i j) (ap₂ (λ (a b : Bool). a && b) (eq-eqb o o refl) (lt-ltb i j l))

keys-before : (o i j n : ℕ) → i < j → all (name_before (name o i)) (values (name o) j n) ≡ true
unfolding values
keys-before o i j zero l = refl
keys-before o i j (suc n) l = ap₂ (λ (a b : Bool). a && b) (key-before o i j l) (keys-before o i (suc j) n (omega arith))

rising-run : (o i n : ℕ) (xs : List Name) → all (past o) xs ≡ true → Rising xs → Rising (values (name o) i n ++ xs)
unfolding values Rising
rising-run o i zero xs h r = r
rising-run o i (suc n) xs h r = (
  all_append (name_before (name o i)) (values (name o) (suc i) n) xs (keys-before o i (suc i) n (omega arith))
      (all-weaken (past o) (name_before (name o i)) xs (λ x e. or-true (ltb o x.object) (eqb o x.object && ltb i x.key) e) h),
  rising-run o (suc i) n xs h r,
)

run_past : (o p i n : ℕ) → o < p → all (past o) (values (name p) i n) ≡ true
unfolding values
run_past o p i zero l = refl
run_past o p i (suc n) l = ap₂ (λ (a b : Bool). a && b) (lt-ltb o p l) (run_past o p (suc i) n l)

first-id : (b c : Object) (bs : List Object) → ascending by_id (b ∷ c ∷ bs) ≡ true → b.id < c.id
first-id b c bs a = ltb-true b.id c.id (and_l (by_id b c) (ascending by_id (c ∷ bs)) a)

names-past : (b : Object) (bs : List Object) → ascending by_id (b ∷ bs) ≡ true → all (past b.id) (names_in bs) ≡ true
unfolding names_in
names-past b [] a = refl
names-past b (c ∷ bs) a =
    let l = first-id b c bs a in
    all_append (past b.id) (values (name c.id) 0 (c.highest + 1)) (names_in bs) (run_past b.id c.id 0 (c.highest + 1) l)
    (all-weaken (past c.id) (past b.id) (names_in bs) (λ x e. lt-ltb b.id x.object (omega (arith, ltb-true c.id x.object e)))
    (names-past c bs (rest-ascends by_id b (c ∷ bs) a)))

pub rising-names : (bs : List Object) → ascending (λ (a b : Object). ltb a.id b.id) bs ≡ true → Rising (names_in bs)
unfolding names_in Rising
rising-names [] a = tt
rising-names (b ∷ bs) a = rising-run b.id 0 (b.highest + 1) (names_in bs) (names-past b bs a) (rising-names bs (rest-ascends by_id b bs a))

-- ---- the number of a cell

abbrev cell_of : ℕ → ℕ → Object → Bool
cell_of o k b = eqb b.id o && leb k b.highest

-- no later object has an id that is not above
later-other : (b : Object) (bs : List Object) → ascending by_id (b ∷ bs) ≡ true → (o k : ℕ) → o ≤ b.id → any (cell_of o k) bs ≡ false
later-other b [] a o k l = refl
later-other b (c ∷ bs) a o k l =
    let m = first-id b c bs a in
    ap₂ (λ (s t : Bool). s && leb k c.highest || t) (ne_eqb c.id o (λ e. absurd (omega arith)))
    (later-other c bs (rest-ascends by_id b (c ∷ bs) a) o k (omega arith))

-- the cell is of the first object, or among the others
first_key : (b : Object) (bs : List Object) → ascending by_id (b ∷ bs) ≡ true → (o k : ℕ) → b.id ≡ o → any (cell_of o k) (b ∷ bs) ≡ true → k ≤ b.highest
first_key b bs a o k e h = or_case (cell_of o k b) (any (cell_of o k) bs) h
    (λ i. leb-true k b.highest (and_r (eqb b.id o) (leb k b.highest) i))
    (λ i. clash (any (cell_of o k) bs) i (later-other b bs a o k (omega arith)))

other-cell : (b : Object) (bs : List Object) (o k : ℕ) → eqb b.id o ≡ false → any (cell_of o k) (b ∷ bs) ≡ true → any (cell_of o k) bs ≡ true
other-cell b bs o k e h = or_case (cell_of o k b) (any (cell_of o k) bs) h (λ i. clash (eqb b.id o) (and_l (eqb b.id o) (leb k b.highest) i) e) (λ i. i)

pub number-below : (bs : List Object) (o k : ℕ) → ascending (λ (a b : Object). ltb a.id b.id) bs ≡ true
    → any (λ (b : Object). eqb b.id o && leb k b.highest) bs ≡ true → number_in bs o k < total bs
unfolding number_in total
number-below [] o k a h = clash false h refl
number-below (b ∷ bs) o k a h = go (eqb b.id o) refl (λ i. number-below bs o k (rest-ascends by_id b bs a) i)
  where
    go : (t : Bool) → eqb b.id o ≡ t → (any (cell_of o k) bs ≡ true → number_in bs o k < total bs)
        → cond t k (b.highest + 1 + number_in bs o k) < b.highest + 1 + total bs
    go true e ih = let l = first_key b bs a o k (eqb-true b.id o e) h in omega arith
    go false e ih = let l = ih (other-cell b bs o k e h) in omega arith

pub number-named : (bs : List Object) (o k : ℕ) → ascending (λ (a b : Object). ltb a.id b.id) bs ≡ true
    → any (λ (b : Object). eqb b.id o && leb k b.highest) bs ≡ true → (d : Name) → get_or (names_in bs) (number_in bs o k) d ≡ record { object = o; key = k }
unfolding number_in names_in
number-named [] o k a h d = clash false h refl
number-named (b ∷ bs) o k a h d = go (eqb b.id o) refl (λ i. number-named bs o k (rest-ascends by_id b bs a) i d)
  where
    run : List Name
    run = values (name b.id) 0 (b.highest + 1)

    size : length run ≡ b.highest + 1
    size = length-values (name b.id) 0 (b.highest + 1)

    go : (t : Bool) → eqb b.id o ≡ t → (any (cell_of o k) bs ≡ true → get_or (names_in bs) (number_in bs o k) d ≡ name o k)
        → get_or (run ++ names_in bs) (cond t k (b.highest + 1 + number_in bs o k)) d ≡ name o k
    go true e ih =
        let same = eqb-true b.id o e in
        let l = first_key b bs a o k same h in
        get_or-append run (names_in bs) d k (omega (arith, size)) ∙ get_or-values (name b.id) 0 (b.highest + 1) k d (omega arith)
        ∙ ap₂ name same (zero-add k)
    go false e ih =
        ap (λ (m : ℕ). get_or (run ++ names_in bs) (m + number_in bs o k) d) (sym size) ∙ get_or-append-add run (names_in bs) (number_in bs o k) d
        ∙ ih (other-cell b bs o k e h)

-- ---- by places

pub base-total : (bs : List Object) → base_at bs (length bs) ≡ total bs
unfolding base_at total
base-total [] = refl
base-total (b ∷ bs) = ap (λ (m : ℕ). b.highest + 1 + m) (base-total bs)

module _ (f : ℕ → Object) where
  base_step : (i n j : ℕ) → j < n → base_at (values f i n) (suc j) ≡ base_at (values f i n) j + ((f (i + j)).highest + 1)
  unfolding values base_at
  base_step i zero j l = absurd (omega arith)
  base_step i (suc n) zero l = let e : i + 0 ≡ i = omega arith in omega (arith, ap (λ (m : ℕ). (f m).highest) e)
  base_step i (suc n) (suc j) l =
      let e : suc i + j ≡ i + suc j = omega arith in
      omega (arith, base_step (suc i) n j (omega arith), ap (λ (m : ℕ). (f m).highest) e)

  -- the number at the first place that has the id
  number-base : (i n j o k : ℕ) → j < n → (f (i + j)).id ≡ o → ((m : ℕ) → m < j → eqb (f (i + m)).id o ≡ false)
      → number_in (values f i n) o k ≡ base_at (values f i n) j + k
  unfolding values base_at number_in
  number-base i zero j o k l e h = absurd (omega arith)
  number-base i (suc n) zero o k l e h =
      let z : i ≡ i + 0 = omega arith in
      ap (λ (t : Bool). cond t k ((f i).highest + 1 + number_in (values f (suc i) n) o k)) (eq-eqb (f i).id o (ap (λ (m : ℕ). (f m).id) z ∙ e)) ∙ sym (zero-add k)
  number-base i (suc n) (suc j) o k l e h =
      let z : i ≡ i + 0 = omega arith in
      let s : (m : ℕ) → suc i + m ≡ i + suc m = λ m. omega arith in
      ap (λ (t : Bool). cond t k ((f i).highest + 1 + number_in (values f (suc i) n) o k)) (ap (λ (m : ℕ). eqb (f m).id o) z ∙ h 0 (omega arith))
      ∙ omega (
        arith,
        number-base (suc i) n j o k (omega arith) (ap (λ (m : ℕ). (f m).id) (s j) ∙ e)
            (λ m q. ap (λ (x : ℕ). eqb (f x).id o) (s m) ∙ h (suc m) (omega arith)),
      )

total-fits : (bs : List Object) → all ok_object bs ≡ true → total bs ≤ 4294967296 * length bs
unfolding total
total-fits [] h = omega arith
total-fits (b ∷ bs) h =
    let small = ltb-true b.highest (2 ^ 32) (search (ands, and_l (ok_object b) (all ok_object bs) h)) in
    omega (arith, total-fits bs (and_r (ok_object b) (all ok_object bs) h))

-- ---- of a directory without fault

module _ {d : List ℕ} (r : Ruled d) where
  ids-rise : ascending by_id (listed_in d) ≡ true
  unfolding listed_in
  ids-rise = ids-ascend d (records d) (whole r)

  pub listed-rising : Rising (names_in (listed_in d))
  listed-rising = rising-names (listed_in d) ids-rise

  pub listed_below : (o k : ℕ) → is_cell (shape_of d) o k ≡ true → number_in (listed_in d) o k < total (listed_in d)
  unfolding is_cell
  listed_below o k h = number-below (listed_in d) o k ids-rise h

  pub listed-named : (o k : ℕ) → is_cell (shape_of d) o k ≡ true → (x : Name) → get_or (names_in (listed_in d)) (number_in (listed_in d) o k) x ≡ record { object = o; key = k }
  unfolding is_cell
  listed-named o k h x = number-named (listed_in d) o k ids-rise h x

  -- few enough for any number of 64 bits
  pub listed-few : total (listed_in d) ≤ 4294967296 * most_records
  unfolding listed_in
  listed-few =
      let n = records d in
      omega (arith, total-fits (values (placed d) 0 n) (listed-good (values (placed d) 0 n) (all_listed d n (whole r))), length-values (placed d) 0 n, few-records r)

  pub listed-total : base_at (listed_in d) (records d) ≡ total (listed_in d)
  listed-total = ap (base_at (listed_in d)) (sym (how-many d (records d) (whole r))) ∙ base-total (listed_in d)

  pub listed-step : (j : ℕ) → j < records d → base_at (listed_in d) (suc j) ≡ base_at (listed_in d) j + (highest_of d j + 1)
  unfolding listed_in
  listed-step j l = base_step (placed d) 0 (records d) j l ∙ ap (λ (m : ℕ). base_at (listed_in d) j + (highest_of d m + 1)) (zero-add j)

  -- a cell's number by the place of its object
  pub number_by : (o j k : ℕ) → PlaceOf d o j → is_cell (shape_of d) o k ≡ true → (j < records d) × (number_in (listed_in d) o k ≡ base_at (listed_in d) j + k)
  unfolding listed_in record_at
  number_by o j k p h = (l, number-base (placed d) 0 (records d) j o k l (ap (id_of d) (zero-add j) ∙ p.there l) other)
    where
      l : j < records d
      l = ltb-true j (records d) (and_l (ltb j (records d)) (leb k (highest_of d j)) (sym (cell-by r p k) ∙ h))

      other : (m : ℕ) → m < j → eqb (placed d (0 + m)).id o ≡ false
      other m q =
          ap (λ (x : ℕ). eqb (id_of d x) o) (zero-add m) ∙ ap (eqb (id_of d m)) (sym (p.there l))
          ∙ apart d (records d) (whole r) m j (omega (arith, l)) l (λ e. absurd (omega arith))
