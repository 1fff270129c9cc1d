-- Objects by their place in a directory: what is asked of an object is read at its place, where its id stands; ids rise with places; and the
-- bit of a place says whether its object is in a set.
use Prim.Native.Nat.{ℕ, zero, suc, ◌+◌, ◌*◌, ◌/◌, ◌%◌, ◌^◌, ◌≤◌, ◌<◌}
use mathlib.Core.Path.{◌≡◌, refl, ap, ap₂, sym, ◌∙◌}
use mathlib.Core.Bool.{Bool, true, false, cond, not, ◌&&◌, ◌||◌}
use mathlib.Core.List.{List, [], ◌∷◌}
use native.Mathlib.Nat.{zero-add, pow-succ', div-one, div-div-eq-div-mul, div-eq_of_lt, le-div_iff_mul-le, pow-le-pow_right}
use native.Mathlib.Omega.{arith}
use borrow.Author.Tests.{eqb-true, eqb-false, eq-eqb, ne_eqb, ltb-true, ltb-false, le-ltb}
use lib.Dec.{eqb, leb, ltb}
use lib.ListN.{length, get_or}
use Rattle.lists.specs.Tests.{and_l, or-false, clash}
use Rattle.lists.specs.Rows.{values, length-values, get_or-values, map-values}
use Rattle.lists.specs.Sets.{any, mem, ascending, rest-ascends}
use Rattle.model.specs.Objects.{Object, Shape, ids, is_object, is_cell, hosted_by, hosted, bit_of, set_of, everything, bad_set}
use Rattle.model.specs.Directory.{record_size, most_records, id_at, record_at, shape_of, listed_in, fault_of}
use Rattle.model.specs.Objects.{is_map_kind, is_map}
use Rattle.laws.specs.Ruled.{Ruled, records, PlaceOf}
use Rattle.laws.proofs.Items.{ids_of}
use Rattle.laws.proofs.Directory.{hosted-listed, every-bit, set_words}
use Rattle.laws.proofs.Records.{Whole, fault-none, placed, count_of, ids-ascend}

abbrev by_id : Object → Object → Bool
by_id a b = ltb a.id b.id

-- ---- one value of a list decides a test

module _ {A : Type 0} (f : A → Bool) (g : ℕ → A) where
  any_none : (i n : ℕ) → ((j : ℕ) → i ≤ j → j < i + n → f (g j) ≡ false) → any f (values g i n) ≡ false
  unfolding values
  any_none i zero h = refl
  any_none i (suc n) h = ap₂ (λ (a b : Bool). a || b) (h i (omega arith) (omega arith)) (any_none (suc i) n (λ j l m. h j (omega arith) (omega arith)))

  -- where no other value passes
  any_at : (i n k : ℕ) → i ≤ k → k < i + n → ((j : ℕ) → i ≤ j → j < i + n → (j ≡ k → ⊥) → f (g j) ≡ false) → any f (values g i n) ≡ f (g k)
  unfolding values
  any_at i zero k l m h = absurd (omega arith)
  any_at i (suc n) k l m h = go (eqb i k) refl (λ a. any_at (suc i) n k a (omega arith) (λ j b c q. h j (omega arith) (omega arith) q))
    where
      go : (t : Bool) → eqb i k ≡ t → (suc i ≤ k → any f (values g (suc i) n) ≡ f (g k)) → (f (g i) || any f (values g (suc i) n)) ≡ f (g k)
      go true e ih =
          let same = eqb-true i k e in
          ap₂ (λ (a b : Bool). a || b) (ap (λ (j : ℕ). f (g j)) same) (any_none (suc i) n (λ j a b. h j (omega arith) (omega arith) (λ q. absurd (omega arith)))) ∙ or-false (f (g k))
      go false e ih =
          let apart = eqb-false i k e in
          ap₂ (λ (a b : Bool). a || b) (h i (omega arith) (omega arith) apart) (ih (omega arith))

-- ---- objects at their places

-- the id at place k, the highest key there, and its mark
abbrev pub id_of : List ℕ → ℕ → ℕ
id_of d k = id_at d (record_size * k)

abbrev pub highest_of : List ℕ → ℕ → ℕ
highest_of d k = (placed d k).highest

module _ (d : List ℕ) (n : ℕ) (w : Whole d n) where
  objects-are : (shape_of d).objects ≡ values (placed d) 0 n
  unfolding listed_in fault_of
  objects-are = ap (values (placed d) 0) (count_of d n w.size)

  pub how-many : length (shape_of d).objects ≡ n
  how-many = ap length objects-are ∙ length-values (placed d) 0 n

  -- ids rise with places
  pub rises : (j k : ℕ) → j < k → k < n → id_of d j < id_of d k
  rises j zero l h = absurd (omega arith)
  rises j (suc k) l h =
      let last : id_of d k < id_of d (suc k) = ltb-true (id_of d k) (id_of d (suc k)) (w.each (suc k) h).above in
      go (ltb j k) refl last (λ e. rises j k e (omega arith))
    where
      go : (t : Bool) → ltb j k ≡ t → id_of d k < id_of d (suc k) → (j < k → id_of d j < id_of d k) → id_of d j < id_of d (suc k)
      go true e m ih = omega (arith, ih (ltb-true j k e))
      go false e m ih = let same : j ≡ k = omega (arith, ltb-false j k e) in omega (arith, ap (id_of d) same)

  pub apart : (j k : ℕ) → j < n → k < n → (j ≡ k → ⊥) → eqb (id_of d j) (id_of d k) ≡ false
  apart j k l m q = ne_eqb (id_of d j) (id_of d k) (λ e. go (ltb j k) refl e)
    where
      go : (t : Bool) → ltb j k ≡ t → id_of d j ≡ id_of d k → ⊥
      go true i e = absurd (omega (arith, rises j k (ltb-true j k i) m))
      go false i e = let more = ltb-false j k i in absurd (go-up (eqb j k) refl e more)
        where
          go-up : (t : Bool) → eqb j k ≡ t → id_of d j ≡ id_of d k → k ≤ j → ⊥
          go-up true s e l' = q (eqb-true j k s)
          go-up false s e l' = let ne = eqb-false j k s in omega (arith, rises k j (omega arith) l)

  -- ---- what is asked of the object at place k

  module _ (k : ℕ) (h : k < n) where
    pub object-at : is_object (shape_of d) (id_of d k) ≡ true
    unfolding is_object record_at
    object-at =
        ap (λ (bs : List Object). mem (id_of d k) (ids_of bs)) objects-are ∙ ap (mem (id_of d k)) (map-values (λ (b : Object). b.id) (placed d) 0 n)
        ∙ any_at (λ (y : ℕ). eqb y (id_of d k)) (λ j. (placed d j).id) 0 n k (omega arith) (omega arith) (λ j l m q. apart j k (omega arith) h q)
        ∙ eq-eqb (id_of d k) (id_of d k) refl

    pub map_at : is_map (shape_of d) (id_of d k) ≡ is_map_kind (placed d k).kind
    unfolding is_map record_at
    map_at =
        ap (any (λ (b : Object). eqb b.id (id_of d k) && is_map_kind b.kind)) objects-are
        ∙ any_at (λ (b : Object). eqb b.id (id_of d k) && is_map_kind b.kind) (placed d) 0 n k (omega arith) (omega arith)
        (λ j l m q. ap (λ (t : Bool). t && is_map_kind (placed d j).kind) (apart j k (omega arith) h q))
        ∙ ap (λ (t : Bool). t && is_map_kind (placed d k).kind) (eq-eqb (id_of d k) (id_of d k) refl)

    pub cell_at : (key : ℕ) → is_cell (shape_of d) (id_of d k) key ≡ leb key (highest_of d k)
    unfolding is_cell record_at
    cell_at key =
        ap (any (λ (b : Object). eqb b.id (id_of d k) && leb key b.highest)) objects-are
        ∙ any_at (λ (b : Object). eqb b.id (id_of d k) && leb key b.highest) (placed d) 0 n k (omega arith) (omega arith)
        (λ j l m q. ap (λ (t : Bool). t && leb key (highest_of d j)) (apart j k (omega arith) h q))
        ∙ ap (λ (t : Bool). t && leb key (highest_of d k)) (eq-eqb (id_of d k) (id_of d k) refl)

  -- of a number that stands at no place
  module _ (o : ℕ) (none : (j : ℕ) → j < n → id_of d j ≡ o → ⊥) where
    other : (j : ℕ) → j < n → eqb (id_of d j) o ≡ false
    other j l = ne_eqb (id_of d j) o (none j l)

    pub no-object : is_object (shape_of d) o ≡ false
    unfolding is_object record_at
    no-object =
        ap (λ (bs : List Object). mem o (ids_of bs)) objects-are ∙ ap (mem o) (map-values (λ (b : Object). b.id) (placed d) 0 n)
        ∙ any_none (λ (y : ℕ). eqb y o) (λ j. (placed d j).id) 0 n (λ j l m. other j (omega arith))

    pub no-map : is_map (shape_of d) o ≡ false
    unfolding is_map record_at
    no-map =
        ap (any (λ (b : Object). eqb b.id o && is_map_kind b.kind)) objects-are
        ∙ any_none (λ (b : Object). eqb b.id o && is_map_kind b.kind) (placed d) 0 n (λ j l m. ap (λ (t : Bool). t && is_map_kind (placed d j).kind) (other j (omega arith)))

    pub no_cell : (key : ℕ) → is_cell (shape_of d) o key ≡ false
    unfolding is_cell record_at
    no_cell key =
        ap (any (λ (b : Object). eqb b.id o && leb key b.highest)) objects-are
        ∙ any_none (λ (b : Object). eqb b.id o && leb key b.highest) (placed d) 0 n (λ j l m. ap (λ (t : Bool). t && leb key (highest_of d j)) (other j (omega arith)))

  -- a search in order ends between two places
  pub none_between : (o k : ℕ) → k ≤ n → ((j : ℕ) → j < k → id_of d j < o) → (k < n → o < id_of d k) → (j : ℕ) → j < n → id_of d j ≡ o → ⊥
  none_between o k l low high j h e = go (ltb j k) refl
    where
      go : (t : Bool) → ltb j k ≡ t → ⊥
      go true i = let b = low j (ltb-true j k i) in absurd (omega arith)
      go false i = up (eqb k j) refl (ltb-false j k i)
        where
          up : (t : Bool) → eqb k j ≡ t → k ≤ j → ⊥
          up true s m = let same = eqb-true k j s in let b = high (omega arith) in absurd (omega (arith, ap (id_of d) same))
          up false s m = let ne = eqb-false k j s in let b = high (omega arith) in absurd (omega (arith, rises k j (omega arith) h))

-- ---- sets by place

bits-further : (set k : ℕ) → set / 2 / 2 ^ k ≡ set / 2 ^ suc k
bits-further set k = div-div-eq-div-mul set 2 (2 ^ k) ∙ ap (λ (m : ℕ). set / m) (sym (pow-succ' 2 k))

none-set : (bs : List Object) → hosted_by bs 0 ≡ []
none-set [] = refl
none-set (b ∷ bs) = none-set bs

-- over any objects whose ids ascend
module _ where
  beyond : (b : Object) (bs : List Object) → ascending by_id (b ∷ bs) ≡ true → (k : ℕ) → k < length bs → b.id < get_or (ids_of bs) k 0
  beyond b [] a k h = absurd (omega arith)
  beyond b (c ∷ bs) a zero h = ltb-true b.id c.id (and_l (by_id b c) (ascending by_id (c ∷ bs)) a)
  beyond b (c ∷ bs) a (suc k) h =
      let one = ltb-true b.id c.id (and_l (by_id b c) (ascending by_id (c ∷ bs)) a) in
      omega (arith, beyond c bs (rest-ascends by_id b (c ∷ bs) a) k (omega arith))

  not-among : (b : Object) (bs : List Object) → ascending by_id (b ∷ bs) ≡ true → (x : ℕ) → x ≤ b.id → mem x (ids_of bs) ≡ false
  not-among b [] a x l = refl
  not-among b (c ∷ bs) a x l =
      let one = ltb-true b.id c.id (and_l (by_id b c) (ascending by_id (c ∷ bs)) a) in
      ap₂ (λ (s t : Bool). s || t) (ne_eqb c.id x (λ e. absurd (omega arith))) (not-among c bs (rest-ascends by_id b (c ∷ bs) a) x (omega arith))

  not-hosted : (x : ℕ) (bs : List Object) (set : ℕ) → mem x (ids_of bs) ≡ false → mem x (hosted_by bs set) ≡ false
  not-hosted x bs set e = go (mem x (hosted_by bs set)) refl
    where
      go : (t : Bool) → mem x (hosted_by bs set) ≡ t → t ≡ false
      go true i = clash (mem x (ids_of bs)) (hosted-listed x bs set i) e
      go false i = refl

  -- the bit of a place says whether its object is in the set
  pub bit-hosted : (bs : List Object) → ascending by_id bs ≡ true → (set k : ℕ) → k < length bs → mem (get_or (ids_of bs) k 0) (hosted_by bs set) ≡ eqb (set / 2 ^ k % 2) 1
  bit-hosted [] a set k h = absurd (omega arith)
  bit-hosted (b ∷ bs) a set zero h = go (eqb (set % 2) 1) refl
    where
      go : (t : Bool) → eqb (set % 2) 1 ≡ t → mem b.id (cond t (b.id ∷ hosted_by bs (set / 2)) (hosted_by bs (set / 2))) ≡ eqb (set / 2 ^ 0 % 2) 1
      go true e = ap (λ (x : Bool). x || mem b.id (hosted_by bs (set / 2))) (eq-eqb b.id b.id refl) ∙ sym (ap (λ (m : ℕ). eqb (m % 2) 1) (div-one set) ∙ e)
      go false e = not-hosted b.id bs (set / 2) (not-among b bs a b.id (omega arith)) ∙ sym (ap (λ (m : ℕ). eqb (m % 2) 1) (div-one set) ∙ e)
  bit-hosted (b ∷ bs) a set (suc k) h =
      go (eqb (set % 2) 1) ∙ bit-hosted bs (rest-ascends by_id b bs a) (set / 2) k (omega arith) ∙ ap (λ (m : ℕ). eqb (m % 2) 1) (bits-further set k)
    where
      x : ℕ
      x = get_or (ids_of bs) k 0

      go : (t : Bool) → mem x (cond t (b.id ∷ hosted_by bs (set / 2)) (hosted_by bs (set / 2))) ≡ mem x (hosted_by bs (set / 2))
      go true = ap (λ (s : Bool). s || mem x (hosted_by bs (set / 2))) (ne_eqb b.id x (λ e. absurd (omega (arith, beyond b bs a k (omega arith)))))
      go false = refl

  -- the set of the object at a place is the power of two
  pub bit-of : (bs : List Object) → ascending by_id bs ≡ true → (k : ℕ) → k < length bs → bit_of bs (get_or (ids_of bs) k 0) ≡ 2 ^ k
  bit-of [] a k h = absurd (omega arith)
  bit-of (b ∷ bs) a zero h = ap (λ (t : Bool). cond t 1 (2 * bit_of bs b.id)) (eq-eqb b.id b.id refl)
  bit-of (b ∷ bs) a (suc k) h =
      ap (λ (t : Bool). cond t 1 (2 * bit_of bs (get_or (ids_of bs) k 0))) (ne_eqb b.id (get_or (ids_of bs) k 0) (λ e. absurd (omega (arith, beyond b bs a k (omega arith)))))
      ∙ ap (λ (m : ℕ). 2 * m) (bit-of bs (rest-ascends by_id b bs a) k (omega arith)) ∙ sym (pow-succ' 2 k)

  -- and has that object alone
  pub power-hosted : (bs : List Object) (k : ℕ) → k < length bs → hosted_by bs (2 ^ k) ≡ get_or (ids_of bs) k 0 ∷ []
  power-hosted [] k h = absurd (omega arith)
  power-hosted (b ∷ bs) zero h = ap (λ (xs : List ℕ). b.id ∷ xs) (none-set bs)
  power-hosted (b ∷ bs) (suc k) h =
      let p = pow-succ' 2 k in
      let even : 2 ^ suc k % 2 ≡ 0 = omega arith in
      let half : 2 ^ suc k / 2 ≡ 2 ^ k = omega arith in
      ap₂ (λ (x y : ℕ). cond (eqb x 1) (b.id ∷ hosted_by bs y) (hosted_by bs y)) even half ∙ power-hosted bs k (omega arith)

module _ (d : List ℕ) (n : ℕ) (w : Whole d n) where
  abbrev sh : Shape
  sh = shape_of d

  ascends : ascending by_id sh.objects ≡ true
  ascends = ap (ascending by_id) (objects-are d n w) ∙ ids-ascend d n w

  pub id-at : (k : ℕ) → k < n → get_or (ids sh) k 0 ≡ id_of d k
  unfolding record_at
  id-at k h =
      ap (λ (bs : List Object). get_or (ids_of bs) k 0) (objects-are d n w) ∙ ap (λ (xs : List ℕ). get_or xs k 0) (map-values (λ (b : Object). b.id) (placed d) 0 n)
      ∙ get_or-values (λ j. (placed d j).id) 0 n k 0 h ∙ ap (id_of d) (zero-add k)

  pub hosted-at : (set k : ℕ) → k < n → mem (id_of d k) (hosted sh set) ≡ eqb (set / 2 ^ k % 2) 1
  unfolding hosted
  hosted-at set k h = ap (λ (x : ℕ). mem x (hosted_by sh.objects set)) (sym (id-at k h)) ∙ bit-hosted sh.objects ascends set k (omega (arith, how-many d n w))

  pub set_at : (k : ℕ) → k < n → set_of sh (id_of d k) ≡ 2 ^ k
  set_at k h = ap (bit_of sh.objects) (sym (id-at k h)) ∙ bit-of sh.objects ascends k (omega (arith, how-many d n w))

  pub only_at : (k : ℕ) → k < n → hosted sh (2 ^ k) ≡ id_of d k ∷ []
  unfolding hosted
  only_at k h = power-hosted sh.objects k (omega (arith, how-many d n w)) ∙ ap (λ (x : ℕ). x ∷ []) (id-at k h)

  pub everything-at : everything sh + 1 ≡ 2 ^ n
  everything-at = every-bit sh.objects ∙ ap (λ (m : ℕ). 2 ^ m) (how-many d n w)

-- ---- as code asks: the place first, then what stands there

pub whole : {d : List ℕ} → Ruled d → Whole d (records d)
whole {d} r = fault-none d r.directed

module _ {d : List ℕ} (r : Ruled d) where
  -- a directory has few records, so that a set of them fits 64 bits
  pub few-records : records d ≤ most_records
  few-records = (whole r).few

  pub sets-fit : (set : ℕ) → bad_set (shape_of d) set ≡ false → set < 2 ^ 64
  sets-fit set e =
      let more : 2 ^ records d ≤ 2 ^ 64 = pow-le-pow_right (omega arith) few-records in
      omega (arith, (set_words (shape_of d) set e).1, ap (λ (m : ℕ). 2 ^ m) (how-many d (records d) (whole r)))

  -- a bit past the last record: of fewer than 64 what is left of a shift by their number, of 64 none
  pub bits-past : (set : ℕ) → ltb (everything (shape_of d)) set ≡ not (eqb (set / 2 ^ records d) 0)
  bits-past set = go (ltb (everything (shape_of d)) set) refl
    where
      power : everything (shape_of d) + 1 ≡ 2 ^ records d
      power = everything-at d (records d) (whole r)

      some : 1 ≤ 2 ^ records d
      some = omega (arith, power)

      go : (t : Bool) → ltb (everything (shape_of d)) set ≡ t → t ≡ not (eqb (set / 2 ^ records d) 0)
      go true e =
          let over : 2 ^ records d ≤ set = omega (arith, power, ltb-true (everything (shape_of d)) set e) in
          let q : 1 ≤ set / 2 ^ records d = (le-div_iff_mul-le {k = 2 ^ records d} {x = 1} {y = set} some).1 (omega arith) in
          sym (ap not (ne_eqb (set / 2 ^ records d) 0 (λ z. absurd (omega arith))))
      go false e =
          let under : set < 2 ^ records d = omega (arith, power, ltb-false (everything (shape_of d)) set e) in
          sym (ap not (eq-eqb (set / 2 ^ records d) 0 (div-eq_of_lt under)))

  pub no-bits-past : (set : ℕ) → records d ≡ most_records → set < 2 ^ 64 → ltb (everything (shape_of d)) set ≡ false
  no-bits-past set e l = le-ltb (everything (shape_of d)) set (omega (arith, everything-at d (records d) (whole r), ap (λ (m : ℕ). 2 ^ m) e))

  module _ {o k : ℕ} (p : PlaceOf d o k) where
    nowhere-listed : k ≡ records d → (j : ℕ) → j < records d → id_of d j ≡ o → ⊥
    nowhere-listed e j h i = clash (is_object (shape_of d) o) (ap (is_object (shape_of d)) (sym i) ∙ object-at d (records d) (whole r) j h) (p.nowhere e)

    -- by the place, or past the last
    by_place {ℓ} : {P : Type ℓ} → (ltb k (records d) ≡ true → k < records d → P) → (ltb k (records d) ≡ false → k ≡ records d → P) → P
    by_place {P = P} f g = go (ltb k (records d)) refl
      where
        go : (t : Bool) → ltb k (records d) ≡ t → P
        go true e = f e (ltb-true k (records d) e)
        go false e = g e (omega (arith, p.below, ltb-false k (records d) e))

    pub object-by : is_object (shape_of d) o ≡ ltb k (records d)
    object-by = by_place
        (λ e h. ap (is_object (shape_of d)) (sym (p.there h)) ∙ object-at d (records d) (whole r) k h ∙ sym e)
        (λ e q. p.nowhere q ∙ sym e)

    pub map-by : is_map (shape_of d) o ≡ (ltb k (records d) && is_map_kind (placed d k).kind)
    map-by = by_place
        (λ e h. ap (is_map (shape_of d)) (sym (p.there h)) ∙ map_at d (records d) (whole r) k h ∙ sym (ap (λ (t : Bool). t && is_map_kind (placed d k).kind) e))
        (λ e q. no-map d (records d) (whole r) o (nowhere-listed q) ∙ sym (ap (λ (t : Bool). t && is_map_kind (placed d k).kind) e))

    pub cell-by : (key : ℕ) → is_cell (shape_of d) o key ≡ (ltb k (records d) && leb key (highest_of d k))
    cell-by key = by_place
        (λ e h. ap (λ (x : ℕ). is_cell (shape_of d) x key) (sym (p.there h)) ∙ cell_at d (records d) (whole r) k h key ∙ sym (ap (λ (t : Bool). t && leb key (highest_of d k)) e))
        (λ e q. no_cell d (records d) (whole r) o (nowhere-listed q) key ∙ sym (ap (λ (t : Bool). t && leb key (highest_of d k)) e))

    pub hosted-by : (set : ℕ) → mem o (hosted (shape_of d) set) ≡ (ltb k (records d) && eqb (set / 2 ^ k % 2) 1)
    unfolding hosted is_object
    hosted-by set = by_place
        (λ e h. ap (λ (x : ℕ). mem x (hosted (shape_of d) set)) (sym (p.there h)) ∙ hosted-at d (records d) (whole r) set k h
        ∙ sym (ap (λ (t : Bool). t && eqb (set / 2 ^ k % 2) 1) e))
        (λ e q. not-hosted o (shape_of d).objects set (p.nowhere q) ∙ sym (ap (λ (t : Bool). t && eqb (set / 2 ^ k % 2) 1) e))

    pub only-by : k < records d → hosted (shape_of d) (2 ^ k) ≡ o ∷ []
    only-by h = only_at d (records d) (whole r) k h ∙ ap (λ (x : ℕ). x ∷ []) (p.there h)

    pub set-by : k < records d → set_of (shape_of d) o ≡ 2 ^ k
    set-by h = ap (set_of (shape_of d)) (sym (p.there h)) ∙ set_at d (records d) (whole r) k h

  -- a search found the object, or ended between two places
  pub found-place : (o k : ℕ) → k < records d → id_of d k ≡ o → PlaceOf d o k
  found-place o k h e = record { below = omega arith; there = λ l. e; nowhere = λ q. absurd (omega arith) }

  pub no_place : (o k : ℕ) → k ≤ records d → ((j : ℕ) → j < k → id_of d j < o) → (k < records d → o < id_of d k) → PlaceOf d o (records d)
  no_place o k l low high = record {
    below = omega arith;
    there = λ h. absurd (omega arith);
    nowhere = λ e. no-object d (records d) (whole r) o (none_between d (records d) (whole r) o k l low high);
  }
