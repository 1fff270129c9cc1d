-- Words of prices: a map of the directory, whose cells are the keys to its highest since an id is of one object; and a good list of prices.
use Prim.Native.Nat.{ℕ, suc, ◌+◌, ◌*◌, ◌%◌, ◌^◌, ◌<◌}
use mathlib.Core.Path.{◌≡◌, refl, ap, sym, ◌∙◌}
use mathlib.Core.Bool.{Bool, true, false, not, ◌&&◌}
use mathlib.Core.List.Memᴰ
use mathlib.Core.List.{List, [], ◌∷◌, Memᴰ}
use mathlib.Core.Logic.{◌⊎◌, inl, inr}
use native.Mathlib.Omega.{arith}
use borrow.Author.Tests.{eqb-true, eq-eqb, ltb-true, lt-ltb, leb-true, le-leb, not-false}
use lib.Dec.{eqb, leb, ltb}
use lib.ListN.{length}
use Rattle.lists.specs.Bytes.{be_at}
use Rattle.lists.specs.Tests.{and_l, and_r, ands, ors, both, neither, clash}
use Rattle.lists.specs.Rows.{values}
use Rattle.lists.specs.Sets.{all, ascending}
use Rattle.lists.specs.Members.{all_in, in_all, any-in, in-any}
use Rattle.model.specs.Objects.{ObjectKind, a_map, a_register, Object, Shape, ok_object, is_map_kind, is_map, is_cell}
use Rattle.model.specs.Slot.{ok_shape}
use Rattle.model.specs.Pricing.{price_size, mark_price, most_cents, most_percent, price_at, ok_price, price_before, price_count, prices_in, bad_prices}
use Rattle.model.specs.PriceClaims.{MapOf, PriceRecord, GoodPrices}
use Rattle.laws.proofs.Rising.{before-next, next-before}
use Rattle.laws.proofs.Prices.{value-at, ok_at}

-- ---- maps

map_is : (t : ObjectKind) → is_map_kind t ≡ true → t ≡ a_map
map_is a_map e = refl
map_is a_register e = clash false e refl

abbrev by_id : Object → Object → Bool
by_id a b = ltb a.id b.id

-- the first of an ascending list has the lowest id
first-id : (x : Object) (bs : List Object) → ascending by_id (x ∷ bs) ≡ true → (b : Object) → Memᴰ b bs → x.id < b.id
first-id x [] a b m = absurd (Memᴰ.not-nil m)
first-id x (y ∷ bs) a b m = go (Memᴰ.cases_cons m) (λ n. first-id y bs (and_r (by_id x y) (ascending by_id (y ∷ bs)) a) b n)
  where
    less : x.id < y.id
    less = ltb-true x.id y.id (and_l (by_id x y) (ascending by_id (y ∷ bs)) a)

    go : (b ≡ y) ⊎ Memᴰ b bs → (Memᴰ b bs → y.id < b.id) → x.id < b.id
    go (inl e) ih = omega (arith, less, ap (λ (c : Object). c.id) e)
    go (inr n) ih = omega (arith, less, ih n)

-- so that an id is of one object
one-object : (bs : List Object) → ascending by_id bs ≡ true → (b c : Object) → Memᴰ b bs → Memᴰ c bs → b.id ≡ c.id → b ≡ c
one-object [] a b c m n e = absurd (Memᴰ.not-nil m)
one-object (x ∷ bs) a b c m n e = go (Memᴰ.cases_cons m) (Memᴰ.cases_cons n) (λ u v. one-object bs (rest x bs a) b c u v e)
  where
    rest : (x : Object) (bs : List Object) → ascending by_id (x ∷ bs) ≡ true → ascending by_id bs ≡ true
    rest x [] h = refl
    rest x (y ∷ ys) h = and_r (by_id x y) (ascending by_id (y ∷ ys)) h

    go : (b ≡ x) ⊎ Memᴰ b bs → (c ≡ x) ⊎ Memᴰ c bs → (Memᴰ b bs → Memᴰ c bs → b ≡ c) → b ≡ c
    go (inl p) (inl q) ih = p ∙ sym q
    go (inl p) (inr q) ih = absurd (omega (arith, first-id x bs a c q, ap (λ (d : Object). d.id) p, e))
    go (inr p) (inl q) ih = absurd (omega (arith, first-id x bs a b p, ap (λ (d : Object). d.id) q, e))
    go (inr p) (inr q) ih = ih p q

module _ (sh : Shape) (o : ℕ) where
  pub map-words : is_map sh o ≡ true → MapOf sh o
  unfolding is_map
  map-words h =
      let (b, m, e) = any-in (λ (b : Object). eqb b.id o && is_map_kind b.kind) sh.objects h in
      record { object = b; listed = m; itself = eqb-true b.id o (and_l (eqb b.id o) (is_map_kind b.kind) e); map = map_is b.kind (and_r (eqb b.id o) (is_map_kind b.kind) e) }

  pub words-map : MapOf sh o → is_map sh o ≡ true
  unfolding is_map
  words-map m = in-any (λ (b : Object). eqb b.id o && is_map_kind b.kind) m.object sh.objects m.listed (both (eq-eqb m.object.id o m.itself) (ap is_map_kind m.map))

  module _ (shape : ok_shape sh ≡ true) (m : MapOf sh o) where
    ascend : ascending by_id sh.objects ≡ true
    ascend = search (ands, shape)

    -- its cells are the keys to the highest
    pub keys-are : (k : ℕ) → is_cell sh o k ≡ leb k m.object.highest
    unfolding is_cell
    keys-are k = go (is_cell sh o k) refl (leb k m.object.highest) refl
      where
        f : Object → Bool
        f b = eqb b.id o && leb k b.highest

        go : (p : Bool) → is_cell sh o k ≡ p → (q : Bool) → leb k m.object.highest ≡ q → p ≡ q
        go true p true q = refl
        go false p false q = refl
        go true p false q =
            let (b, n, e) = any-in (λ (b : Object). eqb b.id o && leb k b.highest) sh.objects p in
            let same : b ≡ m.object = one-object sh.objects ascend b m.object n m.listed (eqb-true b.id o (and_l (eqb b.id o) (leb k b.highest) e) ∙ sym m.itself) in
            clash (leb k m.object.highest) (ap (λ (c : Object). leb k c.highest) (sym same) ∙ and_r (eqb b.id o) (leb k b.highest) e) q
        go false p true q =
            clash (is_cell sh o k) (in-any (λ (b : Object). eqb b.id o && leb k b.highest) m.object sh.objects m.listed (both (eq-eqb m.object.id o m.itself) q)) p

    pub highest-small : m.object.highest < 2 ^ 32
    highest-small = let e = all_in _ sh.objects objects-ok m.object m.listed in ltb-true m.object.highest (2 ^ 32) (search ands)
      where
        objects-ok : all ok_object sh.objects ≡ true
        objects-ok = search (ands, shape)

-- ---- lists of prices

module _ (s : List ℕ) where
  record-words : (i : ℕ) → ok_price s i ≡ true → PriceRecord s i
  unfolding ok_price
  record-words i e = record {
    mark = eqb-true _ mark_price (search ands);
    zeros = eqb-true _ 0 (search ands);
    cents = leb-true _ most_cents (search ands);
    percent = leb-true _ most_percent (search ands);
  }

  words-record : (i : ℕ) → PriceRecord s i → ok_price s i ≡ true
  unfolding ok_price
  words-record i w = both (both (both (eq-eqb _ mark_price w.mark) (eq-eqb _ 0 w.zeros)) (le-leb _ most_cents w.cents)) (le-leb _ most_percent w.percent)

  pub prices-words : bad_prices s ≡ false → GoodPrices s
  unfolding bad_prices prices_in price_at
  prices-words good = record {
    count = price_count s;
    whole = whole;
    each = λ k l. record-words (price_size * k) (ok_at s good k l);
    ascend = λ k l. next k l;
  }
    where
      whole : length s ≡ price_size * price_count s
      whole = let z : length s % price_size ≡ 0 = eqb-true _ 0 (not-false _ (search ors)) in omega arith

      next : (k : ℕ) → suc k < price_count s → be_at 4 s (price_size * k + 4) < be_at 4 s (price_size * suc k + 4)
      next k l = ltb-true _ _ (before-next price_before (λ j. price_at s (price_size * j)) 0 (price_count s) k (not-false _ (search ors)) (omega arith) (omega arith))

  pub words-prices : GoodPrices s → bad_prices s ≡ false
  unfolding bad_prices prices_in price_at
  words-prices g =
      let n : price_count s ≡ g.count = omega (arith, g.whole) in
      let z : length s % price_size ≡ 0 = omega (arith, g.whole) in
      neither (neither (ap not (eq-eqb (length s % price_size) 0 z)) (ap not (each-ok n)))
      (ap not (next-before price_before (λ j. price_at s (price_size * j)) 0 (price_count s) (λ k l m. lt-ltb _ _ (g.ascend k (omega arith)))))
    where
      each-ok : price_count s ≡ g.count → all (ok_price s) (values (λ k. price_size * k) 0 (price_count s)) ≡ true
      each-ok n = in_all (ok_price s) (values (λ k. price_size * k) 0 (price_count s)) (λ i m.
          let (k, l, h, e) = value-at (λ k. price_size * k) 0 (price_count s) i m in
          ap (ok_price s) e ∙ words-record (price_size * k) (g.each k (omega arith)))
