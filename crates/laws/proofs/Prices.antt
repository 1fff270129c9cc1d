-- Lines are bounded, so that 64 bits hold one and what it is made from: by the greatest price, whatever the quantity of 4 bytes. And what
-- the record of a key says of a list of prices.
use Prim.Native.Nat.{ℕ, zero, suc, ◌+◌, ◌-◌, ◌*◌, ◌^◌, ◌≤◌, ◌<◌}
use mathlib.Core.Path.{◌≡◌, refl, ap, sym, ◌∙◌}
use mathlib.Core.Logic.{◌⊎◌, inl, inr}
use mathlib.Core.Bool.{Bool, true, false, cond}
use mathlib.Core.List.Memᴰ
use mathlib.Core.List.{List, [], ◌∷◌, Memᴰ}
use mathlib.Core.Option.{some, some-injective}
use native.Mathlib.Nat.{mul-le-mul_left}
use native.Mathlib.Omega.{arith}
use borrow.Author.Tests.{eqb-true, eq-eqb, leb-true, not-false}
use lib.Dec.{eqb, leb}
use Rattle.lists.specs.Tests.{ands, ors, clash}
use Rattle.lists.specs.Rows.{values}
use Rattle.lists.specs.Sets.{all}
use Rattle.lists.specs.Every.{every_value}
use Rattle.model.specs.Entries.{is_none}
use Rattle.model.specs.Pricing.{price_size, most_cents, most_percent, Price, price_at, ok_price, price_count, prices_in, bad_prices, nearest, line_of, price_of}
use Rattle.laws.proofs.Refusals.{not_none}

-- ---- the greatest line

abbrev pub most_line : ℕ
most_line = 42949668655032705

module _ (q c : ℕ) (l : q < 2 ^ 32) (m : c ≤ most_cents) where
  pub full-most : q * c ≤ most_line
  full-most = omega (arith, mul-le-mul_left q m)

  pub lowered-most : (f : ℕ) → f ≤ 100 → q * c * f ≤ most_line * 100
  lowered-most f h = omega (arith, mul-le-mul_left (q * c) h, full-most)

pub line-most : (q : ℕ) (p : Price) → q < 2 ^ 32 → p.cents ≤ most_cents → line_of q p ≤ most_line
line-most q p l m = go (leb p.from q)
  where
    go : (b : Bool) → cond b (nearest (q * p.cents * (most_percent - p.percent))) (q * p.cents) ≤ most_line
    go true = let h : most_percent - p.percent ≤ 100 = omega arith in omega (arith, lowered-most q p.cents l m (most_percent - p.percent) h)
    go false = full-most q p.cents l m

-- ---- the record of a key

pub price-in : (ps : List Price) (k : ℕ) (p : Price) → price_of ps k ≡ some p → Memᴰ p ps × (p.key ≡ k)
unfolding price_of
price-in [] k p e = not_none p (sym e)
price-in (x ∷ ps) k p e = go (eqb x.key k) refl e (λ f. price-in ps k p f)
  where
    go : (b : Bool) → eqb x.key k ≡ b → cond b (some x) (price_of ps k) ≡ some p → (price_of ps k ≡ some p → Memᴰ p ps × (p.key ≡ k)) → Memᴰ p (x ∷ ps) × (p.key ≡ k)
    go true i f ih =
        let same : x ≡ p = some-injective _ _ f in
        (Memᴰ.head (sym same), ap (λ (y : Price). y.key) (sym same) ∙ eqb-true x.key k i)
    go false i f ih = let w = ih f in (Memᴰ.tail w.0, w.1)

-- a record of the key is found
pub in-price : (ps : List Price) (k : ℕ) (p : Price) → Memᴰ p ps → p.key ≡ k → is_none (price_of ps k) ≡ false
unfolding price_of
in-price [] k p m e = absurd (Memᴰ.not-nil m)
in-price (x ∷ ps) k p m e = go (eqb x.key k) refl (Memᴰ.cases_cons m) (λ n. in-price ps k p n e)
  where
    go : (b : Bool) → eqb x.key k ≡ b → (p ≡ x) ⊎ Memᴰ p ps → (Memᴰ p ps → is_none (price_of ps k) ≡ false) → is_none (cond b (some x) (price_of ps k)) ≡ false
    go true i s ih = refl
    go false i (inl q) ih = clash (eqb x.key k) (eq-eqb x.key k (ap (λ (y : Price). y.key) (sym q) ∙ e)) i
    go false i (inr n) ih = ih n

-- ---- the records of a good list

pub value-at : {A : Type 0} (g : ℕ → A) (i n : ℕ) (x : A) → Memᴰ x (values g i n) → (k : ℕ) × (i ≤ k) × (k < i + n) × (x ≡ g k)
unfolding values
value-at g i zero x m = absurd (Memᴰ.not-nil m)
value-at {A} g i (suc n) x m = go (Memᴰ.cases_cons m) (λ h. value-at g (suc i) n x h)
  where
    go : (x ≡ g i) ⊎ Memᴰ x (values g (suc i) n) → (Memᴰ x (values g (suc i) n) → (k : ℕ) × (suc i ≤ k) × (k < suc i + n) × (x ≡ g k))
        → (k : ℕ) × (i ≤ k) × (k < i + suc n) × (x ≡ g k)
    go (inl e) ih = (i, omega arith, omega arith, e)
    go (inr h) ih = let (k, l, r, e) = ih h in (k, omega arith, omega arith, e)

module _ (s : List ℕ) (good : bad_prices s ≡ false) where
  pub ok-prices : all (ok_price s) (values (λ k. price_size * k) 0 (price_count s)) ≡ true
  unfolding bad_prices
  ok-prices = not-false _ (search ors)

  pub ok_at : (k : ℕ) → k < price_count s → ok_price s (price_size * k) ≡ true
  ok_at = every_value (ok_price s) (λ k. price_size * k) ok-prices

  pub cents-at : (k : ℕ) → k < price_count s → (price_at s (price_size * k)).cents ≤ most_cents
  unfolding ok_price price_at
  cents-at k l = let e = ok_at k l in leb-true _ most_cents (search ands)

  pub cents-most : (p : Price) → Memᴰ p (prices_in s) → p.cents ≤ most_cents
  unfolding prices_in
  cents-most p m =
      let (k, l, h, e) = value-at (λ k. price_at s (price_size * k)) 0 (price_count s) p m in
      omega (arith, cents-at k (omega arith), ap (λ (x : Price). x.cents) e)
