-- Prices by their place in a list whose keys ascend: a walk that went past lower keys alone stands at the key's record, or there is none.
use Prim.Native.Nat.{ℕ, zero, suc, ◌+◌, ◌*◌, ◌≤◌, ◌<◌}
use Rattle.std.specs.Prelude.{◌≡◌, Bool, ◌&&◌, List, ltb}
use Rattle.std.proofs.Math.Path.{refl, ap}
use Rattle.std.proofs.Common.{sym, ◌∙◌}
use Rattle.std.proofs.Math.Bool.{true, false, cond}
use Rattle.std.proofs.Math.Option.{none, some}
use native.Mathlib.Omega.{arith}
use borrow.Author.Tests.{eqb-true, eqb-false, eq-eqb, ne_eqb, ltb-true, ltb-false, lt-ltb, leb-true, not-false}
use Rattle.std.proofs.Math.Dec.{eqb}
use Rattle.lists.specs.Bytes.{be_at}
use Rattle.lists.specs.Tests.{and_l, and_r, ands, ors}
use Rattle.lists.specs.Rows.{values}
use Rattle.model.specs.Pricing as model
use Rattle.model.specs.Pricing.{price_size, most_cents, most_percent, price_at, ok_price, price_before, price_count, prices_in, bad_prices, price_of}
use Rattle.laws.proofs.Rising.{rising}
use Rattle.laws.proofs.Prices.{ok_at, cents-at}
use Rattle.pricing.specs.declared.prices.Price.{Price}

abbrev pub price_in : Price → model.Price
price_in p = record { key = p.key; cents = p.cents; from = p.from; percent = p.percent }

-- the key at place k
abbrev pub key_of : List ℕ → ℕ → ℕ
key_of s k = be_at 4 s (price_size * k + 4)

-- the bounds of a good record's fields
pub record InRange (p : Price) : Type 0 where
  pub cents : p.cents ≤ most_cents
  pub percent : p.percent ≤ most_percent

-- the keys before place k are below this one
pub record Under (s : List ℕ) (k key : ℕ) : Type 0 where
  pub few : k ≤ price_count s
  pub under : (j : ℕ) → j < k → key_of s j < key

-- and that at place k is not
pub record Sought (s : List ℕ) (key k : ℕ) : Type 0 where
  pub few : k ≤ price_count s
  pub under : (j : ℕ) → j < k → key_of s j < key
  pub over : k < price_count s → key ≤ key_of s k

-- ---- the walk past lower keys

pub under_more : {s : List ℕ} {k key : ℕ} → Under s k key → k < price_count s → key_of s k < key → Under s (k + 1) key
under_more {s} {k} {key} u l h = record { few = omega arith; under = λ j m. below j m (eqb j k) refl }
  where
    below : (j : ℕ) → j < k + 1 → (t : Bool) → eqb j k ≡ t → key_of s j < key
    below j m true e = omega (arith, h, ap (key_of s) (eqb-true j k e))
    below j m false e = let apart = eqb-false j k e in u.under j (omega arith)

pub sought-here : {s : List ℕ} {k key : ℕ} → Under s k key → key ≤ key_of s k → Sought s key k
sought-here u h = record { few = u.few; under = u.under; over = λ l. h }

pub sought-end : {s : List ℕ} {k key n : ℕ} → Under s k key → n ≡ price_count s → n ≤ k → Sought s key n
sought-end u e h = record { few = omega arith; under = λ j l. u.under j (omega arith); over = λ l. absurd (omega arith) }

-- ---- the record of a key

module _ (g : ℕ → model.Price) (key : ℕ) where
  record-at : (i n k : ℕ) → i ≤ k → k < i + n → ((j : ℕ) → i ≤ j → j < k → (g j).key < key) → (g k).key ≡ key → price_of (values g i n) key ≡ some (g k)
  unfolding values price_of
  record-at i zero k l h u e = absurd (omega arith)
  record-at i (suc n) k l h u e = go (eqb i k) refl (λ m. record-at (suc i) n k m (omega arith) (λ j a b. u j (omega arith) b) e)
    where
      go : (t : Bool) → eqb i k ≡ t → (suc i ≤ k → price_of (values g (suc i) n) key ≡ some (g k)) → cond (eqb (g i).key key) (some (g i)) (price_of (values g (suc i) n) key) ≡ some (g k)
      go true q ih =
          let same = eqb-true i k q in
          ap (λ (b : Bool). cond b (some (g i)) (price_of (values g (suc i) n) key)) (eq-eqb (g i).key key (ap (λ (m : ℕ). (g m).key) same ∙ e)) ∙ ap (λ (m : ℕ). some (g m)) same
      go false q ih =
          let apart = eqb-false i k q in
          let low = u i (omega arith) (omega arith) in
          ap (λ (b : Bool). cond b (some (g i)) (price_of (values g (suc i) n) key)) (ne_eqb (g i).key key (λ f. absurd (omega arith))) ∙ ih (omega arith)

  record-none : (i n : ℕ) → ((j : ℕ) → i ≤ j → j < i + n → (g j).key ≡ key → ⊥) → price_of (values g i n) key ≡ none
  unfolding values price_of
  record-none i zero u = refl
  record-none i (suc n) u =
      ap (λ (b : Bool). cond b (some (g i)) (price_of (values g (suc i) n) key)) (ne_eqb (g i).key key (u i (omega arith) (omega arith)))
      ∙ record-none (suc i) n (λ j a b. u j (omega arith) (omega arith))

module _ (s : List ℕ) (good : bad_prices s ≡ false) where
  -- keys rise with places
  pub keys-rise : (j k : ℕ) → j < k → k < price_count s → key_of s j < key_of s k
  unfolding bad_prices prices_in price_at
  keys-rise j k l h = ltb-true (key_of s j) (key_of s k) (rising price_before (λ i. price_at s (price_size * i))
      (λ a b c p q. lt-ltb a.key c.key (omega (arith, ltb-true a.key b.key p, ltb-true b.key c.key q)))
      0 (price_count s) (not-false _ (search ors)) j k (omega arith) l (omega arith))

  module _ {key k : ℕ} (w : Sought s key k) where
    abbrev stands_at : Bool
    stands_at = ltb k (price_count s) && eqb (key_of s k) key

    pub price-found : stands_at ≡ true → price_of (prices_in s) key ≡ some (price_at s (price_size * k))
    unfolding prices_in price_at
    price-found e =
        record-at (λ j. price_at s (price_size * j)) key 0 (price_count s) k (omega arith) (omega (arith, ltb-true k (price_count s) (and_l (ltb k (price_count s)) (eqb (key_of s k) key) e)))
        (λ j a b. w.under j b) (eqb-true (key_of s k) key (and_r (ltb k (price_count s)) (eqb (key_of s k) key) e))

    pub price-missing : stands_at ≡ false → price_of (prices_in s) key ≡ none
    unfolding prices_in price_at
    price-missing e = record-none (λ j. price_at s (price_size * j)) key 0 (price_count s) (λ j a b f. other j (omega arith) f (ltb j k) refl)
      where
        -- another key stands at place k
        above : k < price_count s → key < key_of s k
        above l =
            let apart = eqb-false (key_of s k) key (sym (ap (λ (t : Bool). t && eqb (key_of s k) key) (lt-ltb k (price_count s) l)) ∙ e) in
            let most = w.over l in
            omega arith

        other : (j : ℕ) → j < price_count s → key_of s j ≡ key → (t : Bool) → ltb j k ≡ t → ⊥
        other j l f true i = let low = w.under j (ltb-true j k i) in omega arith
        other j l f false i = up (eqb j k) refl
          where
            up : (t : Bool) → eqb j k ≡ t → ⊥
            up true q =
                let same = eqb-true j k q in
                let high = above (omega arith) in
                omega (arith, ap (key_of s) same)
            up false q =
                let apart = eqb-false j k q in
                let past = ltb-false j k i in
                let high = above (omega arith) in
                omega (arith, keys-rise k j (omega arith) l)

  percent-at : (k : ℕ) → k < price_count s → (price_at s (price_size * k)).percent ≤ most_percent
  unfolding ok_price price_at
  percent-at k l = let e = ok_at s good k l in leb-true _ most_percent (search ands)

  -- its fields are in range
  pub in-range : {p : Price} {k : ℕ} → k < price_count s → price_in p ≡ price_at s (price_size * k) → InRange p
  in-range {p} {k} l e = record {
    cents = omega (arith, cents-at s good k l, ap (λ (x : model.Price). x.cents) e);
    percent = omega (arith, percent-at k l, ap (λ (x : model.Price). x.percent) e);
  }
