-- The walk down the rows beside the prices: what a step promises, and what is left to walk has the answer.
use Rattle.std.specs.Prelude.{ℕ, suc, ◌+◌, ◌-◌, ◌*◌, ◌^◌, ◌≤◌, ◌<◌, ◌≡◌, refl, Bool, true, false, ◌&&◌, eqb, ltb, length, Ok, Err}
use Rattle.std.proofs.Math.Path.{ap, sym}
use Rattle.std.proofs.Common.{◌∙◌, arith, ltb-true}
use Rattle.std.proofs.Math.Bool.{cond}
use mathlib.Core.List.{List, [], ◌∷◌}
use Rattle.std.proofs.Math.Option.{Option, none, some}
use Rattle.lists.specs.Tests.{and_l, both}
use Rattle.lists.specs.Rows.{values}
use Rattle.model.specs.Entries.{if_some, is_none}
use Rattle.model.specs.Table.{Cell, cell_at, cell_size}
use Rattle.model.specs.Answers.{Answer, done, refused, refuse_at, answer}
use Rattle.model.specs.Pricing.{price_size, Price, price_at, price_count, prices_in, bad_prices, line_of, price_of}
use Rattle.answers.specs.Refusals.{refusal_in, Answered}
use Rattle.answers.specs.declared.Refusal.{Refusal}
use Rattle.answers.specs.declared.Refusal.TheVariants.{NoPrice}
use Rattle.table.specs.Order.{rows_of}
use Rattle.pricing.specs.declared.prices.Price as code
use Rattle.pricing.specs.declared.lines.Sum.{Sum}
use Rattle.pricing.specs.declared.walk.Tally.{Tally}
use Rattle.pricing.specs.Prices.{price_in, key_of, InRange, Under, Sought, price-found, price-missing, in-range}
use Rattle.pricing.specs.Sums.{sum_of}
use Rattle.pricing.specs.Rows.{is_summed, line_by, lacks_by, sum_in, lack_in}

abbrev pub priced_in : Answered Sum → Answer ℕ
priced_in (Ok total) = done (sum_of total)
priced_in (Err r) = refused (refusal_in r)

abbrev pub row_key : List ℕ → ℕ → ℕ
row_key t i = (cell_at t (cell_size * i)).key

-- ---- a step

pub record StepGiven (s : List ℕ) (w : Tally) (c : Cell) : Type 0 where
  pub good : bad_prices s ≡ false
  pub under : Under s w.place c.key
  pub small : w.sum.high + 1 < 2 ^ 64

-- the row does not lack a price; its line is added
pub record Moved (s : List ℕ) (highest : ℕ) (w : Tally) (c : Cell) (v : Tally) : Type 0 where
  pub priced : lacks_by highest (prices_in s) c ≡ false
  pub sum : sum_of v.sum ≡ sum_of w.sum + line_by highest (prices_in s) c
  pub carry : v.sum.high ≤ w.sum.high + 1
  pub under : Under s v.place c.key

-- it does
pub record Lacks (s : List ℕ) (highest : ℕ) (c : Cell) (r : Refusal) : Type 0 where
  pub lacks : lacks_by highest (prices_in s) c ≡ true
  pub key : r ≡ NoPrice c.key

abbrev pub SteppedSo : List ℕ → ℕ → Tally → Cell → Answered Tally → Type 0
SteppedSo s highest w c (Ok v) = Moved s highest w c v
SteppedSo s highest w c (Err r) = Lacks s highest c r

pub record Stepped (s : List ℕ) (highest : ℕ) (w : Tally) (c : Cell) (x : Answered Tally) : Type 0 where
  pub so : SteppedSo s highest w c x

-- the price of key x stands at place k
abbrev pub is_there : List ℕ → ℕ → ℕ → Bool
is_there s k x = ltb k (price_count s) && eqb (key_of s k) x

-- the row is a line, and its price stands at place k
pub record LineAt (s : List ℕ) (highest : ℕ) (c : Cell) (k : ℕ) : Type 0 where
  pub line : is_summed highest c ≡ true
  pub sought : Sought s c.key k
  pub place : k < price_count s
  pub found : price_of (prices_in s) c.key ≡ some (price_at s (price_size * k))

module _ (highest : ℕ) {s : List ℕ} {w : Tally} {c : Cell} (given : StepGiven s w c) where
  -- a row that is no line; t is the test's result
  pub step_past : {t : Bool} → t ≡ is_summed highest c → t ≡ false → Stepped s highest w c (Ok w)
  step_past {t} e n =
      let out : is_summed highest c ≡ false = sym e ∙ n in
      record {
        so = record {
          priced = ap (λ (b : Bool). b && is_none (price_of (prices_in s) c.key)) out;
          sum = omega (arith, ap (λ (b : Bool). cond b (if_some (price_of (prices_in s) c.key) 0 (line_of c.value)) 0) out);
          carry = omega arith;
          under = given.under;
        };
      }

  -- a line without a price; u is whether its price stands at place k
  pub step-lacks : {t : Bool} → t ≡ is_summed highest c → t ≡ true → {k : ℕ} → Sought s c.key k → {u : Bool} → u ≡ is_there s k c.key → u ≡ false → Stepped s highest w c (Err (NoPrice c.key))
  step-lacks {t} e n sought {u} told m =
      record { so = record { lacks = both (sym e ∙ n) (ap is_none (price-missing s given.good sought (sym told ∙ m))); key = refl } }

  -- a line with its price
  pub line_at : {t : Bool} → t ≡ is_summed highest c → t ≡ true → {k : ℕ} → Sought s c.key k → {u : Bool} → u ≡ is_there s k c.key → u ≡ true → LineAt s highest c k
  line_at {t} e n {k} sought {u} told m =
      let there : is_there s k c.key ≡ true = sym told ∙ m in
      record {
        line = sym e ∙ n;
        sought = sought;
        place = ltb-true k (price_count s) (and_l (ltb k (price_count s)) (eqb (key_of s k) c.key) there);
        found = price-found s given.good sought there;
      }

  pub line-range : {k : ℕ} → LineAt s highest c k → {p : code.Price} → price_in p ≡ price_at s (price_size * k) → InRange p
  line-range l = in-range s given.good l.place

  pub step-on : {k : ℕ} → LineAt s highest c k → {p : code.Price} → price_in p ≡ price_at s (price_size * k) → {x : ℕ} → x ≡ line_of c.value (price_in p) → {sum : Sum}
      → sum_of sum ≡ sum_of w.sum + x → sum.high ≤ w.sum.high + 1
      → Stepped s highest w c (Ok (record { place = k; sum = sum }))
  step-on l i {x} line f h =
      let whole : line_by highest (prices_in s) c ≡ x =
      (λ j. cond (l.line j) (if_some (l.found j) 0 (line_of c.value)) 0) ∙ ap (line_of c.value) (sym i) ∙ sym line in
      record {
        so = record {
          priced = λ j. l.line j && is_none (l.found j);
          sum = omega (arith, f, whole);
          carry = h;
          under = record { few = l.sought.few; under = l.sought.under };
        };
      }

-- ---- the walk

-- the rows lie in the table, their keys rise, and the prices are good
pub record WalkGiven (t : List ℕ) (first n : ℕ) (s : List ℕ) : Type 0 where
  pub room : cell_size * (first + n) ≤ length t
  pub rise : (i j : ℕ) → first ≤ i → i < j → j < first + n → row_key t i < row_key t j
  pub good : bad_prices s ≡ false

-- after i rows: what is left has the answer, and the prices that were passed are below every row that is left
pub record Walking (t : List ℕ) (first n highest : ℕ) (s : List ℕ) (i : ℕ) (w : Tally) : Type 0 where
  pub passed : i ≤ n
  pub sum : sum_in highest (prices_in s) (rows_of t first n) ≡ sum_of w.sum + sum_in highest (prices_in s) (rows_of t (first + i) (n - i))
  pub lacks : lack_in highest (prices_in s) (rows_of t first n) ≡ lack_in highest (prices_in s) (rows_of t (first + i) (n - i))
  pub carry : w.sum.high ≤ i
  pub few : w.place ≤ price_count s
  pub under : (p : ℕ) → first + i ≤ p → p < first + n → (j : ℕ) → j < w.place → key_of s j < row_key t p

-- one row taken off
rows-off : (t : List ℕ) (first n i : ℕ) → i < n → rows_of t (first + i) (n - i) ≡ cell_at t (cell_size * (first + i)) ∷ rows_of t (first + (i + 1)) (n - (i + 1))
unfolding rows_of values
rows-off t first n i l =
    let e : n - i ≡ suc (n - (i + 1)) = omega arith in
    let f : suc (first + i) ≡ first + (i + 1) = omega arith in
    ap (rows_of t (first + i)) e ∙ ap (λ (m : ℕ). cell_at t (cell_size * (first + i)) ∷ rows_of t m (n - (i + 1))) f

module _ (t : List ℕ) (first n highest : ℕ) (s : List ℕ) where
  abbrev ps : List Price
  ps = prices_in s

  pub walking-none : Walking t first n highest s 0 (record { place = 0; sum = record { high = 0; low = 0 } })
  walking-none =
      let same : rows_of t first n ≡ rows_of t (first + 0) (n - 0) = (let e : first ≡ first + 0 = omega arith in let f : n ≡ n - 0 = omega arith in λ j. rows_of t (e j) (f j)) in
      record {
        passed = omega arith;
        sum = omega (arith, ap (sum_in highest ps) same);
        lacks = ap (lack_in highest ps) same;
        carry = omega arith;
        few = omega arith;
        under = λ p l h j m. absurd (omega arith);
      }

  module _ {i : ℕ} {w : Tally} (k : Walking t first n highest s i w) where
    module _ (given : WalkGiven t first n s) {c : Cell} (row : c ≡ cell_at t (cell_size * (first + i))) (l : i < n) where
      at_row : rows_of t (first + i) (n - i) ≡ c ∷ rows_of t (first + (i + 1)) (n - (i + 1))
      at_row = rows-off t first n i l ∙ ap (λ (x : Cell). x ∷ rows_of t (first + (i + 1)) (n - (i + 1))) (sym row)

      key-is : c.key ≡ row_key t (first + i)
      key-is = ap (λ (x : Cell). x.key) row

      pub step_given : n < 2 ^ 64 → StepGiven s w c
      step_given small = record {
        good = given.good;
        under = record { few = k.few; under = λ j m. omega (arith, k.under (first + i) (omega arith) (omega arith) j m, key-is) };
        small = omega (arith, k.carry);
      }

      pub walking_on : {v : Tally} → Moved s highest w c v → Walking t first n highest s (i + 1) v
      unfolding sum_in lack_in
      walking_on {v} m = record {
        passed = omega arith;
        sum = omega (arith, k.sum, ap (sum_in highest ps) at_row, m.sum);
        lacks = k.lacks ∙ ap (lack_in highest ps) at_row ∙ ap (λ (b : Bool). cond b (some c.key) (lack_in highest ps (rows_of t (first + (i + 1)) (n - (i + 1))))) m.priced;
        carry = omega (arith, k.carry, m.carry);
        few = m.under.few;
        under = λ p a b j q. omega (arith, m.under.under j q, given.rise (first + i) p (omega arith) (omega arith) b, key-is);
      }

      -- the row lacks a price, and none before it
      pub walking-lacks : {r : Refusal} → Lacks s highest c r → priced_in (Err r) ≡ answer (refuse_at 19 (lack_in highest ps (rows_of t first n))) (sum_in highest ps (rows_of t first n))
      unfolding lack_in
      walking-lacks {r} m =
          let found : lack_in highest ps (rows_of t first n) ≡ some c.key =
          k.lacks ∙ ap (lack_in highest ps) at_row ∙ ap (λ (b : Bool). cond b (some c.key) (lack_in highest ps (rows_of t (first + (i + 1)) (n - (i + 1))))) m.lacks in
          ap (λ (x : Refusal). priced_in (Err x)) m.key ∙ sym (ap (λ (y : Option ℕ). answer (refuse_at 19 y) (sum_in highest ps (rows_of t first n))) found)

    -- all rows have been walked
    pub walking-all : n ≤ i → priced_in (Ok w.sum) ≡ answer (refuse_at 19 (lack_in highest ps (rows_of t first n))) (sum_in highest ps (rows_of t first n))
    unfolding sum_in lack_in rows_of values
    walking-all l =
        let e : n - i ≡ 0 = omega (arith, k.passed) in
        let none_left : rows_of t (first + i) (n - i) ≡ [] = ap (rows_of t (first + i)) e in
        let found : lack_in highest ps (rows_of t first n) ≡ none = k.lacks ∙ ap (lack_in highest ps) none_left in
        let whole : sum_of w.sum ≡ sum_in highest ps (rows_of t first n) = omega (arith, k.sum, ap (sum_in highest ps) none_left) in
        ap (λ (m : ℕ). done m) whole ∙ sym (ap (λ (y : Option ℕ). answer (refuse_at 19 y) (sum_in highest ps (rows_of t first n))) found)
