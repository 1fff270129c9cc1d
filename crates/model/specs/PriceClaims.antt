-- What is claimed of prices, as types: over what cell reading shows, key by key, and by no walk over a table's rows (specification §18, 17.21).
use Rattle.std.specs.Prelude.{ℕ, zero, suc, ◌+◌, ◌-◌, ◌*◌, ◌^◌, ◌<◌, ◌≤◌, ◌≡◌, ◌↔◌, true, length}
use mathlib.Core.List.{List, Memᴰ}
use Rattle.std.proofs.Math.Option.{Option, none, some}
use Rattle.lists.specs.Bytes.{be_at}
use Rattle.lists.specs.Sets.{mem}
use Rattle.model.specs.Objects.{a_map, Object, Shape, hosted}
use Rattle.model.specs.Entries.{Held, if_some}
use Rattle.model.specs.Table.{cells_of, capacity}
use Rattle.model.specs.Answers.{Refusal, done, refused}
use Rattle.model.specs.Append.{Replica}
use Rattle.model.specs.Replica.{read_cell}
use Rattle.model.specs.Pricing.{price_size, mark_price, most_cents, most_percent, Price, prices_in, price, high_part, low_part}
use Rattle.model.specs.Histories.{History, ran_to, Passed, Carried, Opening, opened, Play, plays}
use Rattle.model.specs.Terms.{Directed, Listed, InOrder}
use Rattle.model.specs.Claims.{Bytes}

-- ---- in words

-- o is an object of the directory, and a map: its keys are 0 to the highest
pub record MapOf (sh : Shape) (o : ℕ) : Type 0 where
  pub object : Object
  pub listed : Memᴰ object sh.objects
  pub itself : object.id ≡ o
  pub map : object.kind ≡ a_map

-- the record at byte i of a list of prices
pub record PriceRecord (s : List ℕ) (i : ℕ) : Type 0 where
  pub mark : be_at 2 s i ≡ mark_price
  pub zeros : be_at 2 s (i + 2) ≡ 0
  pub cents : be_at 4 s (i + 8) ≤ most_cents
  pub percent : be_at 4 s (i + 16) ≤ most_percent

-- whole records, each within its rules, with keys that ascend strictly
pub record GoodPrices (s : List ℕ) : Type 0 where
  pub count : ℕ
  pub whole : length s ≡ price_size * count
  pub each : (k : ℕ) → k < count → PriceRecord s (price_size * k)
  pub ascend : (k : ℕ) → suc k < count → be_at 4 s (price_size * k + 4) < be_at 4 s (price_size * suc k + 4)

-- one of the records is of the key
abbrev pub HasPrice : List Price → ℕ → Type 0
HasPrice ps k = (p : Price) × Memᴰ p ps × (p.key ≡ k)

-- the quantity that a cell shows: its value, 0 where it was never written or is removed
abbrev pub quantity_in : Option Held → ℕ
quantity_in none = 0
quantity_in (some h) = if_some h.content 0 (λ v. v)

-- x is the whole number nearest to n hundredths, the upper one of two
pub record Nearest (n x : ℕ) : Type 0 where
  pub above : 100 * x ≤ n + 50
  pub below : n < 100 * x + 50

-- what a key with this quantity adds to the total: nothing for 0, else its line
pub data Adds (ps : List Price) (k q x : ℕ) : Type 0 where
  nothing : q ≡ 0 → x ≡ 0 → Adds ps k q x
  full : (p : Price) → Memᴰ p ps → p.key ≡ k → 1 ≤ q → q < p.from → x ≡ q * p.cents → Adds ps k q x
  lowered : (p : Price) → Memᴰ p ps → p.key ≡ k → 1 ≤ q → p.from ≤ q → Nearest (q * p.cents * (100 - p.percent)) x → Adds ps k q x

-- the sum of f over the numbers below n
abbrev pub summed : (ℕ → ℕ) → ℕ → ℕ
summed f zero = 0
summed f (suc n) = summed f n + f n

-- t is the sum, over the keys 0 to the highest, of what each adds that holds this
pub record SumOf (ps : List Price) (highest : ℕ) (holds : ℕ → Option Held) (t : ℕ) : Type 0 where
  pub line : ℕ → ℕ
  pub each : (k : ℕ) → k ≤ highest → Adds ps k (quantity_in (holds k)) (line k)
  pub sum : t ≡ summed line (suc highest)

-- ---- the claims

-- what cell reading shows of the keys of a map
pub record Readings (sh : Shape) (r : Replica) (table : List ℕ) (o highest : ℕ) : Type 0 where
  pub holds : ℕ → Option Held
  pub shown : (k : ℕ) → k ≤ highest → read_cell sh r table o k ≡ done (holds k)

-- a total, by readings
pub record PricedBy (sh : Shape) (r : Replica) (table : List ℕ) (o : ℕ) (s : List ℕ) (t : ℕ) : Type 0 where
  pub map : MapOf sh o
  pub readings : Readings sh r table o map.object.highest
  pub lines : SumOf (prices_in s) map.object.highest readings.holds t

-- Whatever record and table the call accepts, the total is the sum over the keys of the lines of what cell reading shows.
abbrev pub PriceOfReadings : Shape → Type 0
PriceOfReadings sh = (r : Replica) (table : List ℕ) (o : ℕ) (s : List ℕ) (t : ℕ) → price sh r table o s ≡ done t → PricedBy sh r table o s t

-- So for a replica of demand 3 it is the price of the run's cells at its position.
pub record PricedAsRun (sh : Shape) (h : History) (r : Carried) (o : ℕ) (s : List ℕ) (t : ℕ) : Type 0 where
  pub map : MapOf sh o
  pub lines : SumOf (prices_in s) map.object.highest ((ran_to sh h r.replica.position).cells o) t

abbrev pub PriceOfRun : Shape → Type 0
PriceOfRun sh = (h : History) (scratch : List ℕ) → Passed sh h scratch
    → (opening : Opening) (r : Carried) → opened sh h opening ≡ some r
    → (ps : List Play) (x : Carried) → x ≡ plays sh h r ps
    → (o : ℕ) (s : List ℕ) (t : ℕ) → price sh x.replica x.table o s ≡ done t → PricedAsRun sh h x o s t

-- Of a table of bytes the total has two parts of 64 bits, which are the number.
pub record TwoParts (t : ℕ) : Type 0 where
  pub high : high_part t < 2 ^ 64
  pub low : low_part t < 2 ^ 64
  pub number : high_part t * 2 ^ 64 + low_part t ≡ t

abbrev pub PriceFits : Shape → Type 0
PriceFits sh = (r : Replica) (table : List ℕ) (o : ℕ) (s : List ℕ) (t : ℕ) → Bytes table → price sh r table o s ≡ done t → TwoParts t

-- the record and its table are fit, the object is a hosted map, and the prices are good: neither 15, 10 nor 3 stops the call
pub record PriceAsked (sh : Shape) (r : Replica) (table : List ℕ) (o : ℕ) (s : List ℕ) : Type 0 where
  pub directed : Directed sh
  pub hosting : r.hosting ≡ 0 → ⊥
  pub listed : Listed sh r.hosting
  pub counted : r.count ≤ capacity table
  pub ordered : InOrder (cells_of table r.count)
  pub hosts : mem o (hosted sh r.hosting) ≡ true
  pub map : MapOf sh o
  pub prices : GoodPrices s

-- cell reading shows a quantity over 0 for the key: it is a line
pub record LineShown (sh : Shape) (r : Replica) (table : List ℕ) (o k : ℕ) : Type 0 where
  pub held : Option Held
  pub shown : read_cell sh r table o k ≡ done held
  pub some : 1 ≤ quantity_in held

-- the call is done exactly where, besides, every line has a price
pub record PriceAllowed (sh : Shape) (r : Replica) (table : List ℕ) (o : ℕ) (s : List ℕ) : Type 0 where
  pub asked : PriceAsked sh r table o s
  pub priced : (k : ℕ) → LineShown sh r table o k → HasPrice (prices_in s) k

abbrev pub PricesExactly : Shape → Type 0
PricesExactly sh = (r : Replica) (table : List ℕ) (o : ℕ) (s : List ℕ)
    → ((t : ℕ) × (price sh r table o s ≡ done t)) ↔ PriceAllowed sh r table o s

-- 19 is answered exactly where some line has no price, and tells the lowest key of such a line
pub record LowestUnpriced (sh : Shape) (r : Replica) (table : List ℕ) (o : ℕ) (s : List ℕ) (k : ℕ) : Type 0 where
  pub asked : PriceAsked sh r table o s
  pub line : LineShown sh r table o k
  pub unpriced : HasPrice (prices_in s) k → ⊥
  pub lower : (j : ℕ) → j < k → LineShown sh r table o j → HasPrice (prices_in s) j

abbrev pub no_price : ℕ → Refusal
no_price k = record { number = 19; told = some k }

abbrev pub LowestKey : Shape → Type 0
LowestKey sh = (r : Replica) (table : List ℕ) (o : ℕ) (s : List ℕ) (k : ℕ)
    → (price sh r table o s ≡ refused (no_price k)) ↔ LowestUnpriced sh r table o s k
