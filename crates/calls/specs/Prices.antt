-- Prices, as types over calls as values: the total is that of what reading calls answer, and for a replica of demand 3 that of the run's cells;
-- it fits; which calls are done; and the key that 19 tells.
use Rattle.std.specs.Prelude.{ℕ, ◌+◌, ◌*◌, ◌^◌, ◌≤◌, ◌≡◌, ◌↔◌, List, Ok}
use Rattle.model.specs.Directory.{shape_of}
use Rattle.model.specs.Answers.{done, refused}
use Rattle.model.specs.Pricing.{prices_in}
use Rattle.model.specs.Claims.{Bytes}
use Rattle.model.specs.PriceClaims.{MapOf, SumOf, PricedBy, TwoParts, PriceAllowed, LowestUnpriced, no_price}
use Rattle.records.specs.Record.{replica_in}
use Rattle.replica.specs.Answers.{read_in}
use Rattle.pricing.specs.Walks.{priced_in}
use Rattle.pricing.proofs.call.price.Kinds as price-kinds
use Rattle.pricing.proofs.call.price.Reads as price-reads
use Rattle.calls.specs.Values.{Call, Appends, last_log, ran, AuditCall, Kept, Opens, Plays, ReadCall}

-- a price of a map of a replica
pub record PriceCall (d : List ℕ) (k : Kept) (o : ℕ) (s : List ℕ) : Type 0 where
  pub call : Call price-kinds.ps price-kinds.r price-reads.Learnt
  pub dir : call.given.0.now ≡ d
  pub replica : call.given.1.0 ≡ k.replica
  pub table : call.given.1.1.0.now ≡ k.table
  pub object : call.given.1.1.1.0.0 ≡ o
  pub prices : call.given.1.1.1.1.0.now ≡ s

-- it answered a total, in two parts that make this number
pub record Answered {d : List ℕ} {k : Kept} {o : ℕ} {s : List ℕ} (c : PriceCall d k o s) (t : ℕ) : Type 0 where
  pub high : ℕ
  pub low : ℕ
  pub answer : c.call.answer ≡ Ok (record { high = high; low = low })
  pub number : high * 2 ^ 64 + low ≡ t

-- the total is the sum over the keys of the lines of what readings of the same replica answer
pub record ByReadings (d : List ℕ) (k : Kept) (o : ℕ) (s : List ℕ) (t : ℕ) : Type 0 where
  pub priced : PricedBy (shape_of d) (replica_in k.replica) k.table o s t
  pub shown : (key : ℕ) → key ≤ priced.map.object.highest → (r : ReadCall d k o key) → read_in r.call.answer ≡ done (priced.readings.holds key)

abbrev pub CallsPriceOfReadings : Type 0
CallsPriceOfReadings = (d : List ℕ) (k : Kept) (o : ℕ) (s : List ℕ) (c : PriceCall d k o s) (t : ℕ) → Answered c t → ByReadings d k o s t

-- for a replica of demand 3 it is the price of the run's cells at its position
pub record AsRun (a : Appends) (k : Kept) (o : ℕ) (s : List ℕ) (t : ℕ) : Type 0 where
  pub map : MapOf (shape_of a.dir) o
  pub lines : SumOf (prices_in s) map.object.highest ((ran a k.replica.position).cells o) t

abbrev pub CallsPriceOfRun : Type 0
CallsPriceOfRun = (a : Appends) (audit : AuditCall a.dir (last_log a)) → audit.call.answer.answer ≡ (Ok tt)
    → (k : Kept) → Opens a k → (last : Kept) → Plays a k last
    → (o : ℕ) (s : List ℕ) (c : PriceCall a.dir last o s) (t : ℕ) → Answered c t → AsRun a last o s t

abbrev pub CallsPriceFits : Type 0
CallsPriceFits = (d : List ℕ) (k : Kept) (o : ℕ) (s : List ℕ) → Bytes k.table → (c : PriceCall d k o s) (t : ℕ) → Answered c t → TwoParts t

-- a total is answered exactly where nothing refuses
abbrev pub CallsPriceExactly : Type 0
CallsPriceExactly = (d : List ℕ) (k : Kept) (o : ℕ) (s : List ℕ) (c : PriceCall d k o s)
    → ((t : ℕ) × Answered c t) ↔ PriceAllowed (shape_of d) (replica_in k.replica) k.table o s

-- 19 exactly where a line has no price, with the lowest key of such a line
abbrev pub CallsLowestKey : Type 0
CallsLowestKey = (d : List ℕ) (k : Kept) (o : ℕ) (s : List ℕ) (c : PriceCall d k o s) (x : ℕ)
    → (priced_in c.call.answer ≡ refused (no_price x)) ↔ LowestUnpriced (shape_of d) (replica_in k.replica) k.table o s x
