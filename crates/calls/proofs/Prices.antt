-- Prices of calls: a price call is the model's by its contract, and so are readings, openings and plays; so what is proved of the model's price
-- holds of what the call answered.
use Prim.Native.Nat.{ℕ}
use mathlib.Core.Path.{◌≡◌, refl, ap, sym, subst, ◌∙◌}
use mathlib.Core.List.{List}
use Rattle.lists.specs.Tests.{clash}
use Rattle.model.specs.Directory.{shape_of}
use Rattle.model.specs.Answers.{Answer, done, refused}
use Rattle.model.specs.Pricing.{prices_in, price}
use Rattle.model.specs.Run.{Run}
use Rattle.model.specs.Histories.{is_refused}
use Rattle.model.specs.PriceClaims.{SumOf, PricedAsRun}
use Rattle.claims.proofs.Prices.{price-of-readings-for, price-of-run-for, price-fits-for, prices-exactly-for, lowest-key-for}
use Rattle.answers.specs.Refusals.{checked_in}
use Rattle.records.specs.declared.Record.{Record}
use Rattle.records.specs.Record.{replica_in}
use Rattle.pricing.specs.Walks.{priced_in}
use Rattle.calls.specs.Values.{scratch, Kept, carry}
use Rattle.calls.specs.Prices.{PriceCall, Answered, CallsPriceOfReadings, CallsPriceOfRun, CallsPriceFits, CallsPriceExactly, CallsLowestKey}
use Rattle.calls.proofs.Promises.{read-promise}
use Rattle.calls.proofs.Histories.{history, ran-so}
use Rattle.calls.proofs.Behave.{passed, opened-so, plays-so}
use Rattle.std.specs.Prelude.{Result, Ok, Err}
use Rattle.answers.specs.declared.Refusal as code
use Rattle.pricing.specs.declared.lines.Sum.{Sum}

module _ (d : List ℕ) (k : Kept) (o : ℕ) (s : List ℕ) (c : PriceCall d k o s) where
  price-promise : priced_in c.call.answer ≡ price (shape_of d) (replica_in k.replica) k.table o s
  price-promise =
      c.call.learnt
      ∙ ap (λ (x : List ℕ). price (shape_of x) (replica_in c.call.given.1.0) c.call.given.1.1.0.now c.call.given.1.1.1.0.0 c.call.given.1.1.1.1.0.now) c.dir
      ∙ ap (λ (r : Record). price (shape_of d) (replica_in r) c.call.given.1.1.0.now c.call.given.1.1.1.0.0 c.call.given.1.1.1.1.0.now) c.replica
      ∙ ap (λ (t : List ℕ). price (shape_of d) (replica_in k.replica) t c.call.given.1.1.1.0.0 c.call.given.1.1.1.1.0.now) c.table
      ∙ ap (λ (x : ℕ). price (shape_of d) (replica_in k.replica) k.table x c.call.given.1.1.1.1.0.now) c.object
      ∙ ap (price (shape_of d) (replica_in k.replica) k.table o) c.prices

  -- a total that was answered is the model's, and the other way round
  done-so : (t : ℕ) → Answered c t → price (shape_of d) (replica_in k.replica) k.table o s ≡ done t
  done-so t a = sym price-promise ∙ ap priced_in a.answer ∙ ap (λ (n : ℕ). done n) a.number

  so-done : (t : ℕ) → price (shape_of d) (replica_in k.replica) k.table o s ≡ done t → Answered c t
  so-done t e = go c.call.answer refl
    where
      number : Answer ℕ → ℕ
      number (done n) = n
      number (refused r) = 0

      go : (x : Result Sum code.Refusal) → c.call.answer ≡ x → Answered c t
      go (Ok total) i = record { high = total.high; low = total.low; answer = i; number = ap number (ap priced_in (sym i) ∙ price-promise ∙ e) }
      go (Err r) i = clash (is_refused (priced_in (Err r))) refl (ap is_refused (ap priced_in (sym i) ∙ price-promise ∙ e))

pub calls-price-of-readings : CallsPriceOfReadings
calls-price-of-readings d k o s c t a =
    let w = price-of-readings-for d (replica_in k.replica) k.table o s t (done-so d k o s c t a) in
    record { priced = w; shown = λ key l r. read-promise d k o key r ∙ w.readings.shown key l }

pub calls-price-of-run : CallsPriceOfRun
calls-price-of-run a audit d k opens last ps o s c t e =
    let w = opened-so a k opens in
    let p = plays-so a k last ps in
    let m : PricedAsRun (shape_of a.dir) (history a) (carry last) o s t =
    price-of-run-for a.dir (history a) (scratch audit) (passed a audit (ap checked_in d)) w.0 (carry k) w.1 p.0 (carry last) (sym p.1) o s t (done-so a.dir last o s c t e) in
    record {
      map = m.map;
      lines = subst (λ (x : Run). SumOf (prices_in s) m.map.object.highest (x.cells o) t) (ran-so a last.replica.position) m.lines;
    }

pub calls-price-fits : CallsPriceFits
calls-price-fits d k o s bytes c t a = price-fits-for d (replica_in k.replica) k.table o s t bytes (done-so d k o s c t a)

pub calls-price-exactly : CallsPriceExactly
calls-price-exactly d k o s c =
    let w = prices-exactly-for d (replica_in k.replica) k.table o s in (
      λ x. w.0 (x.0, done-so d k o s c x.0 x.1),
      λ u. let y = w.1 u in (y.0, so-done d k o s c y.0 y.1),
    )

pub calls-lowest-key : CallsLowestKey
calls-lowest-key d k o s c x =
    let w = lowest-key-for d (replica_in k.replica) k.table o s x in
    (λ e. w.0 (sym (price-promise d k o s c) ∙ e), λ u. price-promise d k o s c ∙ w.1 u)
