-- What is claimed of prices. A call is done, or answers 19, exactly where the tests before say so and the rows' lines have their prices; rows
-- are what cell reading shows (`Lines`). For any good shape, and for the bytes of any directory.
use Prim.Native.Nat.{ℕ, suc, ◌+◌, ◌*◌, ◌/◌, ◌%◌, ◌^◌, ◌≤◌, ◌<◌}
use mathlib.Core.Path.{◌≡◌, refl, ap, sym, subst, ◌∙◌}
use mathlib.Core.Bool.{Bool, true, false, cond, not, ◌&&◌}
use mathlib.Core.List.{List, [], ◌∷◌, Memᴰ}
use mathlib.Core.Option.{Option, none, some}
use native.Mathlib.Omega.{arith}
use borrow.Author.Tests.{ltb-true, ltb-false, lt-ltb, le-ltb, le-leb, not-false}
use lib.Dec.{eqb, ltb}
use Rattle.lists.specs.Tests.{and_l, and_r, ands, ors, both, neither, clash}
use Rattle.lists.specs.Sets.{all, mem}
use Rattle.model.specs.Objects.{Shape, is_map, is_cell, hosted}
use Rattle.model.specs.Entries.{Held, if_some, is_none}
use Rattle.model.specs.Slot.{ok_shape}
use Rattle.model.specs.Directory.{shape_of}
use Rattle.model.specs.Table.{Cell, cells_of, capacity, is_of, lookup, in_order}
use Rattle.model.specs.Answers.{Refusal, Answer, done, refused, refuse, refuse_at, first_of, answer}
use Rattle.model.specs.Append.{Replica, bad_record}
use Rattle.model.specs.Replica.{read_cell}
use Rattle.model.specs.Pricing.{most_cents, Price, prices_in, line_of, price_of, unpriced, total, bad_order, price}
use Rattle.model.specs.Histories.{is_refused, ran_to}
use Rattle.model.specs.Claims.{Shows}
use Rattle.model.specs.PriceClaims.{HasPrice, quantity_in, Adds, PricedBy, PriceOfReadings, PriceOfRun, TwoParts, PriceFits, PriceAsked, LineShown, PriceAllowed, PricesExactly, LowestUnpriced, no_price, LowestKey}
use Rattle.model.specs.Worked.{code, tells}
use Rattle.laws.proofs.Directory.{set_words, words-set}
use Rattle.laws.proofs.Records.{good-shape}
use Rattle.laws.proofs.Items.{fits_cell}
use Rattle.laws.proofs.Tables.{cells_fit}
use Rattle.laws.proofs.Prices.{most_line, line-most, price-in, in-price, cents-most}
use Rattle.claims.proofs.Terms.{order-words, words-order}
use Rattle.claims.proofs.PriceWords.{map-words, words-map, keys-are, highest-small, prices-words, words-prices}
use Rattle.claims.proofs.Sums.{summed-most}
use Rattle.claims.proofs.Lines.{line_at, adds-line, line_in, lacks_at, total-sum, none-lacks, told-lacks, lower-priced}
use Rattle.claims.proofs.Demand3.{told, demand3}
use Rattle.claims.proofs.Handed.{passed-directed}

-- ---- the tests of a call

abbrev tests : Option ℕ → Bool → Bool → Option ℕ → Option Refusal
tests fault unfit bad lacks = first_of (refuse_at 15 fault ∷ refuse 10 unfit ∷ refuse 3 bad ∷ refuse_at 19 lacks ∷ [])

-- those before 19 pass, and a line without a price is found or not
record Found (fault : Option ℕ) (unfit bad : Bool) (lacks found : Option ℕ) : Type 0 where
  directed : fault ≡ none
  fit : unfit ≡ false
  asked : bad ≡ false
  here : lacks ≡ found

done-found : (f : Option ℕ) (a b : Bool) (u : Option ℕ) (x t : ℕ) → answer (tests f a b u) x ≡ done t → Found f a b u none × (x ≡ t)
done-found (some k) a b u x t e = clash true refl (ap is_refused e)
done-found none true b u x t e = clash true refl (ap is_refused e)
done-found none false true u x t e = clash true refl (ap is_refused e)
done-found none false false (some k) x t e = clash true refl (ap is_refused e)
done-found none false false none x t e = (record { directed = refl; fit = refl; asked = refl; here = refl }, cc)

told-found : (f : Option ℕ) (a b : Bool) (u : Option ℕ) (x k : ℕ) → answer (tests f a b u) x ≡ refused (no_price k) → Found f a b u (some k)
told-found (some j) a b u x k e = let z : ◌≡◌ {A = ℕ} 15 19 = ap code e in absurd (omega arith)
told-found none true b u x k e = let z : ◌≡◌ {A = ℕ} 10 19 = ap code e in absurd (omega arith)
told-found none false true u x k e = let z : ◌≡◌ {A = ℕ} 3 19 = ap code e in absurd (omega arith)
told-found none false false none x k e = clash false (ap is_refused e) refl
told-found none false false (some j) x k e = record { directed = refl; fit = refl; asked = refl; here = ap tells e }

found-so : (f : Option ℕ) (a b : Bool) (u v : Option ℕ) → Found f a b u v → tests f a b u ≡ refuse_at 19 v
found-so f a b u v w = rw (w.directed, w.fit, w.asked, w.here) (one (refuse_at 19 v))
  where
    one : (x : Option Refusal) → first_of (x ∷ []) ≡ x
    one none = refl
    one (some r) = refl

-- ---- what is asked, and what cell reading shows

module _ (sh : Shape) (r : Replica) (table : List ℕ) (o : ℕ) (s : List ℕ) where
  abbrev cells : List Cell
  cells = cells_of table r.count

  abbrev ps : List Price
  ps = prices_in s

  abbrev lacking : Option ℕ
  lacking = unpriced sh o ps cells

  abbrev Tested : Option ℕ → Type 0
  Tested v = Found sh.fault (bad_record sh r table) (bad_order sh r o s) lacking v

  asked-words : {v : Option ℕ} → Tested v → PriceAsked sh r table o s
  asked-words w =
      let fit = w.fit in
      let asked = w.asked in
      let set = set_words sh r.hosting (search (ors, fit)) in
      let full : ltb (capacity table) r.count ≡ false = search (ors, fit) in
      let ordered : not (in_order cells) ≡ false = search (ors, fit) in
      let of_map : not (mem o (hosted sh r.hosting) && is_map sh o) ≡ false = search (ors, asked) in
      let both_so = not-false _ of_map in
      record {
        directed = w.directed;
        hosting = set.0;
        listed = set.1;
        counted = ltb-false (capacity table) r.count full;
        ordered = order-words cells (not-false _ ordered);
        hosts = and_l (mem o (hosted sh r.hosting)) (is_map sh o) both_so;
        map = map-words sh o (and_r (mem o (hosted sh r.hosting)) (is_map sh o) both_so);
        prices = prices-words s (search (ors, asked));
      }

  module _ (a : PriceAsked sh r table o s) where
    record-fit : bad_record sh r table ≡ false
    record-fit = neither (neither (words-set sh r.hosting a.hosting a.listed) (le-ltb (capacity table) r.count a.counted)) (ap not (words-order cells a.ordered))

    order-good : bad_order sh r o s ≡ false
    order-good = neither (ap not (both a.hosts (words-map sh o a.map))) (words-prices s a.prices)

    tested : (v : Option ℕ) → lacking ≡ v → Tested v
    tested v e = record { directed = a.directed; fit = record-fit; asked = order-good; here = e }

    in_order_lem : in_order cells ≡ true
    in_order_lem = words-order cells a.ordered

    -- cell reading shows what the rows hold
    reads : (k : ℕ) → is_cell sh o k ≡ true → read_cell sh r table o k ≡ done (lookup cells o k)
    unfolding read_cell
    reads k c = rw (record-fit, a.hosts, c, a.directed)

    -- a line without a price is shown, and no shown line with one is
    lacks-shown : (k : ℕ) → lacks_at sh o ps cells k ≡ true → LineShown sh r table o k
    lacks-shown k e =
        let q : ℕ = quantity_in (lookup cells o k) in
        let c : is_cell sh o k ≡ true = search ands in
        let l : ltb 0 q ≡ true = search ands in
        record { held = lookup cells o k; shown = reads k c; some = ltb-true 0 q l }

  lacks-unpriced : (k : ℕ) → lacks_at sh o ps cells k ≡ true → HasPrice ps k → ⊥
  lacks-unpriced k e (p, m, i) = clash (is_none (price_of ps k)) (search ands) (in-price ps k p m i)

  has-price : (k : ℕ) (b : Bool) → is_none (price_of ps k) ≡ b → b ≡ false → HasPrice ps k
  has-price k b e f = go (price_of ps k) refl
    where
      go : (x : Option Price) → price_of ps k ≡ x → HasPrice ps k
      go none i = clash b (sym e ∙ ap is_none i) f
      go (some p) i = let w = price-in ps k p i in (p, w.0, w.1)

  shown-line : (k : ℕ) → LineShown sh r table o k → (is_cell sh o k ≡ true) × (ltb 0 (quantity_in (lookup cells o k)) ≡ true)
  unfolding read_cell
  shown-line k l =
      let t = told sh.fault (bad_record sh r table) (mem o (hosted sh r.hosting) && is_cell sh o k) (lookup cells o k) l.held l.shown in
      (and_r (mem o (hosted sh r.hosting)) (is_cell sh o k) t.0, lt-ltb 0 (quantity_in (lookup cells o k)) (omega (arith, l.some, ap quantity_in t.1)))

  shown-priced : (k : ℕ) → lacks_at sh o ps cells k ≡ false → LineShown sh r table o k → HasPrice ps k
  shown-priced k e l = let w = shown-line k l in has-price k (is_none (price_of ps k)) refl (ap (λ (t : Bool). t && is_none (price_of ps k)) (sym (both w.0 w.1)) ∙ e)

  -- ---- 19

  lowest-so : (k : ℕ) → price sh r table o s ≡ refused (no_price k) → LowestUnpriced sh r table o s k
  unfolding price
  lowest-so k e =
      let w = told-found sh.fault (bad_record sh r table) (bad_order sh r o s) lacking (total sh o ps cells) k e in
      let a = asked-words w in
      let here = told-lacks sh o ps cells (in_order_lem a) k w.here in
      record {
        asked = a;
        line = lacks-shown a k here;
        unpriced = lacks-unpriced k here;
        lower = λ j l. shown-priced j (lower-priced sh o ps cells (in_order_lem a) k w.here j l);
      }

  so-lowest : (k : ℕ) → LowestUnpriced sh r table o s k → price sh r table o s ≡ refused (no_price k)
  unfolding price
  so-lowest k u =
      let a = u.asked in
      ap (λ (x : Option Refusal). answer x (total sh o ps cells)) (found-so sh.fault (bad_record sh r table) (bad_order sh r o s) lacking (some k) (tested a (some k) (found lacking refl)))
    where
      lacks : lacks_at sh o ps cells k ≡ true
      lacks = go (is_none (price_of ps k)) refl
        where
          go : (b : Bool) → is_none (price_of ps k) ≡ b → lacks_at sh o ps cells k ≡ true
          go true e = let w = shown-line k u.line in both (both w.0 w.1) e
          go false e = absurd (u.unpriced (has-price k false e refl))

      found : (x : Option ℕ) → lacking ≡ x → x ≡ some k
      found none e = clash (lacks_at sh o ps cells k) lacks (none-lacks sh o ps cells e k)
      found (some j) e = ap some (go (ltb j k) refl (ltb k j) refl)
        where
          go : (p : Bool) → ltb j k ≡ p → (q : Bool) → ltb k j ≡ q → j ≡ k
          go true p q i =
              let here = told-lacks sh o ps cells (in_order_lem u.asked) j e in
              absurd (lacks-unpriced j here (u.lower j (ltb-true j k p) (lacks-shown u.asked j here)))
          go false p true i = clash (lacks_at sh o ps cells k) lacks (lower-priced sh o ps cells (in_order_lem u.asked) j e k (ltb-true k j i))
          go false p false i = omega (arith, ltb-false j k p, ltb-false k j i)

  -- ---- done

  allowed-so : (t : ℕ) → price sh r table o s ≡ done t → PriceAllowed sh r table o s
  unfolding price
  allowed-so t e =
      let w = (done-found sh.fault (bad_record sh r table) (bad_order sh r o s) lacking (total sh o ps cells) t e).0 in
      record { asked = asked-words w; priced = λ k. shown-priced k (none-lacks sh o ps cells w.here k) }

  so-allowed : PriceAllowed sh r table o s → price sh r table o s ≡ done (total sh o ps cells)
  unfolding price
  so-allowed u =
      ap (λ (x : Option Refusal). answer x (total sh o ps cells)) (found-so sh.fault (bad_record sh r table) (bad_order sh r o s) lacking none (tested u.asked none (nowhere lacking refl)))
    where
      nowhere : (x : Option ℕ) → lacking ≡ x → x ≡ none
      nowhere none e = refl
      nowhere (some j) e =
          let here = told-lacks sh o ps cells (in_order_lem u.asked) j e in
          absurd (lacks-unpriced j here (u.priced j (lacks-shown u.asked j here)))

  total-is : (t : ℕ) → price sh r table o s ≡ done t → total sh o ps cells ≡ t
  unfolding price
  total-is t e = (done-found sh.fault (bad_record sh r table) (bad_order sh r o s) lacking (total sh o ps cells) t e).1

  no-lacks : (t : ℕ) → price sh r table o s ≡ done t → (k : ℕ) → lacks_at sh o ps cells k ≡ false
  unfolding price
  no-lacks t e k = none-lacks sh o ps cells (done-found sh.fault (bad_record sh r table) (bad_order sh r o s) lacking (total sh o ps cells) t e).0.here k

-- ---- the claims

pub prices-exactly : (sh : Shape) → PricesExactly sh
prices-exactly sh r table o s = (λ d. allowed-so sh r table o s d.0 d.1, λ u. (total sh o (prices_in s) (cells_of table r.count), so-allowed sh r table o s u))

pub lowest-key : (sh : Shape) → LowestKey sh
lowest-key sh r table o s k = (lowest-so sh r table o s k, so-lowest sh r table o s k)

pub price-of-readings : (sh : Shape) → ok_shape sh ≡ true → PriceOfReadings sh
price-of-readings sh shape r table o s t e =
    let a : PriceAsked sh r table o s = (allowed-so sh r table o s t e).asked in
    let keys = keys-are sh o shape a.map in
    record {
      map = a.map;
      readings = record {
        holds = λ k. lookup (cells_of table r.count) o k;
        shown = λ k l. reads sh r table o s a k (keys k ∙ le-leb k a.map.object.highest l);
      };
      lines = record {
        line = line_in sh o (prices_in s) (cells_of table r.count);
        each = λ k l. adds-line (prices_in s) k (quantity_in (lookup (cells_of table r.count) o k)) (λ some.
            ap (λ (b : Bool). b && is_none (price_of (prices_in s) k)) (sym (both (keys k ∙ le-leb k a.map.object.highest l) (lt-ltb 0 (quantity_in (lookup (cells_of table r.count) o k)) some)))
            ∙ no-lacks sh r table o s t e k);
        sum = sym (total-is sh r table o s t e) ∙ total-sum sh o (prices_in s) a.map.object.highest keys (cells_of table r.count) (in_order_lem sh r table o s a);
      };
    }

abbrev shown_in : Answer (Option Held) → Option Held
shown_in (done x) = x
shown_in (refused r) = none

pub price-of-run : (sh : Shape) → ok_shape sh ≡ true → PriceOfRun sh
price-of-run sh shape h scratch passed opening r e ps x i o s t d =
    let w : PricedBy sh x.replica x.table o s t = price-of-readings sh shape x.replica x.table o s t d in
    let a : PriceAsked sh x.replica x.table o s = (allowed-so sh x.replica x.table o s t d).asked in
    let shows : Shows sh h x = subst (Shows sh h) (sym i) (demand3 sh shape h scratch passed opening r e ps) in
    record {
      map = w.map;
      lines = record {
        line = w.lines.line;
        each = λ k l.
            let same : w.readings.holds k ≡ (ran_to sh h x.replica.position).cells o k =
            ap shown_in (sym (w.readings.shown k l) ∙ shows.cells o k a.hosts (keys-are sh o shape w.map k ∙ le-leb k w.map.object.highest l)) in
            subst (λ (y : Option Held). Adds (prices_in s) k (quantity_in y) (w.lines.line k)) same (w.lines.each k l);
        sum = w.lines.sum;
      };
    }

-- what a row of bytes holds fits 4 bytes
quantity-small : (cs : List Cell) → all fits_cell cs ≡ true → (o k : ℕ) → quantity_in (lookup cs o k) < 2 ^ 32
unfolding lookup
quantity-small [] f o k = omega arith
quantity-small (c ∷ cs) f o k = go (is_of o k c) (eqb c.present 1) (quantity-small cs (and_r (fits_cell c) (all fits_cell cs) f) o k)
  where
    small : c.value < 2 ^ 32
    small = let e : fits_cell c ≡ true = and_l (fits_cell c) (all fits_cell cs) f in ltb-true c.value (2 ^ 32) (search ands)

    go : (b p : Bool) → quantity_in (lookup cs o k) < 2 ^ 32
        → quantity_in (cond b (some (record { version = c.version; content = cond p (some c.value) none })) (lookup cs o k)) < 2 ^ 32
    go true true ih = small
    go true false ih = omega arith
    go false p ih = ih

line_small : (ps : List Price) → ((p : Price) → Memᴰ p ps → p.cents ≤ most_cents) → (k q : ℕ) → q < 2 ^ 32 → line_at ps k q ≤ most_line
line_small ps most k q l = go (ltb 0 q) (price_of ps k) refl
  where
    go : (b : Bool) (x : Option Price) → price_of ps k ≡ x → cond b (if_some x 0 (line_of q)) 0 ≤ most_line
    go false x e = omega arith
    go true none e = omega arith
    go true (some p) e = line-most q p l (most p (price-in ps k p e).0)

few-high : (t : ℕ) → t < 2 ^ 88 → t / 2 ^ 64 < 2 ^ 24
few-high t l = omega arith

few-fit : (q : ℕ) → q < 2 ^ 24 → q < 2 ^ 64
few-fit q l = omega arith

two-parts : (t : ℕ) → t < 2 ^ 88 → TwoParts t
two-parts t l = record { high = few-fit (t / 2 ^ 64) (few-high t l); low = left t; number = again t }
  where
    left : (t : ℕ) → t % 2 ^ 64 < 2 ^ 64
    left t = omega arith

    again : (t : ℕ) → t / 2 ^ 64 * 2 ^ 64 + t % 2 ^ 64 ≡ t
    again t = omega arith

pub price-fits : (sh : Shape) → ok_shape sh ≡ true → PriceFits sh
price-fits sh shape r table o s t bytes e =
    let a : PriceAsked sh r table o s = (allowed-so sh r table o s t e).asked in
    let cs : List Cell = cells_of table r.count in
    let sum = sym (total-is sh r table o s t e) ∙ total-sum sh o (prices_in s) a.map.object.highest (keys-are sh o shape a.map) cs (in_order_lem sh r table o s a) in
    let most = summed-most (line_in sh o (prices_in s) cs) (suc a.map.object.highest) most_line
    (λ k l. line_small (prices_in s) (cents-most s (words-prices s a.prices)) k (quantity_in (lookup cs o k)) (quantity-small cs (cells_fit table bytes r.count) o k)) in
    two-parts t (omega (arith, sum, most, highest-small sh o shape a.map))

-- ---- for the bytes of any directory

module _ (dir : List ℕ) where
  abbrev sh : Shape
  sh = shape_of dir

  good : (r : Replica) (table : List ℕ) (o : ℕ) (s : List ℕ) (t : ℕ) → price sh r table o s ≡ done t → ok_shape sh ≡ true
  good r table o s t e = good-shape dir (allowed-so sh r table o s t e).asked.directed

  pub price-of-readings-for : PriceOfReadings (shape_of dir)
  price-of-readings-for r table o s t e = price-of-readings sh (good r table o s t e) r table o s t e

  pub price-of-run-for : PriceOfRun (shape_of dir)
  price-of-run-for h scratch passed = price-of-run sh (good-shape dir (passed-directed sh h scratch passed)) h scratch passed

  pub price-fits-for : PriceFits (shape_of dir)
  price-fits-for r table o s t bytes e = price-fits sh (good r table o s t e) r table o s t bytes e

  pub prices-exactly-for : PricesExactly (shape_of dir)
  prices-exactly-for = prices-exactly sh

  pub lowest-key-for : LowestKey (shape_of dir)
  lowest-key-for = lowest-key sh
