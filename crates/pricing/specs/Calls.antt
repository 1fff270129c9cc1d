-- The call's tests in turn, and the rows of its map: a stretch of a table in order, whose keys rise.
use Rattle.std.specs.Prelude.{ℕ, ◌+◌, ◌-◌, ◌*◌, ◌≤◌, ◌<◌, ◌≡◌, refl, Bool, true, false, cond, not, ◌&&◌, ◌||◌, eqb, leb, Err}
use Rattle.std.proofs.Math.Path.{ap}
use Rattle.std.proofs.Common.{sym, ◌∙◌}
use mathlib.Core.List.{List, [], ◌∷◌}
use Rattle.std.proofs.Math.Option.{Option, none, some}
use native.Mathlib.Omega.{arith}
use Rattle.std.proofs.Common.{eqb-true, eq-eqb}
use Rattle.std.proofs.lemmas.Bool.{not-true, not-false}
use Rattle.std.proofs.Math.ListN.{get_or}
use Rattle.lists.specs.Tests.{both}
use Rattle.lists.specs.Rows.{get_or-values}
use Rattle.lists.specs.Sets.{all, all-get_or, mem}
use Rattle.model.specs.Objects.{is_map, is_cell, hosted}
use Rattle.model.specs.Directory.{shape_of}
use Rattle.model.specs.Table.{Cell, cell_at, cells_of, cell_before, in_order, cell_size}
use Rattle.model.specs.Answers.{Refusal, refused, refuse, refuse_at, first_of, answer, bad_directory}
use Rattle.model.specs.Append.{bad_record}
use Rattle.model.specs.Pricing.{prices_in, bad_prices, unpriced, total, bad_order, price}
use Rattle.laws.specs.Ruled.{Ruled}
use Rattle.laws.proofs.CellOrder.{lex-case, before-trans}
use Rattle.laws.proofs.Rising.{rising}
use Rattle.directory.specs.Maps.{MapGiven}
use Rattle.answers.specs.Refusals.{refusal_in, checked_in, directed-refused, ruled-passes, Answered}
use Rattle.answers.specs.declared.Refusal as code
use Rattle.records.specs.declared.Record.{Record}
use Rattle.records.specs.Record.{replica_in}
use Rattle.table.specs.Order.{rows_of, of_object, Ordered, Stretched}
use Rattle.pricing.specs.Rows.{sum_in, lack_in, total-of-map, unpriced-of-map}
use Rattle.pricing.specs.Walks.{row_key, WalkGiven}

-- ---- the rows of a map

pub record OrderGiven (d t : List ℕ) (count o : ℕ) (s : List ℕ) : Type 0 where
  pub map : MapGiven d o
  pub ordered : Ordered t count
  pub good : bad_prices s ≡ false

abbrev of_it : ℕ → Cell → Bool
of_it o c = eqb c.object o

all-of-it : (o : ℕ) (cs : List Cell) → all (of_it o) (of_object o cs) ≡ true
unfolding of_object
all-of-it o [] = refl
all-of-it o (c ∷ cs) = go (eqb c.object o) refl (all-of-it o cs)
  where
    go : (b : Bool) → eqb c.object o ≡ b → all (of_it o) (of_object o cs) ≡ true → all (of_it o) (cond b (c ∷ of_object o cs) (of_object o cs)) ≡ true
    go true e ih = both e ih
    go false e ih = ih

module _ {t : List ℕ} {count o first n : ℕ} (ordered : Ordered t count) (w : Stretched t count o first n) where
  -- each row of the stretch is of the object
  row-object : (i : ℕ) → first ≤ i → i < first + n → (cell_at t (cell_size * i)).object ≡ o
  unfolding rows_of
  row-object i l h =
      let d : Cell = record { object = o; key = 0; value = 0; present = 0; version = 0 } in
      let e : first + (i - first) ≡ i = omega arith in
      let there : get_or (of_object o (cells_of t count)) (i - first) d ≡ cell_at t (cell_size * i) =
      ap (λ (cs : List Cell). get_or cs (i - first) d) (sym w.rows) ∙ get_or-values (λ j. cell_at t (cell_size * j)) first n (i - first) d (omega arith)
      ∙ ap (λ (m : ℕ). cell_at t (cell_size * m)) e in
      eqb-true (cell_at t (cell_size * i)).object o (ap (of_it o) (sym there) ∙ all-get_or (of_it o) (of_object o (cells_of t count)) (i - first) d (all-of-it o (cells_of t count)) (eq-eqb o o refl))

  keys-rise : (i j : ℕ) → first ≤ i → i < j → j < first + n → row_key t i < row_key t j
  unfolding cells_of in_order
  keys-rise i j l m h =
      let a : Cell = cell_at t (cell_size * i) in
      let b : Cell = cell_at t (cell_size * j) in
      lex-case a.object a.key b.object b.key
      (rising cell_before (λ k. cell_at t (cell_size * k)) before-trans 0 count ordered.ascends i j (omega arith) m (omega (arith, w.within)))
      (λ u. absurd (omega (arith, row-object i l (omega arith), row-object j (omega arith) h)))
      (λ u v. v)

pub walk-given : {d t : List ℕ} {count o : ℕ} {s : List ℕ} → OrderGiven d t count o s → {first n : ℕ} → Stretched t count o first n → WalkGiven t first n s
walk-given g w = record { room = omega (arith, g.ordered.room, w.within); rise = keys-rise g.ordered w; good = g.good }

-- the walk over the stretch is the model's over the table
pub summed-up : (d t : List ℕ) (count o highest : ℕ) (s : List ℕ) {first n : ℕ} → Stretched t count o first n → ((k : ℕ) → is_cell (shape_of d) o k ≡ leb k highest)
    → answer (refuse_at 19 (lack_in highest (prices_in s) (rows_of t first n))) (sum_in highest (prices_in s) (rows_of t first n))
    ≡ answer (refuse_at 19 (unpriced (shape_of d) o (prices_in s) (cells_of t count))) (total (shape_of d) o (prices_in s) (cells_of t count))
summed-up d t count o highest s w cells =
    ap (λ (cs : List Cell). answer (refuse_at 19 (lack_in highest (prices_in s) cs)) (sum_in highest (prices_in s) cs)) w.rows
    ∙ (λ j. answer (refuse_at 19 (sym (unpriced-of-map (shape_of d) o highest (prices_in s) cells (cells_of t count)) j)) (sym (total-of-map (shape_of d) o highest (prices_in s) cells (cells_of t count)) j))

-- ---- the tests

-- a fault of the directory is ahead of the others
pub price-directory : (d : List ℕ) (r : Record) (table : List ℕ) (o : ℕ) (s : List ℕ) (c : Answered (Unit {0})) (x : code.Refusal) → checked_in c ≡ answer (bad_directory (shape_of d)) tt → c ≡ Err x
    → price (shape_of d) (replica_in r) table o s ≡ refused (refusal_in x)
unfolding price
price-directory d r table o s c x e h =
    ap
    (λ (y : Option Refusal). answer (first_of (y ∷ refuse 10 (bad_record (shape_of d) (replica_in r) table) ∷ refuse 3 (bad_order (shape_of d) (replica_in r) o s)
    ∷ refuse_at 19 (unpriced (shape_of d) o (prices_in s) (cells_of table r.count)) ∷ []))
    (total (shape_of d) o (prices_in s) (cells_of table r.count))) (directed-refused d c e x h)

-- what the test of the record tells
pub unfit : {f b : Bool} → f ≡ not b → f ≡ false → true ≡ b
unfit {f} {b} e t = sym (not-false b (sym e ∙ t))

pub fit : {f b : Bool} → f ≡ not b → f ≡ true → false ≡ b
fit {f} {b} e t = sym (not-true b (sym e ∙ t))

module _ {d : List ℕ} (ruled : Ruled d) (r : Record) (table : List ℕ) (o : ℕ) (s : List ℕ) where
  abbrev lacking : Option Refusal
  lacking = refuse_at 19 (unpriced (shape_of d) o (prices_in s) (cells_of table r.count))

  abbrev sum : ℕ
  sum = total (shape_of d) o (prices_in s) (cells_of table r.count)

  -- By the answers of the code's tests: a bad record, a hosted object, a map, a bad list. One that was not asked stands for itself.
  module _ {a h m b : Bool} (ea : a ≡ bad_record (shape_of d) (replica_in r) table) (eh : h ≡ mem o (hosted (shape_of d) r.hosted)) (em : m ≡ is_map (shape_of d) o) (eb : b ≡ bad_prices s) where
    pub price-tested : answer (first_of (refuse 10 a ∷ refuse 3 (not (h && m) || b) ∷ lacking ∷ [])) sum ≡ price (shape_of d) (replica_in r) table o s
    unfolding price
    price-tested = λ j. answer (first_of (sym (ruled-passes ruled) j ∷ refuse 10 (ea j) ∷ refuse 3 (not (eh j && em j) || eb j) ∷ lacking ∷ [])) sum

  -- all four pass
  pub price-asked : false ≡ bad_record (shape_of d) (replica_in r) table → true ≡ mem o (hosted (shape_of d) r.hosted) → true ≡ is_map (shape_of d) o → false ≡ bad_prices s
      → answer lacking sum ≡ price (shape_of d) (replica_in r) table o s
  price-asked ea eh em eb = one lacking ∙ price-tested ea eh em eb
    where
      one : (x : Option Refusal) → answer x sum ≡ answer (first_of (x ∷ [])) sum
      one none = refl
      one (some x) = refl
