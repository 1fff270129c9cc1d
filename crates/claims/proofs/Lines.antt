-- The total and the key that 19 tells, from the rows of a table in order to the keys of a map: each cell has one row, so a row's line is its
-- key's, and rows of a map come in the order of their keys.
use Prim.Native.Nat.{ℕ, suc, ◌+◌, ◌-◌, ◌*◌, ◌≤◌, ◌<◌}
use mathlib.Core.Path.{◌≡◌, refl, ap, sym, ◌∙◌}
use mathlib.Core.Bool.{Bool, true, false, cond, ◌&&◌}
use mathlib.Core.List.{List, [], ◌∷◌}
use mathlib.Core.Option.{Option, none, some, some-injective}
use native.Mathlib.Omega.{arith}
use borrow.Author.Tests.{eqb-true, eq-eqb, ne_eqb, ltb-true, ltb-false, leb-true, leb-false}
use lib.Dec.{eqb, leb, ltb}
use Rattle.lists.specs.Tests.{and-false, ands, clash}
use Rattle.model.specs.Objects.{Shape, is_cell}
use Rattle.model.specs.Entries.{Held, if_some, is_none}
use Rattle.model.specs.Table.{Cell, is_of, held_by, lookup, in_order}
use Rattle.model.specs.Pricing.{Price, nearest, line_of, most_percent, price_of, is_line, unpriced, total}
use Rattle.model.specs.PriceClaims.{quantity_in, Nearest, Adds, nothing, full, lowered, summed}
use Rattle.laws.proofs.Refusals.{not_none}
use Rattle.laws.proofs.CellOrder.{is-of, lex-key}
use Rattle.laws.proofs.Ordered.{rest-ordered, first-once, none_before}
use Rattle.laws.proofs.Prices.{price-in}
use Rattle.claims.proofs.Sums.{summed-none, summed_same, summed-other}

-- ---- what a key adds

nearest-is : (n : ℕ) → Nearest n (nearest n)
nearest-is n = record { above = omega arith; below = omega arith }

module _ (ps : List Price) where
  -- the line of a key with this quantity
  abbrev pub line_at : ℕ → ℕ → ℕ
  line_at k q = cond (ltb 0 q) (if_some (price_of ps k) 0 (line_of q)) 0

  pub adds-line : (k q : ℕ) → (1 ≤ q → is_none (price_of ps k) ≡ false) → Adds ps k q (line_at k q)
  adds-line k q h = go (ltb 0 q) refl (price_of ps k) refl
    where
      go : (b : Bool) → ltb 0 q ≡ b → (x : Option Price) → price_of ps k ≡ x → Adds ps k q (cond b (if_some x 0 (line_of q)) 0)
      go false e x f = nothing (omega (arith, ltb-false 0 q e)) refl
      go true e none f = clash (is_none (price_of ps k)) (ap is_none f) (h (ltb-true 0 q e))
      go true e (some p) f = by (leb p.from q) refl
        where
          by : (t : Bool) → leb p.from q ≡ t → Adds ps k q (cond t (nearest (q * p.cents * (most_percent - p.percent))) (q * p.cents))
          by true i = let w = price-in ps k p f in lowered p w.0 w.1 (ltb-true 0 q e) (leb-true p.from q i) (nearest-is (q * p.cents * (most_percent - p.percent)))
          by false i = let w = price-in ps k p f in full p w.0 w.1 (ltb-true 0 q e) (leb-false p.from q i) refl

-- ---- rows and keys

module _ (sh : Shape) (o : ℕ) (ps : List Price) where
  -- the line of what the rows hold for a key
  abbrev pub line_in : List Cell → ℕ → ℕ
  line_in cs k = line_at ps k (quantity_in (lookup cs o k))

  -- the key is of a line without a price
  abbrev pub lacks_at : List Cell → ℕ → Bool
  lacks_at cs k = is_cell sh o k && ltb 0 (quantity_in (lookup cs o k)) && is_none (price_of ps k)

  abbrev row_line : Cell → ℕ
  row_line c = cond (is_line sh o c) (if_some (price_of ps c.key) 0 (line_of c.value)) 0

  abbrev row_lacks : Cell → Bool
  row_lacks c = is_line sh o c && is_none (price_of ps c.key)

  -- what a row of the map says is said of its key
  module _ (c : Cell) (cs : List Cell) (e : c.object ≡ o) where
    own_line : is_cell sh o c.key ≡ true → row_line c ≡ line_in (c ∷ cs) c.key
    unfolding lookup
    own_line i = rw (eq-eqb c.object o e, eq-eqb c.key c.key refl, i) (go (eqb c.present 1))
      where
        go : (b : Bool) → cond (b && ltb 0 c.value) (if_some (price_of ps c.key) 0 (line_of c.value)) 0
            ≡ line_at ps c.key (quantity_in (some (record { version = c.version; content = cond b (some c.value) none })))
        go true = refl
        go false = refl

    own-lacks : row_lacks c ≡ lacks_at (c ∷ cs) c.key
    unfolding lookup
    own-lacks = rw (eq-eqb c.object o e, eq-eqb c.key c.key refl) (go (is_cell sh o c.key) (eqb c.present 1))
      where
        go : (a b : Bool) → (a && b && ltb 0 c.value && is_none (price_of ps c.key))
            ≡ (a && ltb 0 (quantity_in (some (record { version = c.version; content = cond b (some c.value) none }))) && is_none (price_of ps c.key))
        go true true = refl
        go true false = refl
        go false b = refl

  -- and of no other key
  module _ (c : Cell) (cs : List Cell) (j : ℕ) (e : is_of o j c ≡ false) where
    line-past : line_in (c ∷ cs) j ≡ line_in cs j
    unfolding lookup
    line-past = ap (λ (b : Bool). line_at ps j (quantity_in (cond b (some (held_by c)) (lookup cs o j)))) e

    lacks-past : lacks_at (c ∷ cs) j ≡ lacks_at cs j
    unfolding lookup
    lacks-past = ap (λ (b : Bool). is_cell sh o j && ltb 0 (quantity_in (cond b (some (held_by c)) (lookup cs o j))) && is_none (price_of ps j)) e

  -- a key that was never written
  lacks-never : (cs : List Cell) (j : ℕ) → lookup cs o j ≡ none → lacks_at cs j ≡ false
  lacks-never cs j e =
      ap (λ (x : Option Held). is_cell sh o j && ltb 0 (quantity_in x) && is_none (price_of ps j)) e ∙ ap (λ (t : Bool). t && is_none (price_of ps j)) (and-false (is_cell sh o j))

  -- ---- the total

  module _ (highest : ℕ) (cells : (k : ℕ) → is_cell sh o k ≡ leb k highest) where
    no_line : (c : Cell) → (eqb c.object o && is_cell sh o c.key) ≡ false → row_line c ≡ 0
    no_line c e = ap (λ (t : Bool). cond (t && eqb c.present 1 && ltb 0 c.value) (if_some (price_of ps c.key) 0 (line_of c.value)) 0) e

    pub total-sum : (cs : List Cell) → in_order cs ≡ true → total sh o ps cs ≡ summed (line_in cs) (suc highest)
    unfolding total lookup
    total-sum [] a = sym (summed-none (line_in []) (suc highest) (λ j. refl))
    total-sum (c ∷ cs) a = go (eqb c.object o) refl (leb c.key highest) refl (total-sum cs (rest-ordered c cs a))
      where
        go : (p : Bool) → eqb c.object o ≡ p → (q : Bool) → leb c.key highest ≡ q → total sh o ps cs ≡ summed (line_in cs) (suc highest)
            → row_line c + total sh o ps cs ≡ summed (line_in (c ∷ cs)) (suc highest)
        go true p true q ih =
            let e : c.object ≡ o = eqb-true c.object o p in
            let l : c.key ≤ highest = leb-true c.key highest q in
            let before : lookup cs o c.key ≡ none = ap (λ (m : ℕ). lookup cs m c.key) (sym e) ∙ first-once c cs a in
            let zero-before : line_in cs c.key ≡ 0 = ap (λ (x : Option Held). line_at ps c.key (quantity_in x)) before in
            let s = summed-other (line_in cs) (line_in (c ∷ cs)) (suc highest) c.key (omega arith)
            (λ j d. sym (line-past c cs j (ap (λ (t : Bool). eqb c.object o && t) (ne_eqb c.key j (λ f. d (sym f))) ∙ and-false (eqb c.object o)))) in
            omega (arith, own_line c cs e (cells c.key ∙ q), s, zero-before, ih)
        go true p false q ih =
            let l : highest < c.key = leb-false c.key highest q in
            let s = summed_same (line_in cs) (line_in (c ∷ cs)) (suc highest)
            (λ j m. sym (line-past c cs j (ap (λ (t : Bool). eqb c.object o && t) (ne_eqb c.key j (λ f. absurd (omega arith))) ∙ and-false (eqb c.object o)))) in
            omega (arith, no_line c (ap (λ (t : Bool). eqb c.object o && t) (cells c.key ∙ q) ∙ and-false (eqb c.object o)), s, ih)
        go false p q r ih =
            let s = summed_same (line_in cs) (line_in (c ∷ cs)) (suc highest) (λ j m. sym (line-past c cs j (ap (λ (t : Bool). t && eqb c.key j) p))) in
            omega (arith, no_line c (ap (λ (t : Bool). t && is_cell sh o c.key) p), s, ih)

  -- ---- the key of 19

  -- the key of a row that is no line without a price
  own-priced : (c : Cell) (cs : List Cell) (k : ℕ) → row_lacks c ≡ false → is_of o k c ≡ true → lacks_at (c ∷ cs) k ≡ false
  own-priced c cs k i q = let s = is-of c o k q in ap (lacks_at (c ∷ cs)) (sym s.1) ∙ sym (own-lacks c cs s.0) ∙ i

  no_rows : (k : ℕ) → lookup [] o k ≡ none
  unfolding lookup
  no_rows k = refl

  pub none-lacks : (cs : List Cell) → unpriced sh o ps cs ≡ none → (k : ℕ) → lacks_at cs k ≡ false
  unfolding unpriced
  none-lacks [] e k = lacks-never [] k (no_rows k)
  none-lacks (c ∷ cs) e k = go (row_lacks c) refl (is_of o k c) refl e (λ f. none-lacks cs f k)
    where
      go : (b : Bool) → row_lacks c ≡ b → (p : Bool) → is_of o k c ≡ p → cond b (some c.key) (unpriced sh o ps cs) ≡ none
          → (unpriced sh o ps cs ≡ none → lacks_at cs k ≡ false) → lacks_at (c ∷ cs) k ≡ false
      go true i p q f ih = not_none c.key f
      go false i true q f ih = own-priced c cs k i q
      go false i false q f ih = lacks-past c cs k q ∙ ih f

  -- of the row that is told
  told-object : (c : Cell) → row_lacks c ≡ true → c.object ≡ o
  told-object c i = eqb-true c.object o (search ands)

  pub told-lacks : (cs : List Cell) → in_order cs ≡ true → (k : ℕ) → unpriced sh o ps cs ≡ some k → lacks_at cs k ≡ true
  unfolding unpriced
  told-lacks [] a k e = not_none k (sym e)
  told-lacks (c ∷ cs) a k e = go (row_lacks c) refl (is_of o k c) refl e (λ f. told-lacks cs (rest-ordered c cs a) k f)
    where
      go : (b : Bool) → row_lacks c ≡ b → (p : Bool) → is_of o k c ≡ p → cond b (some c.key) (unpriced sh o ps cs) ≡ some k
          → (unpriced sh o ps cs ≡ some k → lacks_at cs k ≡ true) → lacks_at (c ∷ cs) k ≡ true
      go true i p q f ih =
          let same : c.key ≡ k = some-injective _ _ f in
          ap (lacks_at (c ∷ cs)) (sym same) ∙ sym (own-lacks c cs (told-object c i)) ∙ i
      go false i false q f ih = lacks-past c cs k q ∙ ih f
      go false i true q f ih =
          let s = is-of c o k q in
          let twice : lookup cs o k ≡ none = (λ j. lookup cs (sym s.0 j) (sym s.1 j)) ∙ first-once c cs a in
          clash (lacks_at cs k) (ih f) (lacks-never cs k twice)

  pub lower-priced : (cs : List Cell) → in_order cs ≡ true → (k : ℕ) → unpriced sh o ps cs ≡ some k → (j : ℕ) → j < k → lacks_at cs j ≡ false
  unfolding unpriced
  lower-priced [] a k e j l = not_none k (sym e)
  lower-priced (c ∷ cs) a k e j l = go (row_lacks c) refl (is_of o j c) refl e (λ f. lower-priced cs (rest-ordered c cs a) k f j l)
    where
      go : (b : Bool) → row_lacks c ≡ b → (p : Bool) → is_of o j c ≡ p → cond b (some c.key) (unpriced sh o ps cs) ≡ some k
          → (unpriced sh o ps cs ≡ some k → lacks_at cs j ≡ false) → lacks_at (c ∷ cs) j ≡ false
      go true i p q f ih =
          let same : c.key ≡ k = some-injective _ _ f in
          let at : c.object ≡ o = told-object c i in
          lacks-never (c ∷ cs) j (none_before (record { object = o; key = j; value = 0; present = 0; version = 0 }) (c ∷ cs) (lex-key o j c.object c.key (sym at) (omega arith)) a)
      go false i true q f ih = own-priced c cs j i q
      go false i false q f ih = lacks-past c cs j q ∙ ih f
