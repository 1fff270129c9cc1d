-- The rows of one map, with its highest key: which are summed, what they cost, and the first that lacks a price. They are the model's.
use Rattle.std.specs.Prelude.{ℕ, ◌+◌, ◌≡◌, Bool, ◌&&◌, leb, ltb}
use Rattle.std.proofs.Math.Path.{refl}
use Rattle.std.proofs.Common.{ap, ◌∙◌}
use Rattle.std.proofs.Math.Bool.{true, false, cond}
use mathlib.Core.List.{List, [], ◌∷◌}
use Rattle.std.proofs.Math.Option.{Option, none, some}
use Rattle.std.proofs.Math.Nat.{zero-add}
use Rattle.std.proofs.Math.Dec.{eqb}
use Rattle.model.specs.Objects.{Shape, is_cell}
use Rattle.model.specs.Entries.{if_some, is_none}
use Rattle.model.specs.Table.{Cell}
use Rattle.model.specs.Pricing.{Price, line_of, price_of, is_line, unpriced, total}
use Rattle.table.specs.Order.{of_object}

-- a cell up to the highest key, present, with a quantity over 0
abbrev pub is_summed : ℕ → Cell → Bool
is_summed highest c = leb c.key highest && eqb c.present 1 && ltb 0 c.value

abbrev pub line_by : ℕ → List Price → Cell → ℕ
line_by highest ps c = cond (is_summed highest c) (if_some (price_of ps c.key) 0 (line_of c.value)) 0

abbrev pub lacks_by : ℕ → List Price → Cell → Bool
lacks_by highest ps c = is_summed highest c && is_none (price_of ps c.key)

unfoldable pub sum_in : ℕ → List Price → List Cell → ℕ
sum_in highest ps [] = 0
sum_in highest ps (c ∷ cs) = line_by highest ps c + sum_in highest ps cs

unfoldable pub lack_in : ℕ → List Price → List Cell → Option ℕ
lack_in highest ps [] = none
lack_in highest ps (c ∷ cs) = cond (lacks_by highest ps c) (some c.key) (lack_in highest ps cs)

-- ---- of a table's rows, those of the map count

module _ (sh : Shape) (o highest : ℕ) (ps : List Price) (cells : (k : ℕ) → is_cell sh o k ≡ leb k highest) where
  its-row : (c : Cell) → eqb c.object o ≡ true → is_line sh o c ≡ is_summed highest c
  its-row c e = λ j. e j && cells c.key j && eqb c.present 1 && ltb 0 c.value

  other_row : (c : Cell) → eqb c.object o ≡ false → is_line sh o c ≡ false
  other_row c e = ap (λ (b : Bool). b && is_cell sh o c.key && eqb c.present 1 && ltb 0 c.value) e

  pub total-of-map : (cs : List Cell) → total sh o ps cs ≡ sum_in highest ps (of_object o cs)
  unfolding total sum_in of_object
  total-of-map [] = refl
  total-of-map (c ∷ cs) = go (eqb c.object o) refl (total-of-map cs)
    where
      go : (b : Bool) → eqb c.object o ≡ b → total sh o ps cs ≡ sum_in highest ps (of_object o cs)
          → cond (is_line sh o c) (if_some (price_of ps c.key) 0 (line_of c.value)) 0 + total sh o ps cs ≡ sum_in highest ps (cond b (c ∷ of_object o cs) (of_object o cs))
      go true e ih = λ j. cond (its-row c e j) (if_some (price_of ps c.key) 0 (line_of c.value)) 0 + ih j
      go false e ih = (λ j. cond (other_row c e j) (if_some (price_of ps c.key) 0 (line_of c.value)) 0 + ih j) ∙ zero-add (sum_in highest ps (of_object o cs))

  pub unpriced-of-map : (cs : List Cell) → unpriced sh o ps cs ≡ lack_in highest ps (of_object o cs)
  unfolding unpriced lack_in of_object
  unpriced-of-map [] = refl
  unpriced-of-map (c ∷ cs) = go (eqb c.object o) refl (unpriced-of-map cs)
    where
      go : (b : Bool) → eqb c.object o ≡ b → unpriced sh o ps cs ≡ lack_in highest ps (of_object o cs)
          → cond (is_line sh o c && is_none (price_of ps c.key)) (some c.key) (unpriced sh o ps cs) ≡ lack_in highest ps (cond b (c ∷ of_object o cs) (of_object o cs))
      go true e ih = λ j. cond (its-row c e j && is_none (price_of ps c.key)) (some c.key) (ih j)
      go false e ih = λ j. cond (other_row c e j && is_none (price_of ps c.key)) (some c.key) (ih j)
