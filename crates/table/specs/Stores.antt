-- Laws of a cell written into rows in order, in its row or in a new one, and into either of two runs.
use Rattle.std.specs.Prelude.{◌≡◌, refl, Bool, true, false, cond, ◌&&◌, List, [], ◌∷◌, ◌++◌, map, ℕ, zero, suc, eqb, get_or, set}
use Rattle.std.proofs.Common.{ap, ap₂, sym, ◌∙◌, arith}
use Rattle.std.proofs.Math.Seq.{map-set_same}
use Rattle.std.proofs.Math.Option.{some}
use Rattle.model.specs.Entries.{Held, is_none}
use Rattle.model.specs.Table.{Cell, is_of, held_by, lookup, cell_of, cell_before, in_order, store}
use Rattle.laws.specs.FirstWriting.{insert_cell}
use Rattle.laws.proofs.CellOrder.{lex_before, is-of, before-asym, before-total}
use Rattle.laws.proofs.Ordered.{rest-ordered, once}
use Rattle.laws.proofs.Sorted.{store-insert-same, store-insert-other}
use Rattle.table.specs.Rows.{further, row_in}
use Rattle.table.specs.Runs.{merged, apart, Runs}
use Rattle.table.specs.Ordered.{first-before, row-found}
use Rattle.table.specs.Inserted.{none_first}
use Rattle.table.specs.Merged.{merged-snoc}

-- ---- a cell written into rows

-- a cell with no row is put in
pub store-new : (cs : List Cell) (o k : ℕ) (h : Held) → row_in cs o k ≡ 0 → store cs o k h ≡ insert_cell (cell_of o k h) cs
unfolding store insert_cell
store-new [] o k h e = refl
store-new (c ∷ cs) o k h e =
    let n = none_first c cs o k e in
    let w = cell_of o k h in
    rw n.0 (go (cell_before c w) refl n.0 (store-new cs o k h n.1))
  where
    go : (b : Bool) → cell_before c (cell_of o k h) ≡ b → is_of o k c ≡ false → store cs o k h ≡ insert_cell (cell_of o k h) cs
        → cond (cell_before (cell_of o k h) c) (cell_of o k h ∷ c ∷ cs) (c ∷ store cs o k h) ≡ cond b (c ∷ insert_cell (cell_of o k h) cs) (cell_of o k h ∷ c ∷ cs)
    go true p q ih = rw (before-asym c (cell_of o k h) p) (ap (λ (t : List Cell). c ∷ t) ih)
    go false p q ih = rw (before-total c (cell_of o k h) p q)

-- ---- a cell written into one of two runs

-- a cell with a row in the second run is written there
pub store-second : (a b : List Cell) (o k : ℕ) (h : Held) (i : ℕ) → row_in b o k ≡ suc i → store (merged a b) o k h ≡ merged a (set b i (cell_of o k h))
unfolding merged row_in
store-second a [] o k h i e = absurd (omega arith)
store-second a (d ∷ b) o k h i e = go (is_of o k d) refl (row_in b o k) refl i e (λ j f. store-second a b o k h j f)
  where
    go : (q : Bool) → is_of o k d ≡ q → (r : ℕ) → row_in b o k ≡ r → (i : ℕ) → cond q 1 (further r) ≡ suc i
        → ((j : ℕ) → row_in b o k ≡ suc j → store (merged a b) o k h ≡ merged a (set b j (cell_of o k h)))
        → store (insert_cell d (merged a b)) o k h ≡ merged a (set (d ∷ b) i (cell_of o k h))
    go true q r u zero e ih = store-insert-same d (merged a b) o k h q
    go true q r u (suc i) e ih = absurd (omega arith)
    go false q zero u i e ih = absurd (omega arith)
    go false q (suc r) u zero e ih = absurd (omega arith)
    go false q (suc r) u (suc i) e ih =
        let j : row_in b o k ≡ suc i = omega arith in
        store-insert-other d (merged a b) o k h q ∙ ap (insert_cell d) (ih i j)

-- a cell that the second run does not have is written into the main one
pub store-main : (a b : List Cell) (o k : ℕ) (h : Held) → row_in b o k ≡ 0 → store (merged a b) o k h ≡ merged (store a o k h) b
unfolding merged
store-main a [] o k h e = refl
store-main a (d ∷ b) o k h e =
    let n = none_first d b o k e in
    store-insert-other d (merged a b) o k h n.0 ∙ ap (insert_cell d) (store-main a b o k h n.1)

-- a cell that neither run has gets a new row of the second
pub store-last : (a b : List Cell) (o k : ℕ) (h : Held) → row_in a o k ≡ 0 → row_in b o k ≡ 0 → store (merged a b) o k h ≡ merged a (b ++ (cell_of o k h ∷ []))
store-last a b o k h e f =
    store-main a b o k h f ∙ ap (λ (x : List Cell). merged x b) (store-new a o k h e) ∙ sym (merged-snoc a b (cell_of o k h))

-- ---- a row replaced by one of the same cell: what goes by object and key stays

abbrev pub bare : Cell → Cell
bare c = record { object = c.object; key = c.key; value = 0; present = 0; version = 0 }

ordered-bare : (cs : List Cell) → in_order (map bare cs) ≡ in_order cs
unfolding in_order
ordered-bare [] = refl
ordered-bare (c ∷ []) = refl
ordered-bare (c ∷ d ∷ cs) = ap (λ (t : Bool). cell_before c d && t) (ordered-bare (d ∷ cs))

row-bare : (cs : List Cell) (o k : ℕ) → row_in (map bare cs) o k ≡ row_in cs o k
unfolding row_in
row-bare [] o k = refl
row-bare (c ∷ cs) o k = ap (λ (r : ℕ). cond (is_of o k c) 1 (further r)) (row-bare cs o k)

none_bare : (cs : List Cell) (o k : ℕ) → is_none (lookup (map bare cs) o k) ≡ is_none (lookup cs o k)
unfolding lookup
none_bare [] o k = refl
none_bare (c ∷ cs) o k = go (is_of o k c) (none_bare cs o k)
  where
    go : (b : Bool) → is_none (lookup (map bare cs) o k) ≡ is_none (lookup cs o k)
        → is_none (cond b (some (held_by (bare c))) (lookup (map bare cs) o k)) ≡ is_none (cond b (some (held_by c)) (lookup cs o k))
    go true ih = refl
    go false ih = ih

once-bare : (cs : List Cell) → once (map bare cs) ≡ once cs
once-bare [] = refl
once-bare (c ∷ cs) = ap₂ (λ (r t : Bool). r && t) (none_bare cs c.object c.key) (once-bare cs)

apart_bare : (a b : List Cell) → apart (map bare a) (map bare b) ≡ apart a b
unfolding apart
apart_bare a [] = refl
apart_bare a (c ∷ b) = ap₂ (λ (r : ℕ) (t : Bool). eqb r 0 && t) (row-bare a c.object c.key) (apart_bare a b)

pub same-bare : (cs : List Cell) (o k i : ℕ) (h : Held) (d : Cell) → is_of o k (get_or cs i d) ≡ true → map bare (set cs i (cell_of o k h)) ≡ map bare cs
same-bare cs o k i h d e =
    let w = is-of (get_or cs i d) o k e in
    let p = w.0 in
    let q = w.1 in
    map-set_same bare cs i (cell_of o k h) d (sym (λ j. record { object = p j; key = q j; value = 0; present = 0; version = 0 }))

pub runs-bare : (a b a' b' : List Cell) → map bare a' ≡ map bare a → map bare b' ≡ map bare b → Runs a b → Runs a' b'
runs-bare a b a' b' p q r = record {
  main = sym (ordered-bare a') ∙ ap in_order p ∙ ordered-bare a ∙ r.main;
  second = sym (once-bare b') ∙ ap once q ∙ once-bare b ∙ r.second;
  alone = sym (apart_bare a' b') ∙ ap₂ apart p q ∙ apart_bare a b ∙ r.alone;
}

-- in order, a cell with a row is written there
pub store-set : (cs : List Cell) (o k : ℕ) (h : Held) (i : ℕ) → in_order cs ≡ true → row_in cs o k ≡ suc i → store cs o k h ≡ set cs i (cell_of o k h)
unfolding store row_in
store-set [] o k h i a e = absurd (omega arith)
store-set (c ∷ cs) o k h i a e = go (is_of o k c) refl (row_in cs o k) refl i e (λ j f. store-set cs o k h j (rest-ordered c cs a) f)
  where
    go : (q : Bool) → is_of o k c ≡ q → (r : ℕ) → row_in cs o k ≡ r → (i : ℕ) → cond q 1 (further r) ≡ suc i
        → ((j : ℕ) → row_in cs o k ≡ suc j → store cs o k h ≡ set cs j (cell_of o k h))
        → cond q (cell_of o k h ∷ cs) (cond (cell_before (cell_of o k h) c) (cell_of o k h ∷ c ∷ cs) (c ∷ store cs o k h)) ≡ set (c ∷ cs) i (cell_of o k h)
    go true q r u zero e ih = refl
    go true q r u (suc i) e ih = absurd (omega arith)
    go false q zero u i e ih = absurd (omega arith)
    go false q (suc r) u zero e ih = absurd (omega arith)
    go false q (suc r) u (suc i) e ih =
        let j : row_in cs o k ≡ suc i = omega arith in
        let f = row-found cs o k i c j in
        let x = get_or cs i c in
        let w = is-of x o k f.1 in
        let b : cell_before c (cell_of o k h) ≡ true =
        ap₂ (λ (m n : ℕ). lex_before c.object c.key m n) (sym w.0) (sym w.1) ∙ first-before c cs i c a f.0 in
        rw (before-asym c (cell_of o k h) b) (ap (λ (t : List Cell). c ∷ t) (ih i j))
