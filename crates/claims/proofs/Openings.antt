-- A checkpoint of a log that the audit passes shows what the run's cells of its object hold: its cells are the played ones put
-- in key order, and the rules keep them ascending, so that the rows are in order.
use Prim.Native.Nat.{ℕ, suc, ◌+◌, ◌*◌, ◌/◌, ◌%◌, ◌<◌, ◌≤◌, ◌^◌}
use mathlib.Core.Path.{◌≡◌, refl, ap, ap₂, sym, ◌∙◌}
use mathlib.Core.Bool.{Bool, true, false, cond, ◌||◌}
use mathlib.Core.List.{List, [], ◌∷◌, map}
use native.Mathlib.Omega.{arith}
use borrow.Author.Tests.{eqb-true, eq-eqb, ltb-true, leb-true, lt-ltb}
use lib.Dec.{eqb}
use Rattle.laws.proofs.Same.{same-saved}
use Rattle.lists.specs.Tests.{and_r, ands, both, or-false, clash}
use Rattle.lists.specs.Sets.{all, mem, ascending, first-leads, rest-ascends}
use Rattle.model.specs.Objects.{Object, Shape, ids, is_object, is_cell, hosted_by, hosted, bit_of, set_of}
use Rattle.model.specs.Entries.{Saved, checkpoint, effect, Log}
use Rattle.model.specs.Slot.{value_field, most_slots, ok_shape}
use Rattle.model.specs.Rules.{fits, ok_saved, saved_before, ok_entry}
use Rattle.model.specs.Table.{Cell, lookup, cell_of, in_order, saved_of}
use Rattle.model.specs.Play.{cells_in}
use Rattle.model.specs.Terms.{saved_for}
use Rattle.model.specs.Replica.{audit_play, as_played}
use Rattle.laws.proofs.Items.{fits_cell, cell-small}
use Rattle.laws.proofs.Appends.{good-kept}
use Rattle.laws.proofs.CellOrder.{lex-key}
use Rattle.laws.proofs.Ordered.{held-cell}
use Rattle.claims.proofs.Cells.{owned, present-fits, Shown}
use Rattle.claims.proofs.Saved.{saved-for}
use Rattle.claims.proofs.Runs.{cells_after, run, cells-run}
use Rattle.claims.proofs.Audits.{Sound, tail-small, audit-shows}

-- ---- the hosted set of one object

none-hosted : (bs : List Object) → hosted_by bs 0 ≡ []
none-hosted [] = refl
none-hosted (b ∷ bs) = none-hosted bs

pub hosted-none : (sh : Shape) → hosted sh 0 ≡ []
unfolding hosted
hosted-none sh = none-hosted sh.objects

one-hosted : (o : ℕ) (bs : List Object) → mem o (map (λ (b : Object). b.id) bs) ≡ true → hosted_by bs (bit_of bs o) ≡ o ∷ []
one-hosted o [] m = clash false m refl
one-hosted o (b ∷ bs) m = go (eqb b.id o) refl m (λ i. one-hosted o bs i)
  where
    go : (x : Bool) → eqb b.id o ≡ x → (x || mem o (map (λ (b : Object). b.id) bs)) ≡ true → (mem o (map (λ (b : Object). b.id) bs) ≡ true → hosted_by bs (bit_of bs o) ≡ o ∷ [])
        → hosted_by (b ∷ bs) (cond x 1 (2 * bit_of bs o)) ≡ o ∷ []
    go true e i ih = ap₂ (λ (x : ℕ) (xs : List ℕ). x ∷ xs) (eqb-true b.id o e) (none-hosted bs)
    go false e i ih =
        let even : 2 * bit_of bs o % 2 ≡ 0 = omega arith in
        let half : 2 * bit_of bs o / 2 ≡ bit_of bs o = omega arith in
        rw (even, half) (ih i)

pub hosted-one : (sh : Shape) (o : ℕ) → is_object sh o ≡ true → hosted sh (set_of sh o) ≡ o ∷ []
unfolding hosted is_object
hosted-one sh o m = one-hosted o sh.objects m

pub mem-one : (x o : ℕ) → mem x (o ∷ []) ≡ true → o ≡ x
mem-one x o h = eqb-true o x (sym (or-false (eqb o x)) ∙ h)

-- ---- saved cells as cells of a table

abbrev pub loaded : ℕ → List Saved → List Cell
loaded o cs = map (λ (c : Saved). cell_of o c.key c.held) cs

module _ (o : ℕ) where
  -- they read as the checkpoint says
  loaded-for : (cs : List Saved) (k : ℕ) → lookup (loaded o cs) o k ≡ saved_for cs k
  unfolding lookup
  loaded-for [] k = refl
  loaded-for (c ∷ cs) k = rw (eq-eqb o o refl, held-cell o c.key c.held, loaded-for cs k)

  -- ascending keys are rows in order
  pub ascending-ordered : (cs : List Saved) → ascending saved_before cs ≡ true → in_order (loaded o cs) ≡ true
  unfolding in_order
  ascending-ordered [] a = refl
  ascending-ordered (c ∷ []) a = refl
  ascending-ordered (c ∷ d ∷ cs) a =
      both (lex-key o c.key o d.key refl (ltb-true c.key d.key (first-leads saved_before c (d ∷ cs) a)))
      (ascending-ordered (d ∷ cs) (rest-ascends saved_before c (d ∷ cs) a))

  module _ (sh : Shape) (shape : ok_shape sh ≡ true) (p : ℕ) (few : p ≤ most_slots) where
    pub loaded-owned : (cs : List Saved) → all (ok_saved sh p o) cs ≡ true → all (owned sh (o ∷ [])) (loaded o cs) ≡ true
    unfolding ok_saved owned is_cell
    loaded-owned [] h = refl
    loaded-owned (c ∷ cs) h =
        let a : is_cell sh o c.key ≡ true = search ands in
        let small = cell-small o c.key sh.objects (search ands) a in
        let v : c.held.version ≤ p = leb-true _ _ (search ands) in
        let x : fits 4 (value_field c.held.content) ≡ true = search ands in
        let m : mem o (o ∷ []) ≡ true = rw (eq-eqb o o refl) in
        let f : fits_cell (cell_of o c.key c.held) ≡ true =
        both (both (both (both (lt-ltb o (256 ^ 4) (omega arith)) (lt-ltb c.key (256 ^ 4) (omega arith))) x) (present-fits c.held.content))
        (lt-ltb c.held.version (256 ^ 8) (omega arith)) in
        both (both (both m a) f) (loaded-owned cs (and_r (ok_saved sh p o c) (all (ok_saved sh p o) cs) h))

pub checkpoint-shows : (sh : Shape) → ok_shape sh ≡ true → (log : Log) (room : ℕ) → Sound sh log room
    → (d o : ℕ) (cs : List Saved) → d < log.tail → log.entry d ≡ checkpoint o cs → Shown sh (o ∷ []) (loaded o cs) (run log (suc d)).cells
unfolding ok_entry is_object
checkpoint-shows sh shape log room sound d o cs l e =
    let k : ok_entry sh log d (checkpoint o cs) ≡ true = rw e at (good-kept sh log sound.good d l) in
    let m : mem o (ids sh) ≡ true = search ands in
    let t : as_played sh log room d (checkpoint o cs) ≡ true = rw e at (sound.told d l) in
    let played : List Cell = cells_in (audit_play sh log room d) in
    let kept : (run log (suc d)).cells ≡ (run log d).cells = cells-run log d ∙ ap (λ x. cells_after (d + 1) (run log d) (effect x)) e in
    let there : (i : ℕ) → lookup (loaded o cs) o i ≡ (run log (suc d)).cells o i =
    λ i. loaded-for o cs i ∙ ap (λ y. saved_for y i) (same-saved cs (saved_of o played) t) ∙ saved-for o played i
    ∙ (audit-shows sh shape log room sound d (omega arith)).reads o i m ∙ ap (λ c. c o i) (sym kept) in
    record {
      reads = λ x i h. rw (← mem-one x o h) (there i);
      each = loaded-owned o sh shape d (omega (arith, tail-small sh log sound.frame)) cs (search ands);
      ordered = ascending-ordered o cs (search ands);
    }

-- the object of a checkpoint is in the directory
pub checkpoint-object : (sh : Shape) (log : Log) (d o : ℕ) (cs : List Saved) → ok_entry sh log d (checkpoint o cs) ≡ true → is_object sh o ≡ true
unfolding ok_entry
checkpoint-object sh log d o cs k = search ands
