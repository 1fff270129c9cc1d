-- The invariant of a table's cells: they show what the cells of a set's objects hold, each is a cell of the set that fits its
-- bytes, and they are in order, so that none is there twice. Writes keep it, and it tells how many cells there are.
use Prim.Native.Nat.{ℕ, ◌+◌, ◌<◌, ◌≤◌, ◌^◌}
use mathlib.Core.Path.{◌≡◌, refl, ap, sym, ◌∙◌}
use mathlib.Core.Bool.{Bool, true, false, cond, ◌&&◌}
use mathlib.Core.List.{List, [], ◌∷◌}
use mathlib.Core.Option.{Option, none, some}
use native.Mathlib.Numerals.{add-one}
use native.Mathlib.Omega.{arith}
use borrow.Author.Tests.{lt-ltb}
use lib.Dec.{eqb}
use lib.ListN.{length}
use Rattle.laws.proofs.Tables.{all-store}
use Rattle.laws.proofs.Ordered.{lookup-store, store-few, rest-ordered, first-once, ordered-store}
use Rattle.lists.specs.Tests.{and_l, and_r, ands, both, clash}
use Rattle.lists.specs.Sets.{all, mem, ascending, all-weaken}
use Rattle.model.specs.Objects.{Shape, is_cell}
use Rattle.model.specs.Entries.{Write, Held, content_of, is_none}
use Rattle.model.specs.Slot.{ok_shape}
use Rattle.model.specs.Rules.{fits, ok_write}
use Rattle.model.specs.Table.{Cell, Holds, held_by, lookup, present_field, cell_of, in_order, store, apply}
use Rattle.model.specs.Run.{written, made_all}
use Rattle.model.specs.Histories.{cells_written}
use Rattle.laws.proofs.Items.{fits_cell, fits_write, write-fits, content-fits}
use Rattle.claims.proofs.Counts.{same, other-object, put, by_id, written_same, written_none, written_new}

-- ---- cells of a set that fit their bytes

unfoldable pub owned : Shape → List ℕ → Cell → Bool
owned sh set c = mem c.object set && is_cell sh c.object c.key && fits_cell c

pub present-fits : (x : Option ℕ) → fits 4 (present_field x) ≡ true
present-fits none = refl
present-fits (some x) = refl

-- ---- the invariant

pub record Shown (sh : Shape) (set : List ℕ) (cs : List Cell) (cells : Holds) : Type 0 where
  pub reads : (o k : ℕ) → mem o set ≡ true → lookup cs o k ≡ cells o k
  pub each : all (owned sh set) cs ≡ true
  pub ordered : in_order cs ≡ true

pub shown-fits : (sh : Shape) (set : List ℕ) (cs : List Cell) → all (owned sh set) cs ≡ true → all fits_cell cs ≡ true
unfolding owned
shown-fits sh set cs h = all-weaken (owned sh set) fits_cell cs (λ c e. and_r (mem c.object set && is_cell sh c.object c.key) (fits_cell c) e) h

pub nothing-shown : (sh : Shape) (set : List ℕ) → Shown sh set [] (λ o k. none)
unfolding lookup in_order
nothing-shown sh set = record { reads = λ o k h. refl; each = refl; ordered = refl }

module _ (sh : Shape) (shape : ok_shape sh ≡ true) (set : List ℕ) where
  ids-ascend : ascending by_id sh.objects ≡ true
  ids-ascend = search ands

  -- the cells are as many as were written
  pub how-many : (cs : List Cell) (cells : Holds) → Shown sh set cs cells → length cs ≡ cells_written sh.objects set cells
  unfolding lookup owned is_cell
  how-many cs cells s = go cs s.each s.ordered ∙ written_same sh.objects set (lookup cs) cells s.reads
    where
      go : (cs : List Cell) → all (owned sh set) cs ≡ true → in_order cs ≡ true → length cs ≡ cells_written sh.objects set (lookup cs)
      go [] a d = sym (written_same sh.objects set (lookup []) (λ o k. none) (λ o k m. refl) ∙ written_none sh.objects set)
      go (c ∷ cs) a d =
          let own : owned sh set c ≡ true = and_l (owned sh set c) (all (owned sh set) cs) a in
          let new : is_none (lookup cs c.object c.key) ≡ true = ap is_none (first-once c cs d) in
          sym (add-one (length cs))
          ∙ ap (λ (n : ℕ). n + 1) (go cs (and_r (owned sh set c) (all (owned sh set) cs) a) (rest-ordered c cs d))
          ∙ sym (written_new (lookup cs) c.object c.key (held_by c) new set (search ands) sh.objects ids-ascend (search ands))
          ∙ written_same sh.objects set (put (lookup cs) c.object c.key (held_by c)) (lookup (c ∷ cs)) (λ o k m. refl)

  module _ (v : ℕ) (small : v < 2 ^ 64) where
    -- a write makes a cell that fits
    pub write-fitting : (w : Write) → ok_write sh w ≡ true → fits_cell (cell_of w.object w.key (record { version = v; content = content_of w })) ≡ true
    write-fitting w ok =
        let f : fits_write w ≡ true = write-fits sh shape w ok in
        let b : fits 4 w.object ≡ true = search ands in
        let c : fits 4 w.key ≡ true = search ands in
        let d : fits 4 w.value ≡ true = search ands in
        both (both (both (both b c) (content-fits (eqb w.operation 1) w.value d)) (present-fits (content_of w))) (lt-ltb v (256 ^ 8) small)

    -- of a cell of the set
    owned-write : (w : Write) → ok_write sh w ≡ true → mem w.object set ≡ true → owned sh set (cell_of w.object w.key (record { version = v; content = content_of w })) ≡ true
    unfolding owned ok_write
    owned-write w ok m =
        let a : is_cell sh w.object w.key ≡ true = search ands in
        both (both m a) (write-fitting w ok)

    one-write : (w : Write) (cs : List Cell) (cells : Holds) → ok_write sh w ≡ true → Shown sh set cs cells
        → Shown sh set (cond (mem w.object set) (store cs w.object w.key (record { version = v; content = content_of w })) cs) (written v w cells)
    one-write w cs cells ok s = go (mem w.object set) refl
      where
        h : Held
        h = record { version = v; content = content_of w }

        go : (b : Bool) → mem w.object set ≡ b → Shown sh set (cond b (store cs w.object w.key (record { version = v; content = content_of w })) cs) (written v w cells)
        go true m = record {
          reads = λ o k i. lookup-store cs w.object w.key h o k ∙ ap (cond (same w.object w.key o k) (some h)) (s.reads o k i);
          each = all-store (owned sh set) cs w.object w.key h s.each (owned-write w ok m);
          ordered = ordered-store cs w.object w.key h s.ordered;
        }
        go false m = record {
          reads = λ o k i. rw (other-object w.object w.key o k (λ e. clash (mem o set) i (rw e at m))) (s.reads o k i);
          each = s.each;
          ordered = s.ordered;
        }

    pub all-writes : (ws : List Write) (cs : List Cell) (cells : Holds) → all (ok_write sh) ws ≡ true → Shown sh set cs cells → Shown sh set (apply set v ws cs) (made_all v ws cells)
    unfolding apply
    all-writes [] cs cells ok s = s
    all-writes (w ∷ ws) cs cells ok s =
        all-writes ws (cond (mem w.object set) (store cs w.object w.key (record { version = v; content = content_of w })) cs) (written v w cells)
        (and_r (ok_write sh w) (all (ok_write sh) ws) ok) (one-write w cs cells (and_l (ok_write sh w) (all (ok_write sh) ws) ok) s)

    -- cells that fit do so after writes
    pub apply-fits : (ws : List Write) (cs : List Cell) → all (ok_write sh) ws ≡ true → all fits_cell cs ≡ true → all fits_cell (apply set v ws cs) ≡ true
    unfolding apply
    apply-fits [] cs ok f = f
    apply-fits (w ∷ ws) cs ok f =
        apply-fits ws (cond (mem w.object set) (store cs w.object w.key (record { version = v; content = content_of w })) cs)
        (and_r (ok_write sh w) (all (ok_write sh) ws) ok) (go (mem w.object set))
      where
        go : (b : Bool) → all fits_cell (cond b (store cs w.object w.key (record { version = v; content = content_of w })) cs) ≡ true
        go true = all-store fits_cell cs w.object w.key (record { version = v; content = content_of w }) f (write-fitting w (and_l (ok_write sh w) (all (ok_write sh) ws) ok))
        go false = f

-- ---- how many cells writes add

-- each write at most one
pub apply-few : (set : List ℕ) (v : ℕ) (ws : List Write) (cs : List Cell) → length (apply set v ws cs) ≤ length cs + length ws
unfolding apply
apply-few set v [] cs = omega arith
apply-few set v (w ∷ ws) cs = go (mem w.object set) (λ ds. apply-few set v ws ds)
  where
    h : Held
    h = record { version = v; content = content_of w }

    go : (b : Bool) → ((ds : List Cell) → length (apply set v ws ds) ≤ length ds + length ws)
        → length (apply set v ws (cond b (store cs w.object w.key (record { version = v; content = content_of w })) cs)) ≤ length cs + length (w ∷ ws)
    go true ih = omega (arith, ih (store cs w.object w.key h), store-few cs w.object w.key h)
    go false ih = omega (arith, ih cs)
