-- The conditions in words are what the definitions' tests decide: a frame, rows in order, a number's writes and commit record, a
-- decision, the objects of a commit record. Each by induction over the log's entries below a bound, over rows, or by arithmetic.
use Prim.Native.Nat.{ℕ, zero, suc, ◌/◌, ◌%◌, ◌<◌, ◌≤◌}
use mathlib.Core.Path.{◌≡◌, refl, ap, sym, ◌∙◌}
use mathlib.Core.Logic.{◌⊎◌, inl, inr}
use mathlib.Core.Bool.{Bool, true, false, cond, not, ◌||◌}
use mathlib.Core.List.Memᴰ
use mathlib.Core.List.{List, [], ◌∷◌, ◌++◌, Memᴰ}
use mathlib.Core.Option.{Option, none, some}
use native.Mathlib.Nat.{div-add-mod, mul-div_right, mul-mod_right}
use native.Mathlib.Omega.{arith}
use borrow.Author.Tests.{eqb-true, eqb-false, eq-eqb, ltb-false, le-ltb, not-false}
use lib.Dec.{eqb, ltb}
use lib.ListN.{length}
use Rattle.lists.specs.Tests.{and_l, and_r, ors, both, neither, clash}
use Rattle.lists.specs.Sets.{mem, meets, ascending, any-set}
use Rattle.lists.specs.Members.{any-in, in-any, mem-map, map-mem}
use Rattle.model.specs.Objects.{Shape}
use Rattle.model.specs.Entries.{Write, Entry, plain, numbered, commit, decision, checkpoint, blank, effect, Log, aside_under, writes_of, if_some, closed, outcome_after, decided, is_none, written_objects, commit_objects, closes_in}
use Rattle.model.specs.Slot.{log_in, most_slots, ok_shape}
use Rattle.model.specs.Table.{Cell, cell_before, in_order}
use Rattle.model.specs.Answers.{bad_frame}
use Rattle.model.specs.Histories.{Lent, in_log}
use Rattle.model.specs.Terms.{GoodFrame, InOrder, SetAside, Committed, Decided, Concerns}
use Rattle.laws.proofs.Sizes.{layout}
use Rattle.laws.proofs.Refusals.{not_none}
use Rattle.laws.proofs.CellOrder.{lex-less, lex-key, lex-case}

-- ---- the frame

pub frame-words : (sh : Shape) (l : Lent) → bad_frame sh.layout (in_log sh l) ≡ false → GoodFrame sh l
unfolding bad_frame log_in
frame-words sh l e =
    let w : not (eqb (length l.bytes % sh.layout.slot_size) 0) ≡ false = search ors in
    let z : length l.bytes % sh.layout.slot_size ≡ 0 = eqb-true _ 0 (not-false _ w) in
    let a : ltb most_slots (length l.bytes / sh.layout.slot_size) ≡ false = search ors in
    let b : ltb (length l.bytes / sh.layout.slot_size) l.tail ≡ false = search ors in
    record {
      slots = length l.bytes / sh.layout.slot_size;
      whole = omega (arith, div-add-mod (length l.bytes) sh.layout.slot_size);
      few = ltb-false most_slots (length l.bytes / sh.layout.slot_size) a;
      used = ltb-false (length l.bytes / sh.layout.slot_size) l.tail b;
    }

pub words-frame : (sh : Shape) → ok_shape sh ≡ true → (l : Lent) → GoodFrame sh l → bad_frame sh.layout (in_log sh l) ≡ false
unfolding bad_frame log_in
words-frame sh shape l f =
    let some : 1 ≤ sh.layout.slot_size = omega (arith, (layout sh shape).room) in
    let n : length l.bytes / sh.layout.slot_size ≡ f.slots = ap (λ (m : ℕ). m / sh.layout.slot_size) f.whole ∙ mul-div_right f.slots some in
    let z : length l.bytes % sh.layout.slot_size ≡ 0 = ap (λ (m : ℕ). m % sh.layout.slot_size) f.whole ∙ mul-mod_right sh.layout.slot_size f.slots in
    neither (neither (ap not (eq-eqb (length l.bytes % sh.layout.slot_size) 0 z)) (le-ltb most_slots (length l.bytes / sh.layout.slot_size) (omega (arith, f.few))))
    (le-ltb (length l.bytes / sh.layout.slot_size) l.tail (omega (arith, f.used)))

-- ---- rows in order

pub order-words : (cs : List Cell) → in_order cs ≡ true → InOrder cs
unfolding in_order
order-words [] a = tt
order-words (c ∷ []) a = tt
order-words (c ∷ d ∷ cs) a =
    let p : cell_before c d ≡ true = and_l (cell_before c d) (ascending cell_before (d ∷ cs)) a in
    (lex-case c.object c.key d.object d.key p (λ l. inl l) (λ e l. inr (e, l)), order-words (d ∷ cs) (and_r (cell_before c d) (ascending cell_before (d ∷ cs)) a))

words-before : (c d : Cell) → (c.object < d.object) ⊎ ((c.object ≡ d.object) × (c.key < d.key)) → cell_before c d ≡ true
words-before c d (inl l) = lex-less c.object c.key d.object d.key l
words-before c d (inr (e, l)) = lex-key c.object c.key d.object d.key e l

pub words-order : (cs : List Cell) → InOrder cs → in_order cs ≡ true
unfolding in_order
words-order [] a = refl
words-order (c ∷ []) a = refl
words-order (c ∷ d ∷ cs) a = both (words-before c d a.0) (words-order (d ∷ cs) a.1)

-- ---- the writes of a number

module _ (log : Log) (n : ℕ) where
  later : (p : ℕ) (w : Write) → SetAside log n p w → SetAside log n (suc p) w
  later p w s = record { at = s.at; writes = s.writes; below = omega (arith, s.below); here = s.here; one = s.one }

  -- those of one entry
  aside-in : (p : ℕ) (w : Write) (e : Entry) → log.entry p ≡ e → Memᴰ w (aside_under n (effect e)) → SetAside log n (suc p) w
  aside-in p w (plain ws) i m = absurd (Memᴰ.not-nil m)
  aside-in p w (numbered k ws) i m = go (eqb k n) refl m
    where
      go : (b : Bool) → eqb k n ≡ b → Memᴰ w (cond b ws []) → SetAside log n (suc p) w
      go true e o = record { at = p; writes = ws; below = omega arith; here = i ∙ ap (λ (x : ℕ). numbered x ws) (eqb-true k n e); one = o }
      go false e o = absurd (Memᴰ.not-nil o)
  aside-in p w (commit k c) i m = absurd (Memᴰ.not-nil m)
  aside-in p w (decision r) i m = absurd (Memᴰ.not-nil m)
  aside-in p w (checkpoint o cs) i m = absurd (Memᴰ.not-nil m)
  aside-in p w blank i m = absurd (Memᴰ.not-nil m)

  pub writes_aside : (p : ℕ) (w : Write) → Memᴰ w (writes_of log n p) → SetAside log n p w
  unfolding writes_of
  writes_aside zero w m = absurd (Memᴰ.not-nil m)
  writes_aside (suc p) w m = go (Memᴰ.append_cases (writes_of log n p) m) (λ k. writes_aside p w k)
    where
      go : Memᴰ w (writes_of log n p) ⊎ Memᴰ w (aside_under n (effect (log.entry p))) → (Memᴰ w (writes_of log n p) → SetAside log n p w) → SetAside log n (suc p) w
      go (inl k) ih = later p w (ih k)
      go (inr k) ih = aside-in p w (log.entry p) refl k

  pub aside-writes : (p : ℕ) (w : Write) → SetAside log n p w → Memᴰ w (writes_of log n p)
  unfolding writes_of
  aside-writes zero w s = absurd (omega (arith, s.below))
  aside-writes (suc p) w s = go (eqb s.at p) refl (λ k. aside-writes p w k)
    where
      less : (s.at ≡ p → ⊥) → s.at < p
      less d = omega (arith, s.below)

      here : s.at ≡ p → Memᴰ w (aside_under n (effect (log.entry p)))
      here e = rw (← e, s.here, eq-eqb n n refl) s.one

      go : (b : Bool) → eqb s.at p ≡ b → (SetAside log n p w → Memᴰ w (writes_of log n p)) → Memᴰ w (writes_of log n p ++ aside_under n (effect (log.entry p)))
      go true e ih = Memᴰ.append_right (writes_of log n p) (here (eqb-true s.at p e))
      go false e ih = Memᴰ.append_left (aside_under n (effect (log.entry p)))
          (ih (record { at = s.at; writes = s.writes; below = less (eqb-false s.at p e); here = s.here; one = s.one }))

  -- ---- its commit record

  closing : (p : ℕ) (e : Entry) → log.entry p ≡ e → if_some (closes_in (effect e)) false (λ m. eqb m n) ≡ true → Committed log n (suc p)
  closing p (plain ws) i h = clash false h refl
  closing p (numbered k ws) i h = clash false h refl
  closing p (commit k c) i h = (p, c, omega arith, i ∙ ap (λ (x : ℕ). commit x c) (eqb-true k n h))
  closing p (decision r) i h = clash false h refl
  closing p (checkpoint o cs) i h = clash false h refl
  closing p blank i h = clash false h refl

  pub closed-words : (p : ℕ) → closed log n p ≡ true → Committed log n p
  unfolding closed
  closed-words zero h = clash false h refl
  closed-words (suc p) h = go (closed log n p) refl h (λ k. closed-words p k)
    where
      go : (b : Bool) → closed log n p ≡ b → (b || if_some (closes_in (effect (log.entry p))) false (λ m. eqb m n)) ≡ true
          → (closed log n p ≡ true → Committed log n p) → Committed log n (suc p)
      go true e k ih = let (q, c, l, i) = ih e in (q, c, omega arith, i)
      go false e k ih = closing p (log.entry p) refl k

  pub words-closed : (p : ℕ) → Committed log n p → closed log n p ≡ true
  unfolding closed
  words-closed zero (q, c, l, i) = absurd (omega arith)
  words-closed (suc p) (q, c, l, i) = go (eqb q p) refl (closed log n p) refl (λ k. words-closed p (q, c, k, i))
    where
      less : (q ≡ p → ⊥) → q < p
      less d = omega arith

      here : q ≡ p → if_some (closes_in (effect (log.entry p))) false (λ m. eqb m n) ≡ true
      here e = rw (← e, i) (eq-eqb n n refl)

      go : (a : Bool) → eqb q p ≡ a → (b : Bool) → closed log n p ≡ b → (q < p → closed log n p ≡ true)
          → (b || if_some (closes_in (effect (log.entry p))) false (λ m. eqb m n)) ≡ true
      go a e true f ih = refl
      go true e false f ih = here (eqb-true q p e)
      go false e false f ih = clash (closed log n p) (ih (less (eqb-false q p e))) f

-- ---- decision records

module _ (log : Log) (q : ℕ) where
  deciding : (p v : ℕ) (e : Entry) → log.entry p ≡ e → (decided log q p ≡ some v → Decided log q p) → outcome_after q e (decided log q p) ≡ some v → Decided log q (suc p)
  deciding p v (plain ws) i ih h = let (d, r, l, k, o) = ih h in (d, r, omega arith, k, o)
  deciding p v (numbered n ws) i ih h = let (d, r, l, k, o) = ih h in (d, r, omega arith, k, o)
  deciding p v (commit n c) i ih h = let (d, r, l, k, o) = ih h in (d, r, omega arith, k, o)
  deciding p v (decision r) i ih h = go (eqb r.offset q) refl h
    where
      go : (b : Bool) → eqb r.offset q ≡ b → cond b (some r.outcome) (decided log q p) ≡ some v → Decided log q (suc p)
      go true e j = (p, r, omega arith, i, eqb-true r.offset q e)
      go false e j = let (d, r, l, k, o) = ih j in (d, r, omega arith, k, o)
  deciding p v (checkpoint o cs) i ih h = let (d, r, l, k, o) = ih h in (d, r, omega arith, k, o)
  deciding p v blank i ih h = let (d, r, l, k, o) = ih h in (d, r, omega arith, k, o)

  pub decided-words : (p v : ℕ) → decided log q p ≡ some v → Decided log q p
  unfolding decided
  decided-words zero v h = not_none v (sym h)
  decided-words (suc p) v h = deciding p v (log.entry p) refl (λ k. decided-words p v k) h

  still : (p : ℕ) (e : Entry) → is_none (outcome_after q e (decided log q p)) ≡ true → is_none (decided log q p) ≡ true
  still p (plain ws) h = h
  still p (numbered n ws) h = h
  still p (commit n c) h = h
  still p (decision r) h = go (eqb r.offset q) h
    where
      go : (b : Bool) → is_none (cond b (some r.outcome) (decided log q p)) ≡ true → is_none (decided log q p) ≡ true
      go true k = clash false k refl
      go false k = k
  still p (checkpoint o cs) h = h
  still p blank h = h

  pub undecided-words : (p : ℕ) → is_none (decided log q p) ≡ true → Decided log q p → ⊥
  unfolding decided
  undecided-words zero h (d, r, l, i, o) = omega arith
  undecided-words (suc p) h (d, r, l, i, o) = go (eqb d p) refl (λ k. undecided-words p (still p (log.entry p) h) (d, r, k, i, o))
    where
      less : (d ≡ p → ⊥) → d < p
      less k = omega arith

      here : d ≡ p → is_none (outcome_after q (log.entry p) (decided log q p)) ≡ false
      here e = rw (← e, i, o, eq-eqb q q refl)

      go : (b : Bool) → eqb d p ≡ b → (d < p → ⊥) → ⊥
      go true e ih = clash (is_none (outcome_after q (log.entry p) (decided log q p))) h (here (eqb-true d p e))
      go false e ih = ih (less (eqb-false d p e))

  pub words-undecided : (p : ℕ) → (Decided log q p → ⊥) → is_none (decided log q p) ≡ true
  words-undecided p h = go (decided log q p) refl
    where
      go : (x : Option ℕ) → decided log q p ≡ x → is_none x ≡ true
      go none e = refl
      go (some v) e = absurd (h (decided-words p v e))

-- ---- the objects of a commit record

module _ (log : Log) (set : List ℕ) (n p : ℕ) where
  pub concerns-words : meets set (commit_objects log p n) ≡ true → Concerns log set n p
  concerns-words h =
      let (o, m, e) = any-in (λ x. mem x set) (written_objects (writes_of log n p)) (sym (any-set (λ x. mem x set) (written_objects (writes_of log n p))) ∙ h) in
      let (w, k, i) = mem-map (λ (w : Write). w.object) o (writes_of log n p) (in-any (λ y. eqb y o) o (written_objects (writes_of log n p)) m (eq-eqb o o refl)) in
      (w, writes_aside log n p w k, ap (λ x. mem x set) i ∙ e)

  pub words-concerns : Concerns log set n p → meets set (commit_objects log p n) ≡ true
  words-concerns (w, s, e) =
      let m : mem w.object (written_objects (writes_of log n p)) ≡ true = map-mem (λ (w : Write). w.object) w.object w (writes_of log n p) (aside-writes log n p w s) refl in
      let (y, k, i) = any-in (λ y. eqb y w.object) (written_objects (writes_of log n p)) m in
      any-set (λ x. mem x set) (written_objects (writes_of log n p))
      ∙ in-any (λ x. mem x set) y (written_objects (writes_of log n p)) k (ap (λ x. mem x set) (eqb-true y w.object i) ∙ e)
