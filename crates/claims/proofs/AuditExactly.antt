-- The audit of a log that appends made, exactly: it passes where the scratch table has room and every decision and checkpoint
-- agrees with the run, tells the lowest that does not, and without room the first entry whose cells have none.
use Prim.Native.Nat.{ℕ, ◌+◌, ◌*◌, ◌/◌, ◌%◌, ◌<◌, ◌≤◌}
use mathlib.Core.Path.{◌≡◌, refl, ap, sym, ◌∙◌, subst}
use mathlib.Core.Logic.{◌↔◌}
use mathlib.Core.Bool.{Bool, true, false, not}
use mathlib.Core.List.{List, [], ◌∷◌, map}
use mathlib.Core.Option.{Option, none, some}
use native.Mathlib.Omega.{arith}
use native.Mathlib.Numerals.{add-one}
use borrow.Author.Tests.{eqb-true, ltb-true, ltb-false, le-ltb, not-false}
use lib.Dec.{eqb, ltb}
use lib.ListN.{length}
use Rattle.lists.specs.Tests.{ands, neither, clash}
use Rattle.lists.specs.Sets.{mem}
use Rattle.model.specs.Objects.{Object, Shape, ids, is_cell, hosted_by, hosted, every_bit, everything, bad_set}
use Rattle.model.specs.Entries.{Decision, Entry, plain, numbered, commit, decision, checkpoint, blank, effect, Log, commit_in, if_some, is_none}
use Rattle.model.specs.Slot.{log_in, ok_shape}
use Rattle.model.specs.Rules.{ok_entry, lowest_bad}
use Rattle.model.specs.Table.{Cell, Holds, capacity, table_with}
use Rattle.model.specs.Play.{Played, going, waits, lacks, cells_in}
use Rattle.model.specs.Answers.{Answer, done, refused, bad_frame}
use Rattle.model.specs.Replica.{Left, read_cell, audit_play, as_played, lowest_false, audit_left, audit}
use Rattle.model.specs.Histories.{in_log, is_refused, History, whole_log, ran_to}
use Rattle.model.specs.Terms.{GoodFrame}
use Rattle.model.specs.Claims.{Agrees, written_by, HasRoom, telling_of, Audits, AuditsExactly}
use Rattle.model.specs.Worked.{code}
use Rattle.laws.proofs.Items.{cell-object}
use Rattle.laws.proofs.Refusals.{lowest-none, lowest-some}
use Rattle.laws.proofs.Tables.{cells-back}
use Rattle.laws.proofs.Room.{play-fits, length-with}
use Rattle.laws.proofs.Appends.{good-kept}
use Rattle.claims.proofs.Terms.{words-frame}
use Rattle.claims.proofs.KeepsGood.{keeps-good}
use Rattle.claims.proofs.Cells.{Shown, shown-fits, how-many}
use Rattle.claims.proofs.Runs.{run}
use Rattle.claims.proofs.Steps.{Ok}
use Rattle.claims.proofs.Growing.{written_grows}
use Rattle.claims.proofs.Histories.{run-at}
use Rattle.claims.proofs.Audits.{is_going, audit-ok, decision-below}
use Rattle.claims.proofs.NeverWaits.{no-wait}
use Rattle.claims.proofs.Openings.{hosted-none}
use Rattle.claims.proofs.Judged.{decision-judged, checkpoint-judged}

-- ---- the set of everything

every-hosted : (bs : List Object) → hosted_by bs (every_bit bs) ≡ map (λ (b : Object). b.id) bs
every-hosted [] = refl
every-hosted (b ∷ bs) =
    let odd : (1 + 2 * every_bit bs) % 2 ≡ 1 = omega arith in
    let half : (1 + 2 * every_bit bs) / 2 ≡ every_bit bs = omega arith in
    rw (odd, half) (ap (λ (xs : List ℕ). b.id ∷ xs) (every-hosted bs))

pub hosts-all : (sh : Shape) → hosted sh (everything sh) ≡ ids sh
unfolding hosted
hosts-all sh = every-hosted sh.objects

-- ---- cell reading of a record that hosts everything

some-object : (sh : Shape) (o : ℕ) → mem o (ids sh) ≡ true → (b : Bool) → eqb (everything sh) 0 ≡ b → b ≡ false
some-object sh o m true e = clash (mem o (ids sh)) m (ap (mem o) (sym (hosts-all sh) ∙ ap (hosted sh) (eqb-true (everything sh) 0 e) ∙ hosted-none sh))
some-object sh o m false e = refl

read_all : (sh : Shape) → sh.fault ≡ none → (cells : Holds) (p : ℕ) (scratch : List ℕ) (cs : List Cell) → length cs ≤ capacity scratch → Shown sh (ids sh) cs cells → (o k : ℕ) → is_cell sh o k ≡ true
    → read_cell sh (record { hosting = everything sh; position = p; count = length cs }) (table_with scratch cs) o k ≡ done (cells o k)
unfolding read_cell is_cell
read_all sh directed cells p scratch cs fits s o k c =
    let m : mem o (ids sh) ≡ true = cell-object sh.objects o k c in
    let n : ltb (capacity (table_with scratch cs)) (length cs) ≡ false = le-ltb (capacity (table_with scratch cs)) (length cs) (rw (length-with scratch cs fits) fits) in
    let b : bad_set sh (everything sh) ≡ false = neither (some-object sh o m (eqb (everything sh) 0) refl) (le-ltb (everything sh) (everything sh) (omega arith)) in
    rw (b, n, hosts-all sh, m, c, cells-back scratch cs (shown-fits sh (ids sh) cs s.each), s.ordered, directed) (ap done (s.reads o k m))

-- ---- the three ends of an audit

abbrev told : Answer (Unit {0}) → ℕ
told (done a) = 0
told (refused r) = if_some r.told 0 (λ o. o)

data Verdict (sh : Shape) (h : History) (scratch : List ℕ) (out : Left) : Type 0 where
  passed : out.answer ≡ done tt → HasRoom sh (whole_log sh h) (ran_to sh h) scratch → ((d : ℕ) → d < (whole_log sh h).tail → Agrees sh (whole_log sh h) (ran_to sh h) d) → Verdict sh h scratch out
  found : (d : ℕ) → out.answer ≡ telling_of 11 d → HasRoom sh (whole_log sh h) (ran_to sh h) scratch → d < (whole_log sh h).tail → (Agrees sh (whole_log sh h) (ran_to sh h) d → ⊥) → ((e : ℕ) → e < d → Agrees sh (whole_log sh h) (ran_to sh h) e)
      → Verdict sh h scratch out
  full : (q : ℕ) → out.answer ≡ telling_of 13 q → q < (whole_log sh h).tail → written_by sh (ran_to sh h) q ≤ capacity scratch → capacity scratch < written_by sh (ran_to sh h) (q + 1)
      → Verdict sh h scratch out

-- how the audit leaves record and table where there was room
record Standing (sh : Shape) (h : History) (scratch : List ℕ) (out : Left) : Type 0 where
  stands : HasRoom sh (whole_log sh h) (ran_to sh h) scratch → out.replica.position ≡ (whole_log sh h).tail
  shows : HasRoom sh (whole_log sh h) (ran_to sh h) scratch → (o k : ℕ) → is_cell sh o k ≡ true
      → read_cell sh out.replica out.table o k ≡ done ((ran_to sh h (whole_log sh h).tail).cells o k)
  counts : HasRoom sh (whole_log sh h) (ran_to sh h) scratch → out.replica.count ≡ written_by sh (ran_to sh h) (whole_log sh h).tail

module _ (sh : Shape) (shape : ok_shape sh ≡ true) (h : History) (scratch : List ℕ) where
  abbrev log : Log
  log = in_log sh (whole_log sh h)

  abbrev room : ℕ
  room = capacity scratch

  same : (p : ℕ) → p ≤ log.tail → ran_to sh h p ≡ run log p
  unfolding log_in
  same p l = run-at sh shape h p l

  grows : (p q : ℕ) → p ≤ q → q ≤ log.tail → written_by sh (ran_to sh h) p ≤ written_by sh (ran_to sh h) q
  grows p q l m = rw (same p (omega arith), same q m) (written_grows sh.objects (ids sh) log p q l)

  -- an entry without room, and room to the tail
  no_room_lem : {P : Type 0} (q : ℕ) → q < (whole_log sh h).tail → room < written_by sh (ran_to sh h) (q + 1) → HasRoom sh (whole_log sh h) (ran_to sh h) scratch → P
  unfolding log_in
  no_room_lem q l m r = absurd (omega (arith, grows (q + 1) (whole_log sh h).tail (omega arith) (omega arith)))

  -- ---- each end excludes the others

  module _ (out : Left) where
    clashing : {P : Type 0} (n d : ℕ) → out.answer ≡ telling_of n d → out.answer ≡ done tt → P
    clashing n d a e = clash true refl (ap is_refused (sym a ∙ e))

    passes : Verdict sh h scratch out → (out.answer ≡ done tt) ↔ (HasRoom sh (whole_log sh h) (ran_to sh h) scratch × ((d : ℕ) → d < (whole_log sh h).tail → Agrees sh (whole_log sh h) (ran_to sh h) d))
    passes (passed a r g) = (λ e. (r, g), λ x. a)
    passes (found d a r l n b) = (λ e. clashing 11 d a e, λ x. absurd (n (x.1 d l)))
    passes (full q a l w m) = (λ e. clashing 13 q a e, λ x. no_room_lem q l m x.0)

    -- two lowest ones are one
    lowest-one : (d e : ℕ) → (Agrees sh (whole_log sh h) (ran_to sh h) d → ⊥) → ((x : ℕ) → x < d → Agrees sh (whole_log sh h) (ran_to sh h) x) → (Agrees sh (whole_log sh h) (ran_to sh h) e → ⊥) → ((x : ℕ) → x < e → Agrees sh (whole_log sh h) (ran_to sh h) x) → d ≡ e
    lowest-one d e n b m c = go (ltb d e) (ltb e d) refl refl
      where
        go : (x y : Bool) → ltb d e ≡ x → ltb e d ≡ y → d ≡ e
        go true y p q = absurd (n (c d (ltb-true d e p)))
        go false true p q = absurd (m (b e (ltb-true e d q)))
        go false false p q = omega (arith, ltb-false d e p, ltb-false e d q)

    tells : Verdict sh h scratch out → (d : ℕ) → (out.answer ≡ telling_of 11 d)
        ↔ (HasRoom sh (whole_log sh h) (ran_to sh h) scratch × (d < (whole_log sh h).tail) × (Agrees sh (whole_log sh h) (ran_to sh h) d → ⊥) × ((e : ℕ) → e < d → Agrees sh (whole_log sh h) (ran_to sh h) e))
    tells (passed a r g) d = (λ e. clashing 11 d e a, λ x. absurd (x.2 (g d x.1)))
    tells (found c a r l n b) d = (
      λ e. let i : c ≡ d = ap told (sym a ∙ e) in subst (λ (y : ℕ). HasRoom sh (whole_log sh h) (ran_to sh h) scratch × (y < (whole_log sh h).tail) × (Agrees sh (whole_log sh h) (ran_to sh h) y → ⊥) × ((e : ℕ) → e < y → Agrees sh (whole_log sh h) (ran_to sh h) e)) i (r, l, n, b),
      λ x. a ∙ ap (telling_of 11) (lowest-one c d n b x.2 x.3),
    )
    tells (full q a l w m) d = (λ e. absurd (let n : ◌≡◌ {A = ℕ} 13 11 = ap code (sym a ∙ e) in omega arith), λ x. no_room_lem q l m x.0)

    -- two first ones are one
    first_one : (q p : ℕ) → q < (whole_log sh h).tail → room < written_by sh (ran_to sh h) (q + 1) → p < (whole_log sh h).tail → written_by sh (ran_to sh h) p ≤ room → p ≤ q
    unfolding log_in
    first_one q p l m k w = go (ltb q p) refl
      where
        go : (b : Bool) → ltb q p ≡ b → p ≤ q
        go true e = let u : q < p = ltb-true q p e in absurd (omega (arith, grows (q + 1) p (omega arith) (omega arith)))
        go false e = ltb-false q p e

    lacking : Verdict sh h scratch out → (q : ℕ) → (out.answer ≡ telling_of 13 q)
        ↔ ((q < (whole_log sh h).tail) × (written_by sh (ran_to sh h) q ≤ room) × (room < written_by sh (ran_to sh h) (q + 1)))
    lacking (passed a r g) q = (λ e. clashing 13 q e a, λ x. no_room_lem q x.0 x.2 r)
    lacking (found d a r l n b) q = (λ e. absurd (let n : ◌≡◌ {A = ℕ} 11 13 = ap code (sym a ∙ e) in omega arith), λ x. no_room_lem q x.0 x.2 r)
    lacking (full p a l w m) q = (
      λ e. let i : p ≡ q = ap told (sym a ∙ e) in subst (λ (y : ℕ). (y < (whole_log sh h).tail) × (written_by sh (ran_to sh h) y ≤ room) × (room < written_by sh (ran_to sh h) (y + 1))) i (l, w, m),
      λ x. let i : p ≡ q = omega (arith, first_one p q l m x.0 x.1, first_one q p x.0 x.2 l w) in a ∙ ap (telling_of 13) i,
    )

  -- ---- which end it is

  module _ (directed : sh.fault ≡ none) (framed : GoodFrame sh (whole_log sh h)) where
    frame : bad_frame sh.layout log ≡ false
    frame = words-frame sh shape (whole_log sh h) framed

    good : lowest_bad sh log ≡ none
    good = keeps-good sh shape h

    left_so : audit sh log scratch ≡ audit_left (everything sh) log.tail scratch (lowest_false sh log room) (audit_play sh log room log.tail)
    unfolding audit
    left_so = rw (frame, good, directed)

    module _ (ended : is_going (audit_play sh log room log.tail) ≡ true) where
      obeys : (d : ℕ) (r : Decision) → d < log.tail → log.entry d ≡ decision r → ok_entry sh log d (decision r) ≡ true
      obeys d r l e = rw e at (good-kept sh log good d l)

      told-agrees : (d : ℕ) → d < log.tail → as_played sh log room d (log.entry d) ≡ true → Agrees sh (whole_log sh h) (ran_to sh h) d
      told-agrees d l t = record {
        decisions = λ r n c e i.
            let b = decision-below sh log d r (obeys d r l e) in
            rw (same r.offset (omega arith)) ((decision-judged sh shape log room frame good ended d r n c l b i).0 (rw e at t));
        checkpoints = λ o cs e k. rw (same d (omega arith)) ((checkpoint-judged sh shape log room frame good ended d o cs l e).0 (rw e at t) k);
      }

      agrees-told : (d : ℕ) → d < log.tail → Agrees sh (whole_log sh h) (ran_to sh h) d → as_played sh log room d (log.entry d) ≡ true
      unfolding ok_entry
      agrees-told d l a = go (log.entry d) refl
        where
          at : (r : Decision) → log.entry d ≡ decision r → (x : Entry) → log.entry r.offset ≡ x → not (is_none (commit_in (effect x))) ≡ true → as_played sh log room d (decision r) ≡ true
          at r e (plain ws) i k = clash false k refl
          at r e (numbered n ws) i k = clash false k refl
          at r e (commit n c) i k =
              let b = decision-below sh log d r (obeys d r l e) in
              (decision-judged sh shape log room frame good ended d r n c l b i).1 (rw (same r.offset (omega arith)) at (a.decisions r n c e i))
          at r e (decision s) i k = clash false k refl
          at r e (checkpoint q cs) i k = clash false k refl
          at r e blank i k = clash false k refl

          go : (x : Entry) → log.entry d ≡ x → as_played sh log room d x ≡ true
          go (plain ws) e = refl
          go (numbered n ws) e = refl
          go (commit n c) e = refl
          go (decision r) e = let k = obeys d r l e in at r e (log.entry r.offset) refl (search ands)
          go (checkpoint o cs) e = (checkpoint-judged sh shape log room frame good ended d o cs l e).1 (rw (same d (omega arith)) at (a.checkpoints o cs e))
          go blank e = refl

    fits : length (cells_in (audit_play sh log room log.tail)) ≤ room
    fits = play-fits sh log (ids sh) room 0 [] log.tail (omega arith)

    -- with room the cells are those at the tail
    cells-all : (cs : List Cell) → Shown sh (ids sh) cs (run log log.tail).cells → length cs ≡ written_by sh (ran_to sh h) log.tail
    cells-all cs s = how-many sh shape (ids sh) cs (run log log.tail).cells s ∙ rw (same log.tail (omega arith))

    verdict : (f : Option ℕ) (x : Played) → lowest_false sh log room ≡ f → audit_play sh log room log.tail ≡ x → length (cells_in x) ≤ room → Ok sh shape log (ids sh) room log.tail x
        → Verdict sh h scratch (audit_left (everything sh) log.tail scratch f x)
    unfolding log_in
    verdict none (going cs) i j n s =
        passed refl (omega (arith, cells-all cs s))
        (λ d l. told-agrees (ap is_going j) d l (not-false _ (lowest-none (λ p. not (as_played sh log room p (log.entry p))) log.tail i d l)))
    verdict (some d) (going cs) i j n s =
        let (l, b, e) = lowest-some (λ p. not (as_played sh log room p (log.entry p))) log.tail d i in
        found d refl (omega (arith, cells-all cs s)) l
        (λ a. clash (not (as_played sh log room d (log.entry d))) b (ap not (agrees-told (ap is_going j) d l a)))
        (λ x k. told-agrees (ap is_going j) x (omega arith) (not-false _ (e x k)))
    verdict f (lacks q cs) i j n (l, s, m) =
        let here : length cs ≡ written_by sh (ran_to sh h) q = how-many sh shape (ids sh) cs (run log q).cells s ∙ rw (same q (omega arith)) in
        let next : room < written_by sh (ran_to sh h) (q + 1) = rw (same (q + 1) (omega arith), add-one q) m in
        full q refl l (omega arith) next
    verdict f (waits q cs) i j n s = no-wait sh log room good q cs j

    standing : (f : Option ℕ) (x : Played) → audit_play sh log room log.tail ≡ x → length (cells_in x) ≤ room → Ok sh shape log (ids sh) room log.tail x
        → Standing sh h scratch (audit_left (everything sh) log.tail scratch f x)
    unfolding log_in
    standing f (going cs) j n s = record {
      stands = λ r. refl;
      shows = λ r o k c. rw (same log.tail (omega arith)) (read_all sh directed (run log log.tail).cells log.tail scratch cs n s o k c);
      counts = λ r. cells-all cs s;
    }
    standing f (lacks q cs) j n (l, s, m) =
        let next : room < written_by sh (ran_to sh h) (q + 1) = rw (same (q + 1) (omega arith), add-one q) m in
        record { stands = λ r. no_room_lem q l next r; shows = λ r. no_room_lem q l next r; counts = λ r. no_room_lem q l next r }
    standing f (waits q cs) j n s = no-wait sh log room good q cs j

    exactly : Audits sh (whole_log sh h) (ran_to sh h) scratch (audit sh log scratch)
    exactly =
        let x = audit_play sh log room log.tail in
        let ok = audit-ok sh shape log room frame good log.tail (omega arith) in
        let v = verdict (lowest_false sh log room) x refl refl fits ok in
        let s = standing (lowest_false sh log room) x refl fits ok in
        rw left_so (record { passes = passes _ v; tells = tells _ v; lacks = lacking _ v; stands = s.stands; shows = s.shows; counts = s.counts })

pub audits-exactly : (sh : Shape) → ok_shape sh ≡ true → AuditsExactly sh
audits-exactly sh shape h scratch directed framed = exactly sh shape h scratch directed framed
