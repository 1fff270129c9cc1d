-- A replica played across the commit record at its position reaches the run's outcome, or waits: by demand 3 its cells are the run's
-- before and after, and the run's cells after the record are those before it exactly where it aborts.
use Prim.Native.Nat.{ℕ, suc, ◌+◌, ◌<◌}
use mathlib.Core.Path.{◌≡◌, refl, ap, sym, ◌∙◌, subst}
use mathlib.Core.Logic.{◌↔◌}
use mathlib.Core.Bool.{Bool, true, false, cond}
use mathlib.Core.List.{List, [], ◌∷◌, ◌++◌}
use mathlib.Core.Option.{Option, none, some}
use native.Mathlib.Omega.{arith}
use native.Mathlib.Numerals.{add-one}
use borrow.Author.Tests.{ltb-true, ltb-false}
use lib.Dec.{ltb}
use Rattle.lists.specs.Tests.{clash}
use Rattle.lists.specs.Sets.{mem}
use Rattle.lists.specs.Rows.{get_or-values-past}
use Rattle.model.specs.Objects.{Shape, is_cell, hosted}
use Rattle.model.specs.Entries.{Condition, Entry, commit, blank, effect, Log}
use Rattle.model.specs.Slot.{log_in, ok_shape}
use Rattle.model.specs.Table.{Holds, capacity}
use Rattle.model.specs.Play.{Played, going, waits, lacks}
use Rattle.model.specs.Answers.{Refusal, done}
use Rattle.model.specs.Append.{Replica}
use Rattle.model.specs.Replica.{Left, plainly, play_refusal, left_by, play_given, play_from, play_call, read_cell}
use Rattle.model.specs.Run.{Run, commits_now, made_all}
use Rattle.model.specs.Histories.{Lent, in_log, is_refused, History, whole_log, stood, ran_to, Carried, carried, Play, played, plays, hosts, cells_written}
use Rattle.model.specs.Terms.{AbortsIn, Concerns, Blocked, Fit, Ended, there, waiting, no_room}
use Rattle.model.specs.Claims.{Waiting, Shows, SameOutcome, SameOutcomes}
use Rattle.claims.proofs.Runs.{cells_after, run, cells-run}
use Rattle.claims.proofs.Aborts.{aborts-fails, goes_through}
use Rattle.claims.proofs.Audits.{audit-passed}
use Rattle.claims.proofs.Histories.{run-at, Stood, stood-so}
use Rattle.claims.proofs.Demand3.{demand3}

-- ---- plays keep the hosted set

left-hosting : (set stop : ℕ) (table : List ℕ) (x : Played) → (left_by set stop table x).replica.hosting ≡ set
left-hosting set stop table (going cs) = refl
left-hosting set stop table (waits q cs) = refl
left-hosting set stop table (lacks q cs) = refl

play-hosting : (sh : Shape) (log : Log) (r : Replica) (table : List ℕ) (stop : ℕ) → (play_call sh log r table stop).replica.hosting ≡ r.hosting
unfolding play_call
play-hosting sh log r table stop = go (play_refusal sh log r table stop)
  where
    go : (x : Option Refusal) → (play_given r stop table (play_from sh log r table stop) x).replica.hosting ≡ r.hosting
    go none = left-hosting r.hosting stop table (play_from sh log r table stop)
    go (some x) = refl

pub plays-hosting : (sh : Shape) (h : History) (r : Carried) (ps : List Play) → (plays sh h r ps).replica.hosting ≡ r.replica.hosting
unfolding plays
plays-hosting sh h r [] = refl
plays-hosting sh h r (p ∷ ps) =
    plays-hosting sh h (carried (played sh h r p)) ps ∙ play-hosting sh (in_log sh (stood sh h p.stood_after)) r.replica r.table p.stop

-- ---- an entry lies below the tail

commit-below : (sh : Shape) (l : Lent) (p m : ℕ) (c : Condition) → (in_log sh l).entry p ≡ commit m c → p < l.tail
unfolding log_in
commit-below sh l p m c e = go (ltb p l.tail) refl
  where
    go : (b : Bool) → ltb p l.tail ≡ b → p < l.tail
    go true i = ltb-true p l.tail i
    go false i = let past : (in_log sh l).entry p ≡ blank = get_or-values-past _ 0 l.tail p blank (ltb-false p l.tail i) in clash true refl cc

-- ---- one play more

plays-more : (sh : Shape) (h : History) (r : Carried) (ps : List Play) (p : Play) → plays sh h r (ps ++ (p ∷ [])) ≡ carried (played sh h (plays sh h r ps) p)
unfolding plays
plays-more sh h r [] p = refl
plays-more sh h r (q ∷ ps) p = plays-more sh h (carried (played sh h r q)) ps p

-- ---- the run at a commit record

module _ (sh : Shape) (shape : ok_shape sh ≡ true) (h : History) (p n : ℕ) (c : Condition)
    (low : p < (whole_log sh h).tail) (here : (in_log sh (whole_log sh h)).entry p ≡ commit n c) where
  ran-next : (ran_to sh h (p + 1)).cells ≡ cond (commits_now (ran_to sh h p) c) (made_all (p + 1) ((ran_to sh h p).aside n) (ran_to sh h p).cells) (ran_to sh h p).cells
  ran-next =
      let whole : Log = in_log sh (whole_log sh h) in
      let s : p + 1 ≡ suc p = add-one p in
      let then : ran_to sh h p ≡ run whole p = run-at sh shape h p (omega arith) in
      ap (λ (x : Run). x.cells) (run-at sh shape h (p + 1) (omega arith)) ∙ ap (λ (m : ℕ). (run whole m).cells) s
      ∙ cells-run whole p ∙ ap (λ (e : Entry). cells_after (p + 1) (run whole p) (effect e)) here
      ∙ ap (λ (x : Run). cond (commits_now x c) (made_all (p + 1) (x.aside n) x.cells) x.cells) (sym then)

  pub ran-aborts : AbortsIn (ran_to sh h p) c → (ran_to sh h (p + 1)).cells ≡ (ran_to sh h p).cells
  ran-aborts s = ran-next ∙ ap (λ (b : Bool). cond b (made_all (p + 1) ((ran_to sh h p).aside n) (ran_to sh h p).cells) (ran_to sh h p).cells) (aborts-fails (ran_to sh h p) c s)

  pub ran-makes : (AbortsIn (ran_to sh h p) c → ⊥) → (ran_to sh h (p + 1)).cells ≡ made_all (p + 1) ((ran_to sh h p).aside n) (ran_to sh h p).cells
  ran-makes f = ran-next ∙ ap (λ (b : Bool). cond b (made_all (p + 1) ((ran_to sh h p).aside n) (ran_to sh h p).cells) (ran_to sh h p).cells) (goes_through (ran_to sh h p) c f)

-- ---- the outcomes

module _ (sh : Shape) (h : History) (x : Carried) (m n : ℕ) (c : Condition) (shows : Shows sh h x)
    (fit : Fit sh (stood sh h m).tail x (x.replica.position + 1)) (concerns : Concerns (in_log sh (stood sh h m)) (hosts sh x) n x.replica.position) where
  abbrev p : ℕ
  p = x.replica.position

  abbrev turn : Play
  turn = record { stood_after = m; stop = p + 1 }

  abbrev out : Left
  out = played sh h x turn

  ended : Ended (p + 1) out
  ended = (shows.ends turn).1 fit

  -- where it did not arrive it stands at p
  short : out.replica.position < p + 1 → out.replica.position ≡ p
  short l = omega (arith, l, (shows.waits turn).not_back fit)

  arrived : out.answer ≡ done tt → out.replica.position ≡ p + 1
  arrived e = go ended
    where
      go : Ended (p + 1) out → out.replica.position ≡ p + 1
      go (there d i) = i
      go (waiting d i) = clash true refl (ap is_refused (sym d ∙ e))
      go (no_room d i) = clash true refl (ap is_refused (sym d ∙ e))

  waits_there : (out.answer ≡ plainly 12) ↔ Blocked sh (in_log sh (stood sh h m)) (hosts sh x) p
  waits_there = (forth, back ended)
    where
      w : Waiting sh (Fit sh (stood sh h m).tail x (p + 1)) (in_log sh (stood sh h m)) (hosts sh x) p (p + 1) out
      w = shows.waits turn

      forth : out.answer ≡ plainly 12 → Blocked sh (in_log sh (stood sh h m)) (hosts sh x) p
      forth e = let k = w.exactly.0 e in subst (Blocked sh (in_log sh (stood sh h m)) (hosts sh x)) (short k.1) k.2

      back : Ended (p + 1) out → Blocked sh (in_log sh (stood sh h m)) (hosts sh x) p → out.answer ≡ plainly 12
      back (there d i) b = absurd (w.passes fit p (omega arith) (omega (arith, i)) b)
      back (waiting d i) b = d
      back (no_room d i) b = w.exactly.1 (fit, i, subst (Blocked sh (in_log sh (stood sh h m)) (hosts sh x)) (sym (short i)) b)

  module _ (shape : ok_shape sh ≡ true) (low : p < (whole_log sh h).tail) (here : (in_log sh (whole_log sh h)).entry p ≡ commit n c) (next : Shows sh h (carried out)) where
    hosts-same : hosts sh (carried out) ≡ hosts sh x
    hosts-same = ap (hosted sh) (play-hosting sh (in_log sh (stood sh h m)) x.replica x.table (p + 1))

    reads-next : out.answer ≡ done tt → (o k : ℕ) → mem o (hosts sh x) ≡ true → is_cell sh o k ≡ true → read_cell sh out.replica out.table o k ≡ done ((ran_to sh h (p + 1)).cells o k)
    reads-next e o k i j =
        next.cells o k (ap (mem o) hosts-same ∙ i) j ∙ ap (λ (q : ℕ). done ((ran_to sh h q).cells o k)) (arrived e)

    never-lacks : out.answer ≡ plainly 13 → AbortsIn (ran_to sh h p) c → ⊥
    never-lacks e s =
        let at : out.replica.position ≡ p = go ended in
        let many = shows.lacks turn e in
        let same : cells_written sh.objects (hosts sh x) (ran_to sh h (out.replica.position + 1)).cells ≡ x.replica.count =
        ap (λ (q : ℕ). cells_written sh.objects (hosts sh x) (ran_to sh h (q + 1)).cells) at
        ∙ ap (cells_written sh.objects (hosts sh x)) (ran-aborts sh shape h p n c low here s) ∙ sym shows.count in
        omega (arith, many, same, fit.counted)
      where
        go : Ended (p + 1) out → out.replica.position ≡ p
        go (there d i) = clash true refl (ap is_refused (sym e ∙ d))
        go (waiting d i) = short i
        go (no_room d i) = short i

    same_outcome : SameOutcome sh (ran_to sh h) (stood sh h m) x n c out
    same_outcome = record {
      ends = ended;
      aborts = λ d s o k i j. reads-next d o k i j ∙ ap (λ (cells : Holds). done (cells o k)) (ran-aborts sh shape h p n c low here s) ∙ sym (shows.cells o k i j);
      makes = λ d f o k i j. reads-next d o k i j ∙ ap (λ (cells : Holds). done (cells o k)) (ran-makes sh shape h p n c low here f);
      waits = waits_there;
      lacks = never-lacks;
    }

pub same-outcomes : (sh : Shape) → ok_shape sh ≡ true → SameOutcomes sh
unfolding log_in
same-outcomes sh shape h scratch passed o r opens ps m n c x e here fit concerns =
    let whole : Log = in_log sh (whole_log sh h) in
    let log : Log = in_log sh (stood sh h m) in
    let at : ℕ = x.replica.position in
    let shows : Shows sh h x = subst (Shows sh h) (sym e) (demand3 sh shape h scratch passed o r opens ps) in
    let one : Play = record { stood_after = m; stop = at + 1 } in
    let next : Shows sh h (carried (played sh h x one)) =
    subst (Shows sh h) (plays-more sh h r ps one ∙ ap (λ (y : Carried). carried (played sh h y one)) (sym e)) (demand3 sh shape h scratch passed o r opens (ps ++ (one ∷ []))) in
    let was : Stood sh whole log = stood-so sh shape h (capacity scratch) m (audit-passed sh whole scratch passed) in
    let low : at < log.tail = commit-below sh (stood sh h m) at n c here in
    same_outcome sh h x m n c shows fit concerns shape (omega (arith, low, was.tails)) (sym (was.agrees at low) ∙ here) next
