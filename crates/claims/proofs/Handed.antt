-- The demands for the bytes of any directory, with no premise: what a call did not refuse had a directory without fault, whose shape is good.
-- Of a directory at fault the claims hold since every call turns it down. A claim that speaks of no call (`TellsWhere`) or asks for an answer
-- that is not 15 (`AuditsExactly`, `OpensWherever`) has the premise that there is no fault.
use Prim.Native.Nat.{ℕ}
use mathlib.Core.Path.{◌≡◌, refl, ap, sym, subst, ◌∙◌}
use mathlib.Core.Bool.{Bool, true, false, cond}
use mathlib.Core.List.{List, [], ◌∷◌}
use mathlib.Core.Option.{Option, none, some}
use native.Mathlib.Omega.{arith}
use Rattle.lists.specs.Tests.{clash}
use Rattle.lists.specs.Rows.{values, joined}
use Rattle.model.specs.Objects.{Shape, everything}
use Rattle.model.specs.Entries.{Log}
use Rattle.model.specs.Slot.{log_in, ok_shape}
use Rattle.model.specs.Rules.{lowest_bad}
use Rattle.model.specs.Directory.{shape_of, listed_in, fault_of}
use Rattle.model.specs.Table.{cells_of, table_with, lookup, capacity}
use Rattle.model.specs.Play.{whole}
use Rattle.model.specs.Answers.{refused}
use Rattle.model.specs.Append.{Request, Appended}
use Rattle.model.specs.Replica.{Left, no_replica, open_at, audit_given, audit}
use Rattle.model.specs.Histories.{Lent, in_log, tail_after, is_refused, append_to, Accepted, after, grown, feed, empty, History, ran_to, Passed, Carried, carried, Opening, fresh, at_checkpoint, if_fresh, if_opened, opened, play_on, stood}
use Rattle.model.specs.Run.{Fed, Run, start, run_at}
use Rattle.model.specs.Terms.{Directed, InOrder, Playable, Ended, there, waiting, no_room}
use Rattle.model.specs.Claims.{PlayLeaves, Demand1, AcceptsExactly, KeepsGood, Demand2, Demand3, AuditsExactly, NeverWaits, OpensFresh, OpensAt, OpensWherever}
use Rattle.model.specs.HeaderClaims.{HeaderRead, TellsWhere, PastIsBad}
use Rattle.model.specs.ReadClaims.{TellsAstray, AstrayNone, ShownPasses}
use Rattle.model.specs.DirectoryClaims.{at_place}
use Rattle.model.specs.OwedClaims.{NoneWaits, GoodLog, Answers, OwesExactly, Pays}
use Rattle.model.specs.Worked.{code}
use Rattle.laws.specs.FirstWriting.{sorted, audit_play_last, lowest_false_last, audit_last}
use Rattle.laws.proofs.Refusals.{not_none, below-good}
use Rattle.laws.proofs.Records.{good-shape}
use Rattle.claims.specs.Named.{WorkedOut, WholeIsRun, AsBefore}
use Rattle.claims.specs.Order.{SameCalls, counted, SameAudits, LeavesInOrder}
use Rattle.claims.proofs.Demand1.{unchanged}
use Rattle.claims.proofs.Leaves.{play-leaves}
use Rattle.claims.proofs.Accepts.{accepts-exactly}
use Rattle.claims.proofs.KeepsGood.{keeps-good}
use Rattle.claims.proofs.ReadBack.{writes-one-slot, reads-back}
use Rattle.claims.proofs.SameBytes.{same_bytes}
use Rattle.claims.proofs.Aborts.{run-aborts}
use Rattle.claims.proofs.Whole.{won-exactly}
use Rattle.claims.proofs.Across.{replica-aborts}
use Rattle.claims.proofs.Outcomes.{same-outcomes}
use Rattle.claims.proofs.Demand3.{demand3}
use Rattle.claims.proofs.Audits.{audit-passed}
use Rattle.claims.proofs.AuditExactly.{audits-exactly}
use Rattle.claims.proofs.NeverWaits.{never-waits}
use Rattle.claims.proofs.Opened.{opens-fresh, opens-at, opens-wherever}
use Rattle.claims.proofs.Order.{same-calls, same-audits, leaves-in-order}
use Rattle.claims.proofs.Headers.{header-reads, tells-where, past-is-bad}
use Rattle.claims.proofs.Astray.{tells-astray, astray-none, shown-passes}
use Rattle.claims.proofs.Owed.{none-waits, owes-exactly, pays}
use Rattle.claims.proofs.Named.{whole-is-run, unnamed}
use Rattle.claims.proofs.Directories.{begins-refused, answers-fault}

-- ---- what was not refused had a directory without fault

pub by-fault {ℓ} : {P : Type ℓ} (sh : Shape) → (Directed sh → P) → ((k : ℕ) → sh.fault ≡ some k → P) → P
by-fault {P = P} sh f g = go sh.fault refl
  where
    go : (x : Option ℕ) → sh.fault ≡ x → P
    go none e = f e
    go (some k) e = g k e

module _ (sh : Shape) where
  pub accepted-directed : (l : Lent) (q : Request) → Accepted sh l q → Directed sh
  accepted-directed l q taken = by-fault sh (λ e. e)
      (λ k e. clash (is_refused (append_to sh l q).new_tail) (ap (λ (a : Appended). is_refused a.new_tail) ((answers-fault sh k e).appending l.bytes l.tail q)) taken)

  pub passed-directed : (h : History) (scratch : List ℕ) → Passed sh h scratch → Directed sh
  passed-directed h scratch p = (audit-passed sh _ scratch p).directed

  pub opened-directed : (h : History) (opening : Opening) (r : Carried) → opened sh h opening ≡ some r → Directed sh
  opened-directed h (fresh set table) r o = by-fault sh (λ e. e) (λ k e. not_none r (sym o ∙ ap (if_fresh table) ((answers-fault sh k e).opening set)))
  opened-directed h (at_checkpoint n p table) r o =
      by-fault sh (λ e. e) (λ k e. not_none r (sym o ∙ ap if_opened ((answers-fault sh k e).opening_at (in_log sh (stood sh h n)) p table)))

  -- an append that is refused, and not with 15
  refused-directed : (l : Lent) (q : Request) (n : ℕ) → (n ≡ 15 → ⊥) → code (append_to sh l q).new_tail ≡ n → Directed sh
  refused-directed l q n d c = by-fault sh (λ e. e)
      (λ k e. absurd (d (sym c ∙ ap (λ (a : Appended). code a.new_tail) ((answers-fault sh k e).appending l.bytes l.tail q))))

-- ---- a directory at fault

module _ (sh : Shape) (k : ℕ) (e : sh.fault ≡ some k) where
  turned : Carried → Left
  turned r = record { answer = refused (at_place k); replica = r.replica; table = r.table }

  not-ended : (r : Carried) (stop : ℕ) → Ended stop (turned r) → ⊥
  unfolding turned
  not-ended r stop (there d h) = clash true refl (ap is_refused d)
  not-ended r stop (waiting d h) = let n : ◌≡◌ {A = ℕ} 15 12 = ap code d in omega arith
  not-ended r stop (no_room d h) = let n : ◌≡◌ {A = ℕ} 15 13 = ap code d in omega arith

  not-playable : (l : Lent) (r : Carried) (stop : ℕ) → Playable sh l r stop → ⊥
  not-playable l r stop p = not_none k (sym e ∙ p.directed)

  -- a play leaves all as it was
  faulty-leaves : (l : Lent) (r : Carried) (stop : ℕ) → PlayLeaves sh l r stop (play_on sh l r stop)
  unfolding turned
  faulty-leaves l r stop = subst (PlayLeaves sh l r stop) (sym ((answers-fault sh k e).playing (in_log sh l) r.replica r.table stop)) (record {
    ends = ((λ x. absurd (not-ended r stop x)), (λ p. absurd (not-playable l r stop p)));
    unchanged = λ h. (refl, refl);
    stopped = λ p. absurd (not-playable l r stop p);
    waits = record {
      exactly = ((λ h. let n : ◌≡◌ {A = ℕ} 15 12 = ap code h in absurd (omega arith)), (λ h. absurd (not-playable l r stop h.0)));
      passes = λ p. absurd (not-playable l r stop p);
      not_back = λ p. absurd (not-playable l r stop p);
    };
    lacks = λ h. let n : ◌≡◌ {A = ℕ} 15 13 = ap code h in absurd (omega arith);
  })

  -- and no append changes a log
  faulty-grown : (l : Lent) (qs : List Request) → grown sh l qs ≡ l
  unfolding grown
  faulty-grown l [] = refl
  faulty-grown l (q ∷ qs) =
      faulty-grown (after sh l q) qs
      ∙ ap (λ (a : Appended). record { bytes = a.bytes; tail = tail_after l.tail a.new_tail }) ((answers-fault sh k e).appending l.bytes l.tail q)

  faulty-good : KeepsGood sh
  unfolding log_in
  faulty-good h = ap (λ (l : Lent). lowest_bad sh (in_log sh l)) (faulty-grown (empty h.bytes) h.requests) ∙ below-good sh (in_log sh (empty h.bytes)) (λ p l. absurd (omega arith))

  -- which is empty, and its run at the start
  run_none : (fs : List Fed) → run_at 0 start fs ≡ start
  unfolding run_at
  run_none [] = refl
  run_none (f ∷ fs) = go f.was_refused (run_none fs)
    where
      go : (b : Bool) → run_at 0 start fs ≡ start → cond b (run_at 0 start fs) start ≡ start
      go true ih = ih
      go false ih = refl

  faulty-whole : WholeIsRun sh
  unfolding whole lookup
  faulty-whole h p l =
      let log : Log = in_log sh (grown sh (empty h.bytes) h.requests) in
      let z : p ≡ 0 = omega (arith, ap (λ (l : Lent). l.tail) (faulty-grown (empty h.bytes) h.requests)) in
      let same = run_none (feed sh (empty h.bytes) h.requests) in
      subst (λ (q : ℕ). WorkedOut log q (ran_to sh h q)) (sym z)
      (record { cells = λ o k. ap (λ (s : Run). s.cells o k) (sym same); won = λ n. ap (λ (s : Run). s.won n) (sym same) })

  faulty-audits : SameAudits sh
  unfolding audit_last cells_of values sorted table_with joined
  faulty-audits log scratch =
      let room : ℕ = capacity scratch in
      let last : audit_last sh log scratch ≡ record { answer = refused (at_place k); replica = no_replica; table = scratch } =
      ap (audit_given (everything sh) log.tail scratch (lowest_false_last sh log room) (audit_play_last sh log room log.tail)) (begins-refused sh k e log []) in
      rw ((answers-fault sh k e).auditing log scratch, last) (record { answer = refl; replica = refl; cells = refl; table = refl })

  faulty-order : (log : Log) (scratch : List ℕ) → InOrder (counted (carried (audit sh log scratch)))
  unfolding cells_of values
  faulty-order log scratch = subst (λ (x : Left). InOrder (counted (carried x))) (sym ((answers-fault sh k e).auditing log scratch)) tt

  faulty-owed : OwesExactly sh
  faulty-owed l sets = subst (Answers sh l sets) (sym ((answers-fault sh k e).owing (in_log sh l) sets)) (record {
    lowest = λ q. (λ h. clash true refl (ap is_refused h), λ w. absurd (no w.0));
    nothing = (λ h. clash true refl (ap is_refused h), λ w. absurd (no w.0));
    bad_request = (λ h. let n : ◌≡◌ {A = ℕ} 15 3 = ap code h in absurd (omega arith), λ w. absurd (no w.0));
  })
    where
      no : GoodLog sh l → ⊥
      no g = not_none k (sym e ∙ g.directed)

-- ---- the demands

module _ (dir : List ℕ) where
  abbrev sh : Shape
  sh = shape_of dir

  good : Directed sh → ok_shape sh ≡ true
  good = good-shape dir

  pub demand1-for : Demand1 (shape_of dir)
  demand1-for = record {
    refused_append = unchanged sh;
    play_leaves = by-fault sh (λ e. play-leaves sh (good e)) (λ k e. faulty-leaves sh k e);
  }

  pub accepts-for : AcceptsExactly (shape_of dir)
  accepts-for l q = (
    λ taken. (accepts-exactly sh (good (accepted-directed sh l q taken)) l q).0 taken,
    λ u. (accepts-exactly sh (good u.directed) l q).1 u,
  )

  pub keeps-good-for : KeepsGood (shape_of dir)
  keeps-good-for = by-fault sh (λ e. keeps-good sh (good e)) (λ k e. faulty-good sh k e)

  pub demand2-for : Demand2 (shape_of dir)
  demand2-for = record {
    accepts_exactly = accepts-for;
    writes_one_slot = λ l q taken. writes-one-slot sh (good (accepted-directed sh l q taken)) l q taken;
    keeps_good = keeps-good-for;
    reads_back = λ l q taken. reads-back sh (good (accepted-directed sh l q taken)) l q taken;
    same_bytes = λ l q q' i i' taken. same_bytes sh (good (accepted-directed sh l q taken)) l q q' i i' taken;
    run_aborts = run-aborts;
    won_exactly = won-exactly;
    replica_aborts = λ l r n c a. replica-aborts sh (good a.playable.directed) l r n c a;
    same_outcomes = λ h scratch passed. same-outcomes sh (good (passed-directed sh h scratch passed)) h scratch passed;
  }

  pub demand3-for : Demand3 (shape_of dir)
  demand3-for h scratch passed = demand3 sh (good (passed-directed sh h scratch passed)) h scratch passed

  pub audits-for : AuditsExactly (shape_of dir)
  audits-for h scratch directed = audits-exactly sh (good directed) h scratch directed

  pub never-waits-for : NeverWaits (shape_of dir)
  never-waits-for = never-waits sh

  pub opens-fresh-for : OpensFresh (shape_of dir)
  opens-fresh-for = opens-fresh sh

  pub opens-at-for : OpensAt (shape_of dir)
  opens-at-for l o table done-so = opens-at sh (good directed) l o table done-so
    where
      directed : Directed sh
      directed = by-fault sh (λ e. e)
          (λ k e. clash (is_refused (open_at sh (in_log sh l) o table).answer) (ap (λ (x : Left). is_refused x.answer) ((answers-fault sh k e).opening_at (in_log sh l) o table)) (ap is_refused done-so))

  pub opens-wherever-for : OpensWherever (shape_of dir)
  opens-wherever-for l o table x cs directed = opens-wherever sh (good directed) l o table x cs directed

  pub same-calls-for : SameCalls (shape_of dir)
  same-calls-for h opening r o = same-calls sh (good (opened-directed sh h opening r o)) h opening r o

  pub same-audits-for : SameAudits (shape_of dir)
  same-audits-for = by-fault sh (λ e. same-audits sh (good e)) (λ k e. faulty-audits sh k e)

  pub in-order-for : LeavesInOrder (shape_of dir)
  in-order-for = record {
    playing = λ l r stop bytes p. (leaves-in-order sh (good p.directed)).playing l r stop bytes p;
    replicas = λ h opening r o. (leaves-in-order sh (good (opened-directed sh h opening r o))).replicas h opening r o;
    audits = by-fault sh (λ e. (leaves-in-order sh (good e)).audits) (λ k e. faulty-order sh k e);
  }

  -- the layout is that of every directory
  pub header-reads-for : HeaderRead (shape_of dir)
  unfolding listed_in fault_of
  header-reads-for = header-reads sh refl

  -- an id above 31 bits would be read as a format
  pub tells-where-for : Directed (shape_of dir) → TellsWhere (shape_of dir)
  tells-where-for directed = tells-where sh (good directed)

  pub past-is-bad-for : PastIsBad (shape_of dir)
  unfolding listed_in fault_of
  past-is-bad-for = past-is-bad sh refl

  pub tells-astray-for : TellsAstray (shape_of dir)
  tells-astray-for l n items a b i = (
    λ e. (tells-astray sh (good (refused-directed sh l _ 16 (λ c. absurd (omega arith)) (ap code e))) l n items a b i).0 e,
    λ f. (tells-astray sh (good f.directed) l n items a b i).1 f,
  )

  pub astray-none-for : AstrayNone (shape_of dir)
  astray-none-for l n items a b taken = astray-none sh (good (accepted-directed sh l _ taken)) l n items a b taken

  pub shown-passes-for : ShownPasses (shape_of dir)
  shown-passes-for h scratch passed = shown-passes sh (good (passed-directed sh h scratch passed)) h scratch passed

  pub none-waits-for : NoneWaits (shape_of dir)
  none-waits-for = none-waits sh

  pub owes-exactly-for : OwesExactly (shape_of dir)
  owes-exactly-for = by-fault sh (λ e. owes-exactly sh (good e)) (λ k e. faulty-owed sh k e)

  pub whole-is-run-for : WholeIsRun (shape_of dir)
  whole-is-run-for = by-fault sh (λ e. whole-is-run sh (good e)) (λ k e. faulty-whole sh k e)

  -- the layout is that of every directory
  pub unnamed-for : AsBefore (shape_of dir)
  unfolding listed_in fault_of
  unnamed-for = unnamed sh refl

  pub pays-for : Pays (shape_of dir)
  pays-for l o v taken = pays sh (good (accepted-directed sh l _ taken)) l o v taken
