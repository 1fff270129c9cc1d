-- The audit's test of a decision or checkpoint, over the run: where its play goes on to the tail, its cells are the run's, so a
-- decision passes exactly if it says whether its commit record aborts, and a checkpoint if it says what each cell of its object held.
use Prim.Native.Nat.{ℕ, ◌<◌}
use mathlib.Core.Path.{◌≡◌, refl, sym, ◌∙◌}
use mathlib.Core.Logic.{◌↔◌}
use mathlib.Core.Bool.{Bool, true, false, beq}
use mathlib.Core.List.{List}
use mathlib.Core.Option.{none}
use native.Mathlib.Omega.{arith}
use borrow.Author.Tests.{eqb-true, eqb-false}
use lib.Dec.{eqb}
use Rattle.lists.specs.Tests.{ands, clash}
use Rattle.lists.specs.Sets.{mem, ascending}
use Rattle.model.specs.Objects.{Shape, ids, is_object}
use Rattle.model.specs.Entries.{Decision, Saved, Condition, commit, decision, checkpoint, Log}
use Rattle.model.specs.Slot.{ok_shape}
use Rattle.model.specs.Rules.{ok_entry, lowest_bad, saved_before}
use Rattle.model.specs.Play.{cells_in}
use Rattle.model.specs.Answers.{bad_frame}
use Rattle.model.specs.Replica.{audit_play, commits_there, as_played}
use Rattle.model.specs.Run.{Run, commits_now}
use Rattle.model.specs.Terms.{AbortsIn, saved_for}
use Rattle.laws.proofs.Appends.{good-kept}
use Rattle.claims.proofs.Runs.{run, commits_at}
use Rattle.claims.proofs.Aborts.{aborts-fails, fails-aborts}
use Rattle.claims.proofs.Audits.{is_going, goes_back, played-shows, commits-same}
use Rattle.claims.proofs.Checkpoints.{same-said}

-- an outcome and the run's test
says-aborts : (v : ℕ) (s : Run) (c : Condition) → (beq (eqb v 1) (commits_now s c) ≡ true) ↔ ((v ≡ 1) ↔ (AbortsIn s c → ⊥))
says-aborts v s c = go (eqb v 1) (commits_now s c) refl refl
  where
    through : commits_now s c ≡ true → AbortsIn s c → ⊥
    through q x = clash (commits_now s c) q (aborts-fails s c x)

    go : (a b : Bool) → eqb v 1 ≡ a → commits_now s c ≡ b → (beq a b ≡ true) ↔ ((v ≡ 1) ↔ (AbortsIn s c → ⊥))
    go true true p q = (λ e. (λ i. through q, λ n. eqb-true v 1 p), λ h. refl)
    go true false p q = (λ e. clash false e refl, λ h. absurd (h.0 (eqb-true v 1 p) (fails-aborts s c q)))
    go false true p q = (λ e. clash false e refl, λ h. absurd (eqb-false v 1 p (h.1 (through q))))
    go false false p q = (λ e. (λ i. absurd (eqb-false v 1 p i), λ n. absurd (n (fails-aborts s c q))), λ h. refl)

module _ (sh : Shape) (shape : ok_shape sh ≡ true) (log : Log) (room : ℕ) (frame : bad_frame sh.layout log ≡ false) (good : lowest_bad sh log ≡ none)
    (ended : is_going (audit_play sh log room log.tail) ≡ true) where
  pub decision-judged : (d : ℕ) (r : Decision) (n : ℕ) (c : Condition) → d < log.tail → r.offset < d → log.entry r.offset ≡ commit n c
      → (as_played sh log room d (decision r) ≡ true) ↔ ((r.outcome ≡ 1) ↔ (AbortsIn (run log r.offset) c → ⊥))
  decision-judged d r n c l b i =
      let o : ℕ = r.offset in
      let e : commits_there sh log room o ≡ commits_at log o = commits-same sh shape log room frame good o (omega arith) (goes_back sh log room o ended (omega arith)) in
      let f : commits_there sh log room o ≡ commits_now (run log o) c = e ∙ rw i in
      rw f (says-aborts r.outcome (run log o) c)

  pub checkpoint-judged : (d o : ℕ) (cs : List Saved) → d < log.tail → log.entry d ≡ checkpoint o cs
      → (as_played sh log room d (checkpoint o cs) ≡ true) ↔ ((k : ℕ) → saved_for cs k ≡ (run log d).cells o k)
  unfolding ok_entry is_object
  checkpoint-judged d o cs l e =
      let k : ok_entry sh log d (checkpoint o cs) ≡ true = rw e at (good-kept sh log good d l) in
      let m : mem o (ids sh) ≡ true = search ands in
      let a : ascending saved_before cs ≡ true = search ands in
      let said = same-said o cs (cells_in (audit_play sh log room d)) a in
      let shows = (played-shows sh shape log room frame good d (omega arith) (goes_back sh log room d ended (omega arith))).reads in
      (λ t i. said.0 t i ∙ shows o i m, λ h. said.1 (λ i. h i ∙ sym (shows o i m)))
