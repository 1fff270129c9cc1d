-- What it says that the audit passes a log: it is good, its decision records say what the run decided, and its checkpoints
-- what the run's cells hold. The audit hosts everything, so it needs no decision record, and its cells are the run's.
use Prim.Native.Nat.{ℕ, zero, suc, ◌+◌, ◌-◌, ◌<◌, ◌≤◌}
use mathlib.Core.Path.{◌≡◌, refl, ap, ◌∙◌}
use mathlib.Core.Bool.{Bool, true, false, not, ◌||◌}
use mathlib.Core.List.{List, [], ◌∷◌, map}
use mathlib.Core.Option.{Option, none, some}
use native.Mathlib.Omega.{arith}
use native.Mathlib.Nat.{add-suc, add-zero}
use borrow.Author.Tests.{ltb-true, ltb-false, not-false}
use lib.Dec.{eqb, ltb}
use Rattle.lists.specs.Tests.{and_l, and_r, ands, ors, both, beq-true, clash}
use Rattle.lists.specs.Sets.{all, is_empty, within}
use Rattle.model.specs.Slot.{most_slots, ok_shape}
use Rattle.model.specs.Objects.{Shape, ids, is_cell, everything}
use Rattle.model.specs.Entries.{Decision, Write, Read, Condition, Entry, plain, numbered, commit, decision, checkpoint, blank, Effect, writes, aside, tries, inert, effect, Log, commit_in, if_some, read_objects, named}
use Rattle.model.specs.Rules.{ok_write, ok_writes, ok_read, ok_reads, ok_entry, lowest_bad}
use Rattle.model.specs.Table.{Cell, lookup, capacity}
use Rattle.model.specs.Play.{Played, going, waits, lacks, cells_in, alone, commits_over, whole, step, and_then, play}
use Rattle.model.specs.Answers.{Refusal, done, first_of, slots, bad_frame, frame_and_entries}
use Rattle.model.specs.Replica.{audit_play, commits_there, as_played, lowest_false, audit_given, audit}
use Rattle.model.specs.Run.{commits_now}
use Rattle.model.specs.Histories.{is_refused}
use Rattle.laws.proofs.Items.{cell-object}
use Rattle.laws.proofs.Refusals.{all_pass, refuse-none, refuse_at-none, lowest-none}
use Rattle.laws.proofs.Slots.{Kept, writes_ok}
use Rattle.laws.proofs.Appends.{good-kept, frame-few}
use Rattle.claims.proofs.Cells.{Shown}
use Rattle.claims.proofs.Runs.{run, commits_at}
use Rattle.claims.proofs.Names.{every-alone}
use Rattle.claims.proofs.Steps.{start-shown, commits-run, TrueBelow, Trust, Placed, Ok, play-ok}

-- ---- what a pass says

abbrev pub is_going : Played → Bool
is_going (going cs) = true
is_going (waits q cs) = false
is_going (lacks q cs) = false

pub record Sound (sh : Shape) (log : Log) (room : ℕ) : Type 0 where
  pub directed : sh.fault ≡ none
  pub frame : bad_frame sh.layout log ≡ false
  pub good : lowest_bad sh log ≡ none
  pub ended : is_going (audit_play sh log room log.tail) ≡ true
  pub told : (d : ℕ) → d < log.tail → as_played sh log room d (log.entry d) ≡ true

pub audit-passed : (sh : Shape) (log : Log) (scratch : List ℕ) → (audit sh log scratch).answer ≡ done tt → Sound sh log (capacity scratch)
unfolding audit
audit-passed sh log scratch h =
    go (first_of (frame_and_entries sh log)) (lowest_false sh log room) (audit_play sh log room log.tail) refl refl refl h
  where
    room : ℕ
    room = capacity scratch

    go : (x : Option Refusal) (f : Option ℕ) (p : Played) → first_of (frame_and_entries sh log) ≡ x → lowest_false sh log room ≡ f → audit_play sh log room log.tail ≡ p
        → (audit_given (everything sh) log.tail scratch f p x).answer ≡ done tt → Sound sh log room
    go (some r) f p i j k e = clash true refl (ap is_refused e)
    go none f (waits q cs) i j k e = clash true refl (ap is_refused e)
    go none f (lacks q cs) i j k e = clash true refl (ap is_refused e)
    go none (some o) (going cs) i j k e = clash true refl (ap is_refused e)
    go none none (going cs) i j k e =
        let tests = all_pass (frame_and_entries sh log) i in
        record {
          directed = refuse_at-none 15 sh.fault tests.0;
          frame = refuse-none 1 (bad_frame sh.layout log) tests.1.0;
          good = refuse_at-none 2 (lowest_bad sh log) tests.1.1.0;
          ended = ap is_going k;
          told = λ d l. not-false _ (lowest-none (λ d. not (as_played sh log room d (log.entry d))) log.tail j d l);
        }

-- ---- what the rules say of writes and reads

-- every object read is in the directory
reads-within : (sh : Shape) (p : ℕ) (rs : List Read) → all (ok_read sh p) rs ≡ true → within (ids sh) (map (λ (r : Read). r.object) rs) ≡ true
unfolding ok_read is_cell
reads-within sh p [] h = refl
reads-within sh p (r ∷ rs) h =
    both (cell-object sh.objects r.object r.key (search ands)) (reads-within sh p rs (and_r (ok_read sh p r) (all (ok_read sh p) rs) h))

module _ (sh : Shape) (log : Log) (tail : ℕ) (kept : Kept sh log tail) where
  -- writes obey the rules, those set aside too
  pub placed : (p : ℕ) → p < tail → Placed sh log p
  unfolding ok_entry ok_writes
  placed p l = record { now = λ ws e. now ws (log.entry p) (kept p l) e; late = λ n. writes_ok sh log n p (λ o h. kept o (omega arith)) }
    where
      now : (ws : List Write) (x : Entry) → ok_entry sh log p x ≡ true → effect x ≡ writes ws → all (ok_write sh) ws ≡ true
      now ws (plain us) k q =
          let i : us ≡ ws = cc in
          let j : all (ok_write sh) us ≡ true = search ands in
          rw (← i) j
      now ws (numbered n us) k q = clash true refl (cc)
      now ws (commit n c) k q = clash true refl (cc)
      now ws (decision r) k q = clash true refl (cc)
      now ws (checkpoint o cs) k q = clash true refl (cc)
      now ws blank k q = clash true refl (cc)

  -- the audit hosts all that a commit record reads, and every object
  pub hosted-reads : (p n : ℕ) (c : Condition) → p < tail → effect (log.entry p) ≡ tries n c → alone sh (ids sh) c ≡ true
  unfolding ok_entry ok_reads
  hosted-reads p n c l e = go (log.entry p) (kept p l) e
    where
      go : (x : Entry) → ok_entry sh log p x ≡ true → effect x ≡ tries n c → alone sh (ids sh) c ≡ true
      go (commit m d) k i =
          let r : all (ok_read sh p) d.reads ≡ true = search ands in
          let s : d ≡ c = cc in
          rw (← s) (every-alone sh d (reads-within sh p d.reads r))
      go (plain us) k i = clash true refl (cc)
      go (numbered m us) k i = clash true refl (cc)
      go (decision r) k i = clash true refl (cc)
      go (checkpoint o cs) k i = clash true refl (cc)
      go blank k i = clash true refl (cc)

-- ---- the audit's own play

going-back : (sh : Shape) (log : Log) (set : List ℕ) (room p : ℕ) (cs : List Cell) (d n : ℕ) → is_going (play sh log set room p cs (d + n)) ≡ true → is_going (play sh log set room p cs d) ≡ true
unfolding play
going-back sh log set room p cs d zero h = rw add-zero at h
going-back sh log set room p cs d (suc n) h = going-back sh log set room p cs d n (go (play sh log set room p cs (d + n)) (rw add-suc at h))
  where
    go : (x : Played) → is_going (and_then x (step sh log set room (p + (d + n)))) ≡ true → is_going x ≡ true
    go (going u) i = refl
    go (waits q u) i = i
    go (lacks q u) i = i

pub tail-small : (sh : Shape) (log : Log) → bad_frame sh.layout log ≡ false → log.tail ≤ most_slots
unfolding bad_frame
tail-small sh log e =
    let a : ltb (slots sh.layout log) log.tail ≡ false = search ors in
    omega (arith, frame-few sh.layout log e, ltb-false (slots sh.layout log) log.tail a)

-- a play that goes on to the tail went on to every offset below
pub goes_back : (sh : Shape) (log : Log) (room d : ℕ) → is_going (audit_play sh log room log.tail) ≡ true → d ≤ log.tail → is_going (audit_play sh log room d) ≡ true
goes_back sh log room d e l = let s : d + (log.tail - d) ≡ log.tail = omega arith in going-back sh log (ids sh) room 0 [] d (log.tail - d) (rw s e)

-- on a good log, whatever its decisions and checkpoints say
module _ (sh : Shape) (shape : ok_shape sh ≡ true) (log : Log) (room : ℕ) (frame : bad_frame sh.layout log ≡ false) (good : lowest_bad sh log ≡ none) where
  kept : Kept sh log log.tail
  kept = good-kept sh log good

  trusted : (q : ℕ) → q < log.tail → Trust sh log (ids sh) q
  trusted q l n c e w b h = clash (alone sh (ids sh) c) (hosted-reads sh log log.tail kept q n c l e) w

  -- the audit's play to d keeps its cells as the run has them, as far as it comes
  pub audit-ok : (d : ℕ) → d ≤ log.tail → Ok sh shape log (ids sh) room d (audit_play sh log room d)
  audit-ok d l =
      let s : 0 + d ≡ d = omega arith in
      let few = tail-small sh log frame in
      rw s at (play-ok sh shape log (ids sh) room 0 [] (start-shown sh log (ids sh)) d (omega arith) (λ q h. trusted q (omega arith)) (λ q h. placed sh log log.tail kept q (omega arith)))

  -- the audit's cells as played to d
  pub played-shows : (d : ℕ) → d ≤ log.tail → is_going (audit_play sh log room d) ≡ true → Shown sh (ids sh) (cells_in (audit_play sh log room d)) (run log d).cells
  played-shows d l g = go (audit_play sh log room d) g (audit-ok d l)
    where
      go : (x : Played) → is_going x ≡ true → Ok sh shape log (ids sh) room d x → Shown sh (ids sh) (cells_in x) (run log d).cells
      go (going u) g i = i
      go (waits q u) g i = clash false g refl
      go (lacks q u) g i = clash false g refl

  pub commits-same : (o : ℕ) → o < log.tail → is_going (audit_play sh log room o) ≡ true → commits_there sh log room o ≡ commits_at log o
  commits-same o l g = go (effect (log.entry o)) refl
    where
      go : (e : Effect) → effect (log.entry o) ≡ e
          → if_some (commit_in e) false (λ c. commits_over (lookup (cells_in (audit_play sh log room o))) (whole log o).won c.condition) ≡ if_some (commit_in e) false (λ c. commits_now (run log o) c.condition)
      go (writes ws) e = refl
      go (aside n ws) e = refl
      go (tries n c) e =
          commits-run sh log (ids sh) o (cells_in (audit_play sh log room o)) c (played-shows o (omega arith) g)
          (and_l (within (ids sh) (read_objects c)) (is_empty (named c) || within (ids sh) (ids sh)) (hosted-reads sh log log.tail kept o n c l e))
      go inert e = refl

-- a decision record names a commit record below it
pub decision-below : (sh : Shape) (log : Log) (d : ℕ) (r : Decision) → ok_entry sh log d (decision r) ≡ true → r.offset < d
unfolding ok_entry
decision-below sh log d r k = let lt : ltb r.offset d ≡ true = search ands in ltb-true r.offset d lt

module _ (sh : Shape) (shape : ok_shape sh ≡ true) (log : Log) (room : ℕ) (sound : Sound sh log room) where
  pub audit-shows : (d : ℕ) → d ≤ log.tail → Shown sh (ids sh) (cells_in (audit_play sh log room d)) (run log d).cells
  audit-shows d l = played-shows sh shape log room sound.frame sound.good d l (goes_back sh log room d sound.ended l)

  pub decisions-true : TrueBelow log log.tail
  decisions-true d l r e =
      let o : ℕ = r.offset in
      let k : ok_entry sh log d (decision r) ≡ true = rw e at (good-kept sh log sound.good d l) in
      let s : r.offset < log.tail = omega (arith, decision-below sh log d r k) in
      let t : as_played sh log room d (decision r) ≡ true = rw e at (sound.told d l) in
      beq-true (eqb r.outcome 1) (commits_there sh log room o) t ∙ commits-same sh shape log room sound.frame sound.good o s (goes_back sh log room o sound.ended (omega arith))
