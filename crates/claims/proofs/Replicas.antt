-- A replica along its plays: the cells that its table's bytes are read as are shown as the run has them at its position, and
-- they have room. Stored cells that fit are read back as they were, so openings and plays keep this.
use Prim.Native.Nat.{ℕ, suc, ◌+◌, ◌-◌, ◌<◌, ◌≤◌}
use mathlib.Core.Path.{◌≡◌, refl, ap, sym, ◌∙◌, subst}
use mathlib.Core.Bool.{Bool, true, false, ◌||◌}
use mathlib.Core.List.{List, [], ◌∷◌, ◌++◌}
use mathlib.Core.Option.{Option, none, some, some-injective}
use native.Mathlib.Omega.{arith}
use native.Mathlib.Numerals.{add-one}
use borrow.Author.Tests.{ltb-false, leb-false}
use lib.Dec.{eqb, leb, ltb}
use lib.ListN.{length}
use Rattle.lists.specs.Tests.{or_l, or_r, clash}
use Rattle.lists.specs.Rows.{values}
use Rattle.model.specs.Objects.{Shape, hosted, set_of, everything, bad_set}
use Rattle.model.specs.Entries.{Entry, plain, numbered, commit, decision, checkpoint, blank, Log, if_some, is_none}
use Rattle.model.specs.Slot.{ok_shape}
use Rattle.model.specs.Rules.{ok_entry}
use Rattle.model.specs.Table.{Cell, cells_of, capacity}
use Rattle.model.specs.Play.{Played, going, waits, lacks, cells_in}
use Rattle.model.specs.Answers.{Refusal, done, refuse, refuse_at, answer, first_of, frame_and_entries}
use Rattle.model.specs.Append.{bad_record, bad_replica}
use Rattle.model.specs.Replica.{Left, plainly, left_with, open_fresh, Checkpoint, checkpoint_in, open_refusal, open_given, open_at, bad_stop, play_refusal, left_by, play_given, play_from, play_call}
use Rattle.model.specs.Histories.{is_refused, Carried, carried, if_opened, if_fresh, hosts, cells_written}
use Rattle.model.specs.Worked.{code}
use Rattle.laws.proofs.Refusals.{not_none, all_pass, refuse-none}
use Rattle.laws.proofs.Agree.{fewer}
use Rattle.laws.proofs.Tables.{length-cells, cells-back}
use Rattle.laws.proofs.Room.{play-fits, length-with}
use Rattle.laws.proofs.Appends.{good-kept}
use Rattle.claims.proofs.Cells.{Shown, shown-fits}
use Rattle.claims.proofs.Runs.{run, run_agree}
use Rattle.claims.proofs.Steps.{start-shown, trust, Ok, play-ok}
use Rattle.claims.proofs.Audits.{Sound, tail-small, placed}
use Rattle.claims.proofs.Openings.{hosted-one, loaded, checkpoint-shows, checkpoint-object}
use Rattle.laws.proofs.Directory.{bit-listed}
use Rattle.claims.proofs.Histories.{Stood}

-- what holds of a replica along its plays
pub record Good (sh : Shape) (whole : Log) (r : Carried) : Type 0 where
  pub inv : Shown sh (hosts sh r) (cells_of r.table r.replica.count) (run whole r.replica.position).cells
  pub below : r.replica.position ≤ whole.tail
  pub fits : r.replica.count ≤ capacity r.table
  pub directed : sh.fault ≡ none
  pub listed : r.replica.hosting ≤ everything sh

-- cells stored in a table that has room for them
left-good : (sh : Shape) (whole : Log) → sh.fault ≡ none → (set p : ℕ) (table : List ℕ) (cells : List Cell) → length cells ≤ capacity table
    → Shown sh (hosted sh set) cells (run whole p).cells → p ≤ whole.tail → set ≤ everything sh → Good sh whole (carried (left_with (done tt) set p table cells))
left-good sh whole directed set p table cells room s l listed = record {
  inv = rw (cells-back table cells (shown-fits sh (hosted sh set) cells s.each)) s;
  below = l;
  fits = rw (length-with table cells room) room;
  directed = directed;
  listed = listed;
}

-- ---- openings

module _ (sh : Shape) (whole : Log) where
  pub fresh-good : (set : ℕ) (table : List ℕ) (r : Carried) → if_fresh table (open_fresh sh set) ≡ some r → Good sh whole r
  unfolding open_fresh cells_of values
  fresh-good set table r e = go sh.fault (bad_set sh set) refl refl e
    where
      start : Carried
      start = record { replica = record { hosting = set; position = 0; count = 0 }; table = table }

      go : (f : Option ℕ) (b : Bool) → sh.fault ≡ f → bad_set sh set ≡ b → if_fresh table (answer (first_of (refuse_at 15 f ∷ refuse 10 b ∷ [])) start.replica) ≡ some r → Good sh whole r
      go (some k) b d s i = not_none r (sym i)
      go none true d s i = not_none r (sym i)
      go none false d s i = subst (Good sh whole) (some-injective start r i) (record {
        inv = start-shown sh whole (hosted sh set);
        below = omega arith;
        fits = omega arith;
        directed = d;
        listed = ltb-false (everything sh) set (or_r (eqb set 0) (ltb (everything sh) set) s);
      })

  -- an entry that is no checkpoint
  not_opened : (o : ℕ) (table : List ℕ) (r : Carried) (x : Option Refusal) → if_opened (open_given sh o table x none) ≡ some r → Good sh whole r
  not_opened o table r none i = not_none r (sym i)
  not_opened o table r (some x) i = not_none r (sym i)

  -- the tests of an opening at a checkpoint
  abbrev open_tests : Log → ℕ → List ℕ → Option Checkpoint → List (Option Refusal)
  open_tests log o table c = frame_and_entries sh log ++ (refuse 3 (leb log.tail o || is_none c) ∷ refuse 13 (if_some c false (λ c. ltb (capacity table) (length c.cells))) ∷ [])

module _ (sh : Shape) (shape : ok_shape sh ≡ true) (whole : Log) (room : ℕ) (sound : Sound sh whole room) (log : Log) (was : Stood sh whole log) where
  opened-good : (o : ℕ) (table : List ℕ) (r : Carried) (e : Entry) → log.entry o ≡ e → (x : Option Refusal) → first_of (open_tests sh whole log o table (checkpoint_in e)) ≡ x
      → if_opened (open_given sh o table x (checkpoint_in e)) ≡ some r → Good sh whole r
  opened-good o table r (plain ws) e x t i = not_opened sh whole o table r x i
  opened-good o table r (numbered n ws) e x t i = not_opened sh whole o table r x i
  opened-good o table r (commit n c) e x t i = not_opened sh whole o table r x i
  opened-good o table r (decision d) e x t i = not_opened sh whole o table r x i
  opened-good o table r blank e x t i = not_opened sh whole o table r x i
  opened-good o table r (checkpoint ob cs) e (some x) t i = not_none r (sym i)
  opened-good o table r (checkpoint ob cs) e none t i =
      let tests = all_pass (open_tests sh whole log o table (checkpoint_in (checkpoint ob cs))) t in
      let l : o < log.tail = leb-false log.tail o (or_l (leb log.tail o) false (refuse-none 3 _ tests.1.1.1.0)) in
      let fit : length (loaded ob cs) ≤ capacity table = ltb-false (capacity table) (length (loaded ob cs)) (refuse-none 13 _ tests.1.1.1.1.0) in
      let l' : o < whole.tail = omega (arith, was.tails) in
      let e' : whole.entry o ≡ checkpoint ob cs = sym (was.agrees o l) ∙ e in
      let k : ok_entry sh whole o (checkpoint ob cs) ≡ true = rw e' at (good-kept sh whole sound.good o l') in
      let s : Shown sh (hosted sh (set_of sh ob)) (loaded ob cs) (run whole (o + 1)).cells =
      rw (hosted-one sh ob (checkpoint-object sh whole o ob cs k), add-one o) (checkpoint-shows sh shape whole room sound o ob cs l' e') in
      subst (Good sh whole) (some-injective _ r i) (left-good sh whole sound.directed (set_of sh ob) (o + 1) table (loaded ob cs) fit s (omega arith) (bit-listed sh.objects ob))

  pub open-good : (o : ℕ) (table : List ℕ) (r : Carried) → if_opened (open_at sh log o table) ≡ some r → Good sh whole r
  unfolding open_at
  open-good o table r e = opened-good o table r (log.entry o) refl (open_refusal sh log o table) refl e

-- ---- a play

-- a play on the log as it stood that is not refused for its arguments
abbrev pub Fits : Shape → Log → Carried → ℕ → Type 0
Fits sh log r stop = (bad_replica sh log.tail r.replica r.table ≡ false) × (bad_stop log.tail r.replica stop ≡ false)

-- what a play that lacks room leaves
pub record Lacking (sh : Shape) (whole : Log) (r : Carried) (out : Left) : Type 0 where
  pub next : out.replica.position + 1 ≤ whole.tail
  pub many : capacity r.table < cells_written sh.objects (hosts sh r) (run whole (out.replica.position + 1)).cells

module _ (sh : Shape) (shape : ok_shape sh ≡ true) (whole log : Log) (was : Stood sh whole log) (r : Carried) (stop : ℕ) (good : Good sh whole r) where
  -- the run is the whole log's
  run-same : (q : ℕ) → q ≤ log.tail → run log q ≡ run whole q
  run-same q l = run_agree log whole q (fewer log whole log.tail q l was.agrees)

  at : Fits sh log r stop → r.replica.position ≤ log.tail
  at f = ltb-false log.tail r.replica.position (or_r (bad_record sh r.replica r.table) (ltb log.tail r.replica.position) f.0)

  to : Fits sh log r stop → stop ≤ log.tail
  to f = ltb-false log.tail stop (or_l (ltb log.tail stop) (ltb stop r.replica.position) f.1)

  on : Fits sh log r stop → r.replica.position ≤ stop
  on f = ltb-false stop r.replica.position (or_r (ltb log.tail stop) (ltb stop r.replica.position) f.1)

  played-ok : Fits sh log r stop → Ok sh shape log (hosts sh r) (capacity r.table) stop (play_from sh log r.replica r.table stop)
  played-ok f =
      let p : ℕ = r.replica.position in
      let sum : p + (stop - p) ≡ stop = omega (arith, on f) in
      let few = tail-small sh log was.frame in
      let inv : Shown sh (hosts sh r) (cells_of r.table r.replica.count) (run log p).cells =
      rw (run-same p (at f)) good.inv in
      rw sum at (play-ok sh shape log (hosts sh r) (capacity r.table) p (cells_of r.table r.replica.count) inv (stop - p)
      (omega (arith, to f, on f)) (λ q h. trust sh log (hosts sh r) q was.truths)
      (λ q h. placed sh log log.tail (good-kept sh log was.good) q (omega (arith, to f, on f))))

  -- what a play leaves
  left_so : Fits sh log r stop → (x : Played) → length (cells_in x) ≤ capacity r.table → Ok sh shape log (hosts sh r) (capacity r.table) stop x → Good sh whole (carried (left_by r.replica.hosting stop r.table x))
  left_so f (going u) n i = left-good sh whole was.directed r.replica.hosting stop r.table u n (rw (← run-same stop (to f)) i) (omega (arith, to f, was.tails)) good.listed
  left_so f (waits q u) n i =
      left-good sh whole was.directed r.replica.hosting q r.table u n (rw (← run-same q (omega (arith, to f, i.0))) i.1) (omega (arith, to f, was.tails, i.0)) good.listed
  left_so f (lacks q u) n i =
      left-good sh whole was.directed r.replica.hosting q r.table u n (rw (← run-same q (omega (arith, to f, i.0))) i.1) (omega (arith, to f, was.tails, i.0)) good.listed

  pub play-good : Good sh whole (carried (play_call sh log r.replica r.table stop))
  unfolding play_call
  play-good = go (play_refusal sh log r.replica r.table stop) refl
    where
      tests : List (Option Refusal)
      tests = frame_and_entries sh log ++ (refuse 10 (bad_replica sh log.tail r.replica r.table) ∷ refuse 3 (bad_stop log.tail r.replica stop) ∷ [])

      go : (x : Option Refusal) → play_refusal sh log r.replica r.table stop ≡ x
          → Good sh whole (carried (play_given r.replica stop r.table (play_from sh log r.replica r.table stop) x))
      go (some x) e = good
      go none e =
          let pass = all_pass tests e in
          let f : Fits sh log r stop = (refuse-none 10 _ pass.1.1.1.0, refuse-none 3 _ pass.1.1.1.1.0) in
          let n = play-fits sh log (hosts sh r) (capacity r.table) r.replica.position (cells_of r.table r.replica.count) (stop - r.replica.position)
          (omega (arith, good.fits, length-cells r.table r.replica.count)) in
          left_so f (play_from sh log r.replica r.table stop) n (played-ok f)

  -- on a good log such a play is not refused
  not-refused : Fits sh log r stop → play_call sh log r.replica r.table stop ≡ left_by r.replica.hosting stop r.table (play_from sh log r.replica r.table stop)
  unfolding play_call
  not-refused f = rw (was.frame, was.good, f.0, f.1, was.directed)

  pub play-lacking : Fits sh log r stop → (play_call sh log r.replica r.table stop).answer ≡ plainly 13 → Lacking sh whole r (play_call sh log r.replica r.table stop)
  play-lacking f e = rw (not-refused f) (go (play_from sh log r.replica r.table stop) (played-ok f) (rw (not-refused f) at e))
    where
      go : (x : Played) → Ok sh shape log (hosts sh r) (capacity r.table) stop x → (left_by r.replica.hosting stop r.table x).answer ≡ plainly 13
          → Lacking sh whole r (left_by r.replica.hosting stop r.table x)
      go (going u) i e = clash true refl (ap is_refused (sym e))
      go (waits q u) i e = absurd (let n : 12 ≡ 13 = ap code e in omega arith)
      go (lacks q u) i e = record {
        next = omega (arith, i.0, to f, was.tails);
        many = rw (add-one q, ← run-same (suc q) (omega (arith, i.0, to f))) i.2;
      }
