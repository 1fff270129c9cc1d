-- Openings: fresh, of any set but 0; at a checkpoint, wherever one is and the table has room for its cells, with those cells,
-- which obey the rules, fit their bytes and so are read back as they were stored.
use Prim.Native.Nat.{ℕ, ◌+◌, ◌*◌, ◌<◌}
use mathlib.Core.Path.{◌≡◌, refl, ap, ◌∙◌}
use mathlib.Core.Bool.{Bool, true, false, ◌||◌}
use mathlib.Core.List.{List, [], ◌∷◌, ◌++◌}
use mathlib.Core.Option.{Option, none, some}
use native.Mathlib.Omega.{arith}
use borrow.Author.Tests.{leb-false, lt-leb, le-ltb}
use lib.Dec.{leb, ltb}
use lib.ListN.{length, drop, length-map}
use lib.Seq.{drop_at}
use Rattle.lists.specs.Tests.{ands, or_l, clash}
use Rattle.lists.specs.Rows.{joined}
use Rattle.lists.specs.Sets.{all}
use Rattle.model.specs.Objects.{Shape, set_of, bad_set}
use Rattle.model.specs.Entries.{Saved, Entry, plain, numbered, commit, decision, checkpoint, blank, Log, if_some, is_none}
use Rattle.model.specs.Slot.{log_in, ok_shape}
use Rattle.model.specs.Rules.{lowest_bad, ok_saved, ok_entry}
use Rattle.model.specs.Table.{cell_size, cell_bytes, cell_of, capacity, table_with}
use Rattle.model.specs.Answers.{Refusal, done, refuse, refuse_at, first_of, answer, bad_frame, frame_and_entries}
use Rattle.model.specs.Replica.{left_with, open_fresh, Checkpoint, checkpoint_in, open_refusal, open_given, open_at}
use Rattle.model.specs.Append.{Replica}
use Rattle.model.specs.Terms.{Directed, Listed}
use Rattle.model.specs.Histories.{in_log, is_refused}
use Rattle.model.specs.Claims.{OpensFresh, OpenedAt, OpensAt, OpensWherever}
use Rattle.laws.proofs.Refusals.{all_pass, refuse-none, refuse_at-none, below-good}
use Rattle.laws.proofs.Tables.{length-stored, cells-back}
use Rattle.laws.proofs.Appends.{good-kept}
use Rattle.claims.proofs.Cells.{shown-fits}
use Rattle.laws.proofs.Directory.{set_words, words-set}
use Rattle.claims.proofs.Terms.{words-frame}
use Rattle.claims.proofs.Audits.{tail-small}
use Rattle.claims.proofs.Openings.{hosted-one, loaded, loaded-owned, checkpoint-object}

pub opens-fresh : (sh : Shape) → OpensFresh sh
unfolding open_fresh
opens-fresh sh set = (there sh.fault (bad_set sh set) refl refl, λ h. rw (h.0, words-set sh set h.1 h.2))
  where
    new : Replica
    new = record { hosting = set; position = 0; count = 0 }

    there : (f : Option ℕ) (b : Bool) → sh.fault ≡ f → bad_set sh set ≡ b → answer (first_of (refuse_at 15 f ∷ refuse 10 b ∷ [])) new ≡ done new
        → Directed sh × (set ≡ 0 → ⊥) × Listed sh set
    there (some k) b d s e = clash true refl (ap is_refused e)
    there none true d s e = clash true refl (ap is_refused e)
    there none false d s e = (d, (set_words sh set s).0, (set_words sh set s).1)

-- ---- at a checkpoint

-- the tests of an opening at a checkpoint
abbrev tests : Shape → Log → ℕ → List ℕ → Option Checkpoint → List (Option Refusal)
tests sh log o table c = frame_and_entries sh log ++ (refuse 3 (leb log.tail o || is_none c) ∷ refuse 13 (if_some c false (λ c. ltb (capacity table) (length c.cells))) ∷ [])

many : (x : ℕ) (cs : List Saved) → length (loaded x cs) ≡ length cs
many x cs = length-map cs (λ (c : Saved). cell_of x c.key c.held)

-- what lies past the stored cells
rest-kept : (table : List ℕ) (x : ℕ) (cs : List Saved) → drop (cell_size * length cs) (table_with table (loaded x cs)) ≡ drop (cell_size * length cs) table
unfolding table_with
rest-kept table x cs =
    let n = many x cs in
    drop_at (joined cell_bytes (loaded x cs)) (drop (cell_size * length (loaded x cs)) table) (cell_size * length cs) (omega (arith, length-stored (loaded x cs)))
    ∙ ap (λ (k : ℕ). drop (cell_size * k) table) n

module _ (sh : Shape) (shape : ok_shape sh ≡ true) (log : Log) (o : ℕ) (table : List ℕ) where
  -- an opening that passed its tests
  loads : (x : ℕ) (cs : List Saved) → bad_frame sh.layout log ≡ false → lowest_bad sh log ≡ none → o < log.tail → log.entry o ≡ checkpoint x cs
      → OpenedAt sh log o table (left_with (done tt) (set_of sh x) (o + 1) table (loaded x cs))
  unfolding ok_entry
  loads x cs frame good l e =
      let k : ok_entry sh log o (checkpoint x cs) ≡ true = rw e at (good-kept sh log good o l) in
      let each : all (ok_saved sh o x) cs ≡ true = search ands in
      let own = loaded-owned x sh shape o (omega (arith, tail-small sh log frame)) cs each in
      record {
        object = x;
        cells = cs;
        below = l;
        here = e;
        hosting = hosted-one sh x (checkpoint-object sh log o x cs k);
        position = refl;
        count = many x cs;
        rows = cells-back table (loaded x cs) (shown-fits sh (x ∷ []) (loaded x cs) own);
        rest = rest-kept table x cs;
      }

  -- an entry that is no checkpoint opens nothing
  shut : {P : Type 0} (r : Option Refusal) → (open_given sh o table r none).answer ≡ done tt → P
  shut none h = clash true refl (ap is_refused h)
  shut (some r) h = clash true refl (ap is_refused h)

  opened-at : (e : Entry) → log.entry o ≡ e → (r : Option Refusal) → first_of (tests sh log o table (checkpoint_in e)) ≡ r
      → (open_given sh o table r (checkpoint_in e)).answer ≡ done tt → OpenedAt sh log o table (open_given sh o table r (checkpoint_in e))
  opened-at (plain ws) e r t h = shut r h
  opened-at (numbered n ws) e r t h = shut r h
  opened-at (commit n c) e r t h = shut r h
  opened-at (decision d) e r t h = shut r h
  opened-at blank e r t h = shut r h
  opened-at (checkpoint x cs) e (some r) t h = clash true refl (ap is_refused h)
  opened-at (checkpoint x cs) e none t h =
      let pass = all_pass (tests sh log o table (checkpoint_in (checkpoint x cs))) t in
      loads x cs (refuse-none 1 _ pass.1.0) (refuse_at-none 2 _ pass.1.1.0) (leb-false log.tail o (or_l (leb log.tail o) false (refuse-none 3 _ pass.1.1.1.0))) e

pub opens-at : (sh : Shape) → ok_shape sh ≡ true → OpensAt sh
unfolding open_at
opens-at sh shape l o table h = opened-at sh shape (in_log sh l) o table ((in_log sh l).entry o) refl (open_refusal sh (in_log sh l) o table) refl h

pub opens-wherever : (sh : Shape) → ok_shape sh ≡ true → OpensWherever sh
unfolding open_at log_in
opens-wherever sh shape l o table x cs directed framed good low e room =
    let full : ltb (capacity table) (length (loaded x cs)) ≡ false = le-ltb (capacity table) (length (loaded x cs)) (omega (arith, many x cs)) in
    rw (words-frame sh shape l framed, below-good sh (in_log sh l) good, e, lt-leb l.tail o low, full, directed)
