-- A replica in cell order and one in order of first writing: the table of the first is that of the second with its counted cells
-- sorted. Openings begin so and plays keep it, since a play of sorted rows is the play of the others, sorted; what the calls
-- look at, cells and how many they are, is the same of both.
use Prim.Native.Nat.{ℕ, ◌+◌, ◌-◌, ◌/◌, ◌<◌, ◌≤◌}
use mathlib.Core.Path.{◌≡◌, refl, ap, ap₂, sym, ◌∙◌, subst}
use mathlib.Core.Bool.{Bool, true, false, not, ◌||◌, ◌&&◌, beq}
use mathlib.Core.List.{List, [], ◌∷◌, ◌++◌}
use mathlib.Core.Option.{Option, none, some, some-injective}
use native.Mathlib.Omega.{arith}
use borrow.Author.Tests.{ltb-false, leb-false}
use lib.Dec.{eqb, leb, ltb}
use lib.ListN.{length}
use Rattle.lists.specs.Tests.{ands, or_l, or_r, or-false}
use Rattle.lists.specs.Rows.{values, joined}
use Rattle.lists.specs.Sets.{all, mem}
use Rattle.model.specs.Objects.{Shape, ids, is_object, is_cell, hosted, set_of, everything, bad_set}
use Rattle.model.specs.Entries.{Entry, plain, numbered, commit, decision, checkpoint, blank, Commit, Log, commit_at, if_some, is_none}
use Rattle.model.specs.Slot.{slot_of, log_of, log_in, ok_shape}
use Rattle.model.specs.Rules.{lowest, lowest_bad, ok_saved, ok_entry}
use Rattle.model.specs.Table.{Cell, cell_size, cells_of, table_with, capacity, lookup, in_order, saved_of}
use Rattle.model.specs.Play.{Played, going, waits, lacks, cells_in, version_at, commits_over, whole, play}
use Rattle.model.specs.Answers.{Refusal, done, refuse, refuse_at, first_of, answer, slots, bad_directory, bad_frame, frame_and_entries}
use Rattle.model.specs.Append.{Replica, saves, saved_given, bad_record, entry_of, own_tests, append, append_given}
use Rattle.model.specs.Replica.{Left, left_with, open_fresh, Checkpoint, checkpoint_in, open_refusal, open_given, open_at, bad_stop, play_refusal, left_by, play_from, play_call, read_cell, audit_play, commits_there, as_played, same_saved, lowest_false, audit_given, audit}
use Rattle.model.specs.Histories.{Lent, in_log, History, stood, Carried, carried, if_opened, if_fresh, Opening, fresh, at_checkpoint, opened, Play, play_on, played, plays, hosts}
use Rattle.model.specs.Terms.{InOrder, Playable}
use Rattle.model.specs.Claims.{Bytes}
use Rattle.laws.specs.FirstWriting.{sorted, sorted_in, bad_record_last, bad_replica_last, play_refusal_last, play_from_last, play_call_last, read_cell_last, save_last, audit_play_last, commits_there_last, as_played_last, lowest_false_last, audit_last}
use Rattle.laws.proofs.Items.{fits_cell}
use Rattle.laws.proofs.Refusals.{not_none, all_pass, refuse-none, refuse_at-none, below-good}
use Rattle.laws.proofs.Tables.{length-cells, cells-back, table-again, cells_fit}
use Rattle.laws.proofs.Room.{play-fits, length-with}
use Rattle.laws.proofs.Appends.{good-kept}
use Rattle.laws.proofs.Plays.{play-keeps, ordered-play, play-grows}
use Rattle.laws.proofs.Sorted.{length-sorted, lookup-sorted, all-sorted, sorted-ordered, saved-sorted, commits-alike, play-sorted, cells-sorted}
use Rattle.claims.specs.Order.{SameButOrder, counted, played_last, plays_last, Alike, SameCalls, SameAudit, SameAudits, LeavesInOrder}
use Rattle.claims.proofs.Terms.{words-frame, order-words, words-order}
use Rattle.claims.proofs.Cells.{shown-fits, apply-fits}
use Rattle.claims.proofs.Audits.{tail-small, placed}
use Rattle.claims.proofs.Openings.{loaded, loaded-owned, ascending-ordered}
use Rattle.claims.proofs.Leaves.{plays-so}

pub same-but-order : (sh : Shape) → SameButOrder sh
same-but-order sh log set room p us n = play-sorted sh log set room p us n

-- ---- cells that fit their bytes do so after a play on a good log

fits-play : (sh : Shape) → ok_shape sh ≡ true → (log : Log) → bad_frame sh.layout log ≡ false → lowest_bad sh log ≡ none
    → (set : List ℕ) (room p : ℕ) (cs : List Cell) (n : ℕ) → p + n ≤ log.tail → all fits_cell cs ≡ true → all fits_cell (cells_in (play sh log set room p cs n)) ≡ true
fits-play sh shape log frame good set room p cs n l f =
    play-keeps sh log set room (λ ds. all fits_cell ds ≡ true) p cs n
    (λ q h. let few = tail-small sh log frame in
    let w = placed sh log log.tail (good-kept sh log good) q (omega arith) in
    record {
      now = λ ws e ds i. apply-fits sh shape set (version_at q) (omega arith) ws ds (w.now ws e) i;
      late = λ m ds i. apply-fits sh shape set (version_at q) (omega arith) _ ds (w.late m) i;
    }) f

-- ---- a table in cell order and one in order of first writing, with n counted cells

pub record Twin (n : ℕ) (t u : List ℕ) : Type 0 where
  pub room : n ≤ capacity u
  pub fits : all fits_cell (cells_of u n) ≡ true
  pub ordered : in_order (sorted (cells_of u n)) ≡ true
  pub table : t ≡ table_with u (sorted (cells_of u n))

module _ (n : ℕ) (t u : List ℕ) (w : Twin n t u) where
  many : length (sorted (cells_of u n)) ≡ n
  many = length-sorted (cells_of u n) ∙ length-cells u n

  size : length t ≡ length u
  size = ap length w.table ∙ length-with u (sorted (cells_of u n)) (omega (arith, many, w.room))

  pub same-cells : cells_of t n ≡ sorted (cells_of u n)
  same-cells =
      ap₂ (λ (x : List ℕ) (m : ℕ). cells_of x m) w.table (sym many)
      ∙ cells-back u (sorted (cells_of u n)) (all-sorted fits_cell (cells_of u n) ∙ w.fits)

  pub in_order_lem : in_order (cells_of t n) ≡ true
  in_order_lem = ap in_order same-cells ∙ w.ordered

  -- with no fewer cells stored in both
  stored-twin : (cs : List Cell) → n ≤ length cs → length cs ≤ capacity u → all fits_cell cs ≡ true → in_order (sorted cs) ≡ true
      → Twin (length (sorted cs)) (table_with t (sorted cs)) (table_with u cs)
  stored-twin cs more room f a =
      let back : cells_of (table_with u cs) (length (sorted cs)) ≡ cs = ap (cells_of (table_with u cs)) (length-sorted cs) ∙ cells-back u cs f in
      record {
        room = omega (arith, length-sorted cs, length-with u cs room);
        fits = rw back f;
        ordered = rw back a;
        table = rw back
            (ap (λ (x : List ℕ). table_with x (sorted cs)) w.table
            ∙ table-again u (sorted (cells_of u n)) (sorted cs) (omega (arith, many, length-sorted cs))
            ∙ sym (table-again u cs (sorted cs) (omega (arith, length-sorted cs))));
      }

-- rows in order are their own twin
own-twin : (table : List ℕ) (cs : List Cell) → length cs ≤ capacity table → all fits_cell cs ≡ true → in_order cs ≡ true → Twin (length cs) (table_with table cs) (table_with table cs)
own-twin table cs room f a =
    let back = cells-back table cs f in
    let same = sorted-ordered cs a in
    record {
      room = omega (arith, length-with table cs room);
      fits = rw back f;
      ordered = rw (back, same) a;
      table = rw (back, same) (sym (table-again table cs cs (omega arith)));
    }

no_rows : (table : List ℕ) → Twin 0 table table
unfolding cells_of values sorted table_with joined in_order
no_rows table = record { room = omega arith; fits = refl; ordered = refl; table = refl }

-- ---- what a call leaves in both orders

pub record Same (out last : Left) : Type 0 where
  pub answer : out.answer ≡ last.answer
  pub replica : out.replica ≡ last.replica
  pub twin : Twin out.replica.count out.table last.table

module _ (ρ : Replica) (t u : List ℕ) (w : Twin ρ.count t u) where
  same-bad : (sh : Shape) → bad_record sh ρ t ≡ bad_record_last sh ρ u
  same-bad sh =
      ap₂ (λ (m : ℕ) (b : Bool). bad_set sh ρ.hosting || ltb (m / cell_size) ρ.count || not b) (size ρ.count t u w) (in_order_lem ρ.count t u w)
      ∙ or-false (bad_set sh ρ.hosting || ltb (capacity u) ρ.count)

  -- a cell reading
  read_same : (sh : Shape) (o k : ℕ) → read_cell sh ρ t o k ≡ read_cell_last sh ρ u o k
  unfolding read_cell read_cell_last
  read_same sh o k =
      ap₂ (λ (b : Bool) (cs : List Cell). answer (first_of (bad_directory sh ∷ refuse 10 b ∷ refuse 3 (not (mem o (hosted sh ρ.hosting) && is_cell sh o k)) ∷ [])) (lookup cs o k))
      (same-bad sh) (same-cells ρ.count t u w)
      ∙ ap (answer (first_of (bad_directory sh ∷ refuse 10 (bad_record_last sh ρ u) ∷ refuse 3 (not (mem o (hosted sh ρ.hosting) && is_cell sh o k)) ∷ []))) (lookup-sorted (cells_of u ρ.count) o k)

  -- a checkpoint
  save-same : (sh : Shape) (bytes : List ℕ) (tail o : ℕ) → append sh bytes tail (saves ρ t o) ≡ save_last sh bytes tail ρ u o
  unfolding append save_last own_tests entry_of
  save-same sh bytes tail o =
      let log : Log = log_of sh.layout bytes tail in
      let cells : saved_given ρ t o ≡ saved_given ρ u o = ap (saved_of o) (same-cells ρ.count t u w) ∙ saved-sorted o (cells_of u ρ.count) in
      λ i. append_given sh.layout bytes log.tail
      (slot_of sh.layout log log.tail (checkpoint o (cells i)))
      (first_of (frame_and_entries sh log ++ (
      refuse 10 (same-bad sh i || ltb log.tail ρ.position)
      ∷ refuse 3 (not (is_object sh o && mem o (hosted sh ρ.hosting) && all (ok_saved sh log.tail o) (cells i)))
      ∷ refuse 14 (ltb ρ.position log.tail)
      ∷ refuse 13 (ltb sh.layout.items (length (cells i)))
      ∷ refuse 9 (leb (slots sh.layout log) log.tail)
      ∷ [])))

  -- a play
  module _ (sh : Shape) (shape : ok_shape sh ≡ true) (log : Log) (stop : ℕ) where
    from-same : play_from sh log ρ t stop ≡ sorted_in (play_from_last sh log ρ u stop)
    from-same =
        ap₂ (λ (m : ℕ) (cs : List Cell). play sh log (hosted sh ρ.hosting) (m / cell_size) ρ.position cs (stop - ρ.position)) (size ρ.count t u w) (same-cells ρ.count t u w)
        ∙ play-sorted sh log (hosted sh ρ.hosting) (capacity u) ρ.position (cells_of u ρ.count) (stop - ρ.position)

    refusal-same : play_refusal sh log ρ t stop ≡ play_refusal_last sh log ρ u stop
    refusal-same =
        ap (λ (b : Bool). first_of (frame_and_entries sh log ++ (refuse 10 (b || ltb log.tail ρ.position) ∷ refuse 3 (bad_stop log.tail ρ stop) ∷ []))) (same-bad sh)

    left-same : (x : Played) → ρ.count ≤ length (cells_in x) → length (cells_in x) ≤ capacity u → all fits_cell (cells_in x) ≡ true → in_order (sorted (cells_in x)) ≡ true
        → Same (left_by ρ.hosting stop t (sorted_in x)) (left_by ρ.hosting stop u x)
    left-same (going cs) m c f a = record {
      answer = refl;
      replica = λ i. record { hosting = ρ.hosting; position = stop; count = length-sorted cs i };
      twin = stored-twin ρ.count t u w cs m c f a;
    }
    left-same (waits q cs) m c f a = record {
      answer = refl;
      replica = λ i. record { hosting = ρ.hosting; position = q; count = length-sorted cs i };
      twin = stored-twin ρ.count t u w cs m c f a;
    }
    left-same (lacks q cs) m c f a = record {
      answer = refl;
      replica = λ i. record { hosting = ρ.hosting; position = q; count = length-sorted cs i };
      twin = stored-twin ρ.count t u w cs m c f a;
    }

    tests : List (Option Refusal)
    tests = frame_and_entries sh log ++ (refuse 10 (bad_replica_last sh log.tail ρ u) ∷ refuse 3 (bad_stop log.tail ρ stop) ∷ [])

    pub play-same : Same (play_call sh log ρ t stop) (play_call_last sh log ρ u stop)
    unfolding play_call play_call_last tests
    play-same = go (play_refusal_last sh log ρ u stop) refl
      where
        go : (y : Option Refusal) → play_refusal_last sh log ρ u stop ≡ y → Same (play_call sh log ρ t stop) (play_call_last sh log ρ u stop)
        go none e =
            let pass = all_pass tests e in
            let frame : bad_frame sh.layout log ≡ false = refuse-none 1 _ pass.1.0 in
            let good : lowest_bad sh log ≡ none = refuse_at-none 2 _ pass.1.1.0 in
            let end : bad_stop log.tail ρ stop ≡ false = refuse-none 3 _ pass.1.1.1.1.0 in
            let to : stop ≤ log.tail = ltb-false log.tail stop (or_l (ltb log.tail stop) (ltb stop ρ.position) end) in
            let on : ρ.position ≤ stop = ltb-false stop ρ.position (or_r (ltb log.tail stop) (ltb stop ρ.position) end) in
            let x : Played = play_from_last sh log ρ u stop in
            let n : ℕ = stop - ρ.position in
            let cells : List Cell = cells_of t ρ.count in
            let made : List Cell = cells_in (play_from sh log ρ t stop) in
            let same : made ≡ sorted (cells_in x) = ap cells_in from-same ∙ cells-sorted x in
            let count : length made ≡ length (cells_in x) = ap length same ∙ length-sorted (cells_in x) in
            let held : length cells ≡ ρ.count = length-cells t ρ.count in
            let grows : length cells ≤ length made = play-grows sh log (hosted sh ρ.hosting) (capacity t) ρ.position cells n in
            let few : length made ≤ capacity t = play-fits sh log (hosted sh ρ.hosting) (capacity t) ρ.position cells n (omega (arith, held, size ρ.count t u w, w.room)) in
            let fit : all fits_cell made ≡ true = fits-play sh shape log frame good (hosted sh ρ.hosting) (capacity t) ρ.position cells n (omega arith)
            (ap (all fits_cell) (same-cells ρ.count t u w) ∙ all-sorted fits_cell (cells_of u ρ.count) ∙ w.fits) in
            let order : in_order made ≡ true = ordered-play sh log (hosted sh ρ.hosting) (capacity t) ρ.position cells n (in_order_lem ρ.count t u w) in
            rw (refusal-same, e, from-same)
            (left-same x (omega (arith, count, held, grows)) (omega (arith, count, few, size ρ.count t u w))
            (sym (all-sorted fits_cell (cells_in x)) ∙ ap (all fits_cell) (sym same) ∙ fit) (ap in_order (sym same) ∙ order))
        go (some y) e = rw (refusal-same, e) (record { answer = refl; replica = refl; twin = w })

-- ---- replicas: opened, and played

pub record Both (r last : Carried) : Type 0 where
  pub replica : r.replica ≡ last.replica
  pub twin : Twin r.replica.count r.table last.table

opened-fresh : (sh : Shape) (set : ℕ) (table : List ℕ) (r : Carried) → if_fresh table (open_fresh sh set) ≡ some r → Both r r
unfolding open_fresh
opened-fresh sh set table r e = go sh.fault (bad_set sh set) e
  where
    start : Carried
    start = record { replica = record { hosting = set; position = 0; count = 0 }; table = table }

    go : (f : Option ℕ) (b : Bool) → if_fresh table (answer (first_of (refuse_at 15 f ∷ refuse 10 b ∷ [])) (record { hosting = set; position = 0; count = 0 })) ≡ some r → Both r r
    go (some k) b i = not_none r (sym i)
    go none true i = not_none r (sym i)
    go none false i = subst (λ x. Both x x) (some-injective start r i) (record { replica = refl; twin = no_rows table })

module _ (sh : Shape) (shape : ok_shape sh ≡ true) (log : Log) (o : ℕ) (table : List ℕ) (r : Carried) where
  abbrev open_tests : Option Checkpoint → List (Option Refusal)
  open_tests c = frame_and_entries sh log ++ (refuse 3 (leb log.tail o || is_none c) ∷ refuse 13 (if_some c false (λ c. ltb (capacity table) (length c.cells))) ∷ [])

  not_opened : (x : Option Refusal) → if_opened (open_given sh o table x none) ≡ some r → Both r r
  not_opened none i = not_none r (sym i)
  not_opened (some x) i = not_none r (sym i)

  opened-so : (e : Entry) → log.entry o ≡ e → (x : Option Refusal) → first_of (open_tests (checkpoint_in e)) ≡ x → if_opened (open_given sh o table x (checkpoint_in e)) ≡ some r → Both r r
  unfolding ok_entry
  opened-so (plain ws) e x t i = not_opened x i
  opened-so (numbered n ws) e x t i = not_opened x i
  opened-so (commit n c) e x t i = not_opened x i
  opened-so (decision d) e x t i = not_opened x i
  opened-so blank e x t i = not_opened x i
  opened-so (checkpoint ob cs) e (some x) t i = not_none r (sym i)
  opened-so (checkpoint ob cs) e none t i =
      let tests = all_pass (open_tests (checkpoint_in (checkpoint ob cs))) t in
      let frame : bad_frame sh.layout log ≡ false = refuse-none 1 _ tests.1.0 in
      let good : lowest_bad sh log ≡ none = refuse_at-none 2 _ tests.1.1.0 in
      let l : o < log.tail = leb-false log.tail o (or_l (leb log.tail o) false (refuse-none 3 _ tests.1.1.1.0)) in
      let fit : length (loaded ob cs) ≤ capacity table = ltb-false (capacity table) (length (loaded ob cs)) (refuse-none 13 _ tests.1.1.1.1.0) in
      let k : ok_entry sh log o (checkpoint ob cs) ≡ true = rw e at (good-kept sh log good o l) in
      let own = loaded-owned ob sh shape o (omega (arith, tail-small sh log frame)) cs (search ands) in
      subst (λ x. Both x x) (some-injective (carried (left_with (done tt) (set_of sh ob) (o + 1) table (loaded ob cs))) r i)
      (record { replica = refl; twin = own-twin table (loaded ob cs) fit (shown-fits sh (ob ∷ []) (loaded ob cs) own) (ascending-ordered ob cs (search ands)) })

  pub opened-there : if_opened (open_at sh log o table) ≡ some r → Both r r
  unfolding open_at
  opened-there i = opened-so (log.entry o) refl (open_refusal sh log o table) refl i

module _ (sh : Shape) (shape : ok_shape sh ≡ true) (h : History) where
  opened_both : (opening : Opening) (r : Carried) → opened sh h opening ≡ some r → Both r r
  opened_both (fresh set table) r e = opened-fresh sh set table r e
  opened_both (at_checkpoint n o table) r e = opened-there sh shape (in_log sh (stood sh h n)) o table r e

  next-same : (r last : Carried) → Both r last → (p : Play) → Same (played sh h r p) (played_last sh h last p)
  next-same r last b p =
      subst (λ (ρ : Replica). Same (played sh h r p) (play_call_last sh (in_log sh (stood sh h p.stood_after)) ρ last.table p.stop)) b.replica
      (play-same r.replica r.table last.table b.twin sh shape (in_log sh (stood sh h p.stood_after)) p.stop)

  plays-both : (r last : Carried) → Both r last → (ps : List Play) → Both (plays sh h r ps) (plays_last sh h last ps)
  unfolding plays plays_last
  plays-both r last b [] = b
  plays-both r last b (p ∷ ps) =
      let s = next-same r last b p in
      plays-both (carried (played sh h r p)) (carried (played_last sh h last p)) (record { replica = s.replica; twin = s.twin }) ps

  -- with one record for both
  alike-so : (r : Carried) (u : List ℕ) → Twin r.replica.count r.table u → Alike sh h r (record { replica = r.replica; table = u })
  alike-so r u w =
      let b : Both r (record { replica = r.replica; table = u }) = record { replica = refl; twin = w } in
      record {
        replica = refl;
        cells = same-cells r.replica.count r.table u w;
        table = w.table;
        answers = λ p. (next-same r (record { replica = r.replica; table = u }) b p).answer;
        leaves = λ p. (next-same r (record { replica = r.replica; table = u }) b p).replica;
        reads = λ o k. read_same r.replica r.table u w sh o k;
        saved = λ l o. save-same r.replica r.table u w sh l.bytes l.tail o;
      }

  both-alike : (r last : Carried) → Both r last → Alike sh h r last
  both-alike r last b = subst (Alike sh h r) (λ i. record { replica = b.replica i; table = last.table }) (alike-so r last.table b.twin)

pub same-calls : (sh : Shape) → ok_shape sh ≡ true → SameCalls sh
same-calls sh shape h opening r e ps = both-alike sh shape h (plays sh h r ps) (plays_last sh h r ps) (plays-both sh shape h r r (opened_both sh shape h opening r e) ps)

-- ---- the audit

module _ (sh : Shape) (log : Log) (room : ℕ) where
  audit-play : (p : ℕ) → audit_play sh log room p ≡ sorted_in (audit_play_last sh log room p)
  unfolding sorted
  audit-play p = play-sorted sh log (ids sh) room 0 [] p

  audit-cells : (p : ℕ) → cells_in (audit_play sh log room p) ≡ sorted (cells_in (audit_play_last sh log room p))
  audit-cells p = ap cells_in (audit-play p) ∙ cells-sorted (audit_play_last sh log room p)

  commits-there : (p : ℕ) → commits_there sh log room p ≡ commits_there_last sh log room p
  commits-there p = go (commit_at log p)
    where
      go : (x : Option Commit) → if_some x false (λ c. commits_over (lookup (cells_in (audit_play sh log room p))) (whole log p).won c.condition)
          ≡ if_some x false (λ c. commits_over (lookup (cells_in (audit_play_last sh log room p))) (whole log p).won c.condition)
      go none = refl
      go (some c) = commits-alike (lookup (cells_in (audit_play sh log room p))) (lookup (cells_in (audit_play_last sh log room p))) (whole log p).won c.condition
          (λ o k. ap (λ (cs : List Cell). lookup cs o k) (audit-cells p) ∙ lookup-sorted (cells_in (audit_play_last sh log room p)) o k)

  as-played : (p : ℕ) (e : Entry) → as_played sh log room p e ≡ as_played_last sh log room p e
  as-played p (plain ws) = refl
  as-played p (numbered n ws) = refl
  as-played p (commit n c) = refl
  as-played p (decision d) = ap (beq (eqb d.outcome 1)) (commits-there d.offset)
  as-played p (checkpoint o cs) =
      ap (same_saved cs) (ap (saved_of o) (audit-cells p) ∙ saved-sorted o (cells_in (audit_play_last sh log room p)))
  as-played p blank = refl

  lowest-false : lowest_false sh log room ≡ lowest_false_last sh log room
  lowest-false = λ i. lowest (λ p. not (as-played p (log.entry p) i)) log.tail

module _ (table : List ℕ) where
  -- sorted cells stored beside the others
  stored_same : (cs : List Cell) → all fits_cell cs ≡ true
      → (cells_of (table_with table (sorted cs)) (length (sorted cs)) ≡ sorted (cells_of (table_with table cs) (length cs)))
      × (table_with table (sorted cs) ≡ table_with (table_with table cs) (sorted (cells_of (table_with table cs) (length cs))))
  stored_same cs f =
      let back = cells-back table cs f in (
        cells-back table (sorted cs) (all-sorted fits_cell cs ∙ f) ∙ ap sorted (sym back),
        rw back (sym (table-again table cs (sorted cs) (omega (arith, length-sorted cs)))),
      )

  audited : (set tail : ℕ) (f : Option ℕ) (x : Played) → all fits_cell (cells_in x) ≡ true → SameAudit (audit_given set tail table f (sorted_in x) none) (audit_given set tail table f x none)
  audited set tail f (going cs) h = record {
    answer = refl;
    replica = λ i. record { hosting = set; position = tail; count = length-sorted cs i };
    cells = (stored_same cs h).0;
    table = (stored_same cs h).1;
  }
  audited set tail f (waits q cs) h = record {
    answer = refl;
    replica = λ i. record { hosting = set; position = q; count = length-sorted cs i };
    cells = (stored_same cs h).0;
    table = (stored_same cs h).1;
  }
  audited set tail f (lacks q cs) h = record {
    answer = refl;
    replica = λ i. record { hosting = set; position = q; count = length-sorted cs i };
    cells = (stored_same cs h).0;
    table = (stored_same cs h).1;
  }

  unopened-same : (set tail : ℕ) (f : Option ℕ) (x y : Played) (r : Refusal) → SameAudit (audit_given set tail table f x (some r)) (audit_given set tail table f y (some r))
  unfolding cells_of values sorted table_with joined
  unopened-same set tail f x y r = record { answer = refl; replica = refl; cells = refl; table = refl }

-- the cells of an audit that is not refused fit
audit-fits : (sh : Shape) → ok_shape sh ≡ true → (log : Log) (room : ℕ) → first_of (frame_and_entries sh log) ≡ none → all fits_cell (cells_in (audit_play sh log room log.tail)) ≡ true
audit-fits sh shape log room e =
    let pass = all_pass (frame_and_entries sh log) e in
    fits-play sh shape log (refuse-none 1 _ pass.1.0) (refuse_at-none 2 _ pass.1.1.0) (ids sh) room 0 [] log.tail (omega arith) refl

pub same-audits : (sh : Shape) → ok_shape sh ≡ true → SameAudits sh
unfolding audit audit_last
same-audits sh shape log scratch = rw (lowest-false sh log (capacity scratch), audit-play sh log (capacity scratch) log.tail) (go (first_of (frame_and_entries sh log)) refl)
  where
    go : (y : Option Refusal) → first_of (frame_and_entries sh log) ≡ y
        → SameAudit (audit_given (everything sh) log.tail scratch (lowest_false_last sh log (capacity scratch)) (sorted_in (audit_play_last sh log (capacity scratch) log.tail)) y)
        (audit_given (everything sh) log.tail scratch (lowest_false_last sh log (capacity scratch)) (audit_play_last sh log (capacity scratch) log.tail) y)
    go none e =
        let x : List Cell = cells_in (audit_play_last sh log (capacity scratch) log.tail) in
        audited scratch (everything sh) log.tail (lowest_false_last sh log (capacity scratch)) (audit_play_last sh log (capacity scratch) log.tail)
        (sym (all-sorted fits_cell x) ∙ ap (all fits_cell) (sym (audit-cells sh log (capacity scratch) log.tail)) ∙ audit-fits sh shape log (capacity scratch) e)
    go (some r) e = unopened-same scratch (everything sh) log.tail (lowest_false_last sh log (capacity scratch))
        (sorted_in (audit_play_last sh log (capacity scratch) log.tail)) (audit_play_last sh log (capacity scratch) log.tail) r

-- ---- what is left is in order

abbrev counted_in : Left → List Cell
counted_in out = counted (carried out)

left-ordered : (set stop : ℕ) (table : List ℕ) (x : Played) → all fits_cell (cells_in x) ≡ true → in_order (cells_in x) ≡ true → in_order (counted_in (left_by set stop table x)) ≡ true
left-ordered set stop table (going cs) f a = rw (cells-back table cs f) a
left-ordered set stop table (waits q cs) f a = rw (cells-back table cs f) a
left-ordered set stop table (lacks q cs) f a = rw (cells-back table cs f) a

audit-ordered : (set tail : ℕ) (table : List ℕ) (f : Option ℕ) (x : Played) (y : Option Refusal) → (y ≡ none → all fits_cell (cells_in x) ≡ true) → in_order (cells_in x) ≡ true
    → in_order (counted_in (audit_given set tail table f x y)) ≡ true
unfolding cells_of values in_order
audit-ordered set tail table f (going cs) none h a = rw (cells-back table cs (h refl)) a
audit-ordered set tail table f (waits q cs) none h a = rw (cells-back table cs (h refl)) a
audit-ordered set tail table f (lacks q cs) none h a = rw (cells-back table cs (h refl)) a
audit-ordered set tail table f x (some r) h a = refl

module _ (sh : Shape) (shape : ok_shape sh ≡ true) where
  playing : (l : Lent) (r : Carried) (stop : ℕ) → Bytes r.table → Playable sh l r stop → InOrder (counted (carried (play_on sh l r stop)))
  unfolding log_in
  playing l r stop bytes p =
      let log : Log = in_log sh l in
      let cells : List Cell = cells_of r.table r.replica.count in
      let n : ℕ = stop - r.replica.position in
      order-words (counted (carried (play_on sh l r stop)))
      (rw (plays-so sh shape l r stop p)
      (left-ordered r.replica.hosting stop r.table (play_from sh log r.replica r.table stop)
      (fits-play sh shape log (words-frame sh shape l p.framed) (below-good sh log p.good) (hosts sh r) (capacity r.table) r.replica.position cells n
      (omega (arith, p.fit.onward, p.fit.within)) (cells_fit r.table bytes r.replica.count))
      (ordered-play sh log (hosts sh r) (capacity r.table) r.replica.position cells n (words-order cells p.fit.ordered))))

  replicas : (h : History) (opening : Opening) (r : Carried) → opened sh h opening ≡ some r → (ps : List Play) → InOrder (counted (plays sh h r ps))
  replicas h opening r e ps =
      let b = plays-both sh shape h r r (opened_both sh shape h opening r e) ps in
      order-words (counted (plays sh h r ps)) (in_order_lem (plays sh h r ps).replica.count (plays sh h r ps).table (plays_last sh h r ps).table b.twin)

  audits : (log : Log) (scratch : List ℕ) → InOrder (counted (carried (audit sh log scratch)))
  unfolding audit in_order
  audits log scratch =
      order-words (counted (carried (audit sh log scratch)))
      (audit-ordered (everything sh) log.tail scratch (lowest_false sh log (capacity scratch)) (audit_play sh log (capacity scratch) log.tail) (first_of (frame_and_entries sh log))
      (audit-fits sh shape log (capacity scratch)) (ordered-play sh log (ids sh) (capacity scratch) 0 [] log.tail refl))

  pub leaves-in-order : LeavesInOrder sh
  leaves-in-order = record { playing = playing; replicas = replicas; audits = audits }
