-- Demand 3: after any plays a replica shows what the run had at its position, waits and lacks room exactly where it should, and
-- a committed read made again finds what was shown with that version, since a version tells what a cell holds.
use Prim.Native.Nat.{ℕ, ◌+◌, ◌<◌}
use mathlib.Core.Path.{◌≡◌, refl, ap, sym, ◌∙◌}
use mathlib.Core.Bool.{Bool, true, false, not, ◌&&◌}
use mathlib.Core.List.{List, [], ◌∷◌, ◌++◌, Memᴰ}
use mathlib.Core.Option.{Option, none, some}
use native.Mathlib.Omega.{arith}
use borrow.Author.Tests.{eqb-true, le-ltb}
use lib.Dec.{eqb}
use Rattle.lists.specs.Tests.{and_l, neither, clash}
use Rattle.lists.specs.Sets.{all, mem}
use Rattle.model.specs.Objects.{Shape, is_cell, hosted, everything}
use Rattle.model.specs.Entries.{Read, Held, Condition, Log, named}
use Rattle.model.specs.Slot.{log_in, ok_shape}
use Rattle.model.specs.Table.{cells_of, capacity, lookup, version_in}
use Rattle.model.specs.Answers.{done, refuse, refuse_at, first_of, answer}
use Rattle.model.specs.Append.{Request, commits, condition_given, bad_record}
use Rattle.model.specs.Replica.{plainly, read_cell}
use Rattle.model.specs.Run.{Run, current}
use Rattle.model.specs.Histories.{Lent, Accepted, grown, empty, is_refused, in_log, History, whole_log, stood, ran_to, Passed, Carried, carried, Opening, fresh, at_checkpoint, opened, Play, played, plays, hosts, shown, cells_written}
use Rattle.model.specs.Terms.{Fit, Playable}
use Rattle.model.specs.Claims.{Shows, Demand3}
use Rattle.laws.proofs.Tables.{length-cells}
use Rattle.laws.proofs.Refusals.{good-below}
use Rattle.claims.proofs.Cells.{how-many}
use Rattle.claims.proofs.Runs.{run, same_version}
use Rattle.claims.proofs.Aborts.{current-at, goes_through}
use Rattle.claims.proofs.Audits.{Sound, audit-passed}
use Rattle.claims.proofs.Openings.{hosted-none}
use Rattle.claims.proofs.Histories.{grown-append, accepted-below, run-at, Stood, stood-so}
use Rattle.claims.proofs.Replicas.{Good, fresh-good, open-good, play-good, play-lacking}
use Rattle.claims.proofs.Terms.{frame-words}
use Rattle.claims.proofs.Leaves.{words-replica, words-stop, play-leaves, refit, answered}

-- ---- cell reading

-- an answer that is done passed its tests
pub told : {A : Type 0} (f : Option ℕ) (a b : Bool) (x y : A) → answer (first_of (refuse_at 15 f ∷ refuse 10 a ∷ refuse 3 (not b) ∷ [])) x ≡ done y → (b ≡ true) × (x ≡ y)
told (some k) a b x y e = clash true refl (ap is_refused e)
told none true b x y e = clash true refl (ap is_refused e)
told none false false x y e = clash true refl (ap is_refused e)
told none false true x y e = (refl, cc)

module _ (sh : Shape) (whole : Log) (r : Carried) (good : Good sh whole r) where
  -- a replica that hosts an object has a hosted set
  some-set : (o : ℕ) → mem o (hosts sh r) ≡ true → (b : Bool) → eqb r.replica.hosting 0 ≡ b → b ≡ false
  some-set o m true e =
      let none : hosts sh r ≡ [] = ap (hosted sh) (eqb-true r.replica.hosting 0 e) ∙ hosted-none sh in
      clash (mem o (hosts sh r)) m (ap (mem o) none)
  some-set o m false e = refl

  read_done : (o k : ℕ) → mem o (hosts sh r) ≡ true → is_cell sh o k ≡ true → shown sh r o k ≡ done ((run whole r.replica.position).cells o k)
  unfolding read_cell
  read_done o k m c =
      let b : bad_record sh r.replica r.table ≡ false = neither (neither (neither (some-set o m (eqb r.replica.hosting 0) refl) (le-ltb (everything sh) r.replica.hosting good.listed)) (le-ltb (capacity r.table) r.replica.count good.fits))
      (ap not good.inv.ordered) in
      rw (b, m, c, good.directed) (ap done (good.inv.reads o k m))

  pub read_back_lem : (o k : ℕ) (held : Option Held) → shown sh r o k ≡ done held → (run whole r.replica.position).cells o k ≡ held
  unfolding read_cell
  read_back_lem o k held e =
      let t = told sh.fault (bad_record sh r.replica r.table) (mem o (hosts sh r) && is_cell sh o k) (lookup (cells_of r.table r.replica.count) o k) held e in
      sym (good.inv.reads o k (and_l (mem o (hosts sh r)) (is_cell sh o k) t.0)) ∙ t.1

-- ---- the demand

abbrev whole : Shape → History → Log
whole sh h = in_log sh (whole_log sh h)

abbrev at : Shape → History → Play → Log
at sh h p = in_log sh (stood sh h p.stood_after)

module _ (sh : Shape) (shape : ok_shape sh ≡ true) (h : History) (room : ℕ) (sound : Sound sh (whole sh h) room) where
  was : (n : ℕ) → Stood sh (whole sh h) (in_log sh (stood sh h n))
  was n = stood-so sh shape h room n sound

  opened-good : (o : Opening) (r : Carried) → opened sh h o ≡ some r → Good sh (whole sh h) r
  opened-good (fresh set table) r e = fresh-good sh (whole sh h) set table r e
  opened-good (at_checkpoint n o table) r e = open-good sh shape (whole sh h) room sound (in_log sh (stood sh h n)) (was n) o table r e

  plays-good : (r : Carried) (ps : List Play) → Good sh (whole sh h) r → Good sh (whole sh h) (plays sh h r ps)
  unfolding plays
  plays-good r [] g = g
  plays-good r (p ∷ ps) g =
      plays-good (carried (played sh h r p)) ps (play-good sh shape (whole sh h) (at sh h p) (was p.stood_after) r p.stop g)

  module _ (r : Carried) (g : Good sh (whole sh h) r) where
    position : ran_to sh h r.replica.position ≡ run (whole sh h) r.replica.position
    unfolding log_in
    position = run-at sh shape h r.replica.position g.below

    -- on the log as it stood, a play whose record and stop are fit is refused by nothing
    fit-playable : (p : Play) → Fit sh (stood sh h p.stood_after).tail r p.stop → Playable sh (stood sh h p.stood_after) r p.stop
    fit-playable p f = record {
      directed = sound.directed;
      framed = frame-words sh (stood sh h p.stood_after) (was p.stood_after).frame;
      good = good-below sh (at sh h p) (was p.stood_after).good;
      fit = f;
    }

    lacking : (p : Play) → (played sh h r p).answer ≡ plainly 13
        → capacity r.table < cells_written sh.objects (hosts sh r) (ran_to sh h ((played sh h r p).replica.position + 1)).cells
    unfolding log_in
    lacking p e =
        let l : Lent = stood sh h p.stood_after in
        let f : Fit sh l.tail r p.stop = (answered sh shape l r p.stop 13 (omega arith) (omega arith) e).fit in
        let k = play-lacking sh shape (whole sh h) (at sh h p) (was p.stood_after) r p.stop g (words-replica sh l.tail r p.stop f, words-stop sh l.tail r p.stop f) e in
        rw (run-at sh shape h ((played sh h r p).replica.position + 1) k.next) k.many

    reread : (p : ℕ) (c : Condition) (x : Read) (held : Option Held) → p < (whole_log sh h).tail → current (ran_to sh h p).cells c.reads ≡ true
        → Memᴰ x c.reads → shown sh r x.object x.key ≡ done held → version_in held ≡ x.version → (ran_to sh h p).cells x.object x.key ≡ held
    reread p c x held l cur m e v =
        let now : (run (whole sh h) r.replica.position).cells x.object x.key ≡ held = read_back_lem sh (whole sh h) r g x.object x.key held e in
        let then : ran_to sh h p ≡ run (whole sh h) p = run-at sh shape h p (omega arith) in
        let w : version_in ((run (whole sh h) p).cells x.object x.key) ≡ x.version = current-at (run (whole sh h) p).cells c x (rw then at cur) m in
        rw then (same_version (whole sh h) p r.replica.position x.object x.key (w ∙ sym v ∙ ap version_in (sym now)) ∙ now)

    -- an accepted commit of the history lies below the tail
    turn_below : (before later : List Request) (q : Request) → h.requests ≡ before ++ q ∷ later → Accepted sh (grown sh (empty h.bytes) before) q
        → (grown sh (empty h.bytes) before).tail < (whole_log sh h).tail
    unfolding grown
    turn_below before later q e taken =
        rw (ap (grown sh (empty h.bytes)) e ∙ grown-append sh (empty h.bytes) before (q ∷ later))
        (accepted-below sh shape (grown sh (empty h.bytes) before) q later taken)

    shows : Shows sh h r
    unfolding log_in
    shows = record {
      cells = λ o k m c. read_done sh (whole sh h) r g o k m c ∙ ap (λ s. done (s.cells o k)) (sym position);
      count = sym (length-cells r.table r.replica.count) ∙ how-many sh shape (hosts sh r) (cells_of r.table r.replica.count) (run (whole sh h) r.replica.position).cells g.inv
          ∙ ap (λ s. cells_written sh.objects (hosts sh r) s.cells) (sym position);
      waits = λ p. refit sh _ _ (at sh h p) (hosts sh r) r.replica.position p.stop (played sh h r p) (λ f. f.fit) (fit-playable p)
          (play-leaves sh shape (stood sh h p.stood_after) r p.stop).waits;
      ends = λ p. let w = (play-leaves sh shape (stood sh h p.stood_after) r p.stop).ends in ((λ x. (w.0 x).fit), (λ f. w.1 (fit-playable p f)));
      lacks = lacking;
      rereads = λ before later n items a b e taken through x held m i v.
          let l : Lent = grown sh (empty h.bytes) before in
          let s : Run = ran_to sh h l.tail in
          let c : Condition = condition_given items a b in
          reread l.tail c x held (turn_below before later (commits n items a b) e taken) (and_l (current s.cells c.reads) (all s.won (named c)) (goes_through s c through)) m i v;
    }

-- what holds of a replica after its plays
pub replica-good : (sh : Shape) → ok_shape sh ≡ true → (h : History) (scratch : List ℕ) → Passed sh h scratch
    → (opening : Opening) (r : Carried) → opened sh h opening ≡ some r → (ps : List Play) → Good sh (in_log sh (whole_log sh h)) (plays sh h r ps)
replica-good sh shape h scratch passed o r e ps =
    let sound = audit-passed sh (whole sh h) scratch passed in
    plays-good sh shape h (capacity scratch) sound r ps (opened-good sh shape h (capacity scratch) sound o r e)

pub demand3 : (sh : Shape) → ok_shape sh ≡ true → Demand3 sh
demand3 sh shape h scratch passed o r e ps =
    shows sh shape h (capacity scratch) (audit-passed sh (whole sh h) scratch passed) (plays sh h r ps) (replica-good sh shape h scratch passed o r e ps)
