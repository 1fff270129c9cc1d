-- Demand 3 of the calls, and the outcomes of demand 2: appends, audit, opening, plays and readings are the model's by their
-- contracts, so what is proved of the model's history holds of what they answered and left.
use Prim.Native.Nat.{ℕ, ◌+◌, ◌<◌}
use mathlib.Core.Path.{◌≡◌, refl, ap, sym, ◌∙◌, subst}
use mathlib.Core.Logic.{◌↔◌}
use mathlib.Core.Bool.{false}
use mathlib.Core.List.{List, [], ◌∷◌, ◌++◌, Memᴰ}
use mathlib.Core.Option.{Option, some}
use Rattle.model.specs.Directory.{shape_of}
use Rattle.model.specs.Entries.{Read, Held, Condition, commit as commits-at}
use Rattle.model.specs.Table.{capacity, version_in}
use Rattle.model.specs.Answers.{done}
use Rattle.model.specs.Append as model-append
use Rattle.model.specs.Append.{commits, reads_given, condition_given}
use Rattle.model.specs.Replica as model
use Rattle.model.specs.Run.{Run}
use Rattle.model.specs.Histories as model-histories
use Rattle.model.specs.Histories.{Lent, is_refused, Accepted, grown, History, stood, ran_to, Passed, Carried, Opening, if_opened, if_fresh, carried, Play, play_on, played, plays, opened, cells_written}
use Rattle.model.specs.Terms.{AbortsIn, Concerns, Fit, Ended}
use Rattle.model.specs.Claims.{Waiting, SameOutcome, Shows}
use Rattle.claims.proofs.Handed.{demand2-for, demand3-for}
use Rattle.codec.specs.Eight.{in_log}
use Rattle.answers.specs.Refusals.{checked_in}
use Rattle.append.specs.Answers.{tail_in}
use Rattle.replica.specs.Answers.{opened_in, read_in}
use Rattle.calls.specs.Values.{AppendCall, seen, Appends, last_log, log_after, ran, AuditCall, scratch, audit_left, Kept, carry, open_left, Opens, fresh, at_checkpoint, PlayCall, stop_of, kept, play_left, Plays, none, more, ReadCall}
use Rattle.calls.specs.Claims.{hosts, lent_at, Crosses, CallsBehave}
use Rattle.calls.proofs.Promises.{append-promise, audit-promise, open-promise, play-promise, read-promise, fresh-promise}
use Rattle.calls.proofs.Histories.{lent, requests, history, requests-split, turn-dir, turn-left, whole-left, stood-left, ran-so}

module _ (a : Appends) where
  abbrev h : History
  h = history a

  pub passed : (c : AuditCall a.dir (last_log a)) → (audit_left c).answer ≡ done tt → Passed (shape_of a.dir) h (scratch c)
  passed c d =
      ap (λ (l : Lent). (model.audit (shape_of a.dir) (in_log l) (scratch c)).answer) (whole-left a)
      ∙ ap (λ (x : model.Left). x.answer) (sym (audit-promise a.dir (last_log a) c)) ∙ d

  pub opened-so : (k : Kept) → Opens a k → (o : Opening) × (opened (shape_of a.dir) h o ≡ some (carry k))
  opened-so k (fresh c r table f e) = (
    model-histories.fresh c.given.1.0 table,
    ap (if_fresh table) (ap (λ (x : List ℕ). model.open_fresh (shape_of x) c.given.1.0) (sym f) ∙ sym (fresh-promise c) ∙ ap opened_in e),
  )
  opened-so k (at_checkpoint n c e) = (
    model-histories.at_checkpoint n c.call.given.1.1.1.0 c.call.given.1.1.1.1.0.now,
    ap (λ (l : Lent). if_opened (model.open_at (shape_of a.dir) (in_log l) c.call.given.1.1.1.0 c.call.given.1.1.1.1.0.now)) (stood-left a n)
        ∙ ap if_opened (sym (open-promise a.dir (log_after a n) c))
        ∙ ap (λ x. model-histories.if_done (checked_in x) (carried (open_left c))) e,
  )

  abbrev pub play_of : (k : Kept) → PlayCall a k → Play
  play_of k p = record { stood_after = p.stood_after; stop = stop_of p.on }

  pub played-so : (k : Kept) (p : PlayCall a k) → played (shape_of a.dir) h (carry k) (play_of k p) ≡ play_left p.on
  played-so k p =
      ap (λ (l : Lent). play_on (shape_of a.dir) l (carry k) (stop_of p.on)) (stood-left a p.stood_after) ∙ sym (play-promise a.dir (log_after a p.stood_after) k p.on)

  pub plays-so : (k last : Kept) → Plays a k last → (ps : List Play) × (plays (shape_of a.dir) h (carry k) ps ≡ carry last)
  unfolding plays
  plays-so k last (none x) = ([], refl)
  plays-so k last (more x y p rest) =
      let ih = plays-so (kept p.on) last rest in
      (play_of k p ∷ ih.0, ap (λ (l : model.Left). plays (shape_of a.dir) h (carried l) ih.0) (played-so k p) ∙ ih.1)

  -- the model's run is the one that is fed by the calls
  ran-all : ran_to (shape_of a.dir) h ≡ ran a
  ran-all = λ j p. ran-so a p j

  module _ (k : Kept) (s : Shows (shape_of a.dir) h (carry k)) where
    -- ---- the next play

    waits-so : (p : PlayCall a k) → Waiting (shape_of a.dir) (Fit (shape_of a.dir) (log_after a p.stood_after).tail (carry k) (stop_of p.on)) (in_log (log_after a p.stood_after)) (hosts a.dir k)
        k.replica.position (stop_of p.on) (play_left p.on)
    waits-so p =
        subst (Waiting (shape_of a.dir) (Fit (shape_of a.dir) (log_after a p.stood_after).tail (carry k) (stop_of p.on)) (in_log (log_after a p.stood_after)) (hosts a.dir k) k.replica.position (stop_of p.on)) (played-so k p)
        (subst (λ (l : Lent). Waiting (shape_of a.dir) (Fit (shape_of a.dir) l.tail (carry k) (stop_of p.on)) (in_log l) (hosts a.dir k) k.replica.position (stop_of p.on) (played (shape_of a.dir) h (carry k) (play_of k p)))
        (stood-left a p.stood_after) (s.waits (play_of k p)))

    ends_so : (p : PlayCall a k) → Ended (stop_of p.on) (play_left p.on) ↔ Fit (shape_of a.dir) (log_after a p.stood_after).tail (carry k) (stop_of p.on)
    ends_so p =
        subst (λ (out : model.Left). Ended (stop_of p.on) out ↔ Fit (shape_of a.dir) (log_after a p.stood_after).tail (carry k) (stop_of p.on)) (played-so k p)
        (subst (λ (l : Lent). Ended (stop_of p.on) (played (shape_of a.dir) h (carry k) (play_of k p)) ↔ Fit (shape_of a.dir) l.tail (carry k) (stop_of p.on)) (stood-left a p.stood_after)
        (s.ends (play_of k p)))

    lacks-so : (p : PlayCall a k) → (play_left p.on).answer ≡ model.plainly 13
        → capacity k.table < cells_written (shape_of a.dir).objects (hosts a.dir k) (ran a ((kept p.on).replica.position + 1)).cells
    lacks-so p e =
        subst (λ (n : ℕ). capacity k.table < n)
        (ap (λ (l : model.Left). cells_written (shape_of a.dir).objects (hosts a.dir k) (ran_to (shape_of a.dir) h (l.replica.position + 1)).cells) (played-so k p)
        ∙ ap (λ (x : Run). cells_written (shape_of a.dir).objects (hosts a.dir k) x.cells) (ran-so a ((kept p.on).replica.position + 1)))
        (s.lacks (play_of k p) (ap (λ (l : model.Left). l.answer) (played-so k p) ∙ e))

    -- ---- committed reads

    rereads-so : (before later : List AppendCall) (c : AppendCall) (n : ℕ) (items : List ℕ) (first second : ℕ) → a.calls ≡ before ++ c ∷ later
        → (seen c).request ≡ commits n items first second → is_refused (tail_in (seen c).answer) ≡ false
        → (AbortsIn (ran a (seen c).tail) (condition_given items first second) → ⊥)
        → (x : Read) (r : ReadCall a.dir k x.object x.key) (held : Option Held) → Memᴰ x (reads_given items)
        → read_in r.call.answer ≡ done held → version_in held ≡ x.version
        → (ran a (seen c).tail).cells x.object x.key ≡ held
    rereads-so before later c n items first second e q taken current x r held m g v =
        let l : Lent = grown (shape_of a.dir) (lent a.bytes 0) (requests before) in
        let at : l ≡ lent_at c = turn-left a before c later e in
        let turn : ran_to (shape_of a.dir) h l.tail ≡ ran a (seen c).tail = ap (λ (y : Lent). ran_to (shape_of a.dir) h y.tail) at ∙ ran-so a (seen c).tail in
        let asked : h.requests ≡ requests before ++ commits n items first second ∷ requests later =
        requests-split a before c later e ∙ ap (λ (y : model-append.Request). requests before ++ y ∷ requests later) q in
        let accepted : Accepted (shape_of a.dir) l (commits n items first second) =
        subst (λ (y : Lent). Accepted (shape_of a.dir) y (commits n items first second)) (sym at)
        (ap (λ (y : model-append.Request). is_refused (model-append.append (shape_of a.dir) (seen c).bytes (seen c).tail y).new_tail) (sym q)
        ∙ ap (λ (y : List ℕ). is_refused (model-append.append (shape_of y) (seen c).bytes (seen c).tail (seen c).request).new_tail) (sym (turn-dir a before c later e))
        ∙ ap (λ (y : model-append.Appended). is_refused y.new_tail) (sym (append-promise c)) ∙ taken) in
        ap (λ (y : Run). y.cells x.object x.key) (sym turn)
        ∙ s.rereads (requests before) (requests later) n items first second asked accepted
        (λ aborts. current (subst (λ (y : Run). AbortsIn y (condition_given items first second)) turn aborts))
        x held m (sym (read-promise a.dir k x.object x.key r) ∙ g) v

  -- ---- the outcome at a commit record

  module _ (k : Kept) (pass : (scratch : List ℕ) × Passed (shape_of a.dir) h scratch) (o : Opening) (r : Carried) (opens : opened (shape_of a.dir) h o ≡ some r) (ps : List Play) (same : plays (shape_of a.dir) h r ps ≡ carry k) where
    outcome-so : (p : PlayCall a k) (n : ℕ) (c : Condition) → stop_of p.on ≡ k.replica.position + 1
        → (in_log (log_after a p.stood_after)).entry k.replica.position ≡ commits-at n c
        → Fit (shape_of a.dir) (log_after a p.stood_after).tail (carry k) (k.replica.position + 1)
        → Concerns (in_log (log_after a p.stood_after)) (hosts a.dir k) n k.replica.position
        → SameOutcome (shape_of a.dir) (ran a) (log_after a p.stood_after) (carry k) n c (play_left p.on)
    outcome-so p n c e here fit concerns =
        let m : ℕ = p.stood_after in
        let at : stood (shape_of a.dir) h m ≡ log_after a m = stood-left a m in
        let out : play_on (shape_of a.dir) (log_after a m) (carry k) (k.replica.position + 1) ≡ play_left p.on =
        ap (play_on (shape_of a.dir) (log_after a m) (carry k)) (sym e) ∙ sym (play-promise a.dir (log_after a m) k p.on) in
        subst (SameOutcome (shape_of a.dir) (ran a) (log_after a m) (carry k) n c) out
        (subst (λ (run : ℕ → Run). SameOutcome (shape_of a.dir) run (log_after a m) (carry k) n c (play_on (shape_of a.dir) (log_after a m) (carry k) (k.replica.position + 1))) ran-all
        (subst (λ (l : Lent). SameOutcome (shape_of a.dir) (ran_to (shape_of a.dir) h) l (carry k) n c (play_on (shape_of a.dir) l (carry k) (k.replica.position + 1))) at
        ((demand2-for a.dir).same_outcomes h pass.0 pass.1 o r opens ps m n c (carry k) (sym same)
        (subst (λ (l : Lent). (in_log l).entry k.replica.position ≡ commits-at n c) (sym at) here)
        (subst (λ (l : Lent). Fit (shape_of a.dir) l.tail (carry k) (k.replica.position + 1)) (sym at) fit)
        (subst (λ (l : Lent). Concerns (in_log l) (hosts a.dir k) n k.replica.position) (sym at) concerns))))

    crosses-so : (p : PlayCall a k) (n : ℕ) (c : Condition) → stop_of p.on ≡ k.replica.position + 1
        → (in_log (log_after a p.stood_after)).entry k.replica.position ≡ commits-at n c
        → Fit (shape_of a.dir) (log_after a p.stood_after).tail (carry k) (k.replica.position + 1)
        → Concerns (in_log (log_after a p.stood_after)) (hosts a.dir k) n k.replica.position
        → Crosses a k p n c
    crosses-so p n c e here fit concerns =
        let w = outcome-so p n c e here fit concerns in
        record {
          ends = w.ends;
          aborts = λ d s o key i j before after.
              read-promise a.dir (kept p.on) o key after ∙ w.aborts d s o key i j ∙ sym (read-promise a.dir k o key before);
          makes = λ d f o key i j after. read-promise a.dir (kept p.on) o key after ∙ w.makes d f o key i j;
          waits = w.waits;
          lacks = w.lacks;
        }

-- Demand 3 of the calls.
pub calls-behave : CallsBehave
calls-behave a audit d k o last ps =
    let pass : Passed (shape_of a.dir) (history a) (scratch audit) = passed a audit (ap checked_in d) in
    let op = opened-so a k o in
    let pl = plays-so a k last ps in
    let s : Shows (shape_of a.dir) (history a) (carry last) =
    subst (Shows (shape_of a.dir) (history a)) pl.1 (demand3-for a.dir (history a) (scratch audit) pass op.0 (carry k) op.1 pl.0) in
    record {
      cells = λ o key c m i. read-promise a.dir last o key c ∙ s.cells o key m i ∙ ap (λ (x : Run). done (x.cells o key)) (ran-so a last.replica.position);
      count = s.count ∙ ap (λ (x : Run). cells_written (shape_of a.dir).objects (hosts a.dir last) x.cells) (ran-so a last.replica.position);
      waits = waits-so a last s;
      ends = ends_so a last s;
      lacks = lacks-so a last s;
      rereads = rereads-so a last s;
      outcomes = crosses-so a last (scratch audit, pass) op.0 (carry k) op.1 pl.0 pl.1;
    }
