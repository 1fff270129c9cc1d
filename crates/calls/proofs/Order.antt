-- The order of rows of the calls: each call is the model's by its contract, so what is proved of the definitions in both orders holds
-- of what the calls answered and left. The plays of calls are listed as plays of the model, and the base is given the same list.
use Prim.Native.Nat.{ℕ, ◌≤◌}
use mathlib.Core.Path.{◌≡◌, refl, ap, sym, ◌∙◌, subst}
use mathlib.Core.Bool.{Bool, true, false, ◌||◌}
use mathlib.Core.List.{List, [], ◌∷◌, ◌++◌}
use mathlib.Core.Option.{Option, none, some}
use native.Mathlib.Omega.{arith}
use lib.Dec.{leb, ltb}
use lib.ListN.{length}
use Rattle.lists.specs.Tests.{clash}
use Rattle.lists.specs.Rows.{values}
use Rattle.model.specs.Objects.{Shape, bad_set}
use Rattle.model.specs.Directory.{shape_of}
use Rattle.model.specs.Entries.{Log, is_none, if_some}
use Rattle.model.specs.DirectoryClaims.{at_place}
use Rattle.model.specs.Table.{cells_of, table_with, capacity, in_order}
use Rattle.model.specs.Answers.{Refusal, Answer, done, refused, refuse, refuse_at, first_of, answer, frame_and_entries}
use Rattle.model.specs.Append as model-append
use Rattle.model.specs.Append.{Replica, bad_replica}
use Rattle.model.specs.Replica.{Left, open_fresh, Checkpoint, checkpoint_in, open_refusal, open_given, open_at, bad_stop, play_refusal, play_from, play_given, play_call}
use Rattle.model.specs.Histories.{Lent, Carried, carried, if_opened, is_refused, Play, play_on, plays}
use Rattle.model.specs.Terms.{Directed, InOrder}
use Rattle.model.specs.Claims.{Bytes}
use Rattle.laws.specs.FirstWriting.{sorted, bad_replica_last, play_from_last, play_call_last, audit_last}
use Rattle.laws.proofs.Records.{good-shape}
use Rattle.laws.proofs.Refusals.{all_pass, refuse_at-none}
use Rattle.laws.proofs.Tables.{table-back, cells_fit}
use Rattle.laws.proofs.Sorted.{sorted-ordered}
use Rattle.claims.specs.Order as definitions
use Rattle.claims.specs.Order.{counted, Alike, SameAudit}
use Rattle.claims.proofs.Terms.{order-words, words-order}
use Rattle.claims.proofs.Leaves.{playable-words}
use Rattle.claims.proofs.Order.{Twin, same-cells, in_order_lem, Same, play-same, Both, opened-there}
use Rattle.claims.proofs.Directories.{begins-refused, answers-fault}
use Rattle.claims.proofs.Handed.{by-fault, same-calls-for, same-audits-for, in-order-for}
use Rattle.codec.specs.Eight.{in_log}
use Rattle.replica.specs.Answers.{opened_in}
use Rattle.calls.specs.Values.{seen, Appends, log_after, scratch, Kept, carry, Opens, fresh, at_checkpoint, stop_of, kept, Plays, none, more}
use Rattle.calls.specs.Claims.{lent_at}
use Rattle.calls.specs.Order.{CallsLeaveInOrder, play_on_last, CallsSamePlay, CallsSameAudit, opens_last, plays_last, CallsSame}
use Rattle.calls.proofs.Promises.{append-promise, audit-promise, open-promise, play-promise, read-promise, fresh-promise}
use Rattle.calls.proofs.Histories.{history, stood-left}
use Rattle.calls.proofs.Demand1.{calls-demand1}
use Rattle.calls.proofs.Behave.{opened-so, play_of, played-so}

-- ---- single plays

-- rows in order that are within the table are their own, sorted
own-twin : (r : Carried) → Bytes r.table → r.replica.count ≤ capacity r.table → InOrder (counted r) → Twin r.replica.count r.table r.table
own-twin r bytes room order =
    let n : ℕ = r.replica.count in
    let a : in_order (cells_of r.table n) ≡ true = words-order (cells_of r.table n) order in
    let same : sorted (cells_of r.table n) ≡ cells_of r.table n = sorted-ordered (cells_of r.table n) a in
    record {
      room = room;
      fits = cells_fit r.table bytes n;
      ordered = ap in_order same ∙ a;
      table = sym (ap (table_with r.table) same ∙ table-back r.table bytes n (omega (arith, room)));
    }

left-same : (out last : Left) → Same out last → SameAudit out last
left-same out last s = record {
  answer = s.answer;
  replica = s.replica;
  cells = same-cells out.replica.count out.table last.table s.twin ∙ ap (λ (x : Replica). sorted (cells_of last.table x.count)) s.replica;
  table = s.twin.table ∙ ap (λ (x : Replica). table_with last.table (sorted (cells_of last.table x.count))) s.replica;
}

pub calls-same-play : CallsSamePlay
unfolding play_call play_call_last
calls-same-play d log k p bytes room order =
    subst (λ (out : Left). SameAudit out (play_on_last d log (carry k) (stop_of p))) (sym (play-promise d log k p))
    (left-same (play_on (shape_of d) log (carry k) (stop_of p)) (play_on_last d log (carry k) (stop_of p)) (by-fault (shape_of d) whole faulty))
  where
    twin : Twin k.replica.count k.table k.table
    twin = own-twin (carry k) bytes room order

    whole : Directed (shape_of d) → Same (play_on (shape_of d) log (carry k) (stop_of p)) (play_on_last d log (carry k) (stop_of p))
    whole e = play-same (carry k).replica k.table k.table twin (shape_of d) (good-shape d e) (in_log log) (stop_of p)

    -- with a directory at fault both leave all as it was
    faulty : (n : ℕ) → (shape_of d).fault ≡ some n → Same (play_on (shape_of d) log (carry k) (stop_of p)) (play_on_last d log (carry k) (stop_of p))
    faulty n e =
        let r : Replica = (carry k).replica in
        let turned : Left = record { answer = refused (at_place n); replica = r; table = k.table } in
        let one : play_on (shape_of d) log (carry k) (stop_of p) ≡ turned = (answers-fault (shape_of d) n e).playing (in_log log) r k.table (stop_of p) in
        let two : play_on_last d log (carry k) (stop_of p) ≡ turned =
        ap (play_given r (stop_of p) k.table (play_from_last (shape_of d) (in_log log) r k.table (stop_of p))) (begins-refused (shape_of d) n e (in_log log) (refuse 10 (bad_replica_last (shape_of d) (in_log log).tail r k.table) ∷ refuse 3 (bad_stop (in_log log).tail r (stop_of p)) ∷ [])) in
        subst (λ (x : Left). Same x (play_on_last d log (carry k) (stop_of p))) (sym one) (subst (Same turned) (sym two) (record { answer = refl; replica = refl; twin = twin }))

-- ---- the audit

pub calls-same-audit : CallsSameAudit
calls-same-audit d log c =
    subst (λ (out : Left). SameAudit out (audit_last (shape_of d) (in_log log) (scratch c))) (sym (audit-promise d log c)) (same-audits-for d (in_log log) (scratch c))

-- ---- replicas

-- what a fresh opening gives
fresh-so : (sh : Shape) (set : ℕ) (r : Replica) → open_fresh sh set ≡ done r → r ≡ record { hosting = set; position = 0; count = 0 }
unfolding open_fresh
fresh-so sh set r e = go sh.fault (bad_set sh set) e
  where
    begins : Replica
    begins = record { hosting = set; position = 0; count = 0 }

    in_done : Answer Replica → Replica
    in_done (done x) = x
    in_done (refused x) = r

    go : (f : Option ℕ) (b : Bool) → answer (first_of (refuse_at 15 f ∷ refuse 10 b ∷ [])) begins ≡ done r → r ≡ begins
    go (some k) b i = clash true refl (ap is_refused i)
    go none true i = clash true refl (ap is_refused i)
    go none false i = sym (ap in_done i)

opens-last : (a : Appends) (k : Kept) (o : Opens a k) → carry k ≡ opens_last a k o
opens-last a k (fresh c r table f e) =
    let same = fresh-so (shape_of c.given.0.now) c.given.1.0 _ (sym (fresh-promise c) ∙ ap opened_in e) in
    λ j. record { replica = same j; table = table }
opens-last a k (at_checkpoint n c e) = ap carried (open-promise a.dir (log_after a n) c)

module _ (a : Appends) where
  -- the plays of calls as plays of the model, and what the base leaves by them
  listed : (k last : Kept) (ps : Plays a k last) (u : Carried)
      → (qs : List Play) × (plays (shape_of a.dir) (history a) (carry k) qs ≡ carry last) × (definitions.plays_last (shape_of a.dir) (history a) u qs ≡ plays_last a k last ps u)
  unfolding plays plays_last definitions.plays_last
  listed k last (none x) u = ([], refl, refl)
  listed k last (more x y p rest) u =
      let ih = listed (kept p.on) last rest (carried (play_on_last a.dir (log_after a p.stood_after) u (stop_of p.on))) in (
        play_of a k p ∷ ih.0,
        ap (λ (l : Left). plays (shape_of a.dir) (history a) (carried l) ih.0) (played-so a k p) ∙ ih.1,
        ap (λ (l : Lent). definitions.plays_last (shape_of a.dir) (history a) (carried (play_on_last a.dir l u (stop_of p.on))) ih.0) (stood-left a p.stood_after) ∙ ih.2,
      )

pub calls_same : CallsSame
calls_same a k o last ps =
    let op = opened-so a k o in
    let l = listed a k last ps (carry k) in
    let u : Carried = plays_last a k last ps (opens_last a k o) in
    let s : Alike (shape_of a.dir) (history a) (carry last) u =
    subst (Alike (shape_of a.dir) (history a) (carry last)) (l.2 ∙ ap (plays_last a k last ps) (opens-last a k o))
    (subst (λ (r : Carried). Alike (shape_of a.dir) (history a) r (definitions.plays_last (shape_of a.dir) (history a) (carry k) l.0)) l.1
    (same-calls-for a.dir (history a) op.0 (carry k) op.1 l.0)) in
    record {
      replica = s.replica;
      cells = s.cells;
      table = s.table;
      answers = λ p. ap (λ (x : Left). x.answer) (sym (played-so a last p)) ∙ s.answers (play_of a last p)
          ∙ ap (λ (y : Lent). (play_on_last a.dir y u (stop_of p.on)).answer) (stood-left a p.stood_after);
      leaves = λ p. ap (λ (x : Left). x.replica) (sym (played-so a last p)) ∙ s.leaves (play_of a last p)
          ∙ ap (λ (y : Lent). (play_on_last a.dir y u (stop_of p.on)).replica) (stood-left a p.stood_after);
      reads = λ o key c. read-promise a.dir last o key c ∙ s.reads o key;
      saved = λ c o of e. append-promise c ∙ ap (λ (x : List ℕ). model-append.append (shape_of x) (seen c).bytes (seen c).tail (seen c).request) of ∙ ap (model-append.append (shape_of a.dir) (seen c).bytes (seen c).tail) e ∙ s.saved (lent_at c) o;
    }

-- ---- what is left is in order

-- where nothing refuses a call, the directory has no fault
begun : (sh : Shape) (log : Log) (ts : List (Option Refusal)) → first_of (frame_and_entries sh log ++ ts) ≡ none → Directed sh
begun sh log ts e = refuse_at-none 15 sh.fault (all_pass (frame_and_entries sh log ++ ts) e).0

-- a play: refused, it leaves the rows as they were
keeps : (d : List ℕ) (log : Lent) (r : Carried) (stop : ℕ) → Bytes r.table → InOrder (counted r) → InOrder (counted (carried (play_on (shape_of d) log r stop)))
unfolding play_call
keeps d log r stop bytes order = go (play_refusal (shape_of d) (in_log log) r.replica r.table stop) refl
  where
    go : (z : Option Refusal) → play_refusal (shape_of d) (in_log log) r.replica r.table stop ≡ z → InOrder (counted (carried (play_on (shape_of d) log r stop)))
    go none e = (in-order-for d).playing log r stop bytes (playable-words (shape_of d) (good-shape d (begun (shape_of d) (in_log log) (refuse 10 (bad_replica (shape_of d) (in_log log).tail r.replica r.table) ∷ refuse 3 (bad_stop (in_log log).tail r.replica stop) ∷ []) e)) log r stop e)
    go (some z) e = subst (λ (x : Option Refusal). InOrder (counted (carried (play_given r.replica stop r.table (play_from (shape_of d) (in_log log) r.replica r.table stop) x)))) (sym e) order

-- an opening: refused, it counts no rows
opening-ordered : (d : List ℕ) (o : ℕ) (table : List ℕ) (z : Option Refusal) (c : Option Checkpoint) → (z ≡ none → (r : Carried) → if_opened (open_given (shape_of d) o table z c) ≡ some r → Both r r)
    → in_order (counted (carried (open_given (shape_of d) o table z c))) ≡ true
unfolding cells_of values in_order
opening-ordered d o table (some z) c h = refl
opening-ordered d o table none none h = refl
opening-ordered d o table none (some c) h =
    let r : Carried = carried (open_given (shape_of d) o table none (some c)) in
    in_order_lem r.replica.count r.table r.table (h refl r refl).twin

opening : (d : List ℕ) (log : Lent) (o : ℕ) (table : List ℕ) → InOrder (counted (carried (open_at (shape_of d) (in_log log) o table)))
unfolding open_at
opening d log o table =
    let open_tests : Option Checkpoint → List (Option Refusal) =
    λ c. refuse 3 (leb (in_log log).tail o || is_none c) ∷ refuse 13 (if_some c false (λ x. ltb (capacity table) (length x.cells))) ∷ [] in
    order-words (counted (carried (open_at (shape_of d) (in_log log) o table)))
    (opening-ordered d o table (open_refusal (shape_of d) (in_log log) o table) (checkpoint_in ((in_log log).entry o)) (λ e r i. opened-there (shape_of d) (good-shape d (begun (shape_of d) (in_log log) (open_tests (checkpoint_in ((in_log log).entry o))) e)) (in_log log) o table r i))

pub calls-in-order : CallsLeaveInOrder
calls-in-order = record {
  ended = λ d log k p bytes e.
      subst (λ (out : Left). InOrder (counted (carried out))) (sym (play-promise d log k p))
      ((in-order-for d).playing log (carry k) (stop_of p) bytes ((calls-demand1.play_leaves d log k p).ends.0 e));
  keeps = λ d log k p bytes order.
      subst (λ (out : Left). InOrder (counted (carried out))) (sym (play-promise d log k p)) (keeps d log (carry k) (stop_of p) bytes order);
  openings = λ d log c.
      subst (λ (out : Left). InOrder (counted (carried out))) (sym (open-promise d log c)) (opening d log c.call.given.1.1.1.0 c.call.given.1.1.1.1.0.now);
  replicas = λ a k o last ps.
      let op = opened-so a k o in
      let l = listed a k last ps (carry k) in
      subst (λ (r : Carried). InOrder (counted r)) l.1 ((in-order-for a.dir).replicas (history a) op.0 (carry k) op.1 l.0);
  audits = λ d log c.
      subst (λ (out : Left). InOrder (counted (carried out))) (sym (audit-promise d log c)) ((in-order-for d).audits (in_log log) (scratch c));
}
