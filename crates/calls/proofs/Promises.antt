-- What the contracts say of the calls, as equations with the model on the log, the record and the table that a call was made on. Each
-- is the function's own contract; the calls' arguments are then replaced by what they equal.
use Prim.Native.Nat.{ℕ}
use mathlib.Core.Path.{◌≡◌, ap, ◌∙◌}
use mathlib.Core.List.{List}
use Rattle.model.specs.Directory.{shape_of}
use Rattle.model.specs.Append as model
use Rattle.model.specs.Reading.{check, owed, entry_call, item_list, items_from}
use Rattle.model.specs.Replica as model-replica
use Rattle.model.specs.Histories.{Lent, play_on}
use Rattle.codec.specs.Eight.{in_log}
use Rattle.entries.specs.Answers.{owed_in, found_in, further}
use Rattle.answers.specs.Refusals.{checked_in}
use Rattle.append.specs.Answers.{tail_in}
use Rattle.records.specs.declared.Record.{Record}
use Rattle.records.specs.Record.{replica_in}
use Rattle.replica.specs.Answers.{opened_in, read_in}
use Rattle.replica.proofs.opening.open_fresh.Kinds as fresh-kinds
use Rattle.replica.proofs.opening.open_fresh.Reads as fresh-reads
use Rattle.calls.specs.Values.{Call, AppendCall, update, commit, decision, checkpoint, seen, CheckCall, OwedCall, EntryCall, ItemsCall, part, AuditCall, scratch, audit_left, Kept, carry, OpenCall, open_left, PlayedBy, by_value, in_place, watched, PlayOn, stop_of, play_left, ReadCall}

pub append-promise : (c : AppendCall)
    → ◌≡◌ {A = model.Appended} (record { new_tail = tail_in (seen c).answer; bytes = (seen c).left }) (model.append (shape_of (seen c).dir) (seen c).bytes (seen c).tail (seen c).request)
append-promise (update c) = c.learnt
append-promise (commit c) = c.learnt
append-promise (decision c) = c.learnt
append-promise (checkpoint c) = c.learnt

-- a log given as bytes and tail
abbrev lent : (log : Lent) (bytes : List ℕ) (tail : ℕ) → bytes ≡ log.bytes → tail ≡ log.tail → ◌≡◌ {A = Lent} (record { bytes = bytes; tail = tail }) log
lent log bytes tail e f = λ j. record { bytes = e j; tail = f j }

module _ (d : List ℕ) (log : Lent) where
  pub check-promise : (c : CheckCall d log) → checked_in c.call.answer ≡ check (shape_of d) (in_log log)
  check-promise c =
      c.call.learnt ∙ ap (λ (l : Lent). check (shape_of c.call.given.0.now) (in_log l)) (lent log _ _ c.bytes c.tail)
      ∙ ap (λ (x : List ℕ). check (shape_of x) (in_log log)) c.dir

  pub owed-promise : (sets : List ℕ) (c : OwedCall d log sets) → owed_in c.call.answer ≡ owed (shape_of d) (in_log log) sets
  owed-promise sets c =
      c.call.learnt
      ∙ ap (λ (l : Lent). owed (shape_of c.call.given.0.now) (in_log l) c.call.given.1.1.1.0.now) (lent log _ _ c.bytes c.tail)
      ∙ ap (owed (shape_of c.call.given.0.now) (in_log log)) c.sets
      ∙ ap (λ (x : List ℕ). owed (shape_of x) (in_log log) sets) c.dir

  pub entry-promise : (o : ℕ) (c : EntryCall d log o) → found_in c.call.answer ≡ entry_call (shape_of d) (in_log log) o
  entry-promise o c =
      c.call.learnt.0
      ∙ ap (λ (l : Lent). entry_call (shape_of c.call.given.0.now) (in_log l) c.call.given.1.1.1.0.0) (lent log _ _ c.bytes c.tail)
      ∙ ap (entry_call (shape_of c.call.given.0.now) (in_log log)) c.at
      ∙ ap (λ (x : List ℕ). entry_call (shape_of x) (in_log log) o) c.dir

  pub items-promise : (o : ℕ) (c : ItemsCall d log o) → part c ≡ item_list (shape_of d) (in_log log) o
  items-promise o c =
      c.call.learnt.0
      ∙ ap (λ (l : Lent). item_list (shape_of c.call.given.0.now) (in_log l) c.call.given.1.1.1.0.0) (lent log _ _ c.bytes c.tail)
      ∙ ap (item_list (shape_of c.call.given.0.now) (in_log log)) c.at
      ∙ ap (λ (x : List ℕ). item_list (shape_of x) (in_log log) o) c.dir

  pub items-place : (o : ℕ) (c : ItemsCall d log o) → c.call.answer.ref_ptr ≡ further c.call.given.1.0.ref_ptr (items_from (shape_of d) (in_log log) o)
  items-place o c =
      c.call.learnt.1
      ∙ ap (λ (l : Lent). further c.call.given.1.0.ref_ptr (items_from (shape_of c.call.given.0.now) (in_log l) c.call.given.1.1.1.0.0)) (lent log _ _ c.bytes c.tail)
      ∙ ap (λ (n : ℕ). further c.call.given.1.0.ref_ptr (items_from (shape_of c.call.given.0.now) (in_log log) n)) c.at
      ∙ ap (λ (x : List ℕ). further c.call.given.1.0.ref_ptr (items_from (shape_of x) (in_log log) o)) c.dir

  pub audit-promise : (c : AuditCall d log) → audit_left c ≡ model-replica.audit (shape_of d) (in_log log) (scratch c)
  audit-promise c =
      c.call.learnt ∙ ap (λ (l : Lent). model-replica.audit (shape_of c.call.given.0.now) (in_log l) (scratch c)) (lent log _ _ c.bytes c.tail)
      ∙ ap (λ (x : List ℕ). model-replica.audit (shape_of x) (in_log log) (scratch c)) c.dir

  pub open-promise : (c : OpenCall d log) → open_left c ≡ model-replica.open_at (shape_of d) (in_log log) c.call.given.1.1.1.0 c.call.given.1.1.1.1.0.now
  open-promise c =
      c.call.learnt
      ∙ ap (λ (l : Lent). model-replica.open_at (shape_of c.call.given.0.now) (in_log l) c.call.given.1.1.1.0 c.call.given.1.1.1.1.0.now) (lent log _ _ c.bytes c.tail)
      ∙ ap (λ (x : List ℕ). model-replica.open_at (shape_of x) (in_log log) c.call.given.1.1.1.0 c.call.given.1.1.1.1.0.now) c.dir

played-promise : (p : PlayedBy)
    → ◌≡◌ {A = model-replica.Left} (record { answer = checked_in (watched p).answer; replica = replica_in (watched p).kept.replica; table = (watched p).kept.table })
    (play_on (shape_of (watched p).dir) (record { bytes = (watched p).bytes; tail = (watched p).tail }) (carry (watched p).from) (watched p).stop)
played-promise (by_value c) = c.learnt
played-promise (in_place c) = c.learnt

pub play-promise : (d : List ℕ) (log : Lent) (k : Kept) (p : PlayOn d log k) → play_left p ≡ play_on (shape_of d) log (carry k) (stop_of p)
play-promise d log k p =
    played-promise p.by
    ∙ ap (λ (l : Lent). play_on (shape_of (watched p.by).dir) l (carry (watched p.by).from) (stop_of p)) (lent log _ _ p.bytes p.tail)
    ∙ ap (λ (x : Kept). play_on (shape_of (watched p.by).dir) log (carry x) (stop_of p)) p.from
    ∙ ap (λ (x : List ℕ). play_on (shape_of x) log (carry k) (stop_of p)) p.dir

pub read-promise : (d : List ℕ) (k : Kept) (o key : ℕ) (c : ReadCall d k o key) → read_in c.call.answer ≡ model-replica.read_cell (shape_of d) (replica_in k.replica) k.table o key
read-promise d k o key c =
    c.call.learnt
    ∙ ap (λ (x : List ℕ). model-replica.read_cell (shape_of x) (replica_in c.call.given.1.0) c.call.given.1.1.0.now c.call.given.1.1.1.0.0 c.call.given.1.1.1.1.0) c.dir
    ∙ ap (λ (r : Record). model-replica.read_cell (shape_of d) (replica_in r) c.call.given.1.1.0.now c.call.given.1.1.1.0.0 c.call.given.1.1.1.1.0) c.replica
    ∙ ap (λ (t : List ℕ). model-replica.read_cell (shape_of d) (replica_in k.replica) t c.call.given.1.1.1.0.0 c.call.given.1.1.1.1.0) c.table
    ∙ ap (λ (x : ℕ). model-replica.read_cell (shape_of d) (replica_in k.replica) k.table x c.call.given.1.1.1.1.0) c.object
    ∙ ap (model-replica.read_cell (shape_of d) (replica_in k.replica) k.table o) c.at

pub fresh-promise : (c : Call fresh-kinds.ps fresh-kinds.r fresh-reads.Learnt) → opened_in c.answer ≡ model-replica.open_fresh (shape_of c.given.0.now) c.given.1.0
fresh-promise c = c.learnt
