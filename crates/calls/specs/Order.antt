-- The order of rows, as types over calls as values: what calls leave is in cell order, and beside the order of the base (`laws`
-- FirstWriting), in which a new cell was the last row, they answer the same and leave the same rows, sorted.
use Rattle.std.specs.Prelude.{ℕ, ◌≤◌, ◌≡◌, List}
use Rattle.model.specs.Directory.{shape_of}
use Rattle.model.specs.Table.{capacity, table_with}
use Rattle.model.specs.Append.{Appended, saves}
use Rattle.model.specs.Replica.{Left, open_at}
use Rattle.model.specs.Histories.{Lent, Carried, carried}
use Rattle.model.specs.Terms.{InOrder, Ended}
use Rattle.model.specs.Claims.{Bytes}
use Rattle.laws.specs.FirstWriting.{sorted, play_call_last, read_cell_last, save_last, audit_last}
use Rattle.claims.specs.Order.{counted, SameAudit}
use Rattle.codec.specs.Eight.{in_log}
use Rattle.append.specs.Answers.{tail_in}
use Rattle.records.specs.Record.{replica_in}
use Rattle.replica.specs.Answers.{read_in}
use Rattle.calls.specs.Values.{AppendCall, seen, Appends, log_after, AuditCall, scratch, audit_left, Kept, carry, OpenCall, open_left, Opens, fresh, at_checkpoint, PlayOn, stop_of, kept, play_left, PlayCall, Plays, none, more, ReadCall}

-- ---- what is left is in order

-- Which rows they are: `CallsOpen` says it of openings, what stands below of plays and audits.
pub record CallsLeaveInOrder : Type 0 where
  -- a play that ended done, waiting or without room, from any record and table of bytes, on any log
  pub ended : (d : List ℕ) (log : Lent) (k : Kept) (p : PlayOn d log k) → Bytes k.table → Ended (stop_of p) (play_left p) → InOrder (counted (carry (kept p)))
  -- a play of rows in order, whatever it answered
  pub keeps : (d : List ℕ) (log : Lent) (k : Kept) (p : PlayOn d log k) → Bytes k.table → InOrder (counted (carry k)) → InOrder (counted (carry (kept p)))
  -- an opening at a checkpoint, whatever it answered
  pub openings : (d : List ℕ) (log : Lent) (c : OpenCall d log) → InOrder (counted (carried (open_left c)))
  -- a replica that was opened and played, whatever its plays answered
  pub replicas : (a : Appends) (k : Kept) → Opens a k → (last : Kept) → Plays a k last → InOrder (counted (carry last))
  -- an audit, whatever it answered
  pub audits : (d : List ℕ) (log : Lent) (c : AuditCall d log) → InOrder (counted (carried (audit_left c)))

-- ---- single calls, on any log

-- what a call left, and what the base leaves: the same answer and record, the base's rows sorted, and no other byte of the table differs
abbrev pub SameLeft : Left → Left → Type 0
SameLeft out last = SameAudit out last

-- a play in the order of the base
abbrev pub play_on_last : List ℕ → Lent → Carried → ℕ → Left
play_on_last d log r stop = play_call_last (shape_of d) (in_log log) r.replica r.table stop

-- a play of any record that counts rows in order, no more than its table has, whatever it answers
abbrev pub CallsSamePlay : Type 0
CallsSamePlay = (d : List ℕ) (log : Lent) (k : Kept) (p : PlayOn d log k) → Bytes k.table → k.replica.count ≤ capacity k.table → InOrder (counted (carry k))
    → SameLeft (play_left p) (play_on_last d log (carry k) (stop_of p))

-- an audit, whatever it answers, its offset too
abbrev pub CallsSameAudit : Type 0
CallsSameAudit = (d : List ℕ) (log : Lent) (c : AuditCall d log) → SameLeft (audit_left c) (audit_last (shape_of d) (in_log log) (scratch c))

-- ---- replicas that were opened and played

-- the base's opening, given the same: a checkpoint has its cells in key order, so that it is the model's
abbrev pub opens_last : (a : Appends) (k : Kept) → Opens a k → Carried
opens_last a k (fresh c r table f e) = record { replica = record { hosting = c.given.1.0; position = 0; count = 0 }; table = table }
opens_last a k (at_checkpoint n c e) = carried (open_at (shape_of a.dir) (in_log (log_after a n)) c.call.given.1.1.1.0 c.call.given.1.1.1.1.0.now)

-- the base's plays, given the same: each on the same log to the same stop, from what its own play before left
unfoldable pub plays_last : (a : Appends) (k last : Kept) → Plays a k last → Carried → Carried
plays_last a k last (none x) r = r
plays_last a k last (more x y p rest) r = plays_last a (kept p.on) last rest (carried (play_on_last a.dir (log_after a p.stood_after) r (stop_of p.on)))

-- what an append answered, and the whole log that it left
abbrev pub append_left : AppendCall → Appended
append_left c = record { new_tail = tail_in (seen c).answer; bytes = (seen c).left }

-- a replica k as calls left it, and one of the base
pub record CallsAlike (a : Appends) (k : Kept) (last : Carried) : Type 0 where
  -- the same set, position and count
  pub replica : replica_in k.replica ≡ last.replica
  -- the same rows, sorted; no other byte of the table differs
  pub cells : counted (carry k) ≡ sorted (counted last)
  pub table : k.table ≡ table_with last.table (sorted (counted last))
  -- the next play answers the same, and leaves the same position and count
  pub answers : (p : PlayCall a k) → (play_left p.on).answer ≡ (play_on_last a.dir (log_after a p.stood_after) last (stop_of p.on)).answer
  pub leaves : (p : PlayCall a k) → (play_left p.on).replica ≡ (play_on_last a.dir (log_after a p.stood_after) last (stop_of p.on)).replica
  -- every cell reading answers the same
  pub reads : (o key : ℕ) (c : ReadCall a.dir k o key) → read_in c.call.answer ≡ read_cell_last (shape_of a.dir) last.replica last.table o key
  -- a checkpoint of it, appended to any log: the same answer and the same log bytes
  pub saved : (c : AppendCall) (o : ℕ) → (seen c).dir ≡ a.dir → (seen c).request ≡ saves (replica_in k.replica) k.table o
      → append_left c ≡ save_last (shape_of a.dir) (seen c).bytes (seen c).tail last.replica last.table o

-- whatever was opened and played, in both orders; each play is the next one of the replica before it
abbrev pub CallsSame : Type 0
CallsSame = (a : Appends) (k : Kept) (o : Opens a k) (last : Kept) (ps : Plays a k last) → CallsAlike a last (plays_last a k last ps (opens_last a k o))
