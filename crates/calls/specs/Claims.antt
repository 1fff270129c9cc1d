-- The demands as types over calls as values: what calls answered and left is all that they name, beside the conditions and the run.
use Rattle.std.specs.Prelude.{ℕ, ◌+◌, ◌*◌, ◌<◌, ◌≤◌, ◌≡◌, ◌↔◌, true, false, ltb, length, take, drop, Ok, Err}
use mathlib.Core.List.{List, ◌∷◌, ◌++◌, Memᴰ}
use Rattle.std.proofs.Math.Option.{Option}
use Rattle.lists.specs.Sets.{mem, ascending}
use Rattle.model.specs.Objects.{is_cell, hosted}
use Rattle.model.specs.Directory.{shape_of}
use Rattle.model.specs.Entries.{Write, Read, Held, Saved, Condition, commit as commits-at, checkpoint as checkpoint-at}
use Rattle.model.specs.Table.{capacity, version_in}
use Rattle.model.specs.Answers.{done}
use Rattle.model.specs.Reading.{items_from}
use Rattle.model.specs.Append.{commits, reads_given, condition_given}
use Rattle.model.specs.Replica.{plainly}
use Rattle.model.specs.Run.{made_all}
use Rattle.model.specs.Histories.{Lent, is_refused, cells_written}
use Rattle.model.specs.Terms.{Directed, Listed, GoodFrame, AllGood, AbortsIn, Concerns, Blocked, Fit, Playable, Ended, Makes, Unstopped}
use Rattle.model.specs.Claims.{Bytes, Waiting, done_with, kind_given, NumberGiven, ObjectsGiven, ItemsGiven, first_given, second_given, header_objects_in, Alone, AbortsAlone, Audits, OpenedAt}
use Rattle.codec.specs.Eight.{slot_size, in_log}
use Rattle.entries.specs.declared.calls.Info.{Info}
use Rattle.entries.specs.Answers.{info_of, further}
use Rattle.answers.specs.declared.Refusal.TheVariants as refusal
use Rattle.codec.specs.declared.names.Offset.{Offset}
use Rattle.append.specs.Answers.{tail_in}
use Rattle.records.specs.Record.{replica_in}
use Rattle.replica.specs.Answers.{read_in}
use Rattle.replica.proofs.opening.open_fresh.Kinds as fresh-kinds
use Rattle.replica.proofs.opening.open_fresh.Reads as fresh-reads
use Rattle.calls.specs.Values.{Call, AppendCall, seen, Grows, left_by, Appends, last_log, log_after, ran, CheckCall, EntryCall, ItemsCall, part, AuditCall, scratch, audit_left, Kept, carry, OpenCall, open_left, Opens, PlayOn, stop_of, kept, play_left, PlayCall, Plays, ReadCall}

abbrev pub hosts : List ℕ → Kept → List ℕ
hosts d k = hosted (shape_of d) k.replica.hosted

abbrev pub lent_at : AppendCall → Lent
lent_at c = record { bytes = (seen c).bytes; tail = (seen c).tail }

-- ---- demand 1

-- what a play on any log leaves, from any record and any table
pub record PlayLeaves (d : List ℕ) (log : Lent) (k : Kept) (p : PlayOn d log k) : Type 0 where
  pub ends : Ended (stop_of p) (play_left p) ↔ Playable (shape_of d) log (carry k) (stop_of p)
  pub unchanged : (Playable (shape_of d) log (carry k) (stop_of p) → ⊥) → carry (kept p) ≡ carry k
  -- a play to its own position is done and leaves the same
  pub stopped : Playable (shape_of d) log (carry k) (stop_of p) → (q : PlayOn d log k) → stop_of q ≡ (kept p).replica.position
      → play_left q ≡ done_with (replica_in (kept p).replica) (kept p).table
  pub waits : Waiting (shape_of d) (Playable (shape_of d) log (carry k) (stop_of p)) (in_log log) (hosts d k) k.replica.position (stop_of p) (play_left p)
  -- 13 only where the entry at its position makes more writes than the table has rows free
  pub lacks : (play_left p).answer ≡ plainly 13 → (ws : List Write) × Makes (in_log log) (kept p).replica.position ws × (capacity k.table < (kept p).replica.count + length ws)

pub record CallsDemand1 : Type 0 where
  pub refused_append : (c : AppendCall) → is_refused (tail_in (seen c).answer) ≡ true → (seen c).left ≡ (seen c).bytes
  pub play_leaves : (d : List ℕ) (log : Lent) (k : Kept) (p : PlayOn d log k) → PlayLeaves d log k p

-- a play to one stop and then to a second gives the answer, the record and the table of one play to the second
abbrev pub CallsInstalments : Type 0
CallsInstalments = (d : List ℕ) (log : Lent) (k : Kept) → Bytes k.table
    → (first : PlayOn d log k) (second : PlayOn d log (kept first)) (whole : PlayOn d log k)
    → stop_of second ≡ stop_of whole → stop_of first ≤ stop_of whole → stop_of whole ≤ log.tail
    → play_left second ≡ play_left whole

-- ---- demand 2

-- an append is accepted exactly when no refusal's condition stops it (13.3)
abbrev pub CallsAccept : Type 0
CallsAccept = (c : AppendCall) → (is_refused (tail_in (seen c).answer) ≡ false) ↔ Unstopped (shape_of (seen c).dir) (lent_at c) (seen c).request

-- an accepted append answers the new tail and writes the slot at the old one
pub record Wrote (c : AppendCall) (t : ℕ) : Type 0 where
  pub next : t ≡ (seen c).tail + 1
  pub size : length (seen c).left ≡ length (seen c).bytes
  pub front : take (slot_size * (seen c).tail) (seen c).left ≡ take (slot_size * (seen c).tail) (seen c).bytes
  pub rest : drop (slot_size * t) (seen c).left ≡ drop (slot_size * t) (seen c).bytes

abbrev pub CallsWrite : Type 0
CallsWrite = (c : AppendCall) (t : ℕ) → (seen c).answer ≡ Ok t → Wrote c t

-- the check of the log that a list of appends left never tells a bad entry
abbrev pub CallsKeepGood : Type 0
CallsKeepGood = (a : Appends) (c : CheckCall a.dir (last_log a)) (o : Offset) → c.call.answer ≡ Err (refusal.BadEntry o) → ⊥

-- what was given, as the entry call and the item list tell it
pub record Returns (c : AppendCall) (answer : Info) (handed : List ℕ) : Type 0 where
  pub kind : (info_of answer).kind ≡ kind_given (seen c).request
  pub number : NumberGiven (in_log (lent_at c)) (seen c).request (info_of answer).number
  pub objects : ObjectsGiven (in_log (lent_at c)) (seen c).request (header_objects_in (info_of answer))
  pub ascend : ascending ltb (header_objects_in (info_of answer)) ≡ true
  pub items : ItemsGiven (seen c).request handed
  pub first : (info_of answer).first ≡ first_given (seen c).request
  pub second : (info_of answer).second ≡ second_given (seen c).request

-- what was appended reads back (17.3)
abbrev pub CallsReadBack : Type 0
CallsReadBack = (c : AppendCall) (t : ℕ) → (seen c).answer ≡ Ok t
    → (later : List AppendCall) → Grows (seen c).dir (seen c).left t later
    → (e : EntryCall (seen c).dir (left_by (seen c).left t later) (seen c).tail) (i : ItemsCall (seen c).dir (left_by (seen c).left t later) (seen c).tail)
    → (answer : Info) × (e.call.answer ≡ Ok answer) × Returns c answer (part i)

-- the list of items is handed out where it stands in the lent log
abbrev pub CallsItemsPlace : Type 0
CallsItemsPlace = (d : List ℕ) (log : Lent) (o : ℕ) (c : ItemsCall d log o) → c.call.answer.ref_ptr ≡ further c.call.given.1.0.ref_ptr (items_from (shape_of d) (in_log log) o)

-- entries that read alike are the same bytes (17.4)
abbrev pub CallsSameBytes : Type 0
CallsSameBytes = (c d : AppendCall) (t u : ℕ) → (seen c).dir ≡ (seen d).dir → lent_at c ≡ lent_at d → (seen c).answer ≡ Ok t → (seen d).answer ≡ Ok u
    → (e : EntryCall (seen c).dir (record { bytes = (seen c).left; tail = t }) (seen c).tail) (i : ItemsCall (seen c).dir (record { bytes = (seen c).left; tail = t }) (seen c).tail)
    → (f : EntryCall (seen d).dir (record { bytes = (seen d).left; tail = u }) (seen d).tail) (j : ItemsCall (seen d).dir (record { bytes = (seen d).left; tail = u }) (seen d).tail)
    → (m n : Info) → e.call.answer ≡ Ok m → f.call.answer ≡ Ok n
    → (info_of m).kind ≡ (info_of n).kind → (info_of m).number ≡ (info_of n).number → header_objects_in (info_of m) ≡ header_objects_in (info_of n)
    → (info_of m).first ≡ (info_of n).first → (info_of m).second ≡ (info_of n).second
    → part i ≡ part j → (seen c).left ≡ (seen d).left

-- a play across one commit record, on any bytes, aborts exactly on a stale read or an unmet number (17.6)
abbrev pub CallsAbort : Type 0
CallsAbort = (d : List ℕ) (log : Lent) (k : Kept) (p : PlayOn d log k) (n : ℕ) (c : Condition) → stop_of p ≡ k.replica.position + 1
    → Alone (shape_of d) log (carry k) n c → AbortsAlone (shape_of d) log (carry k) n c (play_left p)

-- ---- the audit and openings

abbrev pub CallsAudit : Type 0
CallsAudit = (a : Appends) (c : AuditCall a.dir (last_log a)) → Directed (shape_of a.dir) → GoodFrame (shape_of a.dir) (last_log a) → Audits (shape_of a.dir) (last_log a) (ran a) (scratch c) (audit_left c)

-- on any log
abbrev pub CallsNeverWait : Type 0
CallsNeverWait = (d : List ℕ) (log : Lent) (c : AuditCall d log) → c.call.answer.answer ≡ Err refusal.Waiting → ⊥

pub record CallsOpen : Type 0 where
  pub fresh : (c : Call fresh-kinds.ps fresh-kinds.r fresh-reads.Learnt) → Directed (shape_of c.given.0.now) → (c.given.1.0 ≡ 0 → ⊥) → Listed (shape_of c.given.0.now) c.given.1.0
      → c.answer ≡ Ok (record { hosted = c.given.1.0; position = 0; count = 0 })
  pub at_checkpoint : (d : List ℕ) (log : Lent) (c : OpenCall d log) → c.call.answer.answer ≡ (Ok tt)
      → OpenedAt (shape_of d) (in_log log) c.call.given.1.1.1.0 c.call.given.1.1.1.1.0.now (open_left c)
  pub wherever : (d : List ℕ) (log : Lent) (c : OpenCall d log) (x : ℕ) (cs : List Saved) → Directed (shape_of d) → GoodFrame (shape_of d) log → AllGood (shape_of d) (in_log log)
      → c.call.given.1.1.1.0 < log.tail → (in_log log).entry c.call.given.1.1.1.0 ≡ checkpoint-at x cs
      → length cs ≤ capacity c.call.given.1.1.1.1.0.now → (open_left c).answer ≡ done tt

-- ---- demand 3, and the outcomes of demand 2

-- a play from a commit record of the replica's objects to the next offset, on the log as it stood: the run's outcome, or it waits
pub record Crosses (a : Appends) (k : Kept) (p : PlayCall a k) (n : ℕ) (c : Condition) : Type 0 where
  pub ends : Ended (k.replica.position + 1) (play_left p.on)
  pub aborts : (play_left p.on).answer ≡ done tt → AbortsIn (ran a k.replica.position) c → (o key : ℕ) → mem o (hosts a.dir k) ≡ true → is_cell (shape_of a.dir) o key ≡ true
      → (before : ReadCall a.dir k o key) (after : ReadCall a.dir (kept p.on) o key) → read_in after.call.answer ≡ read_in before.call.answer
  pub makes : (play_left p.on).answer ≡ done tt → (AbortsIn (ran a k.replica.position) c → ⊥) → (o key : ℕ) → mem o (hosts a.dir k) ≡ true → is_cell (shape_of a.dir) o key ≡ true
      → (after : ReadCall a.dir (kept p.on) o key)
      → read_in after.call.answer ≡ done (made_all (k.replica.position + 1) ((ran a k.replica.position).aside n) (ran a k.replica.position).cells o key)
  pub waits : ((play_left p.on).answer ≡ plainly 12) ↔ Blocked (shape_of a.dir) (in_log (log_after a p.stood_after)) (hosts a.dir k) k.replica.position
  pub lacks : (play_left p.on).answer ≡ plainly 13 → AbortsIn (ran a k.replica.position) c → ⊥

-- what the calls on a replica say after its plays: the sentences of `Shows` in the model's claims
pub record Behaves (a : Appends) (k : Kept) : Type 0 where
  pub cells : (o key : ℕ) (c : ReadCall a.dir k o key) → mem o (hosts a.dir k) ≡ true → is_cell (shape_of a.dir) o key ≡ true
      → read_in c.call.answer ≡ done ((ran a k.replica.position).cells o key)
  pub count : k.replica.count ≡ cells_written (shape_of a.dir).objects (hosts a.dir k) (ran a k.replica.position).cells
  pub waits : (p : PlayCall a k) → Waiting (shape_of a.dir) (Fit (shape_of a.dir) (log_after a p.stood_after).tail (carry k) (stop_of p.on)) (in_log (log_after a p.stood_after)) (hosts a.dir k)
      k.replica.position (stop_of p.on) (play_left p.on)
  pub ends : (p : PlayCall a k) → Ended (stop_of p.on) (play_left p.on) ↔ Fit (shape_of a.dir) (log_after a p.stood_after).tail (carry k) (stop_of p.on)
  pub lacks : (p : PlayCall a k) → (play_left p.on).answer ≡ plainly 13
      → capacity k.table < cells_written (shape_of a.dir).objects (hosts a.dir k) (ran a ((kept p.on).replica.position + 1)).cells
  -- a committed read of an accepted commit, made again at its turn
  pub rereads : (before later : List AppendCall) (c : AppendCall) (n : ℕ) (items : List ℕ) (first second : ℕ) → a.calls ≡ before ++ c ∷ later
      → (seen c).request ≡ commits n items first second → is_refused (tail_in (seen c).answer) ≡ false
      → (AbortsIn (ran a (seen c).tail) (condition_given items first second) → ⊥)
      → (x : Read) (r : ReadCall a.dir k x.object x.key) (held : Option Held) → Memᴰ x (reads_given items)
      → read_in r.call.answer ≡ done held → version_in held ≡ x.version
      → (ran a (seen c).tail).cells x.object x.key ≡ held
  pub outcomes : (p : PlayCall a k) (n : ℕ) (c : Condition) → stop_of p.on ≡ k.replica.position + 1
      → (in_log (log_after a p.stood_after)).entry k.replica.position ≡ commits-at n c
      → Fit (shape_of a.dir) (log_after a p.stood_after).tail (carry k) (k.replica.position + 1)
      → Concerns (in_log (log_after a p.stood_after)) (hosts a.dir k) n k.replica.position
      → Crosses a k p n c

abbrev pub CallsBehave : Type 0
CallsBehave = (a : Appends) (audit : AuditCall a.dir (last_log a)) → audit.call.answer.answer ≡ (Ok tt)
    → (k : Kept) → Opens a k → (last : Kept) → Plays a k last → Behaves a last
