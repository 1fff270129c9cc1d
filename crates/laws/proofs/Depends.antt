-- A call depends on the length of the log, the bytes below the tail and the counted cells of the table, and on no other byte:
-- the log is read from those bytes, and the cells from the counted ones, so each call is given equal arguments.
use Prim.Native.Nat.{ℕ, ◌+◌, ◌*◌, ◌<◌, ◌≤◌}
use mathlib.Core.Path.{◌≡◌, refl, ap, ap₂, sym, ◌∙◌}
use mathlib.Core.List.{List}
use mathlib.Core.Option.{Option, none, some}
use native.Mathlib.Omega.{arith}
use lib.ListN.{length, take, drop, get_or}
use lib.Seq.{get_or-take, take_at, drop_at}
use Rattle.lists.specs.Bytes.{be_at, be_at-same}
use Rattle.lists.specs.Rows.{joined, values_same}
use Rattle.model.specs.Objects.{Layout, Shape, everything}
use Rattle.model.specs.Entries.{Log}
use Rattle.model.specs.Slot.{slot_of, log_in, log_of}
use Rattle.model.specs.Table.{Cell, cell_at, cell_bytes, cells_of, table_with, capacity, cell_size}
use Rattle.model.specs.Play.{Played, going, waits, lacks}
use Rattle.model.specs.Answers.{Refusal, Answer, first_of, frame_and_entries}
use Rattle.model.specs.Reading.{check, owed, entry_call, item_list, stream_next, stream_list}
use Rattle.model.specs.Append.{Replica, Request, saves, entry_of, own_tests, append_refusal, append_given, append}
use Rattle.model.specs.Replica.{Left, left_with, Checkpoint, checkpoint_in, open_refusal, open_given, open_at, play_from, play_refusal, play_given, play_call, read_cell, audit_play, lowest_false, audit_given, audit}
use Rattle.laws.proofs.Tables.{length-stored}

-- ---- the log

pub log-same : (ly : Layout) (a b : List ℕ) (tail : ℕ) → length a ≡ length b → take (ly.slot_size * tail) a ≡ take (ly.slot_size * tail) b → log_of ly a tail ≡ log_of ly b tail
log-same ly a b tail e f = ap₂ (λ (n : ℕ) (l : List ℕ). log_in ly n tail l) e f

-- two slices that answer alike at a tail, whatever else a call is given
pub record Alike (sh : Shape) (a b : List ℕ) (tail : ℕ) : Type 0 where
  pub checks : check sh (log_of sh.layout a tail) ≡ check sh (log_of sh.layout b tail)
  pub owes : (sets : List ℕ) → owed sh (log_of sh.layout a tail) sets ≡ owed sh (log_of sh.layout b tail) sets
  pub tells : (o : ℕ) → entry_call sh (log_of sh.layout a tail) o ≡ entry_call sh (log_of sh.layout b tail) o
  pub items : (o : ℕ) → item_list sh (log_of sh.layout a tail) o ≡ item_list sh (log_of sh.layout b tail) o
  pub nexts : (x from : ℕ) → stream_next sh (log_of sh.layout a tail) x from ≡ stream_next sh (log_of sh.layout b tail) x from
  pub lists : (x : ℕ) (list : List ℕ) → stream_list sh (log_of sh.layout a tail) x list ≡ stream_list sh (log_of sh.layout b tail) x list
  pub opens : (o : ℕ) (table : List ℕ) → open_at sh (log_of sh.layout a tail) o table ≡ open_at sh (log_of sh.layout b tail) o table
  pub plays : (r : Replica) (table : List ℕ) (stop : ℕ) → play_call sh (log_of sh.layout a tail) r table stop ≡ play_call sh (log_of sh.layout b tail) r table stop
  pub audits : (table : List ℕ) → audit sh (log_of sh.layout a tail) table ≡ audit sh (log_of sh.layout b tail) table
  pub appends : (q : Request) → (append sh a tail q).new_tail ≡ (append sh b tail q).new_tail

-- an append's answer is its refusal's
answered : (ly : Layout) (a b s s' : List ℕ) (tail : ℕ) (x : Option Refusal) → (append_given ly a tail s x).new_tail ≡ (append_given ly b tail s' x).new_tail
answered ly a b s s' tail none = refl
answered ly a b s s' tail (some r) = refl

pub depends-log : (sh : Shape) (a b : List ℕ) (tail : ℕ) → length a ≡ length b → take (sh.layout.slot_size * tail) a ≡ take (sh.layout.slot_size * tail) b → Alike sh a b tail
unfolding append log_in
depends-log sh a b tail e f =
    let same : log_of sh.layout a tail ≡ log_of sh.layout b tail = log-same sh.layout a b tail e f in
    record {
      checks = ap (check sh) same;
      owes = λ sets. ap (λ l. owed sh l sets) same;
      tells = λ o. ap (λ l. entry_call sh l o) same;
      items = λ o. ap (λ l. item_list sh l o) same;
      nexts = λ x from. ap (λ l. stream_next sh l x from) same;
      lists = λ x list. ap (λ l. stream_list sh l x list) same;
      opens = λ o table. ap (λ l. open_at sh l o table) same;
      plays = λ r table stop. ap (λ l. play_call sh l r table stop) same;
      audits = λ table. ap (λ l. audit sh l table) same;
      appends = λ q. answered sh.layout a b _ (slot_of sh.layout (log_of sh.layout b tail) tail (entry_of (log_of sh.layout b tail) q)) tail (append_refusal sh (log_of sh.layout a tail) q)
          ∙ ap (λ l. (append_given sh.layout b tail (slot_of sh.layout (log_of sh.layout b tail) tail (entry_of (log_of sh.layout b tail) q)) (append_refusal sh l q)).new_tail) same;
    }

-- ---- the table

module _ (s t : List ℕ) (count : ℕ) (e : take (cell_size * count) s ≡ take (cell_size * count) t) where
  byte-same : (k : ℕ) → k < cell_size * count → get_or s k 0 ≡ get_or t k 0
  byte-same k h = sym (get_or-take (cell_size * count) s k 0 h) ∙ ap (λ l. get_or l k 0) e ∙ get_or-take (cell_size * count) t k 0 h

  be-same : (n i : ℕ) → i + n ≤ cell_size * count → be_at n s i ≡ be_at n t i
  be-same n i h = be_at-same n s t i i (λ k l. byte-same (i + k) (omega arith))

  cell_same : (i : ℕ) → i < count → cell_at s (cell_size * i) ≡ cell_at t (cell_size * i)
  unfolding cell_at
  cell_same i h =
      rw (be-same 4 (cell_size * i) (omega arith), be-same 4 (cell_size * i + 4) (omega arith), be-same 4 (cell_size * i + 8) (omega arith), be-same 4 (cell_size * i + 12) (omega arith), be-same 8 (cell_size * i + 16) (omega arith))

  pub cells_same : cells_of s count ≡ cells_of t count
  unfolding cells_of
  cells_same = values_same _ _ 0 count (λ k l m. cell_same k (omega arith))

-- a replica's record and table as two calls left them: alike, but for the bytes past the counted cells
pub record LeftAlike (a b : Left) : Type 0 where
  pub answers : a.answer ≡ b.answer
  pub replicas : a.replica ≡ b.replica
  pub counted : take (cell_size * a.replica.count) a.table ≡ take (cell_size * a.replica.count) b.table

-- what a call left past the counted cells is the caller's own
abbrev pub RestKept : Left → List ℕ → Type 0
RestKept a table = drop (cell_size * a.replica.count) a.table ≡ drop (cell_size * a.replica.count) table

with-alike : (a : Answer (Unit {0})) (set p : ℕ) (s t : List ℕ) (cs : List Cell) → LeftAlike (left_with a set p s cs) (left_with a set p t cs)
unfolding table_with
with-alike a set p s t cs = record {
  answers = refl;
  replicas = refl;
  counted = take_at (joined cell_bytes cs) _ _ (length-stored cs) ∙ sym (take_at (joined cell_bytes cs) _ _ (length-stored cs));
}

with_rest : (t : List ℕ) (cs : List Cell) → drop (cell_size * length cs) (table_with t cs) ≡ drop (cell_size * length cs) t
unfolding table_with
with_rest t cs = drop_at (joined cell_bytes cs) _ _ (length-stored cs)

module _ (r : Replica) (stop : ℕ) (s t : List ℕ) where
  play-alike : (p : Played) (x : Option Refusal) → take (cell_size * r.count) s ≡ take (cell_size * r.count) t → LeftAlike (play_given r stop s p x) (play_given r stop t p x)
  play-alike (going cs) none e = with-alike _ _ _ s t cs
  play-alike (waits q cs) none e = with-alike _ _ _ s t cs
  play-alike (lacks q cs) none e = with-alike _ _ _ s t cs
  play-alike p (some x) e = record { answers = refl; replicas = refl; counted = e }

  play-kept : (p : Played) (x : Option Refusal) → RestKept (play_given r stop t p x) t
  play-kept (going cs) none = with_rest t cs
  play-kept (waits q cs) none = with_rest t cs
  play-kept (lacks q cs) none = with_rest t cs
  play-kept p (some x) = refl

module _ (sh : Shape) (o : ℕ) (s t : List ℕ) where
  open-alike : (x : Option Refusal) (c : Option Checkpoint) → LeftAlike (open_given sh o s x c) (open_given sh o t x c)
  open-alike (some x) c = record { answers = refl; replicas = refl; counted = refl }
  open-alike none none = record { answers = refl; replicas = refl; counted = refl }
  open-alike none (some c) = with-alike _ _ _ s t c.cells

  open_kept : (x : Option Refusal) (c : Option Checkpoint) → RestKept (open_given sh o t x c) t
  open_kept (some x) c = refl
  open_kept none none = refl
  open_kept none (some c) = with_rest t c.cells

module _ (set tail : ℕ) (s t : List ℕ) (f : Option ℕ) where
  audit-alike : (p : Played) (x : Option Refusal) → LeftAlike (audit_given set tail s f p x) (audit_given set tail t f p x)
  audit-alike (going cs) none = with-alike _ _ _ s t cs
  audit-alike (waits q cs) none = with-alike _ _ _ s t cs
  audit-alike (lacks q cs) none = with-alike _ _ _ s t cs
  audit-alike p (some x) = record { answers = refl; replicas = refl; counted = refl }

  audit-kept : (p : Played) (x : Option Refusal) → RestKept (audit_given set tail t f p x) t
  audit-kept (going cs) none = with_rest t cs
  audit-kept (waits q cs) none = with_rest t cs
  audit-kept (lacks q cs) none = with_rest t cs
  audit-kept p (some x) = refl

-- two tables of one length: opening and the audit read no cell of theirs
module _ (sh : Shape) (log : Log) (s t : List ℕ) (len : length s ≡ length t) where
  pub open-same : (o : ℕ) → LeftAlike (open_at sh log o s) (open_at sh log o t)
  unfolding open_at
  open-same o = rw len (open-alike sh o s t (open_refusal sh log o t) (checkpoint_in (log.entry o)))

  pub audit-same : LeftAlike (audit sh log s) (audit sh log t)
  unfolding audit
  audit-same = rw len (audit-alike (everything sh) log.tail s t (lowest_false sh log (capacity t)) (audit_play sh log (capacity t) log.tail) (first_of (frame_and_entries sh log)))

-- two tables of one length, with the same counted cells
module _ (sh : Shape) (r : Replica) (s t : List ℕ) (len : length s ≡ length t) (e : take (cell_size * r.count) s ≡ take (cell_size * r.count) t) where
  pub read_same : (o k : ℕ) → read_cell sh r s o k ≡ read_cell sh r t o k
  unfolding read_cell
  read_same o k = rw (len, cells_same s t r.count e)

  pub play-same : (log : Log) (stop : ℕ) → LeftAlike (play_call sh log r s stop) (play_call sh log r t stop)
  unfolding play_call
  play-same log stop = rw (len, cells_same s t r.count e) (play-alike r stop s t (play_from sh log r t stop) (play_refusal sh log r t stop) e)

  pub saves-same : (bytes : List ℕ) (tail o : ℕ) → append sh bytes tail (saves r s o) ≡ append sh bytes tail (saves r t o)
  unfolding append entry_of own_tests
  saves-same bytes tail o = rw (len, cells_same s t r.count e)

module _ (sh : Shape) (log : Log) (t : List ℕ) where
  pub open-rest : (o : ℕ) → RestKept (open_at sh log o t) t
  unfolding open_at
  open-rest o = open_kept sh o t t (open_refusal sh log o t) (checkpoint_in (log.entry o))

  pub play-rest : (r : Replica) (stop : ℕ) → RestKept (play_call sh log r t stop) t
  unfolding play_call
  play-rest r stop = play-kept r stop t t (play_from sh log r t stop) (play_refusal sh log r t stop)

  pub audit-rest : RestKept (audit sh log t) t
  unfolding audit
  audit-rest = audit-kept (everything sh) log.tail t t _ (audit_play sh log (capacity t) log.tail) (first_of (frame_and_entries sh log))
