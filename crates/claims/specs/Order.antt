-- A table in cell order beside one in order of first writing, the order of the base (`laws` FirstWriting): the same cells, and the
-- same answer of every call; and whatever a play or an audit leaves is in order.
use Rattle.std.specs.Prelude.{ℕ, ◌≡◌, List, [], ◌∷◌}
use Rattle.std.proofs.Math.Option.{some}
use Rattle.model.specs.Objects.{Shape}
use Rattle.model.specs.Entries.{Log}
use Rattle.model.specs.Table.{Cell, cells_of, table_with}
use Rattle.model.specs.Play.{play}
use Rattle.model.specs.Append.{saves}
use Rattle.model.specs.Replica.{Left, audit}
use Rattle.model.specs.Histories.{Lent, in_log, append_to, History, stood, Carried, carried, Opening, opened, Play, play_on, played, plays, shown}
use Rattle.model.specs.Terms.{InOrder, Playable}
use Rattle.model.specs.Claims.{Bytes}
use Rattle.laws.specs.FirstWriting.{sorted, sorted_in, play_last, play_call_last, read_cell_last, save_last, audit_last}

-- A play over sorted rows ends where it does over the rows as they were first written, with the same rows sorted. Of any rows.
abbrev pub SameButOrder : Shape → Type 0
SameButOrder sh = (log : Log) (set : List ℕ) (room p : ℕ) (us : List Cell) (n : ℕ)
    → play sh log set room p (sorted us) n ≡ sorted_in (play_last sh log set room p us n)

-- ---- calls

-- the counted cells
abbrev pub counted : Carried → List Cell
counted r = cells_of r.table r.replica.count

-- the plays of a history, in the order of the base
abbrev pub played_last : Shape → History → Carried → Play → Left
played_last sh h r p = play_call_last sh (in_log sh (stood sh h p.stood_after)) r.replica r.table p.stop

unfoldable pub plays_last : Shape → History → Carried → List Play → Carried
plays_last sh h r [] = r
plays_last sh h r (p ∷ ps) = plays_last sh h (carried (played_last sh h r p)) ps

-- a replica r and one in the order of the base
pub record Alike (sh : Shape) (h : History) (r last : Carried) : Type 0 where
  -- the same set, position and count
  pub replica : r.replica ≡ last.replica
  -- the same cells, sorted; no other byte of the table differs
  pub cells : counted r ≡ sorted (counted last)
  pub table : r.table ≡ table_with last.table (sorted (counted last))
  -- the next play answers the same, and leaves the same position and count
  pub answers : (p : Play) → (played sh h r p).answer ≡ (played_last sh h last p).answer
  pub leaves : (p : Play) → (played sh h r p).replica ≡ (played_last sh h last p).replica
  -- every cell reading answers the same
  pub reads : (o k : ℕ) → shown sh r o k ≡ read_cell_last sh last.replica last.table o k
  -- a checkpoint appended to any log: the same answer and the same log bytes
  pub saved : (l : Lent) (o : ℕ) → append_to sh l (saves r.replica r.table o) ≡ save_last sh l.bytes l.tail last.replica last.table o

-- whatever was opened and played, in both orders
abbrev pub SameCalls : Shape → Type 0
SameCalls sh = (h : History) (opening : Opening) (r : Carried) → opened sh h opening ≡ some r → (ps : List Play) → Alike sh h (plays sh h r ps) (plays_last sh h r ps)

-- an audit of any log: the same answer, with its offset, the same record, and the same cells in the scratch table
pub record SameAudit (out last : Left) : Type 0 where
  pub answer : out.answer ≡ last.answer
  pub replica : out.replica ≡ last.replica
  pub cells : counted (carried out) ≡ sorted (counted (carried last))
  pub table : out.table ≡ table_with last.table (sorted (counted (carried last)))

abbrev pub SameAudits : Shape → Type 0
SameAudits sh = (log : Log) (scratch : List ℕ) → SameAudit (audit sh log scratch) (audit_last sh log scratch)

-- ---- what is left is in order

pub record LeavesInOrder (sh : Shape) : Type 0 where
  -- a play that nothing refuses, from any table of bytes
  pub playing : (l : Lent) (r : Carried) (stop : ℕ) → Bytes r.table → Playable sh l r stop → InOrder (counted (carried (play_on sh l r stop)))
  -- a replica that was opened and played, whatever its plays answered
  pub replicas : (h : History) (opening : Opening) (r : Carried) → opened sh h opening ≡ some r → (ps : List Play) → InOrder (counted (plays sh h r ps))
  pub audits : (log : Log) (scratch : List ℕ) → InOrder (counted (carried (audit sh log scratch)))
