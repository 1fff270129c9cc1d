-- Decisions owed, as types over calls as values: what an owed call answers, that no declared replica waits where it answered nothing, and that
-- an accepted decision pays.
use Rattle.std.specs.Prelude.{ℕ, ◌<◌, ◌≡◌, Ok, None}
use mathlib.Core.List.{List, Memᴰ}
use Rattle.std.proofs.Math.Option.{some}
use Rattle.model.specs.Directory.{shape_of}
use Rattle.model.specs.Answers.{done}
use Rattle.model.specs.Append.{decides}
use Rattle.model.specs.Replica.{plainly}
use Rattle.model.specs.Histories.{Lent}
use Rattle.model.specs.OwedClaims.{Owes, Answers}
use Rattle.codec.specs.Eight.{in_log}
use Rattle.entries.specs.Answers.{owed_in}
use Rattle.records.specs.Record.{replica_in}
use Rattle.calls.specs.Values.{AppendCall, seen, Grows, left_by, OwedCall, Kept, PlayOn, play_left}
use Rattle.calls.specs.Claims.{lent_at}

-- where an owed call answered nothing, no play of a replica of a declared set waits: by value or in place, with the same directory, on the same
-- log at the same tail, from any record, with any table, to any stop
abbrev pub CallsNoneWait : Type 0
CallsNoneWait = (d : List ℕ) (log : Lent) (sets : List ℕ) (c : OwedCall d log sets) → c.call.answer ≡ (Ok None)
    → (k : Kept) → Memᴰ (replica_in k.replica).hosting sets → (p : PlayOn d log k) → (play_left p).answer ≡ plainly 12 → ⊥

-- an owed call answers what its words say
abbrev pub CallsOweExactly : Type 0
CallsOweExactly = (d : List ℕ) (log : Lent) (sets : List ℕ) (c : OwedCall d log sets) → Answers (shape_of d) log sets (owed_in c.call.answer)

-- the log after a call that answered the new tail t
abbrev pub left_at : AppendCall → ℕ → Lent
left_at c t = record { bytes = (seen c).left; tail = t }

-- a decision for the commit record at o was accepted: that owes nothing, then and after any further appends, so that no owed call answers o; and
-- what else owes owed before
pub record CallsPaid (c : AppendCall) (o t : ℕ) (sets : List ℕ) : Type 0 where
  pub paid : (later : List AppendCall) → Grows (seen c).dir (seen c).left t later → Owes (shape_of (seen c).dir) (in_log (left_by (seen c).left t later)) sets o → ⊥
  pub unanswered : (later : List AppendCall) → Grows (seen c).dir (seen c).left t later
      → (w : OwedCall (seen c).dir (left_by (seen c).left t later) sets) → owed_in w.call.answer ≡ done (some o) → ⊥
  pub others : (q : ℕ) → q < t → Owes (shape_of (seen c).dir) (in_log (left_at c t)) sets q
      → (q < (seen c).tail) × Owes (shape_of (seen c).dir) (in_log (lent_at c)) sets q

abbrev pub CallsPay : Type 0
CallsPay = (c : AppendCall) (o v t : ℕ) → (seen c).request ≡ decides o v → (seen c).answer ≡ Ok t → (sets : List ℕ) → CallsPaid c o t sets
