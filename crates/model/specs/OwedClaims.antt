-- What is claimed of decisions owed, as types (specification 5.3, 17.20).
use Rattle.std.specs.Prelude.{ℕ, ◌<◌, ◌≤◌, ◌≡◌, ◌↔◌, length}
use mathlib.Core.List.{List, Memᴰ}
use Rattle.std.proofs.Math.Option.{Option, none, some}
use Rattle.model.specs.Objects.{Shape, hosted}
use Rattle.model.specs.Entries.{Log}
use Rattle.model.specs.Answers.{Answer, done, refused}
use Rattle.model.specs.Reading.{most_sets, owed}
use Rattle.model.specs.Append.{Replica, Request, decides}
use Rattle.model.specs.Replica.{plainly, play_call}
use Rattle.model.specs.Histories.{Lent, in_log, Accepted, after, grown}
use Rattle.model.specs.Terms.{Directed, Listed, GoodFrame, AllGood, Blocked}

-- ---- no declared replica waits

-- Where nothing is owed to these sets, no play of a replica of one of them waits: on this log, from any record, with any table, to any stop.
abbrev pub NoneWaits : Shape → Type 0
NoneWaits sh = (log : Log) (sets : List ℕ) → owed sh log sets ≡ done none
    → (r : Replica) (table : List ℕ) (stop : ℕ) → Memᴰ r.hosting sets → (play_call sh log r table stop).answer ≡ plainly 12 → ⊥

-- ---- what is owed

-- At q stands a commit record, and some declared set holds an object of its headers, those that the updates of its number write, but not some
-- object that it reads, or names a number and is not the whole directory; and no decision record below the tail names it.
pub record Owes (sh : Shape) (log : Log) (sets : List ℕ) (q : ℕ) : Type 0 where
  pub set : ℕ
  pub declared : Memᴰ set sets
  pub blocked : Blocked sh log (hosted sh set) q

-- at most so many sets, each with an object, and with no bit past the directory
pub record Declarable (sh : Shape) (sets : List ℕ) : Type 0 where
  pub few : length sets ≤ most_sets
  pub some : (set : ℕ) → Memᴰ set sets → set ≡ 0 → ⊥
  pub listed : (set : ℕ) → Memᴰ set sets → Listed sh set

-- none of 15, 1 and 2 stops the call
pub record GoodLog (sh : Shape) (l : Lent) : Type 0 where
  pub directed : Directed sh
  pub framed : GoodFrame sh l
  pub good : AllGood sh (in_log sh l)

-- the call answers the lowest offset that owes, none where there is none, and 3 where the sets may not be declared; each exactly there
pub record Answers (sh : Shape) (l : Lent) (sets : List ℕ) (a : Answer (Option ℕ)) : Type 0 where
  pub lowest : (q : ℕ) → (a ≡ done (some q))
      ↔ (GoodLog sh l × Declarable sh sets × (q < l.tail) × Owes sh (in_log sh l) sets q × ((p : ℕ) → p < q → Owes sh (in_log sh l) sets p → ⊥))
  pub nothing : (a ≡ done none) ↔ (GoodLog sh l × Declarable sh sets × ((q : ℕ) → q < l.tail → Owes sh (in_log sh l) sets q → ⊥))
  pub bad_request : (a ≡ refused (record { number = 3; told = none })) ↔ (GoodLog sh l × (Declarable sh sets → ⊥))

abbrev pub OwesExactly : Shape → Type 0
OwesExactly sh = (l : Lent) (sets : List ℕ) → Answers sh l sets (owed sh (in_log sh l) sets)

-- ---- a decision pays

-- After an accepted decision for the commit record at o: that owes no set anything, then and after any further appends; and what else owes owed before.
pub record Paid (sh : Shape) (l : Lent) (o v : ℕ) (sets : List ℕ) : Type 0 where
  pub paid : (later : List Request) → Owes sh (in_log sh (grown sh (after sh l (decides o v)) later)) sets o → ⊥
  pub others : (q : ℕ) → q < (after sh l (decides o v)).tail → Owes sh (in_log sh (after sh l (decides o v))) sets q → (q < l.tail) × Owes sh (in_log sh l) sets q

abbrev pub Pays : Shape → Type 0
Pays sh = (l : Lent) (o v : ℕ) → Accepted sh l (decides o v) → (sets : List ℕ) → Paid sh l o v sets
