-- What the program playlog prints of a log (15.4).
use Rattle.std.specs.Prelude.{ℕ, zero, suc, Bool, List, [], ◌∷◌, ◌++◌}
use Rattle.model.specs.Objects.{Shape}
use Rattle.model.specs.Entries.{Log, commit_at, if_some}
use Rattle.model.specs.Table.{Cell, capacity}
use Rattle.model.specs.Play.{cells_in}
use Rattle.model.specs.Replica.{audit_play, commits_there}

-- a commit record's line: offset, number, outcome (15.4)
pub record Outcome : Type 0 where
  pub offset : ℕ
  pub number : ℕ
  pub commits : Bool

-- the outcomes of the commit records below p, each at its turn
unfoldable pub outcomes : Shape → Log → ℕ → ℕ → List Outcome
outcomes sh log room zero = []
outcomes sh log room (suc p) = outcomes sh log room p
    ++ if_some (commit_at log p) [] (λ c. record { offset = p; number = c.number; commits = commits_there sh log room p } ∷ [])

pub record Report : Type 0 where
  pub commits : List Outcome
  pub cells : List Cell

-- what is printed of a log that passes the audit over this scratch table
unfoldable pub report : Shape → Log → List ℕ → Report
report sh log scratch = record {
  commits = outcomes sh log (capacity scratch) log.tail;
  cells = cells_in (audit_play sh log (capacity scratch) log.tail);
}
