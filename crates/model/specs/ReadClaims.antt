-- What is claimed of the versions in read sets, as types (specification 6.11, 17.17).
use Rattle.std.specs.Prelude.{ℕ, ◌≤◌, ◌≡◌, ◌↔◌, length}
use mathlib.Core.List.{List, ◌∷◌, ◌++◌, Memᴰ}
use Rattle.std.proofs.Math.Option.{Option, some}
use Rattle.model.specs.Objects.{Shape}
use Rattle.model.specs.Entries.{Read, Held}
use Rattle.model.specs.Table.{version_in}
use Rattle.model.specs.Answers.{done, refused}
use Rattle.model.specs.Append.{Request, commits, reads_given, condition_given}
use Rattle.model.specs.Histories.{Lent, in_log, append_to, Accepted, after, grown, History, stood, Passed, Carried, Opening, opened, Play, plays, shown}
use Rattle.model.specs.Terms.{Directed, GoodFrame, AllGood, Pointed, CommitAsked}

-- Nothing that comes before 16 stops the commit, the read at place i points to no entry that writes its cell, and each read before it does
-- or has version 0.
pub record FirstAstray (sh : Shape) (l : Lent) (n : ℕ) (items : List ℕ) (a b i : ℕ) : Type 0 where
  pub directed : Directed sh
  pub framed : GoodFrame sh l
  pub good : AllGood sh (in_log sh l)
  pub asked : CommitAsked sh (in_log sh l) n (condition_given items a b) items
  pub before : List Read
  pub read : Read
  pub rest : List Read
  pub reads : reads_given items ≡ before ++ read ∷ rest
  pub place : length before ≡ i
  pub others : (x : Read) → Memᴰ x before → Pointed (in_log sh l) x
  pub astray : Pointed (in_log sh l) read → ⊥

-- 16 is answered exactly there, and tells that place, also where no slot is free.
abbrev pub TellsAstray : Shape → Type 0
TellsAstray sh = (l : Lent) (n : ℕ) (items : List ℕ) (a b i : ℕ)
    → ((append_to sh l (commits n items a b)).new_tail ≡ refused (record { number = 16; told = some i })) ↔ FirstAstray sh l n items a b i

-- After an accepted commit every read has version 0 or points to an entry that writes its cell, and after any further appends too.
abbrev pub AstrayNone : Shape → Type 0
AstrayNone sh = (l : Lent) (n : ℕ) (items : List ℕ) (a b : ℕ) → Accepted sh l (commits n items a b)
    → (later : List Request) (x : Read) → Memᴰ x (reads_given items) → Pointed (in_log sh (grown sh (after sh l (commits n items a b)) later)) x

abbrev pub read_of : ℕ → ℕ → Option Held → Read
read_of o k held = record { object = o; key = k; version = version_in held }

-- What a replica shows of a cell has no version above its position, and 0 or one that points to an entry that writes the cell: in the log as
-- it stood at any time when its tail was not below that version, and after any further appends to it.
pub record ShownVersion (sh : Shape) (h : History) (r : Carried) (o k : ℕ) (held : Option Held) : Type 0 where
  pub past : version_in held ≤ r.replica.position
  pub pointed : (m : ℕ) → version_in held ≤ (stood sh h m).tail → (later : List Request) → Pointed (in_log sh (grown sh (stood sh h m) later)) (read_of o k held)

-- So it is of every replica of demand 3.
abbrev pub ShownPasses : Shape → Type 0
ShownPasses sh = (h : History) (scratch : List ℕ) → Passed sh h scratch
    → (opening : Opening) (r : Carried) → opened sh h opening ≡ some r
    → (ps : List Play) (o k : ℕ) (held : Option Held) → shown sh (plays sh h r ps) o k ≡ done held → ShownVersion sh h (plays sh h r ps) o k held
