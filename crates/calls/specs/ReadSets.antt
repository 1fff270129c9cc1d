-- Versions in read sets, as types over calls as values: which commits are answered 16, and what it tells; that an accepted commit has no
-- read astray; and that what a replica shows never is.
use Rattle.std.specs.Prelude.{ℕ, ◌≤◌, ◌≡◌, ◌↔◌, length, Ok}
use mathlib.Core.List.{List, ◌∷◌, ◌++◌, Memᴰ}
use Rattle.std.proofs.Math.Option.{Option, some}
use Rattle.model.specs.Directory.{shape_of}
use Rattle.model.specs.Entries.{Read, Held}
use Rattle.model.specs.Table.{version_in}
use Rattle.model.specs.Answers.{done, refused}
use Rattle.model.specs.Append.{commits, reads_given}
use Rattle.model.specs.Terms.{Pointed}
use Rattle.model.specs.ReadClaims.{FirstAstray, read_of}
use Rattle.codec.specs.Eight.{in_log}
use Rattle.append.specs.Answers.{tail_in}
use Rattle.replica.specs.Answers.{read_in}
use Rattle.calls.specs.Values.{AppendCall, seen, Grows, left_by, Appends, last_log, log_after, AuditCall, Kept, Opens, Plays, ReadCall}
use Rattle.calls.specs.Claims.{lent_at}

-- 16 is answered exactly where a read is astray and nothing before it stops the commit, and tells the place of the first
abbrev pub CallsTellAstray : Type 0
CallsTellAstray = (c : AppendCall) (n : ℕ) (items : List ℕ) (first second i : ℕ) → (seen c).request ≡ commits n items first second
    → (tail_in (seen c).answer ≡ refused (record { number = 16; told = some i })) ↔ FirstAstray (shape_of (seen c).dir) (lent_at c) n items first second i

-- each read of an accepted commit points to an entry that writes its cell, then and after any further appends
abbrev pub CallsAstrayNone : Type 0
CallsAstrayNone = (c : AppendCall) (n : ℕ) (items : List ℕ) (first second t : ℕ) → (seen c).request ≡ commits n items first second → (seen c).answer ≡ Ok t
    → (later : List AppendCall) → Grows (seen c).dir (seen c).left t later
    → (x : Read) → Memᴰ x (reads_given items) → Pointed (in_log (left_by (seen c).left t later)) x

-- a cell's version as a reading showed it: not above the replica's position, and never astray, in the log as it stood at any time when
-- its tail was not below it, and after any further appends
pub record Shown (a : Appends) (k : Kept) (o key : ℕ) (held : Option Held) : Type 0 where
  pub past : version_in held ≤ k.replica.position
  pub pointed : (m : ℕ) → version_in held ≤ (log_after a m).tail → (later : List AppendCall) → Grows a.dir (log_after a m).bytes (log_after a m).tail later
      → Pointed (in_log (left_by (log_after a m).bytes (log_after a m).tail later)) (read_of o key held)
  -- so no commit that reads the cell with it is answered 16 for that read
  pub taken : (m : ℕ) → version_in held ≤ (log_after a m).tail → (later : List AppendCall) → Grows a.dir (log_after a m).bytes (log_after a m).tail later
      → (c : AppendCall) (n : ℕ) (items : List ℕ) (first second : ℕ) (before rest : List Read) → (seen c).dir ≡ a.dir → lent_at c ≡ left_by (log_after a m).bytes (log_after a m).tail later
      → (seen c).request ≡ commits n items first second → reads_given items ≡ before ++ read_of o key held ∷ rest
      → tail_in (seen c).answer ≡ refused (record { number = 16; told = some (length before) }) → ⊥

-- every replica of demand 3 shows such versions
abbrev pub CallsShownPasses : Type 0
CallsShownPasses = (a : Appends) (audit : AuditCall a.dir (last_log a)) → audit.call.answer.answer ≡ (Ok tt)
    → (k : Kept) → Opens a k → (last : Kept) → Plays a k last
    → (o key : ℕ) (r : ReadCall a.dir last o key) (held : Option Held) → read_in r.call.answer ≡ done held → Shown a last o key held
