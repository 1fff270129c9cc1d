-- What the program does at a commit record: the replica that it plays to it; the test of each read, of which the first that fails tells
-- the outcome, and of each number named; and the number that it keeps where the transaction commits.
use Rattle.std.specs.Prelude.{◌≡◌, refl, Bool, true, false, cond, not, ◌&&◌, List, [], ◌∷◌, ℕ, zero, suc, ◌+◌, ◌*◌, ◌≤◌, ◌<◌, eqb, length, set}
use Rattle.std.proofs.Common.{ap, ◌∙◌, add-one}
use Rattle.std.specs.List.{list_all, range_with_len}
use Rattle.lists.specs.Sets.{all, mem, within}
use Rattle.lists.specs.Tests.{and-true}
use Rattle.lists.specs.Rows.{values}
use Rattle.model.specs.Directory.{shape_of}
use Rattle.model.specs.Entries.{Read, Log, unless_zero, named}
use Rattle.model.specs.Slot.{read_at, item_size}
use Rattle.model.specs.Table.{Holds, version_in, cells_of, lookup}
use Rattle.model.specs.Play.{commits_over}
use Rattle.model.specs.Answers.{Answer, done, refused}
use Rattle.model.specs.Reading.{Info, item_list}
use Rattle.model.specs.Append.{Replica, reads_given, condition_given, bad_record}
use Rattle.model.specs.Replica.{play_call}
use Rattle.codec.specs.Marks.{kind_of}
use Rattle.codec.specs.declared.marks.Mark.{Mark}
use Rattle.codec.specs.declared.marks.Mark.TheVariants.{Update, Commit, Decision, Checkpoint, Bad}
use Rattle.laws.specs.Ruled.{Ruled}
use Rattle.codec.specs.Eight.{slot_size}
use Rattle.table.specs.Order.{Ordered}
use Rattle.slot.specs.Fields.{read_in}
use Rattle.slot.specs.declared.fields.Read as code

-- the read's version is the cell's present version
abbrev pub current : Holds → Read → Bool
current cells r = eqb (version_in (cells r.object r.key)) r.version

pub read_current : (cells : Holds) (s : List ℕ) (i : ℕ) (r : code.Read) {v : ℕ} → r ≡ read_in s i → v ≡ version_in (cells r.object.0 r.key)
    → eqb v r.version.0 ≡ current cells (read_at s i)
unfolding read_in
read_current cells s i r e f =
    ap (λ (v : ℕ). eqb v r.version.0) f ∙ ap (λ (x : code.Read). eqb (version_in (cells x.object.0 x.key)) x.version.0) e

-- what the test of the read at place k asks
pub record ReadGiven (table : List ℕ) (count : ℕ) (items : List ℕ) (k : ℕ) : Type 0 where
  pub cells : Ordered table count
  pub read : item_size * k + item_size ≤ length items

-- the most entries of a log
abbrev pub most : ℕ
most = 256

-- what the line of the entry at p asks
pub record LineGiven (d : List ℕ) (p : ℕ) : Type 0 where
  pub ruled : Ruled d
  pub few : p < most

-- what all lines of a log with this tail ask
pub record LinesGiven (d : List ℕ) (tail : ℕ) : Type 0 where
  pub ruled : Ruled d
  pub few : tail ≤ most

-- what the report on a log asks
pub record Reportable (d log : List ℕ) : Type 0 where
  pub ruled : Ruled d
  pub short : length log ≤ slot_size * most

-- ---- where the program stands

-- a replica, its table, and the numbers that committed, each at its commit record's offset, with 0 at the others
pub record Stand : Type 0 where
  pub replica : Replica
  pub table : List ℕ
  pub won : List ℕ

pub not-commit : (m : Mark) → (m ≡ Commit → ⊥) → eqb (kind_of m) (kind_of Commit) ≡ false
not-commit Update h = refl
not-commit Commit h = absurd (h refl)
not-commit Decision h = refl
not-commit Checkpoint h = refl
not-commit Bad h = refl

module _ (d : List ℕ) (log : Log) (p : ℕ) where
  -- the replica played to p
  abbrev pub played_to : Stand → Stand
  played_to s = record {
    replica = (play_call (shape_of d) log s.replica s.table p).replica;
    table = (play_call (shape_of d) log s.replica s.table p).table;
    won = s.won;
  }

  -- the commit record at p, of which the entry call tells i, commits over the replica's cells and the numbers kept
  abbrev pub commits_here : Info → Stand → Bool
  commits_here i s =
      not (bad_record (shape_of d) s.replica s.table)
      && commits_over (lookup (cells_of s.table s.replica.count)) s.won (condition_given (item_list (shape_of d) log p) i.first i.second)

  -- its number is kept where it does
  abbrev pub crossed : Info → Stand → Stand
  crossed i s = record { replica = s.replica; table = s.table; won = cond (commits_here i s) (set s.won p i.number) s.won }

  -- at the entry at p, of which the entry call tells this: only a commit record changes anything
  abbrev pub met_at : Answer Info → Stand → Stand
  met_at (done i) s = cond (eqb i.kind (kind_of Commit)) (crossed i (played_to s)) s
  met_at (refused r) s = s

-- ---- whether it commits

-- a test of the value at each index of a range is the test of each value
module _ {A : Type 0} (f : A → Bool) (g : ℕ → A) where
  pub range-values : (i n : ℕ) → list_all (λ k. f (g k)) (range_with_len i n) ≡ all f (values g i n)
  unfolding values
  range-values i zero = refl
  range-values i (suc n) = ap (λ (b : Bool). f (g i) && b) (ap (λ (k : ℕ). list_all (λ k. f (g k)) (range_with_len k n)) (add-one i) ∙ range-values (suc i) n)

-- two numbers are met where each is
pub both_met : (won items : List ℕ) (a b : ℕ) {x y : Bool} → x ≡ within won (unless_zero a []) → y ≡ within won (unless_zero b []) → (x && y) ≡ within won (named (condition_given items a b))
unfolding named
both_met won items a b e f = (λ j. e j && f j) ∙ go (eqb a 0)
  where
    go : (t : Bool) → (within won (cond t [] (a ∷ [])) && within won (unless_zero b [])) ≡ within won (cond t (unless_zero b []) (a ∷ unless_zero b []))
    go true = refl
    go false = ap (λ (t : Bool). t && within won (unless_zero b [])) (and-true (mem a won))

-- the record's test, the reads and the names decide
pub outcome_is : (cells : Holds) (won items : List ℕ) (a b : ℕ) {f g x y : Bool} → f ≡ g → x ≡ all (current cells) (reads_given items) → y ≡ within won (named (condition_given items a b))
    → (f && (x && y)) ≡ (g && commits_over cells won (condition_given items a b))
unfolding commits_over
outcome_is cells won items a b d e f = λ j. d j && (e j && f j)
