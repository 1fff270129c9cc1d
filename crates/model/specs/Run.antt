-- The one-by-one run (specification §12).
use Rattle.std.specs.Prelude.{ℕ, ◌+◌, Bool, true, false, cond, ◌&&◌, ◌||◌, List, [], ◌∷◌, ◌++◌, eqb}
use Rattle.std.proofs.Math.Option.{Option, none, some}
use Rattle.lists.specs.Sets.{all}
use Rattle.model.specs.Entries.{Write, Read, Held, Condition, content_of, named}
use Rattle.model.specs.Table.{Holds}
use Rattle.model.specs.Append.{Request, update, commits, decides, saves, writes_given, condition_given}

-- what the run is fed: an append's arguments, and whether it was refused (12.1)
pub record Fed : Type 0 where
  pub request : Request
  pub was_refused : Bool

-- the count of accepted appends, the cells, the writes set aside under each number, and which numbers have committed
pub record Run : Type 0 where
  pub count : ℕ
  pub cells : Holds
  pub aside : ℕ → List Write
  pub won : ℕ → Bool

-- its state at the start (12.2)
abbrev pub start : Run
start = record { count = 0; cells = λ o k. none; aside = λ n. []; won = λ n. false }

-- a cell's version in the run: 0 where it was never written
abbrev pub has_version : ℕ → Option Held → Bool
has_version v none = eqb v 0
has_version v (some h) = eqb v h.version

-- no read differs from its cell's version (12.5)
abbrev pub current : Holds → List Read → Bool
current cells [] = true
current cells (r ∷ rs) = has_version r.version (cells r.object r.key) && current cells rs

-- a commit goes through: no read differs, and each number named has committed (12.5)
abbrev pub commits_now : Run → Condition → Bool
commits_now s c = current s.cells c.reads && all s.won (named c)

-- one write made, with the count as version
abbrev pub written : ℕ → Write → Holds → Holds
written count w cells o k = cond (eqb w.object o && eqb w.key k) (some (record { version = count; content = content_of w })) (cells o k)

-- writes made in order (12.4)
abbrev pub made_all : ℕ → List Write → Holds → Holds
made_all count [] cells = cells
made_all count (w ∷ ws) cells = made_all count ws (written count w cells)

-- writes set aside after the earlier ones of their number (12.4)
abbrev pub set_aside : ℕ → List Write → (ℕ → List Write) → ℕ → List Write
set_aside n ws before m = cond (eqb n m) (before m ++ ws) (before m)

-- an accepted append at the count it raised
unfoldable pub accept : ℕ → Run → Request → Run
accept count s (update n items) = cond (eqb n 0)
    (record { count = count; cells = made_all count (writes_given items) s.cells; aside = s.aside; won = s.won })
    (record { count = count; cells = s.cells; aside = set_aside n (writes_given items) s.aside; won = s.won })
accept count s (commits n items a b) = record {
  count = count;
  cells = cond (commits_now s (condition_given items a b)) (made_all count (s.aside n) s.cells) s.cells;
  aside = s.aside;
  won = λ m. s.won m || (eqb n m && commits_now s (condition_given items a b));
}
accept count s (decides o v) = record { count = count; cells = s.cells; aside = s.aside; won = s.won }
accept count s (saves r table o) = record { count = count; cells = s.cells; aside = s.aside; won = s.won }

-- what the run had at count p (12.3, 12.7)
unfoldable pub run_at : ℕ → Run → List Fed → Run
run_at p s [] = s
run_at p s (f ∷ fs) = cond f.was_refused (run_at p s fs) (cond (eqb s.count p) s (run_at p (accept (s.count + 1) s f.request) fs))
