-- The run over the entries of a log, as it is fed their requests: its count is the offset, the writes set aside are those of
-- the scan, it depends on the entries below alone, a cell holds now what it held when the count was its version, and that version is 0 or
-- comes from an entry that stamps the cell.
use Prim.Native.Nat.{ℕ, zero, suc, ◌+◌, ◌<◌}
use mathlib.Core.Path.{◌≡◌, refl, ap, sym, ◌∙◌, subst}
use mathlib.Core.Logic.{◌⊎◌, inl, inr}
use mathlib.Core.Bool.{Bool, true, false, cond, ◌&&◌, ◌||◌}
use mathlib.Core.List.{List, [], ◌∷◌, ◌++◌, append-nil}
use mathlib.Core.Option.{Option, none, some}
use native.Mathlib.Omega.{arith}
use native.Mathlib.Numerals.{add-one}
use borrow.Author.Tests.{eqb-true, eqb-false, eq-eqb, ne_eqb}
use lib.Dec.{eqb}
use Rattle.lists.specs.Sets.{any}
use Rattle.model.specs.Entries.{Write, Held, plain, numbered, Effect, writes, aside, tries, inert, effect, Log, content_of, aside_under, writes_of, of_cell, stamped_by, stamps, commit_at, if_some}
use Rattle.model.specs.Table.{Holds, version_in}
use Rattle.model.specs.Append.{Request, update, commits, decides, saves, writes_given, entry_of}
use Rattle.model.specs.Run.{Run, start, has_version, commits_now, written, made_all, set_aside, accept}
use Rattle.laws.proofs.Agree.{Agree, fewer}

abbrev pub cells_after : ℕ → Run → Effect → Holds
cells_after v s (writes ws) = made_all v ws s.cells
cells_after v s (aside n ws) = s.cells
cells_after v s (tries n c) = cond (commits_now s c) (made_all v (s.aside n) s.cells) s.cells
cells_after v s inert = s.cells

abbrev pub aside_after : Run → Effect → ℕ → List Write
aside_after s (writes ws) = s.aside
aside_after s (aside n ws) = set_aside n ws s.aside
aside_after s (tries n c) = s.aside
aside_after s inert = s.aside

abbrev pub won_after : Run → Effect → ℕ → Bool
won_after s (writes ws) = s.won
won_after s (aside n ws) = s.won
won_after s (tries n c) = λ m. s.won m || (eqb n m && commits_now s c)
won_after s inert = s.won

abbrev pub run_step : ℕ → Run → Effect → Run
run_step v s e = record { count = v; cells = cells_after v s e; aside = aside_after s e; won = won_after s e }

-- the run over the first p entries
pub run : Log → ℕ → Run
run log zero = start
run log (suc p) = run_step (p + 1) (run log p) (effect (log.entry p))

pub run-start : (log : Log) → run log 0 ≡ start
unfolding run
run-start log = refl

pub count-run : (log : Log) (p : ℕ) → (run log p).count ≡ p
unfolding run
count-run log zero = refl
count-run log (suc p) = add-one p

pub aside_run : (log : Log) (n p : ℕ) → (run log p).aside n ≡ writes_of log n p
unfolding run writes_of
aside_run log n zero = refl
aside_run log n (suc p) = go (effect (log.entry p)) (aside_run log n p)
  where
    pick : (b : Bool) (xs ws : List Write) → cond b (xs ++ ws) xs ≡ xs ++ cond b ws []
    pick true xs ws = refl
    pick false xs ws = sym (append-nil xs)

    go : (e : Effect) → (run log p).aside n ≡ writes_of log n p → aside_after (run log p) e n ≡ writes_of log n p ++ aside_under n e
    go (writes ws) h = h ∙ sym (append-nil (writes_of log n p))
    go (aside m ws) h = rw h (pick (eqb m n) (writes_of log n p) ws)
    go (tries m c) h = h ∙ sym (append-nil (writes_of log n p))
    go inert h = h ∙ sym (append-nil (writes_of log n p))

-- one entry more
pub run_more : (log : Log) (p : ℕ) → run log (suc p) ≡ run_step (p + 1) (run log p) (effect (log.entry p))
unfolding run
run_more log p = refl

-- the cells after the entry at p
pub cells-run : (log : Log) (p : ℕ) → (run log (suc p)).cells ≡ cells_after (p + 1) (run log p) (effect (log.entry p))
unfolding run
cells-run log p = refl

pub run_agree : (log log' : Log) (p : ℕ) → Agree log log' p → run log p ≡ run log' p
unfolding run
run_agree log log' zero a = refl
run_agree log log' (suc p) a = rw (run_agree log log' p (fewer log log' (suc p) p (omega arith) a), a p (omega arith))

-- whether the commit record at p commits in the run
abbrev pub commits_at : Log → ℕ → Bool
commits_at log p = if_some (commit_at log p) false (λ c. commits_now (run log p) c.condition)

turned : (a b : ℕ) → eqb a b ≡ eqb b a
turned a b = go (eqb a b) refl
  where
    go : (x : Bool) → eqb a b ≡ x → x ≡ eqb b a
    go true e = sym (eq-eqb b a (sym (eqb-true a b e)))
    go false e = sym (ne_eqb b a (λ q. eqb-false a b e (sym q)))

-- the run's test of a read is the player's
pub version-same : (v : ℕ) (x : Option Held) → eqb (version_in x) v ≡ has_version v x
version-same v none = turned 0 v
version-same v (some h) = turned h.version v

-- ---- fed a request

accept-step : (log : Log) (v : ℕ) (s : Run) (q : Request) → accept v s q ≡ run_step v s (effect (entry_of log q))
unfolding accept entry_of
accept-step log v s (update n items) = go (eqb n 0)
  where
    go : (b : Bool) → cond b (record { count = v; cells = made_all v (writes_given items) s.cells; aside = s.aside; won = s.won })
        (record { count = v; cells = s.cells; aside = set_aside n (writes_given items) s.aside; won = s.won })
        ≡ run_step v s (effect (cond b (plain (writes_given items)) (numbered n (writes_given items))))
    go true = refl
    go false = refl
accept-step log v s (commits n items a b) = refl
accept-step log v s (decides o x) = refl
accept-step log v s (saves r table o) = refl

pub run-next : (log before : Log) (q : Request) (p : ℕ) → log.entry p ≡ entry_of before q → accept ((run log p).count + 1) (run log p) q ≡ run log (suc p)
unfolding run
run-next log before q p e = accept-step before _ (run log p) q ∙ ap (λ (n : ℕ). run_step (n + 1) (run log p) (effect (entry_of before q))) (count-run log p)
    ∙ ap (λ x. run_step (p + 1) (run log p) (effect x)) (sym e)

-- ---- a cell's version tells what it holds

-- y is x, or has the version v, and then the cell was written
data Kept (v : ℕ) (wrote : Bool) (x y : Option Held) : Type 0 where
  kept : y ≡ x → Kept v wrote x y
  made : version_in y ≡ v → wrote ≡ true → Kept v wrote x y

made_kept : (v : ℕ) (ws : List Write) (cells : Holds) (o k : ℕ) → Kept v (any (of_cell o k) ws) (cells o k) (made_all v ws cells o k)
made_kept v [] cells o k = kept refl
made_kept v (w ∷ ws) cells o k = go (of_cell o k w) (made_kept v ws (written v w cells) o k)
  where
    held : Held
    held = record { version = v; content = content_of w }

    go : (b : Bool) → Kept v (any (of_cell o k) ws) (cond b (some held) (cells o k)) (made_all v ws (written v w cells) o k)
        → Kept v (b || any (of_cell o k) ws) (cells o k) (made_all v ws (written v w cells) o k)
    go true (kept e) = made (ap version_in e) refl
    go true (made e i) = made e refl
    go false (kept e) = kept e
    go false (made e i) = made e i

step_kept : (log : Log) (p : ℕ) (e : Effect) (o k : ℕ) → Kept (p + 1) (any (of_cell o k) (stamped_by log p e)) ((run log p).cells o k) (cells_after (p + 1) (run log p) e o k)
step_kept log p (writes ws) o k = made_kept (p + 1) ws (run log p).cells o k
step_kept log p (aside n ws) o k = kept refl
step_kept log p (tries n c) o k = go (commits_now (run log p) c)
  where
    wrote : List Write → Type 0
    wrote ws = Kept (p + 1) (any (of_cell o k) ws) ((run log p).cells o k) (made_all (p + 1) ((run log p).aside n) (run log p).cells o k)

    go : (b : Bool) → Kept (p + 1) (any (of_cell o k) (writes_of log n p)) ((run log p).cells o k) (cond b (made_all (p + 1) ((run log p).aside n) (run log p).cells) (run log p).cells o k)
    go true = subst wrote (aside_run log n p) (made_kept (p + 1) ((run log p).aside n) (run log p).cells o k)
    go false = kept refl
step_kept log p inert o k = kept refl

settled : (log : Log) (p o k : ℕ) → (run log p).cells o k ≡ (run log (version_in ((run log p).cells o k))).cells o k
unfolding run
settled log zero o k = refl
settled log (suc p) o k = go (settled log p o k) (step_kept log p (effect (log.entry p)) o k)
  where
    go : (run log p).cells o k ≡ (run log (version_in ((run log p).cells o k))).cells o k
        → Kept (p + 1) (any (of_cell o k) (stamped_by log p (effect (log.entry p)))) ((run log p).cells o k) ((run log (suc p)).cells o k)
        → (run log (suc p)).cells o k ≡ (run log (version_in ((run log (suc p)).cells o k))).cells o k
    go ih (kept e) = e ∙ ih ∙ ap (λ x. (run log (version_in x)).cells o k) (sym e)
    go ih (made e i) = ap (λ v. (run log v).cells o k) (sym (e ∙ add-one p))

pub same_version : (log : Log) (p q o k : ℕ) → version_in ((run log p).cells o k) ≡ version_in ((run log q).cells o k) → (run log p).cells o k ≡ (run log q).cells o k
same_version log p q o k e = settled log p o k ∙ ap (λ v. (run log v).cells o k) e ∙ sym (settled log q o k)

-- ---- a cell's version is 0, or one more than the offset of an entry below that stamps the cell

abbrev pub From : Log → ℕ → ℕ → ℕ → Option Held → Type 0
From log o k p x = (version_in x ≡ 0) ⊎ ((e : ℕ) × (e < p) × (version_in x ≡ e + 1) × (stamps log e o k ≡ true))

pub from-entry : (log : Log) (p o k : ℕ) → From log o k p ((run log p).cells o k)
unfolding run stamps
from-entry log zero o k = inl refl
from-entry log (suc p) o k = go (from-entry log p o k) (step_kept log p (effect (log.entry p)) o k)
  where
    higher : From log o k p ((run log p).cells o k) → From log o k (suc p) ((run log p).cells o k)
    higher (inl z) = inl z
    higher (inr (e, l, v, s)) = inr (e, omega arith, v, s)

    go : From log o k p ((run log p).cells o k)
        → Kept (p + 1) (any (of_cell o k) (stamped_by log p (effect (log.entry p)))) ((run log p).cells o k) ((run log (suc p)).cells o k)
        → From log o k (suc p) ((run log (suc p)).cells o k)
    go ih (kept e) = subst (From log o k (suc p)) (sym e) (higher ih)
    go ih (made e i) = inr (p, omega arith, e, i)
