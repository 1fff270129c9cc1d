-- The cells that the run has written only become more: no entry makes a cell one that was never written. By induction over the
-- writes, the entries, the keys and the directory.
use Prim.Native.Nat.{ℕ, zero, suc, ◌+◌, ◌-◌, ◌≤◌}
use mathlib.Core.Path.{◌≡◌, refl, ap, sym, ◌∙◌}
use mathlib.Core.Bool.{Bool, true, false, cond, ◌&&◌}
use mathlib.Core.List.{List, [], ◌∷◌}
use mathlib.Core.Option.{some}
use native.Mathlib.Omega.{arith}
use native.Mathlib.Nat.{add-suc, add-zero}
use lib.Dec.{eqb}
use Rattle.lists.specs.Tests.{clash}
use Rattle.lists.specs.Sets.{mem}
use Rattle.model.specs.Objects.{Object}
use Rattle.model.specs.Entries.{Write, Held, Effect, writes, aside, tries, inert, effect, Log, is_none}
use Rattle.model.specs.Table.{Holds}
use Rattle.model.specs.Run.{Run, written, made_all, commits_now}
use Rattle.model.specs.Histories.{keys_written, cells_written}
use Rattle.claims.proofs.Runs.{cells_after, run, cells-run}

-- what was written in the first cells is written in the second
abbrev Keeps : Holds → Holds → Type 0
Keeps cells later = (o k : ℕ) → is_none (later o k) ≡ true → is_none (cells o k) ≡ true

-- ---- the run

made-keeps : (v : ℕ) (ws : List Write) (cells : Holds) → Keeps cells (made_all v ws cells)
made-keeps v [] cells o k h = h
made-keeps v (w ∷ ws) cells o k h = go (eqb w.object o && eqb w.key k) _ (made-keeps v ws (written v w cells) o k h)
  where
    go : (b : Bool) (x : Held) → is_none (cond b (some x) (cells o k)) ≡ true → is_none (cells o k) ≡ true
    go true x e = clash false e refl
    go false x e = e

step_keeps : (v : ℕ) (s : Run) (e : Effect) → Keeps s.cells (cells_after v s e)
step_keeps v s (writes ws) o k h = made-keeps v ws s.cells o k h
step_keeps v s (aside n ws) o k h = h
step_keeps v s (tries n c) o k h = go (commits_now s c) h
  where
    go : (b : Bool) → is_none (cond b (made_all v (s.aside n) s.cells) s.cells o k) ≡ true → is_none (s.cells o k) ≡ true
    go true e = made-keeps v (s.aside n) s.cells o k e
    go false e = e
step_keeps v s inert o k h = h

run-keeps : (log : Log) (p n : ℕ) → Keeps (run log p).cells (run log (p + n)).cells
run-keeps log p zero o k h = rw add-zero at h
run-keeps log p (suc n) o k h =
    run-keeps log p n o k (step_keeps (p + n + 1) (run log (p + n)) (effect (log.entry (p + n))) o k
    (sym (ap (λ (c : Holds). is_none (c o k)) (cells-run log (p + n))) ∙ (rw add-suc at h)))

-- ---- how many

keys-more : (cells later : Holds) (o n : ℕ) → Keeps cells later → keys_written cells o n ≤ keys_written later o n
keys-more cells later o zero h = omega arith
keys-more cells later o (suc n) h = go (is_none (cells o n)) (is_none (later o n)) refl refl (keys-more cells later o n h)
  where
    go : (a b : Bool) → is_none (cells o n) ≡ a → is_none (later o n) ≡ b → keys_written cells o n ≤ keys_written later o n
        → cond a (keys_written cells o n) (keys_written cells o n + 1) ≤ cond b (keys_written later o n) (keys_written later o n + 1)
    go true true p q l = l
    go true false p q l = omega arith
    go false true p q l = clash (is_none (cells o n)) (h o n q) p
    go false false p q l = omega arith

written-more : (bs : List Object) (set : List ℕ) (cells later : Holds) → Keeps cells later → cells_written bs set cells ≤ cells_written bs set later
written-more [] set cells later h = omega arith
written-more (b ∷ bs) set cells later h = go (mem b.id set) (keys-more cells later b.id (suc b.highest) h) (written-more bs set cells later h)
  where
    go : (m : Bool) → keys_written cells b.id (suc b.highest) ≤ keys_written later b.id (suc b.highest) → cells_written bs set cells ≤ cells_written bs set later
        → cond m (keys_written cells b.id (suc b.highest)) 0 + cells_written bs set cells ≤ cond m (keys_written later b.id (suc b.highest)) 0 + cells_written bs set later
    go true l ih = omega arith
    go false l ih = omega arith

pub written_grows : (bs : List Object) (set : List ℕ) (log : Log) (p q : ℕ) → p ≤ q → cells_written bs set (run log p).cells ≤ cells_written bs set (run log q).cells
written_grows bs set log p q l =
    let s : p + (q - p) ≡ q = omega arith in
    rw s at (written-more bs set (run log p).cells (run log (p + (q - p))).cells (run-keeps log p (q - p)))
