-- A play that lacks room stands at an entry that makes more writes than the table has rows free: each write adds at most one cell. By
-- cases of the entry, then by induction over the entries played.
use Prim.Native.Nat.{ℕ, zero, suc, ◌+◌, ◌-◌, ◌<◌}
use mathlib.Core.Path.{◌≡◌, refl, ap, sym}
use mathlib.Core.Logic.{inl, inr}
use mathlib.Core.Bool.{Bool, true, false, cond}
use mathlib.Core.List.{List}
use mathlib.Core.Option.{Option, none, some}
use native.Mathlib.Omega.{arith}
use borrow.Author.Tests.{leb-false}
use lib.Dec.{leb}
use lib.ListN.{length}
use Rattle.lists.specs.Tests.{clash}
use Rattle.lists.specs.Sets.{meets}
use Rattle.model.specs.Objects.{Shape}
use Rattle.model.specs.Entries.{Write, Condition, Entry, plain, numbered, commit, decision, checkpoint, blank, effect, Log, writes_of, header_objects}
use Rattle.model.specs.Table.{Cell, apply}
use Rattle.model.specs.Play.{Played, going, waits, lacks, outcome, make, finish, act, step, and_then, play}
use Rattle.model.specs.Replica.{plainly, left_by}
use Rattle.model.specs.Histories.{is_refused}
use Rattle.model.specs.Terms.{Makes}
use Rattle.model.specs.Worked.{code}
use Rattle.claims.proofs.Cells.{apply-few}

module _ (sh : Shape) (log : Log) (set : List ℕ) (room : ℕ) where
  -- the entry at q makes more writes than there is room for beside n cells
  abbrev Short : ℕ → ℕ → Type 0
  Short q n = (ws : List Write) × Makes log q ws × (room < n + length ws)

  abbrev Lacks : Played → Type 0
  Lacks (going cs) = Unit {0}
  Lacks (waits q cs) = Unit {0}
  Lacks (lacks q cs) = Short q (length cs)

  make-lacks : (p : ℕ) (ws : List Write) (cs : List Cell) → Makes log p ws → Lacks (make set room p ws cs)
  make-lacks p ws cs m = go (leb (length (apply set (p + 1) ws cs)) room) refl
    where
      go : (b : Bool) → leb (length (apply set (p + 1) ws cs)) room ≡ b → Lacks (cond b (going (apply set (p + 1) ws cs)) (lacks p cs))
      go true e = tt
      go false e = (ws, m, omega (arith, leb-false (length (apply set (p + 1) ws cs)) room e, apply-few set (p + 1) ws cs))

  entry-lacks : (p : ℕ) (cs : List Cell) (e : Entry) → log.entry p ≡ e → Lacks (cond (meets set (header_objects log p e)) (act sh log set room p cs (effect e)) (going cs))
  entry-lacks p cs e i = go (meets set (header_objects log p e))
    where
      by : (n : ℕ) (c : Condition) → log.entry p ≡ commit n c → (o : Option Bool) → Lacks (finish set room p (writes_of log n p) cs o)
      by n c j none = tt
      by n c j (some true) = make-lacks p (writes_of log n p) cs (inr (n, c, j, refl))
      by n c j (some false) = tt

      on : (x : Entry) → log.entry p ≡ x → Lacks (act sh log set room p cs (effect x))
      on (plain ws) j = make-lacks p ws cs (inl j)
      on (numbered n ws) j = tt
      on (commit n c) j = by n c j (outcome sh log set p cs c)
      on (decision r) j = tt
      on (checkpoint o ds) j = tt
      on blank j = tt

      go : (b : Bool) → Lacks (cond b (act sh log set room p cs (effect e)) (going cs))
      go true = on e i
      go false = tt

  play-lacks : (p : ℕ) (cs : List Cell) (n : ℕ) → Lacks (play sh log set room p cs n)
  unfolding play step
  play-lacks p cs zero = tt
  play-lacks p cs (suc n) = go (play sh log set room p cs n) (play-lacks p cs n)
    where
      go : (x : Played) → Lacks x → Lacks (and_then x (step sh log set room (p + n)))
      go (going ds) h = entry-lacks (p + n) ds (log.entry (p + n)) refl
      go (waits q ds) h = tt
      go (lacks q ds) h = h

  -- what a play to a stop leaves where it answers 13
  pub left-lacks : (hosting p stop : ℕ) (table : List ℕ) (cs : List Cell) → (left_by hosting stop table (play sh log set room p cs (stop - p))).answer ≡ plainly 13
      → Short (left_by hosting stop table (play sh log set room p cs (stop - p))).replica.position (left_by hosting stop table (play sh log set room p cs (stop - p))).replica.count
  left-lacks hosting p stop table cs = go (play sh log set room p cs (stop - p)) (play-lacks p cs (stop - p))
    where
      go : (x : Played) → Lacks x → (left_by hosting stop table x).answer ≡ plainly 13 → Short (left_by hosting stop table x).replica.position (left_by hosting stop table x).replica.count
      go (going ds) h e = clash true refl (ap is_refused (sym e))
      go (waits q ds) h e = absurd (let n : 12 ≡ 13 = ap code e in omega arith)
      go (lacks q ds) h e = h
