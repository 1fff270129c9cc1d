-- What the writes of every entry keep of a table's cells, a play keeps: rows stay in order, and none goes. By induction over the
-- entries played; an entry that does not write leaves the cells as they are.
use Prim.Native.Nat.{ℕ, zero, suc, ◌+◌, ◌<◌, ◌≤◌}
use mathlib.Core.Path.{◌≡◌, refl}
use mathlib.Core.Bool.{Bool, true, false, cond}
use mathlib.Core.List.{List}
use mathlib.Core.Option.{Option, none, some}
use native.Mathlib.Omega.{arith}
use lib.Dec.{leb}
use lib.ListN.{length}
use Rattle.lists.specs.Sets.{meets}
use Rattle.model.specs.Objects.{Shape}
use Rattle.model.specs.Entries.{Write, Effect, writes, aside, tries, inert, effect, Log, writes_of, header_objects}
use Rattle.model.specs.Table.{Cell, in_order, apply}
use Rattle.model.specs.Play.{Played, going, waits, lacks, cells_in, version_at, outcome, make, finish, act, step, and_then, play}
use Rattle.laws.proofs.Ordered.{ordered-apply, apply-grows}

module _ (sh : Shape) (log : Log) (set : List ℕ) (room : ℕ) (Keeps : List Cell → Type 0) where
  -- the writes that the entry at p can make keep it
  pub record Keeping (p : ℕ) : Type 0 where
    pub now : (ws : List Write) → effect (log.entry p) ≡ writes ws → (cs : List Cell) → Keeps cs → Keeps (apply set (version_at p) ws cs)
    pub late : (n : ℕ) (cs : List Cell) → Keeps cs → Keeps (apply set (version_at p) (writes_of log n p) cs)

  make-keeps : (p : ℕ) (ws : List Write) (cs : List Cell) → Keeps (apply set (version_at p) ws cs) → Keeps cs → Keeps (cells_in (make set room p ws cs))
  make-keeps p ws cs a k = go (leb (length (apply set (version_at p) ws cs)) room)
    where
      go : (b : Bool) → Keeps (cells_in (cond b (going (apply set (version_at p) ws cs)) (lacks p cs)))
      go true = a
      go false = k

  step_keeps : (p : ℕ) → Keeping p → (cs : List Cell) → Keeps cs → Keeps (cells_in (step sh log set room p cs))
  unfolding step
  step_keeps p w cs k = go (meets set (header_objects log p (log.entry p)))
    where
      by : (n : ℕ) (v : Option Bool) → Keeps (cells_in (finish set room p (writes_of log n p) cs v))
      by n none = k
      by n (some true) = make-keeps p (writes_of log n p) cs (w.late n cs k) k
      by n (some false) = k

      on : (e : Effect) → effect (log.entry p) ≡ e → Keeps (cells_in (act sh log set room p cs e))
      on (writes ws) e = make-keeps p ws cs (w.now ws e cs k) k
      on (aside n ws) e = k
      on (tries n c) e = by n (outcome sh log set p cs c)
      on inert e = k

      go : (b : Bool) → Keeps (cells_in (cond b (act sh log set room p cs (effect (log.entry p))) (going cs)))
      go true = on (effect (log.entry p)) refl
      go false = k

  pub play-keeps : (p : ℕ) (cs : List Cell) (n : ℕ) → ((q : ℕ) → q < p + n → Keeping q) → Keeps cs → Keeps (cells_in (play sh log set room p cs n))
  unfolding play
  play-keeps p cs zero w k = k
  play-keeps p cs (suc n) w k = go (play sh log set room p cs n) (play-keeps p cs n (λ q l. w q (omega arith)) k)
    where
      go : (x : Played) → Keeps (cells_in x) → Keeps (cells_in (and_then x (step sh log set room (p + n))))
      go (going ds) i = step_keeps (p + n) (w (p + n) (omega arith)) ds i
      go (waits q ds) i = i
      go (lacks q ds) i = i

pub ordered-play : (sh : Shape) (log : Log) (set : List ℕ) (room p : ℕ) (cs : List Cell) (n : ℕ) → in_order cs ≡ true → in_order (cells_in (play sh log set room p cs n)) ≡ true
ordered-play sh log set room p cs n a =
    play-keeps sh log set room (λ ds. in_order ds ≡ true) p cs n
    (λ q l. record { now = λ ws e ds i. ordered-apply set (version_at q) ws ds i; late = λ m ds i. ordered-apply set (version_at q) (writes_of log m q) ds i }) a

pub play-grows : (sh : Shape) (log : Log) (set : List ℕ) (room p : ℕ) (cs : List Cell) (n : ℕ) → length cs ≤ length (cells_in (play sh log set room p cs n))
play-grows sh log set room p cs n =
    play-keeps sh log set room (λ ds. length cs ≤ length ds) p cs n
    (λ q l. record { now = λ ws e ds i. omega (arith, apply-grows set (version_at q) ws ds); late = λ m ds i. omega (arith, apply-grows set (version_at q) (writes_of log m q) ds) }) (omega arith)
