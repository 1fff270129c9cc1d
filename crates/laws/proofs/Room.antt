-- A play never needs more cells than the table has room for, since each step tests the room before it writes; and a table stored with
-- cells that fit is as long as it was.
use Prim.Native.Nat.{ℕ, zero, suc, ◌+◌, ◌*◌, ◌≤◌}
use mathlib.Core.Path.{◌≡◌, refl}
use mathlib.Core.Bool.{Bool, true, false, cond}
use mathlib.Core.List.{List}
use mathlib.Core.Option.{Option, none, some}
use native.Mathlib.Omega.{arith}
use borrow.Author.Tests.{leb-true}
use lib.Dec.{leb}
use lib.ListN.{length, drop, length-append, length-drop}
use Rattle.lists.specs.Rows.{joined}
use Rattle.lists.specs.Sets.{meets}
use Rattle.model.specs.Objects.{Shape}
use Rattle.model.specs.Entries.{Write, Effect, writes, aside, tries, inert, effect, Log, writes_of, header_objects}
use Rattle.model.specs.Table.{Cell, cell_bytes, table_with, capacity, apply, cell_size}
use Rattle.model.specs.Play.{Played, going, waits, lacks, cells_in, version_at, outcome, make, finish, act, step, and_then, play}
use Rattle.laws.proofs.Tables.{length-stored}

module _ (sh : Shape) (log : Log) (set : List ℕ) (room : ℕ) where
  make-fits : (p : ℕ) (ws : List Write) (cs : List Cell) → length cs ≤ room → length (cells_in (make set room p ws cs)) ≤ room
  make-fits p ws cs h = go (apply set (version_at p) ws cs) (leb (length (apply set (version_at p) ws cs)) room) refl
    where
      go : (new : List Cell) (b : Bool) → leb (length new) room ≡ b → length (cells_in (cond b (going new) (lacks p cs))) ≤ room
      go new true e = leb-true (length new) room e
      go new false e = h

  finish-fits : (p : ℕ) (ws : List Write) (cs : List Cell) (v : Option Bool) → length cs ≤ room → length (cells_in (finish set room p ws cs v)) ≤ room
  finish-fits p ws cs none h = h
  finish-fits p ws cs (some true) h = make-fits p ws cs h
  finish-fits p ws cs (some false) h = h

  act-fits : (p : ℕ) (cs : List Cell) (e : Effect) → length cs ≤ room → length (cells_in (act sh log set room p cs e)) ≤ room
  act-fits p cs (writes ws) h = make-fits p ws cs h
  act-fits p cs (aside n ws) h = h
  act-fits p cs (tries n c) h = finish-fits p (writes_of log n p) cs (outcome sh log set p cs c) h
  act-fits p cs inert h = h

  step_fits : (p : ℕ) (cs : List Cell) → length cs ≤ room → length (cells_in (step sh log set room p cs)) ≤ room
  unfolding step
  step_fits p cs h = go (meets set (header_objects log p (log.entry p)))
    where
      go : (b : Bool) → length (cells_in (cond b (act sh log set room p cs (effect (log.entry p))) (going cs))) ≤ room
      go true = act-fits p cs (effect (log.entry p)) h
      go false = h

  pub play-fits : (p : ℕ) (cs : List Cell) (n : ℕ) → length cs ≤ room → length (cells_in (play sh log set room p cs n)) ≤ room
  unfolding play
  play-fits p cs zero h = h
  play-fits p cs (suc n) h = go (play sh log set room p cs n) (play-fits p cs n h)
    where
      go : (x : Played) → length (cells_in x) ≤ room → length (cells_in (and_then x (step sh log set room (p + n)))) ≤ room
      go (going cs) h = step_fits (p + n) cs h
      go (waits q cs) h = h
      go (lacks q cs) h = h

pub length-with : (t : List ℕ) (cs : List Cell) → length cs ≤ capacity t → length (table_with t cs) ≡ length t
unfolding table_with
length-with t cs h = omega (arith, length-append (joined cell_bytes cs) (drop (cell_size * length cs) t), length-stored cs, length-drop (cell_size * length cs) t)
