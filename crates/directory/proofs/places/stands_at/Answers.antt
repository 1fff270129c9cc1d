-- A place past the last is none; else the id there is compared.
use mathlib.Core.Path.{ap}
use Prim.Native.Nat.{ℕ, ◌≤◌, ◌<◌}
use native.Mathlib.Omega.{arith}
use lib.Dec.{eqb}
use borrow.Author.Tests.{lt-ltb, le-ltb}
use Rattle.laws.specs.Ruled.{records}
use Rattle.directory.proofs.places.stands_at.Goals as goal

pub returns-then-count-k : goal.returns-then-count-k
returns-then-count-k c =
    let a = c.args in
    let past : records a.dir.now ≤ a.k = omega (arith, c.count.ensures, c.if-count-k.true) in
    rw (le-ltb a.k (records a.dir.now) past)

pub returns : goal.returns
returns c =
    let a = c.args in
    let among : a.k < records a.dir.now = omega (arith, c.count.ensures, c.if-count-k.false) in
    rw (lt-ltb a.k (records a.dir.now) among) (ap (λ (v : ℕ). eqb v a.id.0) c.id_at.ensures)
