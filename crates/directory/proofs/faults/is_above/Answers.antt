-- The first place follows by itself; any other is compared with the one before it.
use mathlib.Core.Path.{ap₂, sym, ◌∙◌}
use native.Mathlib.Omega.{arith}
use lib.Dec.{ltb}
use Rattle.directory.specs.Faults.{follows-none, follows-at}
use Rattle.directory.proofs.faults.is_above.Goals as goal

pub returns-then-k-eq0 : goal.returns-then-k-eq0
returns-then-k-eq0 c = let a = c.args in sym (follows-none a.dir.now a.k c.if-k-eq0.true)

pub returns : goal.returns
returns c =
    let a = c.args in
    ap₂ ltb c.id_at.ensures c.id_at-2.ensures ∙ sym (follows-at a.dir.now a.k (omega (arith, c.if-k-eq0.false)))
