-- The hash is of the object and key that the rank is made of.
use mathlib.Core.Path.{ap, ◌∙◌}
use Prim.Native.Nat.{ℕ, ◌-◌}
use native.Mathlib.Omega.{arith}
use lib.Bits.{bit_and}
use Rattle.table.specs.SeekLaws.{head-rank}
use Rattle.table.proofs.seek.head_of.Goals as goal

pub returns : goal.returns
returns c =
    let a = c.args in
    ap (λ (x : ℕ). bit_and x (a.heads - 1)) c.hash.ensures ∙ head-rank a.heads a.id.0 a.key (omega arith)
