-- The bit of the object's place; an object that has none is in no set.
use mathlib.Core.Path.{ap, ◌∙◌}
use Prim.Native.Nat.{ℕ, ◌/◌, ◌^◌}
use native.Mathlib.Omega.{arith}
use lib.Bits.{and_mask}
use lib.Dec.{eqb}
use Rattle.laws.proofs.ByPlace.{few-records}
use Rattle.directory.specs.Sets.{hosted-nowhere, hosted-bit}
use Rattle.directory.proofs.sets.hosts_at.Goals as goal

pub returns-then-count-k : goal.returns-then-count-k
returns-then-count-k c =
    λ o p. hosted-nowhere c.requires p c.args.set (omega (arith, c.count.ensures, c.if-count-k.true))

pub overflow_shr-bit : goal.overflow_shr-bit
overflow_shr-bit c = omega (arith, c.count.ensures, c.if-count-k.false, few-records c.requires)

pub returns : goal.returns
returns c =
    λ o p. ap (λ (b : ℕ). eqb b 1) (and_mask (c.args.set / 2 ^ c.args.k) 1)
    ∙ hosted-bit c.requires p c.args.set (omega (arith, c.count.ensures, c.if-count-k.false))
