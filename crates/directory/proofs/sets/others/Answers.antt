-- The lowest bit is that of the first object.
use mathlib.Core.Path.{refl, ap, sym}
use native.Mathlib.Omega.{arith}
use Rattle.directory.specs.Sets.{others_of, others-none, others-of}
use Rattle.directory.proofs.sets.others.Goals as goal

pub returns-then-set-eq0 : goal.returns-then-set-eq0
returns-then-set-eq0 c = (ap others_of (sym c.if-set-eq0.true), λ d r l. others-none d c.args.set c.if-set-eq0.true)

pub returns : goal.returns
returns c = (refl, λ d r l. others-of d r c.args.set l (omega (arith, c.if-set-eq0.false)))
