-- The loop goes past keys that are below, and ends at the first that is not.
use Rattle.pricing.specs.Prices.{Under}
use Rattle.pricing.proofs.prices.seek.Given as goal

abbrev pub invariant-loop-k : goal.invariant-loop-k
invariant-loop-k l = Under l.prices l.k l.key
