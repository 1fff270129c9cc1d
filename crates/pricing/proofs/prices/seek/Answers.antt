use Rattle.std.proofs.Common.{arith}
use Rattle.pricing.specs.Prices.{under_more, sought-here, sought-end}
use Rattle.pricing.proofs.prices.seek.Goals as goal

pub returns-then-key-key_at : goal.returns-then-key-key_at
returns-then-key-key_at c = sought-here c.loop-k.invariant (omega arith)

pub loop-k-preserved : goal.loop-k-preserved
loop-k-preserved c = under_more c.loop-k.invariant (omega arith) (omega arith)

pub returns : goal.returns
returns c = sought-end c.loop-k.invariant c.count-n.ensures c.loop-k-test.false
