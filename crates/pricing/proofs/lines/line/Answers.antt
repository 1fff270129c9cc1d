-- What the line is made from fits 64 bits, since the price is bounded (`laws` Prices).
use Rattle.std.proofs.Common.{ℕ, ◌-◌, ◌*◌, ◌^◌, ◌≤◌, ◌<◌, arith}
use Rattle.std.proofs.lemmas.Bool.{le-leb, lt-leb}
use Rattle.model.specs.Pricing.{most_percent}
use Rattle.laws.proofs.Prices.{most_line, full-most, lowered-most}
use Rattle.pricing.specs.declared.prices.Price.{Price}
use Rattle.pricing.specs.Prices.{InRange}
use Rattle.pricing.proofs.lines.line.Goals as goal

full : (q : ℕ) (p : Price) → q < 2 ^ 32 → InRange p → q * p.cents ≤ most_line
full q p l r = full-most q p.cents l r.cents

lowered : (q : ℕ) (p : Price) → q < 2 ^ 32 → InRange p → q * p.cents * (most_percent - p.percent) ≤ most_line * 100
lowered q p l r = lowered-most q p.cents l r.cents (most_percent - p.percent) (omega arith)

pub overflow_mul-full : goal.overflow_mul-full
overflow_mul-full c = let a = c.args in omega (arith, full a.q a.p (omega arith) c.requires)

pub returns-then-q-p : goal.returns-then-q-p
returns-then-q-p c =
    let a = c.args in
    (rw (lt-leb a.p.from a.q c.if-q-p.true), full a.q a.p (omega arith) c.requires)

pub overflow_mul-result : goal.overflow_mul-result
overflow_mul-result c = let a = c.args in omega (arith, lowered a.q a.p (omega arith) c.requires)

pub overflow_add-result : goal.overflow_add-result
overflow_add-result c = let a = c.args in omega (arith, lowered a.q a.p (omega arith) c.requires)

pub returns : goal.returns
returns c =
    let a = c.args in
    (rw (le-leb a.p.from a.q c.if-q-p.false), omega (arith, lowered a.q a.p (omega arith) c.requires))
