-- A row that is no line is passed over. A line's price is sought from the place on: it stands there, or there is none.
use Rattle.pricing.specs.Walks.{step_past, step-lacks, line_at, line-range, step-on}
use Rattle.pricing.proofs.walk.step.Goals as goal

pub returns-then-not-is_summed : goal.returns-then-not-is_summed
returns-then-not-is_summed c = step_past c.args.highest c.requires c.is_summed.ensures c.if-not-is_summed.true

pub returns-then-not-is_at : goal.returns-then-not-is_at
returns-then-not-is_at c =
    step-lacks c.args.highest c.requires c.is_summed.ensures c.if-not-is_summed.false c.seek-k.ensures c.is_at.ensures c.if-not-is_at.true

pub line-line-requires : goal.line-line-requires
line-line-requires c =
    let l = line_at c.args.highest c.requires c.is_summed.ensures c.if-not-is_summed.false c.seek-k.ensures c.is_at.ensures c.if-not-is_at.false in
    line-range c.args.highest c.requires l c.price_at.ensures

pub returns : goal.returns
returns c =
    let l = line_at c.args.highest c.requires c.is_summed.ensures c.if-not-is_summed.false c.seek-k.ensures c.is_at.ensures c.if-not-is_at.false in
    step-on c.args.highest c.requires l c.price_at.ensures c.line-line.ensures.0 c.add.ensures.0 c.add.ensures.1
