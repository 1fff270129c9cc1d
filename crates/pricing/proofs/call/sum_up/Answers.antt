-- The rows of the map are a stretch of the table, whose keys rise; the walk over them is the model's over the table.
use mathlib.Core.Path.{◌∙◌}
use Rattle.pricing.specs.Calls.{walk-given, summed-up}
use Rattle.pricing.proofs.call.sum_up.Goals as goal

pub walk-requires : goal.walk-requires
walk-requires c = walk-given c.requires c.stretch_of-s.ensures

pub returns : goal.returns
returns c =
    let a = c.args in
    c.walk.ensures ∙ summed-up a.dir.now a.table.now a.count a.id.0 c.highest_of-highest.result a.prices.now c.stretch_of-s.ensures c.highest_of-highest.ensures
