use Rattle.std.proofs.Common.{refl, ap, rules, ◌∙◌, ℕ, ◌*◌}
use Rattle.lists.specs.Rows.{values}
use Rattle.lists.specs.Sets.{ascending}
use Rattle.model.specs.Pricing.{price_size, price_at, price_before, prices_in}
use Rattle.table.specs.Ranges.{all-ascend}
use Rattle.pricing.proofs.prices.are_ascending.Goals as goal

pub returns : goal.returns
unfolding prices_in
returns c =
    let s = c.args.prices.now in
    all-ascend price_before (λ k. price_at s (price_size * k)) c.count.result refl (λ x b q k. search rules) c.all.ensures.ran
    ∙ ap (λ (m : ℕ). ascending price_before (values (λ k. price_at s (price_size * k)) 0 m)) c.count.ensures
