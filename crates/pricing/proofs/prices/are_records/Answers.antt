use Rattle.std.proofs.Common.{refl, ap, rules, ◌∙◌, ℕ, ◌*◌}
use Rattle.lists.specs.Rows.{values}
use Rattle.lists.specs.Sets.{all}
use Rattle.model.specs.Pricing.{price_size, ok_price}
use Rattle.table.specs.Ranges.{all-values}
use Rattle.pricing.proofs.prices.are_records.Goals as goal

pub returns : goal.returns
returns c =
    let s = c.args.prices.now in
    all-values (ok_price s) (λ k. price_size * k) c.count.result refl (λ x b q k. search rules) c.all.ensures.ran
    ∙ ap (λ (m : ℕ). all (ok_price s) (values (λ k. price_size * k) 0 m)) c.count.ensures
