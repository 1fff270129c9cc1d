-- Each test's answer in turn; then the rows of the map.
use Rattle.std.proofs.Common.{refl, sym, ◌∙◌}
use Rattle.model.specs.Directory.{shape_of}
use Rattle.records.specs.Record.{cells-ordered}
use Rattle.pricing.specs.Calls.{unfit, fit, price-tested, price-asked}
use Rattle.pricing.proofs.call.price_ruled.Goals as goal

pub returns-then-not-fits : goal.returns-then-not-fits
returns-then-not-fits c =
    let a = c.args in
    price-tested c.requires a.r a.table.now a.id.0 a.prices.now (unfit c.fits.ensures c.if-not-fits.true) refl refl refl

pub returns-then-not-hosts : goal.returns-then-not-hosts
returns-then-not-hosts c =
    let a = c.args in
    price-tested c.requires a.r a.table.now a.id.0 a.prices.now (fit c.fits.ensures c.if-not-fits.false) (sym c.if-not-hosts.true ∙ c.hosts.ensures) refl refl

pub returns-then-not-is_map : goal.returns-then-not-is_map
returns-then-not-is_map c =
    let a = c.args in
    price-tested c.requires a.r a.table.now a.id.0 a.prices.now (fit c.fits.ensures c.if-not-fits.false) (sym c.if-not-hosts.false ∙ c.hosts.ensures)
    (sym c.if-not-is_map.true ∙ c.is_map.ensures) refl

pub returns-then-are_bad : goal.returns-then-are_bad
returns-then-are_bad c =
    let a = c.args in
    price-tested c.requires a.r a.table.now a.id.0 a.prices.now (fit c.fits.ensures c.if-not-fits.false) (sym c.if-not-hosts.false ∙ c.hosts.ensures)
    (sym c.if-not-is_map.false ∙ c.is_map.ensures) (sym c.if-are_bad.true ∙ c.are_bad.ensures)

pub sum_up-requires : goal.sum_up-requires
sum_up-requires c =
    let a = c.args in
    record {
      map = record { ruled = c.requires; map = sym c.is_map.ensures ∙ c.if-not-is_map.false };
      ordered = cells-ordered (shape_of a.dir.now) a.r a.table.now (sym (fit c.fits.ensures c.if-not-fits.false));
      good = sym c.are_bad.ensures ∙ c.if-are_bad.false;
    }

pub returns : goal.returns
returns c =
    let a = c.args in
    c.sum_up.ensures
    ∙ price-asked c.requires a.r a.table.now a.id.0 a.prices.now (fit c.fits.ensures c.if-not-fits.false) (sym c.if-not-hosts.false ∙ c.hosts.ensures)
    (sym c.if-not-is_map.false ∙ c.is_map.ensures) (sym c.if-are_bad.false ∙ c.are_bad.ensures)
