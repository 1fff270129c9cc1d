-- A fault of the directory is the answer; without one the call's own tests decide.
use Rattle.std.proofs.Common.{sym}
use Rattle.std.proofs.lemmas.Result.{err_from_is_err_and}
use Rattle.answers.specs.Refusals.{directed-done}
use Rattle.pricing.specs.Calls.{price-directory}
use Rattle.pricing.proofs.call.price.Goals as goal

pub returns-in_err-directed : goal.returns-in_err-directed
returns-in_err-directed c =
    let a = c.args in
    let p = err_from_is_err_and c.from_residual.result c.from_residual.ensures.1 in
    rw (p.1, p.2) (sym (price-directory a.dir.now a.r a.table.now a.id.0 a.prices.now _ _ c.directed.ensures c.in_err-directed.was))

pub price_ruled-requires : goal.price_ruled-requires
price_ruled-requires c = directed-done c.args.dir.now _ c.directed.ensures _ c.in_ok-directed.was
