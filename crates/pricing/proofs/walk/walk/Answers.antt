use Rattle.std.proofs.Common.{arith}
use Rattle.std.proofs.lemmas.Result.{err_from_is_err_and}
use Rattle.pricing.specs.Walks.{walking-none, step_given, walking_on, walking-lacks, walking-all}
use Rattle.pricing.proofs.walk.walk.Goals as goal

pub loop-i-init : goal.loop-i-init
loop-i-init c =
    let a = c.args in
    walking-none a.table.now a.first a.n a.highest a.prices.now

pub row_at-r-requires : goal.row_at-r-requires
row_at-r-requires c = omega (arith, c.requires.room)

pub step-requires : goal.step-requires
step-requires c =
    let a = c.args in
    step_given a.table.now a.first a.n a.highest a.prices.now c.loop-i.invariant c.requires c.row_at-r.ensures c.loop-i-test.true (omega arith)

pub returns-in_err-w : goal.returns-in_err-w
returns-in_err-w c =
    let a = c.args in
    let p = err_from_is_err_and c.from_residual.result c.from_residual.ensures.1 in
    rw (p.1, p.2) (walking-lacks a.table.now a.first a.n a.highest a.prices.now c.loop-i.invariant c.requires c.row_at-r.ensures c.loop-i-test.true c.in_err-w.ensures.so)

pub loop-i-preserved : goal.loop-i-preserved
loop-i-preserved c =
    let a = c.args in
    walking_on a.table.now a.first a.n a.highest a.prices.now c.loop-i.invariant c.requires c.row_at-r.ensures c.loop-i-test.true c.in_ok-w.ensures.so

pub returns : goal.returns
returns c =
    let a = c.args in
    walking-all a.table.now a.first a.n a.highest a.prices.now c.loop-i.invariant c.loop-i-test.false
