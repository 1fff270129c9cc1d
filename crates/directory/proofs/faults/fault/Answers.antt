use mathlib.Core.Path.{sym, ◌∙◌}
use Rattle.lists.specs.First.{seeking-none, seeking-more}
use Rattle.directory.specs.Faults.{fault-found, fault-nowhere}
use Rattle.directory.proofs.faults.fault.Goals as goal

pub loop-k-init : goal.loop-k-init
loop-k-init c = seeking-none _ _

pub returns-then-is_at_fault : goal.returns-then-is_at_fault
returns-then-is_at_fault c =
    let l = c.loop-k in
    fault-found c.args.dir.now c.judged-n.result l.k c.judged-n.ensures l.invariant c.loop-k-test.true (sym c.is_at_fault.ensures ∙ c.if-is_at_fault.true)

pub loop-k-preserved : goal.loop-k-preserved
loop-k-preserved c =
    seeking-more c.loop-k.invariant c.loop-k-test.true (sym c.is_at_fault.ensures ∙ c.if-is_at_fault.false)

pub returns : goal.returns
returns c =
    let l = c.loop-k in
    fault-nowhere c.args.dir.now c.judged-n.result l.k c.judged-n.ensures l.invariant c.loop-k-test.false

pub judged-n-requires : goal.judged-n-requires
judged-n-requires c = tt

pub is_at_fault-requires : goal.is_at_fault-requires
is_at_fault-requires c = tt
