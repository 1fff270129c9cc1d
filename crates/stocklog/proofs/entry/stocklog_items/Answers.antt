-- The entry call's refusal, or where the items lie; that part of the log is the item list.
-- An entry that is told lies below 131,072 slots, so the position fits its type.
use Rattle.std.proofs.Common.{rules}
use Rattle.std.proofs.lemmas.Result.{IfOk-weaker}
use Rattle.stocklog.specs.Items.{entry_placed, items_said}
use Rattle.stocklog.proofs.entry.stocklog_items.Goals as goal

pub answered-n-requires : goal.answered-n-requires
answered-n-requires c =
    let a = c.args in
    IfOk-weaker c.entry-f.result _ _ (λ i l. search rules) (entry_placed a.dir.now a.log.now a.tail a.offset c.entry-f.result c.entry-f.ensures.found)

pub returns-clause-log_after : goal.returns-clause-log_after
returns-clause-log_after c =
    let a = c.args in
    items_said a.dir.now a.log.now a.tail a.offset {r = record { number = c.put.result; out = c.put.new.out }} (search rules)
