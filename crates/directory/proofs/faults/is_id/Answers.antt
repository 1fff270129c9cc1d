-- Both bounds are tested.
use borrow.Author.Tests.{le-leb, lt-leb}
use Rattle.directory.proofs.faults.is_id.Goals as goal

pub returns-then-id-lt1 : goal.returns-then-id-lt1
returns-then-id-lt1 c = rw (lt-leb 1 c.args.id c.if-id-lt1.true)

pub returns : goal.returns
returns c = rw (le-leb 1 c.args.id c.if-id-lt1.false)
