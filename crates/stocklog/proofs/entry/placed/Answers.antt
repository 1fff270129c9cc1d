-- Past the number of headers 3; of the four places each has its own header.
use Rattle.std.proofs.Common.{arith}
use Rattle.stocklog.specs.Entry.{place_is, place_above, place_fifth}
use Rattle.stocklog.proofs.entry.placed.Goals as goal

pub returns-then-i-place : goal.returns-then-i-place
returns-then-i-place c = place_above c.args.i c.args.place c.if-i-place.true

pub returns-in-0 : goal.returns-in-0
returns-in-0 c = place_is c.args.i 0 c.in-0.is c.if-i-place.false

pub returns-in-1 : goal.returns-in-1
returns-in-1 c = place_is c.args.i 1 c.in-1.is c.if-i-place.false

pub returns-in-2 : goal.returns-in-2
returns-in-2 c = place_is c.args.i 2 c.in-2.is c.if-i-place.false

pub returns-in-3 : goal.returns-in-3
returns-in-3 c = place_is c.args.i 3 c.in-3.is c.if-i-place.false

pub returns-in_default : goal.returns-in_default
returns-in_default c = place_fifth c.args.i c.args.place (omega arith) c.if-i-place.false
