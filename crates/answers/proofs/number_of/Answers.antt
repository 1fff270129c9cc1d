-- Each case of a refusal has its number.
use mathlib.Core.Path.{◌≡◌, ap, sym}
use Rattle.answers.specs.declared.Refusal.{Refusal}
use Rattle.answers.specs.Refusals.{refusal_in}
use Rattle.answers.proofs.number_of.Goals as goal

told : {x y : Refusal} → x ≡ y → (refusal_in y).number ≡ (refusal_in x).number
told e = sym (ap (λ (x : Refusal). (refusal_in x).number) e)

pub returns-in-Frame : goal.returns-in-Frame
returns-in-Frame c = told c.in-Frame.is

pub returns-in-BadEntry : goal.returns-in-BadEntry
returns-in-BadEntry c = told c.in-BadEntry.is

pub returns-in-Request : goal.returns-in-Request
returns-in-Request c = told c.in-Request.is

pub returns-in-Closed : goal.returns-in-Closed
returns-in-Closed c = told c.in-Closed.is

pub returns-in-Wide : goal.returns-in-Wide
returns-in-Wide c = told c.in-Wide.is

pub returns-in-Empty : goal.returns-in-Empty
returns-in-Empty c = told c.in-Empty.is

pub returns-in-NoCommit : goal.returns-in-NoCommit
returns-in-NoCommit c = told c.in-NoCommit.is

pub returns-in-Decided : goal.returns-in-Decided
returns-in-Decided c = told c.in-Decided.is

pub returns-in-Full : goal.returns-in-Full
returns-in-Full c = told c.in-Full.is

pub returns-in-BadReplica : goal.returns-in-BadReplica
returns-in-BadReplica c = told c.in-BadReplica.is

pub returns-in-FalseRecord : goal.returns-in-FalseRecord
returns-in-FalseRecord c = told c.in-FalseRecord.is

pub returns-in-Waiting : goal.returns-in-Waiting
returns-in-Waiting c = told c.in-Waiting.is

pub returns-in-NoRoom : goal.returns-in-NoRoom
returns-in-NoRoom c = told c.in-NoRoom.is

pub returns-in-NoRoomAt : goal.returns-in-NoRoomAt
returns-in-NoRoomAt c = told c.in-NoRoomAt.is

pub returns-in-Behind : goal.returns-in-Behind
returns-in-Behind c = told c.in-Behind.is

pub returns-in-Directory : goal.returns-in-Directory
returns-in-Directory c = told c.in-Directory.is

pub returns-in-Astray : goal.returns-in-Astray
returns-in-Astray c = told c.in-Astray.is

pub returns-in-NoPrice : goal.returns-in-NoPrice
returns-in-NoPrice c = told c.in-NoPrice.is
