use Rattle.std.proofs.Common.{add-zero, arith}
use Rattle.lists.specs.Bytes.{be_at}
use Rattle.codec.proofs.bytes.be64.Goals as goal

pub returns : goal.returns
unfolding be_at
returns c = simp add-zero (omega arith)
