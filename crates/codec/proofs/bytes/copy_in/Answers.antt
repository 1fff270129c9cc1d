use mathlib.Core.Path.{refl}
use Rattle.lists.specs.Splice.{copying-none, copying-more, copying-all}
use Rattle.codec.proofs.bytes.copy_in.Goals as goal

pub loop-k-init : goal.loop-k-init
loop-k-init c = copying-none _ _ _

pub loop-k-preserved : goal.loop-k-preserved
loop-k-preserved c = copying-more _ c.loop-k.invariant c.requires c.loop-k-test.true refl

pub shape_of-d : goal.shape_of-d
shape_of-d c = c.loop-k.invariant.size

pub returns : goal.returns
returns c = copying-all c.loop-k.invariant c.loop-k-test.false
