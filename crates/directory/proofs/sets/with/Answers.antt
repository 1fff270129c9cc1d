-- The union with the set of the one object.
use Rattle.directory.specs.Sets.{set-with}
use Rattle.directory.proofs.sets.with.Goals as goal

pub returns : goal.returns
returns c =
    set-with c.only.ensures (c.union.ensures c.args.dir.now c.requires.ruled)
