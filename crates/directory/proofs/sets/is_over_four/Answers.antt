-- An object is left when the first four are taken away.
use Rattle.directory.specs.Sets.{left-listed, over-four}
use Rattle.directory.proofs.sets.is_over_four.Goals as goal

pub returns : goal.returns
returns c =
    let set = c.args.set in
    λ d r l.
    let la = left-listed d c.others-a.ensures.0 l in
    let lb = left-listed d c.others-b.ensures.0 la in
    let lc = left-listed d c.others-c.ensures.0 lb in
    let le = left-listed d c.others.ensures.0 lc in
    over-four r set c.others-a.result c.others-b.result c.others-c.result c.others.result le (c.others-a.ensures.1 d r l) (c.others-b.ensures.1 d r la) (c.others-c.ensures.1 d r lb) (c.others.ensures.1 d r lc)
