-- The object of a cell has a place, which has the number of its first cell; the sum is below the number of all cells, so it fits.
use native.Mathlib.Omega.{arith}
use Rattle.numbering.specs.Laws.{listed_below, listed-few}
use Rattle.numbering.specs.Bases.{number-told}
use Rattle.numbering.proofs.bases.number_of.Goals as goal

pub bounds-bases-place : goal.bounds-bases-place
bounds-bases-place c =
    let g = c.requires in
    omega (arith, (number-told g c.place_of-place.ensures).0, g.based.room)

pub overflow_add-result : goal.overflow_add-result
overflow_add-result c =
    let g = c.requires in
    omega (arith, (number-told g c.place_of-place.ensures).1, listed_below g.ruled _ _ g.cell, listed-few g.ruled)

pub returns : goal.returns
returns c = (number-told c.requires c.place_of-place.ensures).1
