-- `turn` meets its contract: products of small parts, and their difference, fit 64 bits.
use Rattle.integer.specs.Bound.{within-add, within-neg}
use Rattle.integer.specs.Machine.{Machine, machine, bounded, known, machine-fits, machine-is}
use Rattle.plane.specs.Turn.{cross}
use Rattle.calipers.proofs.side.turn.Goals as goal
use Rattle.calipers.proofs.side.turn.Goals.{After-above, After-beyond}

-- the two differences, as terms of the machine
abbrev upright : (c : After-above) → Machine c.above.result
upright c =
    let pre = c.requires in
    known c.above.ensures (within-add pre.1.small-y (within-neg pre.0.small-y))

abbrev across : (c : After-beyond) → Machine c.beyond.result
across c =
    let pre = c.requires in
    known c.beyond.ensures (within-add pre.1.small-x (within-neg pre.0.small-x))

pub overflow_mul-result : goal.overflow_mul-result
overflow_mul-result c = let dy = upright (goal.at.overflow_mul-result c).After-above in machine-fits (search (machine, bounded) depth 40) tt

pub overflow_mul-result-2 : goal.overflow_mul-result-2
overflow_mul-result-2 c = let dx = across (goal.at.overflow_mul-result-2 c).After-beyond in machine-fits
    (search (machine, bounded) depth 40) tt

pub overflow_sub-result : goal.overflow_sub-result
overflow_sub-result c =
    let dx = across (goal.at.overflow_sub-result c).After-beyond in
    let dy = upright (goal.at.overflow_sub-result c).After-above in
    machine-fits (search (machine, bounded) depth 40) tt

pub returns : goal.returns
unfolding cross
returns c =
    let dx = across (goal.at.returns c).After-beyond in
    let dy = upright (goal.at.returns c).After-above in
    machine-is (search (machine, bounded) depth 40) tt
