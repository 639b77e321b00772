-- `squared` meets its contract: squares of small parts, and their sum, fit 64 bits.
use Rattle.integer.specs.Bound.{within-add, within-neg}
use Rattle.integer.specs.Machine.{Machine, machine, known, machine-fits, machine-is}
use Rattle.plane.specs.Measure.{squared}
use Rattle.calipers.proofs.side.squared.Goals as goal
use Rattle.calipers.proofs.side.squared.Goals.{After-above-dy}

-- the two differences, as terms of the machine
abbrev across : (c : After-above-dy) → Machine c.beyond-dx.result
across c =
    let pre = c.requires in
    known c.beyond-dx.ensures (within-add pre.0.small-x (within-neg pre.1.small-x))

abbrev upright : (c : After-above-dy) → Machine c.above-dy.result
upright c =
    let pre = c.requires in
    known c.above-dy.ensures (within-add pre.0.small-y (within-neg pre.1.small-y))

pub overflow_mul-result : goal.overflow_mul-result
overflow_mul-result c = let dx = across c in machine-fits (search machine depth 40) tt

pub overflow_mul-result-2 : goal.overflow_mul-result-2
overflow_mul-result-2 c = let dy = upright c in machine-fits (search machine depth 40) tt

pub overflow_add-result : goal.overflow_add-result
overflow_add-result c = let dx = across c in let dy = upright c in machine-fits (search machine depth 40) tt

pub returns : goal.returns
unfolding squared
returns c = let dx = across c in let dy = upright c in machine-is (search machine depth 40) tt
