-- `drawn` meets its contract: the test on the corners at the two positions.
use mathlib.Core.Path.{◌∙◌, ap₂}
use Rattle.plane.specs.Point.{Point}
use Rattle.polygon.specs.Point.{at}
use Rattle.polygon.specs.theory.Small.{small-corner}
use Rattle.tangents.specs.Draws.{draws}
use Rattle.tangents.proofs.rest.drawn.Goals as goal

pub draws-requires : goal.draws-requires
draws-requires c =
    let pre = c.requires in
    let start = small-corner _ pre.2 _ pre.0 c.corner_at.ensures in
    (start, pre.3, small-corner _ pre.2 _ pre.1 c.corner_at-2.ensures)

pub returns : goal.returns
returns c =
    let args = c.args in
    c.draws.ensures
    ∙ ap₂ (λ (p x : Point). draws args.s p (at args.q) x) c.corner_at.ensures c.corner_at-2.ensures
