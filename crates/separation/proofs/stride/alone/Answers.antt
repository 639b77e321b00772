-- `alone` meets its contract. The invariant is what it promises; the measure: the edges that are left.
use mathlib.Core.Path.{◌∙◌}
use native.Mathlib.Omega.{arith}
use mir.Syntax.{w64}
use Rattle.integer.specs.Machine.{result-is}
use Rattle.polygon.specs.theory.Small.{small-wide}
use Rattle.calipers.specs.theory.Carry.{sides-here, here-near, corners-fit, edges_fit}
use Rattle.separation.specs.theory.Image.{image-few}
use Rattle.separation.proofs.Striding.{strode-at, strode-alone, goes_on}
use Rattle.separation.proofs.stride.alone.Goals as goal
use Rattle.separation.proofs.stride.alone.Goals.{At-loop-n, Start}

abbrev start : At-loop-n → Start
start c = c.before.before.before

pub overflow_add-n : goal.overflow_add-n
overflow_add-n c =
    omega (arith, c.loop-n.invariant.second-side.at_in, image-few _ _ c.requires.0 c.requires.1, c.well_formed.0, c.well_formed.1.0)

pub here-requires : goal.here-requires
here-requires c = let p = c.loop-n.invariant in corners-fit (strode-at p) p.first-side p.second-side

pub moment-requires : goal.moment-requires
moment-requires c =
    let p = c.loop-n.invariant in
    let near = here-near (strode-at p) (c.here.ensures ∙ sides-here (strode-at p) p.first-side p.second-side) in
    (small-wide near, (edges_fit (strode-at p) p.first-side p.second-side).1)

pub loop-n-smaller : goal.loop-n-smaller
loop-n-smaller c =
    let p = c.loop-n.invariant in
    omega (arith, goes_on p.second-side c.loop-n-test.true c.ahead-n.ensures.0, c.loop-n-test.true, p.second-side.end_is)

pub loop-n-preserved : goal.loop-n-preserved
loop-n-preserved c =
    strode-alone c.loop-n.invariant c.if-s.false c.loop-n-test.true c.here.ensures
    c.if-moment-le0.false (result-is w64 c.moment.type_inv c.moment.ensures) _ c.ahead-n.ensures.0
    c.ahead-n.ensures.1
