-- `pair` meets its contract: the corner of the sum is the step between the two corners.
use mathlib.Core.Path.{◌≡◌, sym, ◌∙◌, ap, ap₂, subst}
use Prim.Native.Nat.{◌^◌}
use native.Mathlib.Omega.{arith}
use lib.IntN.{nat_abs}
use lib.ListN.{length}
use mir.Syntax.{w64}
use mir.Val.{to_z, of_z}
use Rattle.integer.specs.Machine.{result-is}
use Rattle.integer.specs.Bound.{within-add}
use Rattle.plane.specs.Point.{Point, points, corner, ◌⊕◌}
use Rattle.plane.specs.Direction.{value}
use Rattle.plane.specs.Cycle.{round, turned}
use Rattle.plane.specs.Measure.{squared}
use Rattle.plane.proofs.theory.forms.Squared.{squared-nonneg}
use Rattle.plane.proofs.theory.sum.Positions.{edges-at-most}
use Rattle.polygon.specs.Point.{Small}
use Rattle.calipers.specs.Image.{image}
use Rattle.calipers.specs.theory.Image.{image-count, image-valid}
use Rattle.calipers.specs.theory.Sides.{corner-fits}
use Rattle.reach.specs.Answer.{pair_of}
use Rattle.reach.specs.theory.Furthest.{step-squared}
use Rattle.reach.specs.theory.Visited.{place-step}
use Rattle.reach.proofs.pair.Goals as goal
use Rattle.reach.proofs.pair.Goals.{After-dot}

pub here-step-requires : goal.here-step-requires
here-step-requires c =
    let image = image-valid _ c.requires.1 in (
      corner-fits c.requires.0.in_range c.requires.0.shape.some c.requires.3,
      corner-fits image.in_range image.shape.some c.requires.4,
    )

pub dot-requires : goal.dot-requires
dot-requires c =
    let fits = here-step-requires c.before in
    let wide = subst (Small (2 ^ 22)) (sym c.here-step.ensures) (record {
      small-x = within-add fits.0.small-x fits.1.small-x;
      small-y = within-add fits.0.small-y fits.1.small-y;
    }) in
    (wide, wide)

distance : (c : After-dot) → let args = c.args in
    let A = points args.a.now in
    let B = points args.b.now in
    to_z w64 (of_z w64 c.dot.result)
    ≡ squared (corner A (round (length A) args.s.at)) (corner B (turned (length B) args.top args.t.at))
distance c =
    let pre = c.requires in
    let step = c.here-step.ensures ∙ ap₂ ◌⊕◌ pre.3.corner-is pre.4.corner-is
    ∙ place-step c.args.a.now c.args.b.now pre.0 pre.1 c.args.top pre.2 c.args.s.at
    c.args.t.at pre.4.at_in in
    result-is w64 c.dot.type_inv (c.dot.ensures ∙ ap (λ (z : Point). value z z) step ∙ step-squared _ _)

pub magnitude-squared-requires : goal.magnitude-squared-requires
magnitude-squared-requires c = rw (distance c) (squared-nonneg _ _)

pub round-requires : goal.round-requires
round-requires c =
    (omega (arith, edges-at-most (points c.args.a.now), c.requires.3.at_in), c.requires.0.shape.some)

pub position-requires : goal.position-requires
position-requires c =
    let b = c.args.b.now in (
      c.requires.2.within,
      omega (arith, edges-at-most (points (image b)), image-count b c.requires.1, c.requires.4.at_in),
    )

pub returns : goal.returns
unfolding pair_of
returns c =
    let size = ap nat_abs (sym c.magnitude-squared.ensures ∙ distance c.before.before.before) in
    cc (size, c.round.ensures.value, c.position.ensures)
