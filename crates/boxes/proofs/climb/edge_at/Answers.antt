-- `edge_at` meets its contract.
use mathlib.Core.Path.{◌∙◌, ap, ap₂}
use native.Mathlib.Omega.{arith}
use Rattle.plane.specs.Limits.{corners-small}
use Rattle.plane.specs.Point.{Point, points, corner, ◌⊖◌}
use Rattle.polygon.specs.theory.Small.{small-corner}
use Rattle.boxes.proofs.climb.edge_at.Goals as goal

pub overflow_add-edge : goal.overflow_add-edge
overflow_add-edge c = omega (arith, c.requires.1, c.requires.0.few, corners-small)

pub round-end-requires : goal.round-end-requires
round-end-requires c = (omega (arith, c.requires.1), c.requires.0.shape.some)

pub corner_at-requires : goal.corner_at-requires
corner_at-requires c = c.requires.1

pub corner_at-requires-2 : goal.corner_at-requires-2
corner_at-requires-2 c = c.round-end.ensures.upper_bound

pub step-requires : goal.step-requires
step-requires c =
    let pre = c.requires in (
      small-corner _ pre.0.in_range _ pre.1 c.corner_at.ensures,
      small-corner _ pre.0.in_range _ c.round-end.ensures.upper_bound c.corner_at-2.ensures,
    )

pub returns : goal.returns
returns c =
    let ps = points c.args.list.now in
    c.step.ensures ∙ ap₂ (λ (b a : Point). b ⊖ a)
    (c.corner_at-2.ensures ∙ ap (corner ps) c.round-end.ensures.value) c.corner_at.ensures
