-- `inside` meets its contract: a point and a segment are given by their first corner and their last.
use mathlib.Core.List.{[], ◌∷◌}
use mathlib.Core.Path.{◌∙◌, ap, ap₂}
use Prim.Native.Nat.{ℕ, ◌-◌}
use native.Mathlib.Omega.{arith}
use Rattle.plane.specs.Point.{Point, points, corner}
use Rattle.plane.specs.Separation.{inside}
use Rattle.polygon.specs.theory.Small.{small-corner}
use Rattle.separation.specs.theory.Within.{ends-inside}
use Rattle.separation.proofs.inside.Goals as goal

pub in_segment-requires : goal.in_segment-requires
in_segment-requires c =
    let w = c.requires.1 in (
      c.requires.0,
      small-corner c.args.b.now w.in_range 0 w.shape.some c.corner_at.ensures,
      small-corner c.args.b.now w.in_range _ (omega (arith, w.shape.some, c.count-n.ensures)) c.corner_at-then-n-lt3.ensures,
    )

pub returns-then-n-lt3 : goal.returns-then-n-lt3
returns-then-n-lt3 c =
    let A = points c.args.a.now in
    let B = points c.args.b.now in
    c.in_segment.ensures ∙ ap₂ (λ (p q : Point). inside A (p ∷ q ∷ [])) c.corner_at.ensures
    (c.corner_at-then-n-lt3.ensures ∙ ap (λ (n : ℕ). corner B (n - 1)) c.count-n.ensures)
    ∙ ends-inside A B c.requires.0.shape.some c.requires.1.shape.some
    (omega (arith, c.if-n-lt3.true, c.count-n.ensures))
