-- `in_segment` meets its contract. The invariant: the corners passed are on the segment.
use mathlib.Core.List.{[], ◌∷◌}
use mathlib.Core.Path.{◌≡◌, sym, ◌∙◌, ap}
use Prim.Native.Nat.{◌<◌}
use native.Mathlib.Omega.{arith}
use lib.ListN.{length}
use Rattle.plane.specs.Point.{Point, points, corner}
use Rattle.plane.specs.Separation.{inside}
use Rattle.polygon.specs.Point.{at}
use Rattle.polygon.specs.theory.Small.{small-corner}
use Rattle.separation.specs.theory.Within.{corners-inside, corner-outside}
use Rattle.separation.proofs.within.in_segment.Goals as goal
use Rattle.separation.proofs.within.in_segment.Goals.{After-on_segment, In-loop-i}

-- there is a corner at i
corner-there : (c : In-loop-i) → c.loop-i.i < length (points c.args.a.now)
corner-there c = omega (arith, c.count-i-end.ensures)

pub on_segment-requires : goal.on_segment-requires
on_segment-requires c =
    let near = c.requires.0.in_range in
    (small-corner c.args.a.now near _ (corner-there c.before) c.corner_at.ensures, c.requires.1, c.requires.2)

-- what is asked of corner i
asked : (c : After-on_segment) → let args = c.args in
    c.on_segment.result
    ≡ inside (corner (points args.a.now) c.loop-i.i ∷ []) (at args.p ∷ at args.q ∷ [])
asked c =
    let args = c.args in
    c.on_segment.ensures ∙ ap (λ (x : Point). inside (x ∷ []) (at args.p ∷ at args.q ∷ [])) c.corner_at.ensures

pub returns-then-not-on_segment : goal.returns-then-not-on_segment
returns-then-not-on_segment c =
    let args = c.args in
    sym (corner-outside (points args.a.now) (at args.p ∷ at args.q ∷ []) (omega arith) c.loop-i.i
    (corner-there c.before.before.before) (sym (asked c.before) ∙ c.if-not-on_segment.true))

pub returns : goal.returns
returns c =
    sym (corners-inside (points c.args.a.now) (at c.args.p ∷ at c.args.q ∷ []) (omega arith)
    c.requires.0.shape.some
    (λ k h. c.loop-i.invariant k (omega (arith, c.count-i-end.ensures))))
