-- `least` meets its contract: the greatest value in the opposite direction is the least, negated.
use mathlib.Core.Path.{◌≡◌, sym, ◌∙◌, ap, subst}
use Prim.Native.Nat.{◌^◌}
use lib.IntN.{+ℤ_idl}
use Rattle.integer.specs.Bound.{Within}
use Rattle.integer.specs.Machine.{machine, known, machine-fits, machine-is}
use Rattle.plane.specs.Point.{Point, points, opposite}
use Rattle.plane.specs.Direction.{support}
use Rattle.plane.proofs.theory.direction.Rows.{direction-near}
use Rattle.plane.proofs.theory.support.Bounds.{support-size}
use Rattle.polygon.specs.Point.{at, Small}
use Rattle.polygon.specs.theory.Small.{small-wide}
use Rattle.separator.specs.theory.Direction.{good-small, opposite-good}
use Rattle.strips.specs.Strip.{least}
use Rattle.passage.proofs.corridor.least.Goals as goal
use Rattle.passage.proofs.corridor.least.Goals.{After-reach}

pub opposite-requires : goal.opposite-requires
opposite-requires c = good-small _ c.requires.1

pub reach-requires : goal.reach-requires
reach-requires c =
    let v = c.requires.0 in
    let good = opposite-good (at c.args.d) c.requires.1 in
    (v.shape.some, v.in_range, subst (Small (2 ^ 22)) (sym c.opposite.ensures) (small-wide (good-small _ good)))

-- the value, and that it is small
greatest : (c : After-reach) →
    let S = support (opposite (at c.args.d)) (points c.args.list.now) in
    (c.reach.result ≡ S) × Within 4_000_000_000_000 S
greatest c =
    let near = direction-near _ (opposite-good (at c.args.d) c.requires.1) in
    let v = c.requires.0 in (
      c.reach.ensures ∙ ap (λ (d : Point). support d (points c.args.list.now)) c.opposite.ensures,
      support-size c.args.list.now v.in_range near.0 near.1 v.shape.some,
    )

pub overflow_sub-result : goal.overflow_sub-result
overflow_sub-result c =
    let (e, h) = greatest c in
    let p = known e h in
    machine-fits (search machine depth 40) tt

pub returns : goal.returns
unfolding least
returns c =
    let (e, h) = greatest c in
    let p = known e h in
    machine-is (search machine depth 40) tt ∙ +ℤ_idl _
