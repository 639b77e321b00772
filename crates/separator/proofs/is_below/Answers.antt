-- `is_below` meets its contract: the greatest value in the opposite direction is the least, negated.
use mathlib.Core.Path.{◌≡◌, sym, ◌∙◌, ap, ap₂, subst}
use Prim.Native.Nat.{◌^◌}
use lib.IntN.{pos, neg_ℤ, ◌-ℤ◌, +ℤ_idl}
use lib.Signed.{lt_z}
use mir.Syntax.{w64}
use mir.Val.{to_z, of_z}
use Rattle.integer.specs.Bound.{Within}
use Rattle.integer.specs.Machine.{machine, known, machine-read, machine-fits, machine-is}
use Rattle.plane.specs.Point.{Point, points, opposite}
use Rattle.plane.specs.Direction.{support}
use Rattle.plane.proofs.theory.support.Bounds.{support-size}
use Rattle.polygon.specs.Point.{at, Small}
use Rattle.polygon.specs.theory.Small.{small-wide}
use Rattle.plane.proofs.theory.direction.Rows.{direction-near}
use Rattle.separator.specs.theory.Below.{below-support}
use Rattle.separator.specs.theory.Direction.{good-small, opposite-good}
use Rattle.separator.proofs.is_below.Goals as goal
use Rattle.separator.proofs.is_below.Goals.{After-reach-greatest, After-reach-least}

pub reach-greatest-requires : goal.reach-greatest-requires
reach-greatest-requires c =
    (c.requires.0.shape.some, c.requires.0.in_range, small-wide (good-small (at c.args.d) c.requires.2))

pub opposite-requires : goal.opposite-requires
opposite-requires c = good-small _ c.requires.2

pub reach-least-requires : goal.reach-least-requires
reach-least-requires c =
    let good = opposite-good (at c.args.d) c.requires.2 in
    let v = c.requires.1 in
    (v.shape.some, v.in_range, subst (Small (2 ^ 22)) (sym c.opposite.ensures) (small-wide (good-small _ good)))

-- the two values, and that they are small
greatest : (c : After-reach-greatest) →
    let S = support (at c.args.d) (points c.args.a.now) in
    (c.reach-greatest.result ≡ S) × Within 4_000_000_000_000 S
greatest c =
    let near = direction-near _ c.requires.2 in
    let v = c.requires.0 in
    (c.reach-greatest.ensures, support-size c.args.a.now v.in_range near.0 near.1 v.shape.some)

least : (c : After-reach-least) →
    let S = support (opposite (at c.args.d)) (points c.args.b.now) in
    (c.reach-least.result ≡ S) × Within 4_000_000_000_000 S
least c =
    let near = direction-near _ (opposite-good (at c.args.d) c.requires.2) in
    let v = c.requires.1 in (
      c.reach-least.ensures ∙ ap (λ (d : Point). support d (points c.args.b.now)) c.opposite.ensures,
      support-size c.args.b.now v.in_range near.0 near.1 v.shape.some,
    )

pub overflow_sub-least : goal.overflow_sub-least
overflow_sub-least c =
    let (e, h) = least c in
    let p = known e h in
    machine-fits (search machine depth 40) tt

least-is : (c : After-reach-least) →
    to_z w64 (of_z w64 (pos 0 -ℤ to_z w64 (of_z w64 c.reach-least.result)))
    ≡ neg_ℤ (support (opposite (at c.args.d)) (points c.args.b.now))
least-is c =
    let (e, h) = least c in
    let p = known e h in
    machine-is (search machine depth 40) tt ∙ +ℤ_idl _

pub returns : goal.returns
returns c =
    let (e, h) = greatest c.before.before in
    ap₂ lt_z (machine-is (machine-read w64 _ (known e h)) tt) (least-is c)
    ∙ below-support (at c.args.d) (points c.args.a.now) (points c.args.b.now) c.requires.0.shape.some
    c.requires.1.shape.some
