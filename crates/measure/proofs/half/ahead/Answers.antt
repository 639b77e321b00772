-- `ahead` meets its contract: both corners are there, so they are read without a test.
use mathlib.Core.Path.{◌≡◌, sym, ◌∙◌, ap}
use Prim.Native.Nat.{◌+◌, ◌<◌}
use native.Mathlib.Omega.{arith}
use lib.ListN.{length}
use Rattle.plane.specs.Limits.{corners-small}
use Rattle.plane.specs.Point.{points, corner, ◌⊖◌}
use Rattle.plane.specs.Forms.{edges}
use Rattle.plane.specs.Cycle.{corner_round}
use Rattle.plane.proofs.theory.sum.Positions.{edges-at-most, round-inner}
use Rattle.polygon.specs.Point.{at}
use Rattle.polygon.specs.theory.Small.{small-corner}
use Rattle.calipers.specs.Side.{Stands}
use Rattle.calipers.specs.theory.Sides.{onward-inner, edge-inner, stands-fits, carried-to}
use Rattle.measure.proofs.half.ahead.Goals as goal
use Rattle.measure.proofs.half.ahead.Goals.{After-standing, Start}

-- three edges are left
left : (c : Start) → c.args.s.at + 2 < length (edges (points c.args.list.now))
left c = omega (arith, c.requires.2, c.requires.1.end_is)

inner : (c : Start) → c.args.s.at + 2 < length (points c.args.list.now)
inner c = omega (arith, left c, edges-at-most (points c.args.list.now))

pub overflow_add-s : goal.overflow_add-s
overflow_add-s c = omega (arith, inner c.before, c.requires.0.few, corners-small)

pub corner_at-corner-requires : goal.corner_at-corner-requires
corner_at-corner-requires c = omega (arith, inner c.before)

pub overflow_add-s-2 : goal.overflow_add-s-2
overflow_add-s-2 c = omega (arith, inner c.before.before.before, c.requires.0.few, corners-small)

pub corner_at-next-requires : goal.corner_at-next-requires
corner_at-next-requires c = inner c.before.before.before

pub overflow_add-s-3 : goal.overflow_add-s-3
overflow_add-s-3 c = omega (arith, inner c.before.before.before.before.before, c.requires.0.few, corners-small)

pub standing-requires : goal.standing-requires
standing-requires c =
    small-corner _ c.requires.0.in_range _ (omega (arith, inner c.before.before.before.before.before)) c.corner_at-corner.ensures

-- at the corner that is read
stands : (c : After-standing) → Stands c.args.list.now c.standing.result
stands c =
    let ps = points c.args.list.now in
    let made = c.standing.ensures in record {
      at_in = omega (arith, made.0, left c.before.before.before.before.before.before);
      end_is = made.1 ∙ c.requires.1.end_is;
      corner-is = made.2 ∙ c.corner_at-corner.ensures
          ∙ ap (corner ps) (sym
          (round-inner (length ps) (c.args.s.at + 1) (omega (arith, inner c.before.before.before.before.before.before))))
          ∙ ap (corner_round ps) (sym made.0);
      no_edge = made.3;
    }

pub facing-requires : goal.facing-requires
facing-requires c =
    let v = c.requires.0 in (
      stands-fits v.in_range v.shape.some (stands c),
      small-corner _ v.in_range _ (inner c.before.before.before.before.before.before)
          c.corner_at-next.ensures,
    )

pub returns : goal.returns
returns c =
    let ps = points c.args.list.now in
    let m = c.standing.result in
    let on = c.standing.ensures.0 in
    let next : c.args.s.at + 2 ≡ m.at + 1 = omega (arith, on) in (
      c.facing.ensures.0 ∙ on ∙ sym (onward-inner ps c.args.s.at (omega (arith, left c.before.before.before.before.before.before.before))),
      carried-to (at c.corner_at-next.result) (stands c.before) c.facing.ensures
          (ap (λ q. q ⊖ corner_round ps m.at) (c.corner_at-next.ensures ∙ ap (corner ps) next)
          ∙ edge-inner ps _ _ (stands c.before).end_is
          (omega (arith, on, left c.before.before.before.before.before.before.before, (stands c.before).end_is))),
    )
