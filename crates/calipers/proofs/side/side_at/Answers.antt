-- `side_at` meets its contract.
use mathlib.Core.Path.{sym, ◌∙◌, ap}
use native.Mathlib.Omega.{arith}
use Rattle.plane.specs.Point.{points, corner}
use Rattle.plane.specs.Cycle.{corner_round}
use Rattle.plane.proofs.theory.sum.Positions.{edges-at-most}
use Rattle.polygon.specs.theory.Small.{small-corner}
use Rattle.calipers.proofs.side.side_at.Goals as goal

pub round-requires : goal.round-requires
round-requires c = (omega (arith, c.requires.0, edges-at-most (points c.args.list.now)), c.requires.2)

pub standing-requires : goal.standing-requires
standing-requires c =
    small-corner _ c.requires.1 _ c.round.ensures.upper_bound c.corner_at-corner.ensures

pub onto-requires : goal.onto-requires
onto-requires c =
    let ps = points c.args.list.now in
    let made = c.standing.ensures in (
      record {
        at_in = omega (arith, made.0, c.requires.0);
        end_is = made.1 ∙ c.sides.ensures;
        corner-is = made.2 ∙ c.corner_at-corner.ensures ∙ ap (corner ps) c.round.ensures.value
            ∙ ap (corner_round ps) (sym made.0);
        no_edge = made.3;
      },
      c.requires.1,
      c.requires.2,
    )
