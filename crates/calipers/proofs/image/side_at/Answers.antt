-- `side_at` meets its contract.
use mathlib.Core.Path.{sym, ◌∙◌, ap}
use Prim.Native.Nat.{◌≤◌}
use native.Mathlib.Omega.{arith}
use lib.ListN.{length}
use Rattle.plane.specs.Point.{points}
use Rattle.plane.specs.Cycle.{corner_round}
use Rattle.plane.proofs.theory.sum.Positions.{edges-at-most}
use Rattle.calipers.specs.Image.{image}
use Rattle.calipers.specs.theory.Image.{image-count, image-edges, image-small}
use Rattle.calipers.proofs.image.side_at.Goals as goal
use Rattle.calipers.proofs.image.side_at.Goals.{Start}

-- a corner for each edge, at most
within : (c : Start) → c.args.i ≤ length (points c.args.list.now)
within c =
    let l = c.args.list.now in
    let few = edges-at-most (points (image l)) in
    omega (arith, c.requires.2, image-count l c.requires.0)

pub corner_at-corner-requires : goal.corner_at-corner-requires
corner_at-corner-requires c = (c.requires.0, c.requires.1, within c)

pub standing-requires : goal.standing-requires
standing-requires c =
    image-small _ c.requires.0 _ (within c.before.before) c.corner_at-corner.ensures

pub onto-requires : goal.onto-requires
onto-requires c =
    let l = c.args.list.now in
    let made = c.standing.ensures in (
      c.requires.0,
      c.requires.1,
      record {
        at_in = omega (arith, made.0, c.requires.2);
        end_is = made.1 ∙ c.sides.ensures ∙ sym (image-edges l c.requires.0);
        corner-is = made.2 ∙ c.corner_at-corner.ensures ∙ ap (corner_round (points (image l))) (sym made.0);
        no_edge = made.3;
      },
    )
