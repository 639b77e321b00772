-- `next` meets its contract.
use mathlib.Core.Path.{sym, ◌∙◌, ap}
use Prim.Native.Nat.{◌<◌}
use native.Mathlib.Omega.{arith}
use lib.ListN.{length}
use Rattle.plane.specs.Point.{points}
use Rattle.plane.proofs.theory.lists.Flat.{points-length}
use Rattle.plane.specs.Forms.{edges}
use Rattle.plane.specs.Cycle.{corner_round}
use Rattle.plane.proofs.theory.sum.Positions.{edges-at-most}
use Rattle.calipers.specs.theory.Sides.{onward-end, onward-inner, corner-fits, edge-adds, along-edge}
use Rattle.calipers.proofs.side.next.Goals as goal
use Rattle.calipers.proofs.side.next.Goals.{Else-s}

pub returns-then-s : goal.returns-then-s
returns-then-s c =
    let side = c.requires.0 in (
      rw c.if-waits.false (sym (onward-end (points c.args.list.now) c.args.s.at
          (omega (arith, c.if-s.true, side.end_is)))),
      side,
    )

-- an edge is left
left : (c : Else-s) → c.args.s.at < length (edges (points c.args.list.now))
left c = let side = c.requires.0 in omega (arith, c.if-s.false, side.end_is, side.at_in)

pub arrived-requires : goal.arrived-requires
arrived-requires c =
    let l = c.args.list.now in
    let pre = c.requires in (
      omega (arith, left c, edges-at-most (points l), points-length l),
      corner-fits pre.1 pre.2 pre.0,
      edge-adds pre.1 pre.2 pre.0,
    )

pub onto-requires : goal.onto-requires
onto-requires c =
    let made = c.arrived.ensures in (
      record {
        at_in = omega (arith, made.0, left c.before);
        end_is = made.1 ∙ c.requires.0.end_is;
        corner-is = made.2 ∙ along-edge c.requires.0 (left c.before)
            ∙ ap (corner_round (points c.args.list.now)) (sym made.0);
        no_edge = made.3;
      },
      c.requires.1,
      c.requires.2,
    )

pub returns : goal.returns
returns c = (
  rw c.if-waits.false (c.onto.ensures.0 ∙ c.arrived.ensures.0
      ∙ sym (onward-inner (points c.args.list.now) c.args.s.at (left c.before.before))),
  c.onto.ensures.1,
)
