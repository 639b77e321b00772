-- `closing` meets its contract: the edge back to the first corner, or none.
use mathlib.Core.Path.{refl, sym, ◌∙◌, ap}
use native.Mathlib.Omega.{arith}
use Rattle.plane.specs.Point.{points, ◌⊖◌}
use Rattle.plane.specs.Cycle.{corner_round}
use Rattle.polygon.specs.Point.{at}
use Rattle.polygon.specs.theory.Small.{small-corner}
use Rattle.calipers.specs.theory.Sides.{edge-last, edge_none, stands-fits, carried-to}
use Rattle.calipers.proofs.side.closing.Goals as goal

pub returns-then-s : goal.returns-then-s
returns-then-s c =
    let stands = c.requires.0 in (
      refl,
      record {
        at_in = stands.at_in;
        end_is = stands.end_is;
        corner-is = stands.corner-is;
        edge-is = stands.no_edge ∙ sym (edge_none (points c.args.list.now) _ _ stands.end_is c.if-s.true);
      },
    )

pub facing-requires : goal.facing-requires
facing-requires c =
    let pre = c.requires in
    (stands-fits pre.1 pre.2 pre.0, small-corner _ pre.1 0 pre.2 c.corner_at.ensures)

pub returns : goal.returns
returns c =
    let stands = c.requires.0 in
    let ps = points c.args.list.now in (
      c.facing.ensures.0,
      carried-to (at c.corner_at.result) stands c.facing.ensures
          (ap (λ q. q ⊖ corner_round ps c.args.s.at) c.corner_at.ensures
          ∙ edge-last ps _ _ stands.end_is (omega (arith, c.if-s.false, stands.at_in, stands.end_is, c.requires.3))),
    )
