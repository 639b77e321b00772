-- `rises` meets its contract.
use mathlib.Core.Path.{◌∙◌, ap}
use lib.IntN.{pos}
use lib.Signed.{lt_z}
use mir.Syntax.{w64}
use Rattle.integer.specs.Machine.{result-is}
use Rattle.plane.specs.Direction.{value}
use Rattle.plane.proofs.theory.lists.Next.{next-below}
use Rattle.polygon.specs.Point.{at}
use Rattle.polygon.specs.theory.Small.{small-edge, small-wide}
use Rattle.boxes.proofs.climb.rises.Goals as goal

pub edge_at-requires : goal.edge_at-requires
edge_at-requires c = (c.requires.0, c.requires.1)

pub dot-requires : goal.dot-requires
dot-requires c =
    let pre = c.requires in
    (pre.2, small-wide (small-edge _ pre.0.in_range _ _ pre.1 (next-below _ _ pre.1) c.edge_at.ensures))

pub returns : goal.returns
returns c = ap (lt_z (pos 0))
    (result-is w64 c.dot.type_inv (c.dot.ensures ∙ ap (value (at c.args.d)) c.edge_at.ensures))
