-- `sides` meets its contract.
use mathlib.Core.Path.{sym, ◌∙◌}
use native.Mathlib.Omega.{arith}
use Rattle.plane.specs.Point.{points}
use Rattle.plane.proofs.theory.sum.Positions.{edges_some}
use Rattle.calipers.proofs.edges.sides.Goals as goal

pub returns-else-n-lt2 : goal.returns-else-n-lt2
returns-else-n-lt2 c = c.count-n.ensures ∙ sym
    (edges_some (points c.args.list.now) (omega (arith, c.count-n.ensures)))
