-- `edge_at` meets its contract: corners in range differ by small parts.
use mathlib.Core.Path.{◌∙◌, ap₂}
use Prim.Native.Nat.{◌+◌}
use native.Mathlib.Omega.{arith}
use Rattle.plane.specs.Point.{Point, points, ◌⊖◌}
use Rattle.plane.proofs.theory.lists.Flat.{points-length}
use Rattle.polygon.specs.theory.Small.{small-corner, small-edge, small-wide}
use Rattle.convexity.specs.theory.Stretches.{edge-from}
use Rattle.convexity.proofs.edge_at.Goals as goal

pub overflow_add-k : goal.overflow_add-k
overflow_add-k c = omega (arith, points-length c.args.list.now)

pub between-requires : goal.between-requires
between-requires c =
    let l = c.args.list.now in
    let r = c.requires.1 in
    (small-corner l r _ (omega arith) c.corner_at.ensures, small-corner l r _ c.requires.0 c.corner_at-2.ensures)

pub returns : goal.returns
returns c =
    let l = c.args.list.now in
    let k = c.args.k in
    let is = c.between.ensures ∙ ap₂ (λ (p q : Point). p ⊖ q) c.corner_at-2.ensures c.corner_at.ensures in (
      is ∙ edge-from (points l) k c.requires.0,
      small-wide (small-edge l c.requires.1 k (k + 1) (omega arith) c.requires.0 is),
    )
