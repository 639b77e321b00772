-- `closed_at` meets its contract: after the last corner comes the first.
use mathlib.Core.Path.{◌≡◌, sym, ◌∙◌, ap}
use native.Mathlib.Omega.{arith}
use lib.ListN.{length}
use Rattle.plane.specs.Point.{points, corner}
use Rattle.sorting.specs.Order.{closed}
use Rattle.hull.specs.theory.Peak.{closed-within, closed-last}
use Rattle.hull.proofs.rows.closed_at.Goals as goal

pub returns-then-i-count : goal.returns-then-i-count
returns-then-i-count c =
    c.corner_at.ensures
    ∙ sym (closed-within (points c.args.list.now) c.args.i (omega (arith, c.count.ensures)))

pub returns-else-i-count : goal.returns-else-i-count
returns-else-i-count c =
    let ps = points c.args.list.now in
    let last : c.args.i ≡ length ps = omega (arith, c.count.ensures, c.requires.0) in
    c.corner_at-else-i-count.ensures ∙ sym (ap (corner (closed ps)) last ∙ closed-last ps)
