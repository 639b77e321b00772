-- `foremost` meets its contract: the order says which one it is.
use Rattle.std.proofs.Common.{◌≡◌, sym, ◌∙◌, ap, ap₂, Bool, cond, ℤ, pos}
use Rattle.std.specs.Int.Signed.{le_z}
use Rattle.plane.specs.Point.{points, corner}
use Rattle.polygon.specs.Point.{at}
use Rattle.sorting.specs.Order.{order, foremost}
use Rattle.sorting.specs.theory.Ahead.{order-foremost}
use Rattle.hull.specs.theory.Reading.{sign-greater, sign-other}
use Rattle.hull.proofs.rows.foremost.Goals as goal
use Rattle.hull.proofs.rows.foremost.Goals.{After-order}

-- what the order makes of the two corners
told : (c : After-order) → let p = at c.corner_at-p.result in
    let q = at c.corner_at-q.result in
    cond (le_z (order c.args.up p q) (pos 0)) p q
    ≡ foremost c.args.up (corner (points c.args.a.now) c.args.i) (corner (points c.args.b.now) c.args.j)
told c =
    order-foremost c.args.up (at c.corner_at-p.result) (at c.corner_at-q.result)
    ∙ ap₂ (foremost c.args.up) c.corner_at-p.ensures c.corner_at-q.ensures

pub returns-in-Greater : goal.returns-in-Greater
returns-in-Greater c =
    let z : ℤ = order c.args.up (at c.corner_at-p.result) (at c.corner_at-q.result) in
    sym (ap (λ (t : Bool). cond t (at c.corner_at-p.result) (at c.corner_at-q.result)) (sign-greater z c.in-Greater.ensures))
    ∙ told (goal.at.returns-in-Greater c).After-order

pub returns-in_default : goal.returns-in_default
returns-in_default c =
    let z : ℤ = order c.args.up (at c.corner_at-p.result) (at c.corner_at-q.result) in
    sym (ap (λ (t : Bool). cond t (at c.corner_at-p.result) (at c.corner_at-q.result))
    (sign-other z (λ e. c.in_default.not-Greater (c.order.ensures ∙ e)))) ∙ told (goal.at.returns-in_default c).After-order
