-- `route_at` meets its contract.
use mathlib.Core.Path.{sym, ◌∙◌, ap}
use mathlib.Core.Bool.{Bool, cond}
use Prim.Native.Nat.{◌+◌, ◌-◌}
use native.Mathlib.Omega.{arith}
use Rattle.plane.specs.Point.{points, corner}
use Rattle.hull.proofs.outline.route_at.Goals as goal

pub corner_at-requires : goal.corner_at-requires
corner_at-requires c = omega (arith, c.requires.0, c.requires.1)

pub returns-then-up : goal.returns-then-up
returns-then-up c =
    let args = c.args in
    c.corner_at.ensures ∙ ap (λ (b : Bool). corner (points args.list.now) (cond b args.i (args.n - (args.i + 1))))
    (sym c.if-up.true)

pub corner_at-requires-2 : goal.corner_at-requires-2
corner_at-requires-2 c = omega (arith, c.requires.0, c.requires.1)

pub returns : goal.returns
returns c =
    let args = c.args in
    c.corner_at-2.ensures ∙ ap (λ (b : Bool). corner (points args.list.now) (cond b args.i (args.n - (args.i + 1))))
    (sym c.if-up.false)
