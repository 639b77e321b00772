-- `turn_on` meets its contract: the two last corners are those that it reads.
use mathlib.Core.Path.{◌∙◌, ap₂, sym, subst}
use Prim.Native.Nat.{◌^◌}
use native.Mathlib.Omega.{arith}
use mir.Syntax.{w64}
use Rattle.integer.specs.Machine.{result-is}
use Rattle.plane.specs.Point.{Point}
use Rattle.plane.specs.Turn.{turn}
use Rattle.polygon.specs.Point.{at, Small}
use Rattle.hull.proofs.scan.turn_on.Goals as goal

pub turn-requires : goal.turn-requires
turn-requires c =
    let pre = c.requires in (
      subst (Small (2 ^ 21)) (sym c.corner_at.ensures) (pre.2.small _ (omega (arith, pre.0))),
      subst (Small (2 ^ 21)) (sym c.corner_at-2.ensures) (pre.2.small _ (omega (arith, pre.0))),
      pre.3,
    )

pub returns : goal.returns
returns c =
    result-is w64 c.turn.type_inv (c.turn.ensures
    ∙ ap₂ (λ (a b : Point). turn a b (at c.args.p)) c.corner_at.ensures
    c.corner_at-2.ensures)
