-- `first_furthest` meets its contract. The invariant: of the values before i the greatest, at its smallest position.
use mathlib.Core.Path.{◌≡◌, sym, ◌∙◌, ap}
use native.Mathlib.Omega.{arith}
use lib.ListN.{length}
use lib.Signed.{lt_z}
use mir.Syntax.{w64}
use mir.Val.{to_z}
use Rattle.integer.specs.Machine.{result-is}
use Rattle.integer.specs.Order.{lt_z-true, lt_z-false}
use Rattle.plane.specs.Point.{points}
use Rattle.direction.specs.theory.Furthest.{greatest-keep, greatest-rise, greatest-furthest}
use Rattle.direction.proofs.first_furthest.Goals as goal
use Rattle.direction.proofs.first_furthest.Goals.{then-value-next, else-value-next}

pub value_at-next-requires : goal.value_at-next-requires
value_at-next-requires c =
    (omega (arith, c.count-n.ensures), c.requires.1, c.requires.2)

pub loop-i-preserved : goal.loop-i-preserved
loop-i-preserved c =
    let is = result-is w64 c.value_at-next.type_inv c.value_at-next.ensures in
    let test = ap (lt_z (to_z w64 c.loop-i.value-bits)) is in
    elim c.if-value-next.branch [
      | then-value-next w ↦ greatest-rise _ c.loop-i.invariant (lt_z-true (sym test ∙ w.if-value-next.true)) w.position-is
          (w.value-is ∙ is)
      | else-value-next w ↦ greatest-keep _ c.loop-i.invariant (lt_z-false (sym test ∙ w.if-value-next.false)) w.position-is w.value-is
    ]

pub returns : goal.returns
returns c =
    let end : c.loop-i.i ≡ length (points c.args.list.now) = omega (arith, c.count-n.ensures, c.requires.0) in
    greatest-furthest _ _ c.loop-i.invariant end
