-- `draws` meets its contract: the side by the cross product, and on the line how far ahead by the product along it.
use mathlib.Core.Path.{◌≡◌, sym, ◌∙◌, ap, ap₂}
use lib.IntN.{ℤ, pos}
use lib.Signed.{lt_z}
use mir.Syntax.{w64}
use mir.Val.{to_z, of_z}
use Rattle.integer.specs.Machine.{result-is}
use Rattle.integer.specs.Order.{lt_z-true, lt_z-false, le_antisym}
use Rattle.plane.specs.Turn.{turn, cross, turn-cross}
use Rattle.plane.specs.Direction.{value}
use Rattle.polygon.specs.Point.{at}
use Rattle.polygon.specs.theory.Small.{small-step}
use Rattle.tangents.specs.theory.DrawsTest.{draws-right, draws-left, draws-along}
use Rattle.tangents.proofs.draws.draws.Goals as goal
use Rattle.tangents.proofs.draws.draws.Goals.{After-cross-turn}

pub cross-turn-requires : goal.cross-turn-requires
cross-turn-requires c =
    let pre = c.requires in
    (small-step pre.0 pre.1 c.step-line.ensures, small-step pre.0 pre.2 c.step-other.ensures)

-- the turn
turn_is : (c : After-cross-turn) → let args = c.args in
    to_z w64 (of_z w64 c.cross-turn.result) ≡ turn (at args.p) (at args.q) (at args.x)
turn_is c = result-is w64 c.cross-turn.type_inv
    (c.cross-turn.ensures ∙ ap₂ cross c.step-line.ensures c.step-other.ensures ∙ sym (turn-cross _ _ _))

pub returns-then-turn-lt0 : goal.returns-then-turn-lt0
returns-then-turn-lt0 c =
    sym (draws-right _ _ _ _ (lt_z-true (sym (ap (λ (z : ℤ). lt_z z (pos 0)) (turn_is c.before)) ∙ c.if-turn-lt0.true)))

pub returns-then-turn-gt0 : goal.returns-then-turn-gt0
returns-then-turn-gt0 c =
    sym (draws-left _ _ _ _ (lt_z-true (sym (ap (lt_z (pos 0)) (turn_is c.before.before)) ∙ c.if-turn-gt0.true)))

pub dot-requires : goal.dot-requires
dot-requires c = cross-turn-requires c.before.before.before

pub returns : goal.returns
returns c =
    ap (lt_z (pos 0)) (result-is w64 c.dot.type_inv (c.dot.ensures ∙ ap₂ value c.step-line.ensures c.step-other.ensures))
    ∙ sym (draws-along _ _ _ _ (le_antisym
    (lt_z-false (sym (ap (lt_z (pos 0)) (turn_is c.before.before.before)) ∙ c.if-turn-gt0.false))
    (lt_z-false (sym (ap (λ (z : ℤ). lt_z z (pos 0)) (turn_is c.before.before.before)) ∙ c.if-turn-lt0.false))))
