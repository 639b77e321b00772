-- `straight_at` meets its contract: the turn decides, and then the product of the two steps.
use mathlib.Core.Path.{sym, ◌∙◌, ap, ap₂}
use mir.Syntax.{w64}
use lib.IntN.{ℤ, pos}
use lib.Signed.{lt_z}
use Rattle.integer.specs.Machine.{result-is}
use Rattle.plane.specs.Point.{◌⊖◌}
use Rattle.plane.specs.Direction.{value}
use Rattle.polygon.specs.theory.Small.{small-corner, small-step}
use Rattle.ring.specs.theory.Steps.{straight-left, straight-right, straight-level}
use Rattle.ring.proofs.turns.straight_at.Goals as goal

pub returns-then-turn-gt0 : goal.returns-then-turn-gt0
returns-then-turn-gt0 c =
    let t = result-is w64 c.turn_at-turn.type_inv c.turn_at-turn.ensures in
    sym (straight-left _ _ _ (ap (lt_z (pos 0)) (sym t) ∙ c.if-turn-gt0.true))

pub returns-then-turn-lt0 : goal.returns-then-turn-lt0
returns-then-turn-lt0 c =
    let t = result-is w64 c.turn_at-turn.type_inv c.turn_at-turn.ensures in
    sym (straight-right _ _ _ (ap (lt_z (pos 0)) (sym t) ∙ c.if-turn-gt0.false)
    (ap (λ (z : ℤ). lt_z z (pos 0)) (sym t) ∙ c.if-turn-lt0.true))

pub step-come-requires : goal.step-come-requires
step-come-requires c =
    let pre = c.requires in
    (small-corner _ pre.3 _ pre.0 c.corner_at.ensures, small-corner _ pre.3 _ pre.1 c.corner_at-at.ensures)

pub step-go-requires : goal.step-go-requires
step-go-requires c =
    let pre = c.requires in
    (small-corner _ pre.3 _ pre.1 c.corner_at-at.ensures, small-corner _ pre.3 _ pre.2 c.corner_at-2.ensures)

pub dot-requires : goal.dot-requires
dot-requires c =
    let s = step-come-requires c.before.before.before in
    let t = step-go-requires c.before in
    (small-step s.0 s.1 c.step-come.ensures, small-step t.0 t.1 c.step-go.ensures)

pub returns : goal.returns
returns c =
    let t = result-is w64 c.turn_at-turn.type_inv c.turn_at-turn.ensures in
    let b = c.corner_at-at.ensures in
    ap (lt_z (pos 0)) (result-is w64 c.dot.type_inv (c.dot.ensures
    ∙ ap₂ value (c.step-come.ensures ∙ ap₂ ◌⊖◌ b c.corner_at.ensures)
    (c.step-go.ensures ∙ ap₂ ◌⊖◌ c.corner_at-2.ensures b)))
    ∙ sym (straight-level _ _ _ (ap (lt_z (pos 0)) (sym t) ∙ c.if-turn-gt0.false)
    (ap (λ (z : ℤ). lt_z z (pos 0)) (sym t) ∙ c.if-turn-lt0.false))
