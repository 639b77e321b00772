-- `settle` meets its contract. The invariant: dropping down to kept corners pushes the same; the measure is how many are kept.
use Rattle.std.proofs.Common.{◌≡◌, sym, ◌∙◌, ap, ℤ, pos, true, false, to_z, of_z}
use Rattle.std.specs.Int.{w64}
use Rattle.std.specs.Int.Signed.{le_z, lt_z}
use Rattle.integer.specs.Machine.{result-is}
use Rattle.integer.specs.Order.{le_z-true, le_z-false, le-lt_z, lt-lt_z}
use Rattle.hull.specs.theory.Stack.{settle-short, settle-keep, settle-drop}
use Rattle.hull.proofs.scan.settle.Goals as goal

-- the test the other way round
other : (z : ℤ) → le_z z (pos 0) ≡ true → lt_z (pos 0) z ≡ false
other z h = le-lt_z {x = pos 0} {y = z} (le_z-true {x = z} {y = pos 0} h)

pub loop-kept-preserved : goal.loop-kept-preserved
loop-kept-preserved c =
    settle-drop c.loop-kept.invariant c.loop-kept-test.true
    (sym (ap (lt_z (pos 0)) (result-is w64 c.turn_on.type_inv c.turn_on.ensures))
    ∙ other (to_z w64 (of_z w64 c.turn_on.result)) c.if-turn_on-le0.true)

strict : (z : ℤ) → le_z z (pos 0) ≡ false → lt_z (pos 0) z ≡ true
strict z h = lt-lt_z {x = pos 0} {y = z} (le_z-false {x = z} {y = pos 0} h)

pub returns-else-turn_on-le0 : goal.returns-else-turn_on-le0
returns-else-turn_on-le0 c =
    settle-keep c.loop-kept.invariant c.loop-kept-test.true
    (sym (ap (lt_z (pos 0)) (result-is w64 c.turn_on.type_inv c.turn_on.ensures))
    ∙ strict (to_z w64 (of_z w64 c.turn_on.result)) c.if-turn_on-le0.false)

pub returns-after-loop-kept : goal.returns-after-loop-kept
returns-after-loop-kept c = settle-short c.loop-kept.invariant c.loop-kept-test.false
