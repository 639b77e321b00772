-- `entering` meets its contract, case by case; the difference of two bounded numbers fits.
use mathlib.Core.Path.{◌≡◌, sym, ◌∙◌, ap₂}
use native.Mathlib.Omega.{arith}
use mathlib.Core.List.{[], ◌∷◌}
use lib.IntN.{pos, ◌-ℤ◌}
use lib.Signed.{◌≤ℤ◌, ◌<ℤ◌}
use mir.Syntax.{w64}
use mir.Val.{to_z, of_z}
use mir.Facts.{to_z-of_z}
use Rattle.integer.specs.Linear.{linear, lia}
use Rattle.integer.specs.Order.{weaken, le_z-true, le_z-false}
use Rattle.integer.specs.Machine.{machine, bounded, machine-fits, machine-is}
use Rattle.plane.specs.Distance.{over}
use Rattle.contact.proofs.theory.Words.{entering-begun, entering-inside, entering-never}
use Rattle.contact.proofs.share.Share.entering.Goals as goal
use Rattle.contact.proofs.share.Share.entering.Goals.{After-magnitude, Then-b-le0}

pub returns-then-a-le0 : goal.returns-then-a-le0
returns-then-a-le0 c = entering-begun _ _ (le_z-true (rw (to_z-of_z {w = w64} c.ranges.a) at c.if-a-le0.true))

pub magnitude-requires : goal.magnitude-requires
magnitude-requires c = weaken (le_z-false c.if-a-le0.false)

pub overflow_sub-a : goal.overflow_sub-a
overflow_sub-a c = machine-fits (search (machine, bounded) depth 40) tt

-- before it and not after it
ends : (c : Then-b-le0) → (pos 0 <ℤ c.args.a) × (c.args.b ≤ℤ pos 0)
ends c = (
  le_z-false {x = c.args.a} (rw (to_z-of_z {w = w64} c.ranges.a) at c.if-a-le0.false),
  le_z-true {x = c.args.b} (rw (to_z-of_z {w = w64} c.ranges.b) at c.if-b-le0.true),
)

-- the difference, as the machine reads it back
step : (c : After-magnitude) →
    to_z w64 (of_z w64 (to_z w64 (of_z w64 c.args.a) -ℤ to_z w64 (of_z w64 c.args.b))) ≡ c.args.a -ℤ c.args.b
step c = machine-is (search (machine, bounded) depth 40) tt

pub magnitude-requires-then-b-le0 : goal.magnitude-requires-then-b-le0
magnitude-requires-then-b-le0 c =
    let args = c.args in
    rw (step c) (lia (args.a ∷ args.b ∷ []) (ends c.before) (search linear depth 40) (omega arith))

pub returns-then-b-le0 : goal.returns-then-b-le0
returns-then-b-le0 c =
    let held = ends c.before.before in
    ap₂ over (sym c.magnitude.ensures ∙ to_z-of_z {w = w64} c.ranges.a) (sym c.magnitude-then-b-le0.ensures ∙ step c.before)
    ∙ entering-inside _ _ held.0 held.1

pub returns-else-b-le0 : goal.returns-else-b-le0
returns-else-b-le0 c = entering-never _ _ (le_z-false (rw (to_z-of_z {w = w64} c.ranges.a) at c.if-a-le0.false))
    (le_z-false (rw (to_z-of_z {w = w64} c.ranges.b) at c.if-b-le0.false))
