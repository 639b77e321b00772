-- `goes_on` meets its contract: the rise decides the half, then the turn is asked.
use mathlib.Core.Path.{◌≡◌, sym, ◌∙◌, ap}
use mathlib.Core.Bool.{beq}
use lib.IntN.{ℤ, pos}
use lib.Signed.{le_z}
use mir.Syntax.{w64}
use mir.Val.{to_z, of_z}
use Rattle.integer.specs.Machine.{machine, bounded, machine-is}
use Rattle.convexity.specs.theory.Stretches.{other_half, own-half}
use Rattle.convexity.proofs.goes_on.Goals as goal
use Rattle.convexity.proofs.goes_on.Goals.{Start}

-- the rise as it is read
rise-is : (c : Start) → to_z w64 (of_z w64 c.args.f.rise) ≡ c.args.f.rise
rise-is c = machine-is (search (machine, bounded) depth 40) tt

half_is : (c : Start) → beq (le_z (pos 0) c.args.f.rise) c.args.up
    ≡ beq (le_z (pos 0) (to_z w64 (of_z w64 c.args.f.rise))) c.args.up
half_is c = ap (λ (z : ℤ). beq (le_z (pos 0) z) c.args.up) (sym (rise-is c))

pub returns-then-f-up : goal.returns-then-f-up
returns-then-f-up c =
    c.is_left.ensures ∙ sym (own-half _ _ _ (half_is (goal.at.returns-then-f-up c).Start ∙ c.if-f-up.true))

pub returns-else-f-up : goal.returns-else-f-up
returns-else-f-up c =
    c.if-f-up.false ∙ sym (other_half _ _ _ (half_is (goal.at.returns-else-f-up c).Start ∙ c.if-f-up.false))
