-- `divisor` meets its contract. The invariant: the divisor of x and y is that of a and b; the measure is y.
use mathlib.Core.Path.{◌≡◌, refl, sym, ◌∙◌, ap}
use native.Mathlib.Nat.{mod-lt}
use native.Mathlib.Omega.{arith}
use Rattle.divisor.specs.Divisor.{gcd}
use Rattle.divisor.specs.Euclid.{gcd-zero}
use Rattle.contact.proofs.theory.Found.{gcd-step}
use Rattle.contact.proofs.share.divisor.Goals as goal

pub loop-y-init : goal.loop-y-init
loop-y-init c = refl

pub nonzero_rem-rest : goal.nonzero_rem-rest
nonzero_rem-rest c = omega arith

pub loop-y-smaller : goal.loop-y-smaller
loop-y-smaller c = mod-lt c.loop-y.x (nonzero_rem-rest c)

pub loop-y-preserved : goal.loop-y-preserved
loop-y-preserved c = gcd-step c.loop-y.x c.loop-y.y ∙ c.loop-y.invariant

pub returns : goal.returns
returns c =
    let none : c.loop-y.y ≡ 0 = omega arith in
    sym (gcd-zero c.loop-y.x) ∙ ap (gcd c.loop-y.x) (sym none) ∙ c.loop-y.invariant
