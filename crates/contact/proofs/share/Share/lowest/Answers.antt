-- `lowest` meets its contract: the divisor is not 0, since the denominator is not.
use mathlib.Core.Path.{◌∙◌, ap}
use mathlib.Core.Logic.{inr}
use Prim.Native.Nat.{ℕ, ◌/◌, ◌<◌}
use native.Mathlib.Omega.{arith}
use lib.IntN.{pos}
use Rattle.plane.specs.Distance.{over}
use Rattle.divisor.specs.Euclid.{gcd-positive}
use Rattle.contact.proofs.theory.Found.{lowest-words}
use Rattle.contact.proofs.share.Share.lowest.Goals as goal
use Rattle.contact.proofs.share.Share.lowest.Goals.{After-divisor-g}

positive : (c : After-divisor-g) → 0 < c.divisor-g.result
positive c =
    let f = c.args.self in
    omega (arith, c.divisor-g.ensures, gcd-positive f.numerator f.denominator (inr c.requires))

pub nonzero_div-result : goal.nonzero_div-result
nonzero_div-result c = positive c.before

pub nonzero_div-result-2 : goal.nonzero_div-result-2
nonzero_div-result-2 c = positive c.before.before

pub returns : goal.returns
returns c =
    let f = c.args.self in
    ap (λ (g : ℕ). over (pos (f.numerator / g)) (pos (f.denominator / g))) c.divisor-g.ensures
    ∙ lowest-words f.numerator f.denominator
