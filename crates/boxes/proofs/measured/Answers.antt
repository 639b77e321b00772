-- `measured` meets its contract: two numbers below 2^63 can be added.
use mathlib.Core.Path.{refl, ap₂}
use native.Mathlib.Omega.{arith}
use lib.IntN.{◌+ℤ◌}
use Rattle.boxes.specs.Box.{half_round}
use Rattle.boxes.proofs.measured.Goals as goal

pub squared-squared-requires : goal.squared-squared-requires
squared-squared-requires c = let pre = c.requires in (pre.valid, pre.edge_in)

pub overflow_add-result : goal.overflow_add-result
overflow_add-result c = omega (arith, c.height-height.ensures.1, c.along-along.ensures.1)

pub returns : goal.returns
unfolding half_round
returns c =
    let tall = c.height-height.ensures.0 in
    let wide = c.along-along.ensures.0 in
    (refl, record { height-is = tall; along-is = wide; half_is = ap₂ (λ t s. t +ℤ s) tall wide; squared-is = c.squared-squared.ensures })
