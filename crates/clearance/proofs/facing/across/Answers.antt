-- `across` meets its contract: differences of small parts fit 32 bits.
use mathlib.Core.Path.{◌∙◌, ap₂}
use mathlib.Core.List.{[], ◌∷◌}
use Rattle.integer.specs.Ring.{ring, reify}
use Rattle.integer.specs.Machine.{machine, bounded, machine-fits, machine-is}
use Rattle.plane.specs.Point.{point}
use Rattle.clearance.proofs.facing.across.Goals as goal

pub overflow_sub-result : goal.overflow_sub-result
overflow_sub-result c = machine-fits (search (machine, bounded) depth 40) tt

pub overflow_sub-result-2 : goal.overflow_sub-result-2
overflow_sub-result-2 c = machine-fits (search (machine, bounded) depth 40) tt

pub returns : goal.returns
returns c =
    let args = c.args in
    ap₂ point
    (machine-is (search (machine, bounded) depth 40) tt ∙ ring (args.w.y ∷ args.d.y ∷ []) (search reify depth 40) tt)
    (machine-is (search (machine, bounded) depth 40) tt)
