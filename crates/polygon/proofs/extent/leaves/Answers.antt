-- `leaves` meets its contract: sums of small parts fit 32 bits.
use mathlib.Core.Path.{◌≡◌, sym, ◌∙◌, ap}
use mathlib.Core.Bool.{Bool, ◌||◌}
use Prim.Native.Nat.{◌^◌}
use mir.Syntax.{w32}
use mir.Val.{to_z, of_z}
use lib.IntN.{ℤ, ◌+ℤ◌}
use Rattle.integer.specs.Bound.{Within}
use Rattle.integer.specs.Machine.{machine, bounded, machine-is}
use Rattle.plane.specs.Refusal.{outside}
use Rattle.polygon.proofs.extent.leaves.Goals as goal

-- a sum as the code makes it
sum_is : {x y : ℤ} → Within (2 ^ 21) x → Within (2 ^ 21) y → to_z w32 (of_z w32 (to_z w32 (of_z w32 x) +ℤ to_z w32 (of_z w32 y))) ≡ x +ℤ y
sum_is h k = machine-is (search (machine, bounded) depth 40) tt

pub returns-else-outside : goal.returns-else-outside
returns-else-outside c =
    let pre = c.requires in
    let second = c.outside-else-outside.ensures ∙ ap outside (sum_is pre.0.small-y pre.1.small-y) in
    let first = sym (c.outside.ensures ∙ ap outside (sum_is pre.0.small-x pre.1.small-x)) ∙ c.if-outside.false in
    second ∙ ap (λ (b : Bool). b || outside (c.args.p.y +ℤ c.args.q.y)) (sym first)
