-- `gap` meets its contract: sums of small parts fit 32 bits, and so do their opposites.
use mathlib.Core.Path.{◌≡◌, sym, ◌∙◌, ap, ap₂}
use mathlib.Core.Bool.{Bool, true, false, cond}
use Rattle.std.specs.Prelude.{◌⊎◌, ◌≤ℤ◌, ◌<ℤ◌}
use Rattle.std.proofs.Common.{inl, inr}
use Prim.Native.Nat.{◌^◌}
use mir.Syntax.{w32, w64}
use mir.Val.{to_z, of_z}
use mir.Facts.{to_z-of_z}
use lib.IntN.{ℤ, pos, neg_ℤ, ◌+ℤ◌, ◌-ℤ◌, +ℤ_idl}
use Rattle.std.specs.Int.{int_max}
use Rattle.integer.specs.Bound.{Within}
use Rattle.integer.specs.Machine.{machine, bounded, machine-fits, machine-is, result-is}
use Rattle.integer.specs.Order.{lt-or-le, lt-lt_z, le-lt_z, lt-le_z, le-le_z}
use Rattle.plane.specs.Direction.{greater}
use Rattle.extents.proofs.gap.Goals as goal

pub overflow_add-p : goal.overflow_add-p
overflow_add-p c = machine-fits (search (machine, bounded) depth 40) tt

pub overflow_sub-p : goal.overflow_sub-p
overflow_sub-p c = machine-fits (search (machine, bounded) depth 40) tt

pub overflow_add-p-2 : goal.overflow_add-p-2
overflow_add-p-2 c = machine-fits (search (machine, bounded) depth 40) tt

pub overflow_sub-p-2 : goal.overflow_sub-p-2
overflow_sub-p-2 c = machine-fits (search (machine, bounded) depth 40) tt

-- a coordinate of the sum with its sign changed, as the code makes it
turned : {x y : ℤ} → Within (2 ^ 22) x → Within (2 ^ 22) y
    → to_z w32 (of_z w32 (pos 0 -ℤ to_z w32 (of_z w32 (to_z w32 (of_z w32 x) +ℤ to_z w32 (of_z w32 y))))) ≡ neg_ℤ (x +ℤ y)
turned h k = machine-is (search (machine, bounded) depth 40) tt ∙ +ℤ_idl _

-- the library's greater number is the plane's
max-greater : (x y : ℤ) → int_max x y ≡ greater x y
unfolding greater
max-greater x y = go (lt-or-le y x)
  where
    go : (y <ℤ x) ⊎ (x ≤ℤ y) → int_max x y ≡ greater x y
    go (inl h) =
        ap (λ (b : Bool). cond b x y) (lt-lt_z h) ∙ sym (ap (λ (b : Bool). elim b [ true ↦ y | false ↦ x ]) (lt-le_z h))
    go (inr h) =
        ap (λ (b : Bool). cond b x y) (le-lt_z h) ∙ sym (ap (λ (b : Bool). elim b [ true ↦ y | false ↦ x ]) (le-le_z h))

pub returns : goal.returns
returns c =
    let pre = c.requires in
    let x = result-is w64 c.from-x.type_inv (c.from-x.ensures ∙ turned pre.0.small-x pre.1.small-x) in
    let y = result-is w64 c.from-y.type_inv (c.from-y.ensures ∙ turned pre.0.small-y pre.1.small-y) in
    result-is w64 c.max-2.type_inv (c.max-2.ensures.value
    ∙ ap₂ int_max (to_z-of_z {w = w64} c.ranges.least) (result-is w64 c.max.type_inv (c.max.ensures.value ∙ ap₂ int_max x y
    ∙ max-greater _ _))
    ∙ max-greater _ _)
