-- `upper` meets its contract.
use mathlib.Core.Path.{◌≡◌, sym, ◌∙◌, ap, ap₂}
use mathlib.Core.Bool.{Bool, true, false, cond}
use Rattle.std.specs.Prelude.{◌⊎◌, ◌≤ℤ◌, ◌<ℤ◌}
use Rattle.std.proofs.Common.{inl, inr}
use Rattle.integer.specs.Order.{lt-or-le, lt-lt_z, le-lt_z, lt-le_z, le-le_z}
use Prim.Native.Nat.{◌^◌}
use mir.Syntax.{w32}
use mir.Val.{to_z, of_z}
use mir.Facts.{to_z-of_z}
use lib.IntN.{ℤ}
use Rattle.std.specs.Int.{int_max}
use Rattle.integer.specs.Bound.{Within}
use Rattle.integer.specs.Machine.{within-fits, result-is}
use Rattle.plane.specs.Point.{point}
use Rattle.plane.specs.Direction.{greater}
use Rattle.polygon.proofs.extent.upper.Goals as goal

-- a small number, read back from its bits
read : {z : ℤ} → Within (2 ^ 21) z → to_z w32 (of_z w32 z) ≡ z
read h = to_z-of_z {w = w32} (within-fits tt h)

-- the library's greater number is ours
max-greater : (x y : ℤ) → int_max x y ≡ greater x y
unfolding greater
max-greater x y = go (lt-or-le y x)
  where
    go : (y <ℤ x) ⊎ (x ≤ℤ y) → int_max x y ≡ greater x y
    go (inl h) =
        ap (λ (b : Bool). cond b x y) (lt-lt_z h) ∙ sym (ap (λ (b : Bool). elim b [ true ↦ y | false ↦ x ]) (lt-le_z h))
    go (inr h) =
        ap (λ (b : Bool). cond b x y) (le-lt_z h) ∙ sym (ap (λ (b : Bool). elim b [ true ↦ y | false ↦ x ]) (le-le_z h))

pub returns : goal.returns
returns c =
    let pre = c.requires in
    ap₂ point (result-is w32 c.max.type_inv (c.max.ensures.value ∙ ap₂ int_max (read pre.0.small-x) (read pre.1.small-x) ∙ max-greater _ _))
    (result-is w32 c.max-2.type_inv (c.max-2.ensures.value ∙ ap₂ int_max (read pre.0.small-y) (read pre.1.small-y) ∙ max-greater _ _))
