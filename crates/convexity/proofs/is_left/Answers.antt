-- `is_left` meets its contract: products of small parts fit 64 bits, and they are compared instead of subtracted.
use mathlib.Core.Path.{◌≡◌, refl, sym, ◌∙◌, ap₂}
use mathlib.Core.Bool.{Bool, true, false}
use mathlib.Core.List.{[], ◌∷◌}
use Prim.Native.Nat.{◌^◌}
use native.Mathlib.Omega.{arith}
use lib.IntN.{ℤ, pos, ◌-ℤ◌, ◌*ℤ◌}
use lib.Signed.{◌≤ℤ◌, ◌<ℤ◌, lt_z}
use mir.Syntax.{w64}
use mir.Val.{to_z, of_z}
use Rattle.integer.specs.Bound.{Within}
use Rattle.integer.specs.Linear.{linear, lia}
use Rattle.integer.specs.Order.{lt_z-true, lt_z-false, lt-lt_z, le-lt_z}
use Rattle.integer.specs.Machine.{machine, bounded, machine-is}
use Rattle.plane.specs.Turn.{cross}
use Rattle.convexity.proofs.is_left.Goals as goal

-- one number is below another exactly if their difference is above 0
less : {a b x y : ℤ} → a ≡ x → b ≡ y → lt_z a b ≡ lt_z (pos 0) (y -ℤ x)
less {a} {b} {x} {y} p q = ap₂ lt_z p q ∙ go (lt_z x y) refl
  where
    go : (t : Bool) → lt_z x y ≡ t → lt_z x y ≡ lt_z (pos 0) (y -ℤ x)
    go true h =
        let k : pos 0 <ℤ (y -ℤ x) = lia (x ∷ y ∷ []) (lt_z-true {x = x} {y = y} h) (search linear depth 40) (omega arith) in
        h ∙ sym (lt-lt_z k)
    go false h =
        let k : (y -ℤ x) ≤ℤ pos 0 = lia (x ∷ y ∷ []) (lt_z-false {x = x} {y = y} h) (search linear depth 40) (omega arith) in
        h ∙ sym (le-lt_z k)

-- a product of small parts, as it is read
product_is : {x y : ℤ} → Within (2 ^ 22) x → Within (2 ^ 22) y → to_z w64 (of_z w64 (to_z w64 (of_z w64 x) *ℤ to_z w64 (of_z w64 y))) ≡ x *ℤ
    y
product_is h k = let p = bounded h in let q = bounded k in machine-is (search machine depth 40) tt

pub returns : goal.returns
unfolding cross
returns c =
    let pre = c.requires in
    less (product_is pre.0.small-y pre.1.small-x) (product_is pre.0.small-x pre.1.small-y)
