-- `reach` meets its contract. The invariant: the greatest of the values before i, at some position.
use mathlib.Core.Path.{◌≡◌, refl, sym, ◌∙◌, ap}
use mathlib.Core.Bool.{Bool, cond}
use native.Mathlib.Omega.{arith}
use lib.IntN.{ℤ}
use lib.ListN.{length}
use mir.Syntax.{w64}
use mir.Val.{SFits, to_z, of_z}
use Rattle.std.specs.Int.{int_max}
use Rattle.integer.specs.Machine.{result-is}
use Rattle.integer.specs.Order.{Compared, is_below, is-equal, is-above, compared, weaken, le_of_eq, lt-lt_z, le-lt_z}
use Rattle.plane.proofs.theory.face.FirstFurthest.{Greatest}
use Rattle.std.specs.Prelude.{ℕ, ◌+◌, ◌⊎◌, ◌≤ℤ◌, ◌<ℤ◌}
use Rattle.std.proofs.Common.{inl, inr}
use Rattle.plane.specs.Point.{points}
use Rattle.direction.specs.theory.Furthest.{greatest-keep, greatest-rise, greatest-support}
use Rattle.direction.proofs.reach.Goals as goal

-- the greater of the two is the greatest so far
more : {f : ℕ → ℤ} {i k : ℕ} {z z' : ℤ} → Greatest f i k z → z' ≡ int_max z (f i) → (j : ℕ) × Greatest f (i + 1) j z'
more {f} {i} {k} {z} {z'} g e = go (compared z (f i))
  where
    first : f i ≤ℤ z → (z ≡ f i) ⊎ (f i <ℤ z) → z' ≡ z
    first h (inl s) = e ∙ ap (λ (b : Bool). cond b z (f i)) (le-lt_z (le_of_eq s)) ∙ sym s
    first h (inr l) = e ∙ ap (λ (b : Bool). cond b z (f i)) (lt-lt_z l)

    go : Compared z (f i) → (j : ℕ) × Greatest f (i + 1) j z'
    go (is_below h) = (i, greatest-rise f g h refl (e ∙ ap (λ (b : Bool). cond b z (f i)) (le-lt_z (weaken h))))
    go (is-equal s) = (k, greatest-keep f g (le_of_eq (sym s)) refl (first (le_of_eq (sym s)) (inl s)))
    go (is-above h) = (k, greatest-keep f g (weaken h) refl (first (weaken h) (inr h)))

-- the library's greater number, read from its bits
told : {x y z : ℤ} → SFits w64 x → x ≡ y → y ≡ z → to_z w64 (of_z w64 x) ≡ z
told f e p = result-is w64 f.sfits (e ∙ p)

pub value_at-requires : goal.value_at-requires
value_at-requires c =
    (omega (arith, c.count-n.ensures), c.requires.1, c.requires.2)

pub loop-i-preserved : goal.loop-i-preserved
loop-i-preserved c =
    let is = result-is w64 c.value_at.type_inv c.value_at.ensures in
    let greater = ap (int_max (to_z w64 c.loop-i.greatest-bits)) is in
    more c.loop-i.invariant.1 (search (told, greater) depth 20)

pub returns : goal.returns
returns c =
    let end : c.loop-i.i ≡ length (points c.args.list.now) = omega (arith, c.count-n.ensures, c.requires.0) in
    greatest-support _ _ c.loop-i.invariant.1 end
