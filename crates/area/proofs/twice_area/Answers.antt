-- `twice_area` meets its contract. The invariant: the sum so far is that of the closing edge and of the edges before corner i.
use mathlib.Core.Path.{◌≡◌, sym, ◌∙◌, ap}
use mathlib.Core.List.{List}
use Prim.Native.Nat.{◌+◌, ◌-◌, ◌^◌, ◌<◌}
use native.Mathlib.Omega.{arith}
use lib.ListN.{length}
use lib.IntN.{ℤ, pos, nat_abs, ◌+ℤ◌}
use lib.Signed.{yes_non_neg, pos-nat_abs}
use mir.Syntax.{w64}
use mir.Val.{SFits, to_z, of_z}
use Rattle.integer.specs.Bound.{Within}
use Rattle.integer.specs.Machine.{machine, known, machine-fits, machine-is, result-is}
use Rattle.plane.specs.Point.{Point, points, corner}
use Rattle.plane.specs.Turn.{cross}
use Rattle.area.specs.Area.{twice_area}
use Rattle.area.proofs.theory.Partial.{partial, partial-start, partial-more, partial-all, partial-within, corners-within}
use Rattle.area.proofs.theory.Compared.{area-nonneg}
use Rattle.area.proofs.twice_area.Goals as goal
use Rattle.area.proofs.twice_area.Goals.{After-cross_at-sum-in-loop-i, After-loop-i}

pub loop-i-init : goal.loop-i-init
loop-i-init c =
    let ps = points c.args.list.now in
    result-is w64 c.cross_at-sum.type_inv c.cross_at-sum.ensures
    ∙ ap (λ k. cross (corner ps (k - 1)) (corner ps 0)) c.count-n.ensures ∙ partial-start ps

-- a partial sum v, and one more product u
module _ (s r v u : ℤ) (e : s ≡ v) (h : Within (2 ^ 60) v) (f : r ≡ u) (k : Within (2 ^ 43) u) where
  sum_fits : SFits w64 (s +ℤ to_z w64 (of_z w64 r))
  sum_fits = let p = known e h in let q = known f k in machine-fits (search machine depth 40) tt

  sum_is : to_z w64 (of_z w64 (s +ℤ to_z w64 (of_z w64 r))) ≡ v +ℤ u
  sum_is = let p = known e h in let q = known f k in machine-is (search machine depth 40) tt

module _ (c : After-cross_at-sum-in-loop-i) where
  abbrev ps : List Point
  ps = points c.args.list.now

  inside : (c.loop-i.i < length ps) × (c.loop-i.i + 1 < length ps)
  inside =
      let n = c.count-n.ensures in
      (omega (arith, n), omega (arith, n))

  sum-within : Within (2 ^ 60) (partial ps c.loop-i.i)
  sum-within = partial-within _ c.requires c.loop-i.i inside.0

  product-within : Within (2 ^ 43) (cross (corner ps c.loop-i.i) (corner ps (c.loop-i.i + 1)))
  product-within = corners-within _ c.requires.in_range c.loop-i.i (c.loop-i.i + 1) inside.0 inside.1

pub overflow_add-sum : goal.overflow_add-sum
overflow_add-sum c = sum_fits _ _ _ _ c.loop-i.invariant (sum-within c) c.cross_at-sum-in-loop-i.ensures (product-within c)

pub loop-i-preserved : goal.loop-i-preserved
loop-i-preserved c =
    sum_is _ _ _ _ c.loop-i.invariant (sum-within c) c.cross_at-sum-in-loop-i.ensures (product-within c)
    ∙ partial-more (points c.args.list.now) c.loop-i.i

-- at the last corner the sum is all of it
whole : (c : After-loop-i)
    → twice_area (points c.args.list.now) ≡ to_z w64 c.loop-i.sum-bits
whole c =
    partial-all _ c.loop-i.i (omega (arith, c.requires.shape.some)) (omega (
      arith,
      c.count-n.ensures,
      c.loop-i-test.false,
      c.requires.shape.some,
    ))
    ∙ sym c.loop-i.invariant

pub returns : goal.returns
returns c =
    sym (pos-nat_abs _ (yes_non_neg (area-nonneg _ c.requires.shape)))
    ∙ ap (λ z. pos (nat_abs z)) (whole c.before) ∙ ap pos (sym c.unsigned_abs.ensures.value)
