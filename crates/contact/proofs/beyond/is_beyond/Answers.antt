-- `is_beyond` meets its contract: each of the three directions shows it, if any does.
use mathlib.Core.Path.{◌≡◌, sym, ◌∙◌, subst}
use mathlib.Core.Bool.{true}
use mathlib.Core.List.{[], ◌∷◌}
use lib.IntN.{ℤ, pos, ◌-ℤ◌, +ℤ_idl}
use mir.Syntax.{w32}
use mir.Val.{to_z, of_z}
use mir.Facts.{to_z-of_z}
use Rattle.integer.specs.Bound.{Within, within-neg}
use Rattle.integer.specs.Machine.{machine, bounded, machine-fits, machine-is, within-fits}
use Prim.Native.Nat.{◌^◌}
use Rattle.plane.specs.Point.{Point, points}
use Rattle.plane.specs.Separation.{apart}
use Rattle.polygon.specs.Point.{at, Small}
use Rattle.growth.specs.Grown.{grown}
use Rattle.contact.specs.Share.{is_beside}
use Rattle.contact.proofs.theory.Sides.{small-place}
use Rattle.contact.proofs.theory.Beyond.{grown-shape, beside-apart, way-small}
use Rattle.contact.proofs.beyond.is_beyond.Goals as goal
use Rattle.contact.proofs.beyond.is_beyond.Goals.{After-grown_extent-span, After-step-along, then-is_beside, else-is_beside}

-- a direction that shows it
shows : (c : After-grown_extent-span) (d : Point) → let args = c.args in
    is_beside (at c.grown_extent-span.result.high) (at c.grown_extent-span.result.low) d (at args.t) (at args.u) ≡ true
    → apart (at args.t ∷ at args.u ∷ []) (grown (points args.obstacle.now) (points args.cart.now)) ≡ true
shows c d k =
    let s = grown-shape _ _ c.requires.0.shape.some c.requires.1.shape.some in
    beside-apart _ s.some c.grown_extent-span.ensures.extends _ _ s d k

pub returns-then-is_beside-2 : goal.returns-then-is_beside-2
returns-then-is_beside-2 c = λ r.
    let here = (goal.at.returns-then-is_beside-2 c).After-grown_extent-span in
    elim c.if-is_beside.branch [
      | then-is_beside w ↦ shows here _ (sym c.is_beside.ensures ∙ w.if-is_beside.true)
      | else-is_beside w ↦ shows here _ (sym w.is_beside-else-is_beside.ensures ∙ sym w.value-is ∙ r)
    ]

pub step-along-requires : goal.step-along-requires
step-along-requires c = let places = c.requires.2 in (small-place places.from-near, small-place places.to-near)

-- the way is small, and so is its normal
along : (c : After-step-along) → Small (2 ^ 21) (at c.step-along.result)
along c = let places = c.requires.2 in way-small places.from-near places.to-near c.step-along.ensures

read : {z : ℤ} → Within (2 ^ 21) z → Within (2 ^ 21) (to_z w32 (of_z w32 z))
read {z} h = subst (λ (x : ℤ). Within (2 ^ 21) x) (sym (to_z-of_z {w = w32} {z = z} (within-fits tt h))) h

read_back : {z : ℤ} → Within (2 ^ 21) z → Within (2 ^ 21) (to_z w32 (of_z w32 (pos 0 -ℤ to_z w32 (of_z w32 z))))
read_back h = subst (λ (x : ℤ). Within (2 ^ 21) x) (sym (machine-is (search (machine, bounded) depth 40) tt ∙ +ℤ_idl _)) (within-neg h)

pub overflow_sub-across : goal.overflow_sub-across
overflow_sub-across c = let h = (along (goal.at.overflow_sub-across c).After-step-along).small-y in machine-fits
    (search (machine, bounded) depth 40) tt

pub is_beside-requires-else-is_beside-2 : goal.is_beside-requires-else-is_beside-2
is_beside-requires-else-is_beside-2 c =
    let small = c.grown_extent-span.ensures.small in (
      small.0,
      small.1,
      record {
        small-x = read_back (along (goal.at.is_beside-requires-else-is_beside-2 c).After-step-along).small-y;
        small-y = read
            (along (goal.at.is_beside-requires-else-is_beside-2 c).After-step-along).small-x;
      },
      c.requires.2,
    )

pub returns-else-is_beside-2 : goal.returns-else-is_beside-2
returns-else-is_beside-2 c = λ r.
    shows (goal.at.returns-else-is_beside-2 c).After-grown_extent-span _ (sym c.is_beside-else-is_beside-2.ensures ∙ r)
