-- `extent_of` meets its contract. The invariant: the two points are as high as the first i corners, and as their opposites.
use mathlib.Core.Path.{◌≡◌, ◌∙◌, ap, subst, sym}
use Prim.Native.Nat.{◌≤◌, ◌<◌, ◌^◌}
use native.Mathlib.Omega.{arith}
use lib.ListN.{length}
use Rattle.integer.specs.Bound.{within-neg}
use Rattle.plane.specs.Point.{Point, points, opposite}
use Rattle.polygon.specs.Point.{at, Small}
use Rattle.polygon.specs.theory.Small.{small-corner}
use Rattle.polygon.specs.theory.Extents.{reached-start, reached-more, reached-end}
use Rattle.polygon.specs.theory.Extents.{mirrored-start, mirrored-more, mirrored-end}
use Rattle.polygon.proofs.extent.extent_of.Goals as goal
use Rattle.polygon.proofs.extent.extent_of.Goals.{After-corner_at-first, After-corner_at-p, In-loop-i}

-- the opposite of a point that may be added may be added
turned : {p q : Point} → Small (2 ^ 21) p → q ≡ opposite p → Small (2 ^ 21) q
turned s e = subst (Small (2 ^ 21)) (sym e) (record { small-x = within-neg s.small-x; small-y = within-neg s.small-y })

-- the first corner and its opposite, and those in the loop, may be added
first_small : (c : After-corner_at-first) → Small (2 ^ 21) (at c.corner_at-first.result)
first_small c = small-corner _ c.requires.1 0 c.requires.0 c.corner_at-first.ensures

in_list : (c : In-loop-i)
    → c.loop-i.i < length (points c.args.list.now)
in_list c = omega (arith, c.loop-i-test.true, c.count-n.ensures)

next_small : (c : After-corner_at-p) → Small (2 ^ 21) (at c.corner_at-p.result)
next_small c = small-corner _ c.requires.1 _ (in_list c.before) c.corner_at-p.ensures

pub opposite-low-requires : goal.opposite-low-requires
opposite-low-requires c = first_small c

pub loop-i-init : goal.loop-i-init
loop-i-init c =
    let some = c.requires.0 in
    let small = first_small c.before in (
      reached-start _ some c.corner_at-first.ensures small,
      mirrored-start (points c.args.list.now) some (c.opposite-low.ensures ∙ ap opposite c.corner_at-first.ensures)
          (turned small c.opposite-low.ensures),
    )

pub upper-high-requires : goal.upper-high-requires
upper-high-requires c = (c.loop-i.invariant.0.small, next_small c)

pub opposite-requires : goal.opposite-requires
opposite-requires c = next_small c.before

pub upper-low-requires : goal.upper-low-requires
upper-low-requires c =
    (c.loop-i.invariant.1.small, turned (next_small c.before.before) c.opposite.ensures)

pub loop-i-preserved : goal.loop-i-preserved
loop-i-preserved c =
    let inv = c.loop-i.invariant in
    let small = next_small c.before.before.before in (
      reached-more _ inv.0 (in_list c.before.before.before.before) c.corner_at-p.ensures small c.upper-high.ensures,
      mirrored-more (points c.args.list.now) inv.1 (in_list c.before.before.before.before)
          (c.opposite.ensures ∙ ap opposite c.corner_at-p.ensures)
          (turned small c.opposite.ensures) c.upper-low.ensures,
    )

pub returns : goal.returns
returns c =
    let ps = points c.args.list.now in
    let end : length ps ≤ c.loop-i.i = omega (arith, c.loop-i-test.false, c.count-n.ensures) in
    record { high_is = reached-end _ c.loop-i.invariant.0 end; low-is = mirrored-end ps c.loop-i.invariant.1 end }
