-- `along` meets its contract: the two held corners are furthest apart along the edge.
use mathlib.Core.Path.{◌≡◌, sym, ◌∙◌, ap₂}
use Prim.Native.Nat.{◌^◌}
use mir.Syntax.{w64}
use mir.Val.{to_z, of_z}
use Rattle.integer.specs.Machine.{result-is}
use Rattle.plane.specs.Point.{Point, points, ◌⊖◌}
use Rattle.plane.specs.Direction.{value}
use Rattle.plane.proofs.theory.lists.Next.{next-below}
use Rattle.polygon.specs.Point.{at, Small}
use Rattle.polygon.specs.theory.Small.{small-corner, small-edge, small-step, small-wide}
use Rattle.strips.proofs.theory.Spread.{spread-nonneg}
use Rattle.boxes.specs.Box.{along}
use Rattle.boxes.specs.theory.Held.{held-along}
use Rattle.boxes.proofs.Sizes.{below_half}
use Rattle.boxes.proofs.jaws.along.Goals as goal
use Rattle.boxes.proofs.jaws.along.Goals.{After-dot, After-edge_at}

pub corner_at-near-requires : goal.corner_at-near-requires
corner_at-near-requires c = c.requires.holds.near-furthest.within

pub corner_at-far-requires : goal.corner_at-far-requires
corner_at-far-requires c = c.requires.holds.far-furthest.within

pub edge_at-requires : goal.edge_at-requires
edge_at-requires c = let pre = c.requires in (pre.valid, pre.edge_in)

-- ---- the two corners are small
near-small : (c : After-edge_at) → Small (2 ^ 21) (at c.corner_at-near.result)
near-small c = let pre = c.requires in
    small-corner _ pre.valid.in_range _ pre.holds.near-furthest.within c.corner_at-near.ensures

far-small : (c : After-edge_at) → Small (2 ^ 21) (at c.corner_at-far.result)
far-small c = let pre = c.requires in
    small-corner _ pre.valid.in_range _ pre.holds.far-furthest.within c.corner_at-far.ensures

pub step-requires : goal.step-requires
step-requires c = (near-small c, far-small c)

pub dot-requires : goal.dot-requires
dot-requires c =
    let pre = c.requires in (
      small-wide (small-edge _ pre.valid.in_range _ _ pre.edge_in (next-below _ _ pre.edge_in) c.edge_at.ensures),
      small-step (near-small c.before) (far-small c.before) c.step.ensures,
    )

along-is : (c : After-dot) → let args = c.args in
    along (points args.list.now) args.edge ≡ to_z w64 (of_z w64 c.dot.result)
unfolding along
along-is c =
    let pre = c.requires in
    held-along pre.holds.far-furthest pre.holds.near-furthest
    ∙ sym (ap₂ value c.edge_at.ensures
    (c.step.ensures ∙ ap₂ (λ (p q : Point). p ⊖ q)
    c.corner_at-far.ensures c.corner_at-near.ensures))
    ∙ sym (result-is w64 c.dot.type_inv c.dot.ensures)

pub magnitude-requires : goal.magnitude-requires
unfolding along
magnitude-requires c = rw (← along-is c) (spread-nonneg _ _ c.requires.valid.shape.some)

pub returns : goal.returns
returns c = (along-is c.before ∙ c.magnitude.ensures, below_half c.dot.result c.dot.type_inv c.magnitude.ensures)
