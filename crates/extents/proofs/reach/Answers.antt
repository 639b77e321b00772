-- `reach` meets its contract: the two boxes are added.
use mathlib.Core.Path.{◌≡◌, sym, ◌∙◌, ap₂, subst}
use Prim.Native.Nat.{◌^◌}
use Rattle.integer.specs.Bound.{within-add}
use Rattle.plane.specs.Point.{Point, ◌⊕◌}
use Rattle.polygon.specs.Point.{at, Small}
use Rattle.polygon.specs.theory.Extents.{extends-small}
use Rattle.extents.proofs.reach.Goals as goal
use Rattle.extents.proofs.reach.Goals.{After-extent_of-f}

-- the points of both boxes may be added
module _ (c : After-extent_of-f) where
  first_small : Small (2 ^ 21) (at c.extent_of-e.result.high) × Small (2 ^ 21) (at c.extent_of-e.result.low)
  first_small = extends-small _ c.requires.0.in_range c.requires.0.shape.some c.extent_of-e.ensures

  second-small : Small (2 ^ 21) (at c.extent_of-f.result.high) × Small (2 ^ 21) (at c.extent_of-f.result.low)
  second-small = extends-small _ c.requires.1.in_range c.requires.1.shape.some c.extent_of-f.ensures

sum-small : {p q r : Point} → r ≡ p ⊕ q → Small (2 ^ 21) p → Small (2 ^ 21) q → Small (2 ^ 22) r
sum-small e h k = subst (Small (2 ^ 22)) (sym e)
    (record { small-x = within-add h.small-x k.small-x; small-y = within-add h.small-y k.small-y })

pub sum-requires : goal.sum-requires
sum-requires c = ((first_small (goal.at.sum-requires c).After-extent_of-f).0, (second-small (goal.at.sum-requires c).After-extent_of-f).0)

pub sum-requires-2 : goal.sum-requires-2
sum-requires-2 c = (
  (first_small (goal.at.sum-requires-2 c).After-extent_of-f).1,
  (second-small (goal.at.sum-requires-2 c).After-extent_of-f).1,
)

pub returns : goal.returns
returns c =
    let one = c.extent_of-e.ensures in
    let other = c.extent_of-f.ensures in (
      record {
        high_is = c.sum.ensures ∙ ap₂ ◌⊕◌ one.high_is other.high_is;
        low-is = c.sum-2.ensures ∙ ap₂ ◌⊕◌ one.low-is other.low-is;
      },
      record {
        high = sum-small c.sum.ensures (first_small (goal.at.returns c).After-extent_of-f).0
            (second-small (goal.at.returns c).After-extent_of-f).0;
        low = sum-small c.sum-2.ensures (first_small (goal.at.returns c).After-extent_of-f).1
            (second-small (goal.at.returns c).After-extent_of-f).1;
      },
    )
