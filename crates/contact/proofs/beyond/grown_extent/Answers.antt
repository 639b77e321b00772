-- `grown_extent` meets its contract: supports add, and a step from an opposite is a sum.
use Prim.Native.Nat.{◌^◌}
use Rattle.polygon.specs.Point.{at, Small}
use Rattle.polygon.specs.theory.Extents.{extends-small}
use Rattle.polygon.specs.theory.Small.{small-step}
use Rattle.contact.proofs.theory.Beyond.{grown-extends, opposite-small, step-opposite}
use Rattle.contact.proofs.beyond.grown_extent.Goals as goal
use Rattle.contact.proofs.beyond.grown_extent.Goals.{After-extent_of-e, After-extent_of-f}

-- the parts of both boxes are small
obstacle-small : (c : After-extent_of-e) → let e = c.extent_of-e.result in Small (2 ^ 21) (at e.high) × Small (2 ^ 21) (at e.low)
obstacle-small c = let pre = c.requires in extends-small _ pre.0.in_range pre.0.shape.some c.extent_of-e.ensures

cart-small : (c : After-extent_of-f) → let e = c.extent_of-f.result in Small (2 ^ 21) (at e.high) × Small (2 ^ 21) (at e.low)
cart-small c = let pre = c.requires in extends-small _ pre.1.in_range pre.1.shape.some c.extent_of-f.ensures

pub opposite-requires : goal.opposite-requires
opposite-requires c = (cart-small c.before).1

pub step-requires : goal.step-requires
step-requires c = (
  opposite-small c.opposite.ensures (cart-small c.before.before.before).1,
  (obstacle-small c.before.before.before.before).0,
)

pub opposite-requires-2 : goal.opposite-requires-2
opposite-requires-2 c = (cart-small c.before.before.before.before.before).0

pub step-requires-2 : goal.step-requires-2
step-requires-2 c = (
  opposite-small c.opposite-2.ensures (cart-small c.before.before.before.before.before.before.before).0,
  (obstacle-small c.before.before.before.before.before.before.before.before).1,
)

pub returns : goal.returns
returns c = let pre = c.requires in
    let e = c.extent_of-e.result in
    let f = c.extent_of-f.result in
    let low = c.opposite.ensures in
    let high = c.opposite-2.ensures in record {
      extends = grown-extends _ _ pre.0.shape.some pre.1.shape.some c.extent_of-e.ensures c.extent_of-f.ensures
          (step-opposite (at f.low) (at e.high) low c.step.ensures)
          (step-opposite (at f.high) (at e.low) high c.step-2.ensures);
      small = (
        small-step (opposite-small low (cart-small c.before.before.before.before.before.before.before.before).1)
            (obstacle-small c.before.before.before.before.before.before.before.before.before).0 c.step.ensures,
        small-step (opposite-small high (cart-small c.before.before.before.before.before.before.before.before).0)
            (obstacle-small c.before.before.before.before.before.before.before.before.before).1 c.step-2.ensures,
      );
    }

pub extent_of-e-requires : goal.extent_of-e-requires
extent_of-e-requires c = c.requires.0

pub extent_of-f-requires : goal.extent_of-f-requires
extent_of-f-requires c = c.requires.1
