-- `between` meets its contract: both grown obstacles are at the fronts of their buffers, and the corridor between them is the passage.
use mathlib.Core.Path.{sym, ◌∙◌, ap₂, subst}
use mathlib.Core.List.{List}
use Prim.Native.Nat.{◌≤◌}
use native.Mathlib.Omega.{arith}
use lib.ListN.{length}
use Rattle.plane.specs.Limits.{max_corners}
use Rattle.plane.specs.Point.{Point, points, numbers}
use Rattle.plane.specs.Refusal.{Valid}
use Rattle.plane.proofs.theory.lists.Flat.{points-numbers}
use Rattle.polygon.specs.Front.{Front}
use Rattle.polygon.specs.theory.Fronts.{overwritten-front, front-points, front_length}
use Rattle.growth.specs.Grown.{grown}
use Rattle.passage.specs.Corridor.{corridor_numbers}
use Rattle.passage.proofs.theory.Found.{corridor-passage}
use Rattle.passage.proofs.between.Goals as goal
use Rattle.passage.proofs.between.Goals.{After-write-m, After-write-n}

-- a grown obstacle that is a shape has room in its buffer
few : (B A : List Point) → Valid (numbers (grown B A)) → length (grown B A) ≤ 1024
unfolding max_corners
few B A v = rw points-numbers at v.few

-- the grown obstacles, at the fronts of their buffers
above : (c : After-write-n) → let args = c.args in
    Front (grown (points args.left.now) (points args.cart.now)) c.write-n.result c.write-n.new.out
unfolding grown
above c = overwritten-front _ _ _ _ c.write-n.ensures.0 c.write-n.ensures.1

below : (c : After-write-m) → let args = c.args in
    Front (grown (points args.right.now) (points args.cart.now)) c.write-m.result c.write-m.new.out
unfolding grown
below c = overwritten-front _ _ _ _ c.write-m.ensures.0 c.write-m.ensures.1

above-few : (c : After-write-n) → c.write-n.result ≤ 1024
above-few c =
    omega (arith, (above c).counted, few (points c.args.left.now) (points c.args.cart.now) c.requires.3)

below-few : (c : After-write-m) → c.write-m.result ≤ 1024
below-few c =
    omega (arith, (below c).counted, few (points c.args.right.now) (points c.args.cart.now) c.requires.4)

pub top-top-requires : goal.top-top-requires
top-top-requires c = c.requires.2.shape.some

pub write-n-requires : goal.write-n-requires
unfolding grown
write-n-requires c =
    let size = few (points c.args.left.now) (points c.args.cart.now) c.requires.3 in
    (c.requires.0, c.requires.2, c.top-top.ensures, omega arith)

pub write-m-requires : goal.write-m-requires
unfolding grown
write-m-requires c =
    let size = few (points c.args.right.now) (points c.args.cart.now) c.requires.4 in
    (c.requires.1, c.requires.2, c.top-top.ensures, omega arith)

pub overflow_mul-above : goal.overflow_mul-above
overflow_mul-above c = omega (arith, above-few c.before.before.before.before)

pub slice_bounds-above-end : goal.slice_bounds-above-end
slice_bounds-above-end c = (above c.before.before.before.before).fits

pub slice_bounds-corridor-end : goal.slice_bounds-corridor-end
slice_bounds-corridor-end c = sym (front_length (above c.before.before.before.before.before))

pub overflow_mul-below : goal.overflow_mul-below
overflow_mul-below c = omega (arith, below-few c.before.before)

pub slice_bounds-below-end : goal.slice_bounds-below-end
slice_bounds-below-end c = (below c.before.before).fits

pub slice_bounds-corridor-end-2 : goal.slice_bounds-corridor-end-2
slice_bounds-corridor-end-2 c = sym (front_length (below c.before.before.before))

pub corridor-requires : goal.corridor-requires
corridor-requires c = (
  subst Valid (sym (above c.before.before.before.before.before.before).front) c.requires.3,
  subst Valid (sym (below c.before.before.before).front) c.requires.4,
)

pub returns : goal.returns
returns c =
    let pre = c.requires in
    c.corridor.ensures ∙ ap₂ corridor_numbers (front-points (above c.before.before.before.before.before.before.before))
    (front-points (below c.before.before.before.before))
    ∙ corridor-passage _ _ _ pre.0.shape.some pre.1.shape.some pre.2.shape.some
