-- `first` meets its contract: the way keeps to one side, or the grown obstacle is at the front of its buffer.
use mathlib.Core.Path.{sym, ◌∙◌, ap, subst}
use mathlib.Core.List.{List}
use Prim.Native.Nat.{◌≤◌}
use native.Mathlib.Omega.{arith}
use lib.ListN.{length}
use Rattle.plane.specs.Limits.{max_corners}
use Rattle.plane.specs.Point.{Point, points, numbers}
use Rattle.plane.specs.Refusal.{Valid}
use Rattle.plane.proofs.theory.lists.Flat.{points-numbers}
use Rattle.polygon.specs.Point.{at}
use Rattle.polygon.specs.Front.{Front}
use Rattle.polygon.specs.theory.Fronts.{overwritten-front, front-points, front_length}
use Rattle.growth.specs.Grown.{grown}
use Rattle.motion.specs.Contact.{contact_numbers}
use Rattle.contact.proofs.theory.Told.{never-told}
use Rattle.contact.proofs.first.Goals as goal
use Rattle.contact.proofs.first.Goals.{After-write-n}

-- a grown obstacle that is a shape has room in its buffer
few : (B A : List Point) → Valid (numbers (grown B A)) → length (grown B A) ≤ 1024
unfolding max_corners
few B A v = rw points-numbers at v.few

-- the grown obstacle, at the front of its buffer
made : (c : After-write-n) → let args = c.args in
    Front (grown (points args.obstacle.now) (points args.cart.now)) c.write-n.result c.write-n.new.out
unfolding grown
made c = overwritten-front _ _ _ _ c.write-n.ensures.0 c.write-n.ensures.1

size_is : (c : After-write-n) → c.write-n.result ≤ 1024
size_is c =
    omega (arith, (made c).counted, few (points c.args.obstacle.now) (points c.args.cart.now) c.requires.2)

pub is_beyond-requires : goal.is_beyond-requires
is_beyond-requires c = (c.requires.0, c.requires.1, c.requires.3)

pub returns-then-is_beyond : goal.returns-then-is_beyond
returns-then-is_beyond c = never-told _ _ _ (c.is_beyond.ensures c.if-is_beyond.true)

pub top-top-requires : goal.top-top-requires
top-top-requires c = c.requires.1.shape.some

pub write-n-requires : goal.write-n-requires
unfolding grown
write-n-requires c =
    let size = few (points c.args.obstacle.now) (points c.args.cart.now) c.requires.2 in
    (c.requires.0, c.requires.1, c.top-top.ensures, omega arith)

pub overflow_mul-grown : goal.overflow_mul-grown
overflow_mul-grown c = omega (arith, size_is c.before)

pub slice_bounds-grown-end : goal.slice_bounds-grown-end
slice_bounds-grown-end c = (made c.before).fits

pub slice_bounds-first_of-end : goal.slice_bounds-first_of-end
slice_bounds-first_of-end c = sym (front_length (made c.before.before))

pub first_of-requires : goal.first_of-requires
first_of-requires c =
    (subst Valid (sym (made c.before.before).front) c.requires.2, c.requires.3)

pub returns : goal.returns
returns c =
    let args = c.args in
    c.first_of.ensures ∙ ap (contact_numbers (at args.t) (at args.u)) (front-points (made c.before.before.before))
