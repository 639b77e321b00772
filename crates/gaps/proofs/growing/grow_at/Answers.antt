-- `grow_at` meets its contract: the record is read, and its differences with the cart are written.
use Rattle.std.specs.Prelude.{List, ◌*◌, ◌≤◌, ℤ, length, take}
use Rattle.std.proofs.Common.{sym, ◌∙◌, subst, arith, length-take-le}
use Rattle.plane.specs.Point.{points}
use Rattle.plane.specs.Refusal.{Valid}
use Rattle.plane.specs.Corner.{shape_of}
use Rattle.plane.specs.Separation.{differences}
use Rattle.polygon.specs.Front.{Front}
use Rattle.polygon.specs.theory.Fronts.{overwritten-front}
use Rattle.growth.specs.Grown.{grown}
use Rattle.journal.proofs.theory.Stepping.{here-valid}
use Rattle.gaps.specs.Gap.{grown_of}
use Rattle.gaps.proofs.theory.Read.{valid-fits, written-length, grown_of-few}
use Rattle.gaps.proofs.growing.grow_at.Goals as goal
use Rattle.gaps.proofs.growing.grow_at.Goals.{After-read_at-n, After-top}

-- the numbers that were read are in the buffer
fits : (c : After-read_at-n) → c.read_at-n.result ≤ length c.read_at-n.new.shape
fits c =
    let read = c.read_at-n.ensures in
    omega (arith, read.1, read.2, valid-fits _ (here-valid c.requires.0))

-- the grown shape has room
room : (c : After-top) →
    let l = take c.read_at-n.result c.read_at-n.new.shape in
    2 * length (shape_of (differences (points l) (points c.args.cart.now))) ≤ length c.args.out.now
unfolding grown grown_of
room c =
    let pre = c.requires in
    let A = points c.args.cart.now in
    let few = grown_of-few A _ (here-valid pre.0) pre.1.shape.some pre.4 in
    subst (λ (l : List ℤ). 2 * length (shape_of (differences (points l) A)) ≤ length c.args.out.now) (sym c.read_at-n.ensures.0)
    (omega (arith, few, pre.3))

pub slice_bounds-write-end : goal.slice_bounds-write-end
slice_bounds-write-end c = fits (goal.at.slice_bounds-write-end c).After-read_at-n

pub slice_bounds-write-end-2 : goal.slice_bounds-write-end-2
slice_bounds-write-end-2 c =
    sym (length-take-le _ c.read_at-n.new.shape (fits (goal.at.slice_bounds-write-end-2 c).After-read_at-n))

pub top-requires : goal.top-requires
top-requires c = c.requires.1.shape.some

pub write-requires : goal.write-requires
write-requires c =
    let pre = c.requires in
    (subst Valid (sym c.read_at-n.ensures.0) (here-valid pre.0), pre.1, c.top.ensures, room (goal.at.write-requires c).After-top)

pub returns : goal.returns
unfolding grown grown_of
returns c =
    let wrote = c.write.ensures in
    let read = c.read_at-n.ensures in
    let front = subst (λ (l : List ℤ). Front (shape_of (differences (points l) (points c.args.cart.now))) c.write.result
    c.write.new.out) read.0 (overwritten-front _ _ _ _ wrote.0 wrote.1) in
    (front, read.1, written-length _ _ _ wrote.1 (room (goal.at.returns c).After-top) ∙ c.requires.3)
