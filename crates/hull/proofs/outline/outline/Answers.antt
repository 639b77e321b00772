-- `outline` meets its contract: the chain up at the front, the chain down in the rest; or the one point.
use mathlib.Core.Path.{◌∙◌, ap, subst}
use mathlib.Core.List.{List, [], ◌∷◌}
use Prim.Native.Nat.{◌+◌, ◌-◌, ◌*◌, ◌≤◌, ◌<◌}
use native.Mathlib.Omega.{arith}
use borrow.Rule.Slice.PartMut.{put_mid}
use lib.ListN.{length, take, drop, length-drop}
use lib.Seq.{length-take-le}
use Rattle.plane.specs.Point.{Point, points}
use Rattle.plane.proofs.theory.lists.Flat.{points-length}
use Rattle.polygon.specs.Front.{Front}
use Rattle.hull.specs.theory.Written.{front-put, front-one}
use Rattle.hull.specs.theory.Route.{outline-one, sides-outline}
use Rattle.hull.proofs.outline.outline.Goals as goal
use Rattle.hull.proofs.outline.outline.Goals.{After-side-right}

pub put-requires : goal.put-requires
put-requires c =
    omega (arith, c.requires.0, c.requires.2, points-length c.args.buf.now)

pub returns-then-n-eq1 : goal.returns-then-n-eq1
returns-then-n-eq1 c =
    let ps = points c.args.list.now in
    subst (λ (shape : List Point). Front shape 1 c.put.new.out)
    (ap (λ (p : Point). p ∷ []) c.corner_at.ensures ∙ outline-one ps c.args.n c.requires.1 c.if-n-eq1.true)
    (front-one c.args.buf.now (omega (arith, c.requires.0, c.requires.2)) c.put.ensures)

-- the chain up leaves room for the chain down, and what is counted fits
room : (c : After-side-right) → let args = c.args in
    c.side-right.result + args.n ≤ length (points c.side-right.new.buf)
room c =
    omega (
      arith,
      c.requires.2,
      c.side-right.ensures.few,
      c.side-right.ensures.same,
      points-length c.args.buf.now,
      points-length c.side-right.new.buf,
    )

pub overflow_mul-start : goal.overflow_mul-start
overflow_mul-start c = omega (arith, room c.before, points-length c.side-right.new.buf)

pub offset_bounds-buf-start : goal.offset_bounds-buf-start
offset_bounds-buf-start c = omega (arith, room c.before, points-length c.side-right.new.buf)

pub slice_bounds-side-count : goal.slice_bounds-side-count
slice_bounds-side-count c = omega (arith, room c.before, points-length c.side-right.new.buf)

pub slice_bounds-side-start : goal.slice_bounds-side-start
slice_bounds-side-start c = slice_bounds-side-count c

pub side-left-requires : goal.side-left-requires
side-left-requires c =
    let pre = c.requires in
    let xs = c.side-right.new.buf in
    let start = 2 * c.side-right.result in (
      pre.0,
      pre.1,
      omega (
        arith,
        room c.before.before,
        points-length xs,
        points-length (take (length xs - start) (drop start xs)),
        length-take-le (length xs - start) (drop start xs) (omega (arith, length-drop start xs)),
      ),
      pre.3,
    )

pub overflow_add-result : goal.overflow_add-result
overflow_add-result c =
    omega (arith, room c.before.before.before.before, c.side-left.ensures.few, points-length c.side-right.new.buf)

pub returns : goal.returns
returns c =
    let xs = c.side-right.new.buf in
    let ys = c.side-left.new.buf in
    let m = c.side-right.result in
    let n = c.side-left.result in
    let down = c.side-left.ensures in
    let part = length-take-le (length xs - 2 * m) (drop (2 * m) xs) (omega (arith, length-drop (2 * m) xs)) in
    let right-in : m ≤ length (points xs) = omega (arith, room c.before.before.before.before) in
    let left_in : n ≤ length (points ys) = omega
    (arith, room c.before.before.before.before, down.few, down.same, part, points-length xs, points-length ys) in
    let more : 1 < c.args.n = omega (arith, c.requires.0, c.if-n-eq1.false) in
    subst (λ (ps : List Point). Front ps (m + n) (put_mid (2 * m) (length xs - 2 * m) xs ys))
    (sides-outline (points c.args.list.now) c.args.n c.requires.1 more c.side-right.ensures down right-in left_in)
    (front-put xs ys m n (length xs - 2 * m) right-in left_in)
