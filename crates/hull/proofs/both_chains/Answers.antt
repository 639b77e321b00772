-- `both_chains` meets its contract: the right-hand chain at the front, the left-hand one in the rest.
use mathlib.Core.Path.{subst}
use mathlib.Core.List.{List}
use Prim.Native.Nat.{suc, ◌+◌, ◌-◌, ◌*◌, ◌^◌, ◌≤◌}
use native.Mathlib.Omega.{arith}
use borrow.Rule.Slice.PartMut.{put_mid}
use lib.ListN.{length, take, drop, length-drop}
use lib.Seq.{length-take-le}
use Rattle.plane.specs.Limits.{corners-small}
use Rattle.plane.specs.Point.{Point, points}
use Rattle.plane.proofs.theory.lists.Flat.{points-length}
use Rattle.polygon.specs.Front.{Front}
use Rattle.polygon.specs.Point.{at}
use Rattle.hull.specs.Chain.{left_rows}
use Rattle.hull.specs.theory.Spread.{rows_few}
use Rattle.hull.specs.theory.Written.{chains-shape, front-put}
use Rattle.hull.proofs.both_chains.Goals as goal
use Rattle.hull.proofs.both_chains.Goals.{After-right_chain-right}

-- the right-hand chain leaves room for the left-hand one, and what is counted fits
room : (c : After-right_chain-right) → let args = c.args in
    c.right_chain-right.result + suc (length (left_rows (points args.a.now) args.i (points args.b.now) args.j
    (at args.bottom) (at args.top)))
    ≤ length (points c.right_chain-right.new.buf)
room c =
    omega (
      arith,
      rows_few c.requires.0.shape c.requires.1.shape c.requires.2,
      c.requires.3,
      c.right_chain-right.ensures.few,
      c.right_chain-right.ensures.same,
      points-length c.args.buf.now,
      points-length c.right_chain-right.new.buf,
    )

few : (c : After-right_chain-right) → let args = c.args in
    c.right_chain-right.result + suc (length (left_rows (points args.a.now) args.i (points args.b.now) args.j
    (at args.bottom) (at args.top)))
    ≤ 2 ^ 17
few c =
    let pre = c.requires in
    omega (
      arith,
      rows_few pre.0.shape pre.1.shape pre.2,
      c.right_chain-right.ensures.few,
      pre.0.few,
      pre.1.few,
      corners-small,
    )

pub right_chain-right-requires : goal.right_chain-right-requires
right_chain-right-requires c =
    let pre = c.requires in
    (pre.0, pre.1, pre.2, omega (arith, rows_few pre.0.shape pre.1.shape pre.2, pre.3))

pub overflow_mul-start : goal.overflow_mul-start
overflow_mul-start c = omega (arith, few c.before)

pub offset_bounds-buf-start : goal.offset_bounds-buf-start
offset_bounds-buf-start c = omega (arith, few c.before)

pub slice_bounds-left_chain-count : goal.slice_bounds-left_chain-count
slice_bounds-left_chain-count c = omega (arith, room c.before, points-length c.right_chain-right.new.buf)

pub slice_bounds-left_chain-start : goal.slice_bounds-left_chain-start
slice_bounds-left_chain-start c = slice_bounds-left_chain-count c

pub slice_bounds-left_chain-end : goal.slice_bounds-left_chain-end
slice_bounds-left_chain-end c = omega arith

pub left_chain-left-requires : goal.left_chain-left-requires
left_chain-left-requires c =
    let pre = c.requires in
    let xs = c.right_chain-right.new.buf in
    let start = 2 * c.right_chain-right.result in (
      pre.0,
      pre.1,
      pre.2,
      omega (
        arith,
        room c.before.before,
        points-length xs,
        points-length (take (length xs - start) (drop start xs)),
        length-take-le (length xs - start) (drop start xs) (omega (arith, length-drop start xs)),
      ),
    )

pub overflow_add-result : goal.overflow_add-result
overflow_add-result c = omega (arith, c.left_chain-left.ensures.few, few c.before.before.before.before)

pub returns : goal.returns
returns c =
    let pre = c.requires in
    let xs = c.right_chain-right.new.buf in
    let ys = c.left_chain-left.new.buf in
    let m = c.right_chain-right.result in
    let n = c.left_chain-left.result in
    let down = c.left_chain-left.ensures in
    let part = length-take-le (length xs - 2 * m) (drop (2 * m) xs) (omega (arith, length-drop (2 * m) xs)) in
    let right-in : m ≤ length (points xs) = omega (arith, room c.before.before.before.before) in
    let left_in : n ≤ length (points ys) = omega
    (arith, room c.before.before.before.before, down.few, down.same, part, points-length xs, points-length ys) in
    subst (λ (ps : List Point). Front ps (m + n) (put_mid (2 * m) (length xs - 2 * m) xs ys))
    (chains-shape pre.0.shape pre.1.shape pre.2 c.right_chain-right.ensures down right-in left_in)
    (front-put xs ys m n (length xs - 2 * m) right-in left_in)
