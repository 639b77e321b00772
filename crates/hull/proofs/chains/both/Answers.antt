-- `both` meets its contract. The invariant: the stack, and what is left of both rows in order, still give what the scan of all gives; the
-- measure is what is left.
use Prim.Native.Nat.{◌-◌}
use native.Mathlib.Omega.{arith}
use Rattle.plane.specs.Point.{points}
use Rattle.sorting.specs.Order.{closed}
use Rattle.sorting.specs.theory.Run.{run_length}
use Rattle.hull.specs.theory.Reading.{line-to, reading-start, reading-room, reading-more, reading-less}
use Rattle.hull.specs.theory.Reading.{first_rest, second-rest}
use Rattle.hull.specs.theory.Stack.{scanning-rest}
use Rattle.hull.proofs.chains.both.Goals as goal

pub loop-i-init : goal.loop-i-init
loop-i-init c = reading-start c.requires.3 c.requires.2

pub rest-requires : goal.rest-requires
rest-requires c =
    let args = c.args in
    let pre = c.requires in
    let s = first_rest pre.0.way pre.1.way c.loop-i.invariant c.if-other-j.true in (
      pre.0.line,
      omega (arith, s.room, run_length (closed (points args.a.now)) c.loop-i.i (args.row.end - c.loop-i.i)),
      s.small,
    )

pub returns-then-other-j : goal.returns-then-other-j
returns-then-other-j c =
    let pre = c.requires in
    scanning-rest (first_rest pre.0.way pre.1.way c.loop-i.invariant c.if-other-j.true) c.rest.ensures

pub shape_of-buf-then-other-j : goal.shape_of-buf-then-other-j
shape_of-buf-then-other-j c = (returns-then-other-j c).same

pub push_next-next-requires : goal.push_next-next-requires
push_next-next-requires c =
    let more = c.loop-i-test.true in
    let pre = c.requires in (
      line-to pre.0.line (omega (arith, more)),
      line-to pre.1.line (omega (arith, c.if-other-j.false)),
      reading-room pre.0.way pre.1.way c.loop-i.invariant more c.if-other-j.false,
      c.loop-i.invariant.scanning.small,
    )

pub loop-i-smaller : goal.loop-i-smaller
loop-i-smaller c =
    let pre = c.requires in
    reading-less pre.0.way pre.1.way c.loop-i.invariant c.loop-i-test.true c.if-other-j.false
    c.push_next-next.ensures

pub loop-i-preserved : goal.loop-i-preserved
loop-i-preserved c =
    let pre = c.requires in
    reading-more pre.0.way pre.1.way c.loop-i.invariant c.loop-i-test.true c.if-other-j.false
    c.push_next-next.ensures

pub rest-requires-2 : goal.rest-requires-2
rest-requires-2 c =
    let args = c.args in
    let pre = c.requires in
    let s = second-rest pre.0.way pre.1.way c.loop-i.invariant c.loop-i-test.false in (
      pre.1.line,
      omega (arith, s.room, run_length (closed (points args.b.now)) c.loop-i.j (args.other.end - c.loop-i.j)),
      s.small,
    )

pub returns : goal.returns
returns c =
    let pre = c.requires in
    scanning-rest (second-rest pre.0.way pre.1.way c.loop-i.invariant c.loop-i-test.false) c.rest-2.ensures

pub shape_of-buf : goal.shape_of-buf
shape_of-buf c = (returns c).same
