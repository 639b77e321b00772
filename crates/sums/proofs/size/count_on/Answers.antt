-- `count_on` meets its contract. The invariant: the walk with these two sides went on by `count` corners, is not over, and may go on; the
-- measure is what is left to count.
use mathlib.Core.Path.{◌≡◌, sym, ◌∙◌}
use mathlib.Core.Bool.{false}
use Prim.Native.Nat.{◌+◌}
use native.Mathlib.Omega.{arith}
use lib.ListN.{length}
use mir.Syntax.{w64}
use Rattle.integer.specs.Machine.{result-is}
use Rattle.plane.specs.Point.{points}
use Rattle.plane.specs.Forms.{edges}
use Rattle.plane.proofs.theory.lists.Flat.{points-length}
use Rattle.sums.specs.Advance.{state}
use Rattle.calipers.specs.theory.Carry.{edges_fit}
use Rattle.sums.specs.theory.Summed.{next-few}
use Rattle.sums.proofs.Walked.{edges-sum, all_edges, walked-with, walked_at, walked-below, walked_more, walked-spent, walked-over}
use Rattle.sums.proofs.size.count_on.Goals as goal
use Rattle.sums.proofs.size.count_on.Goals.{After-struct_known-2-1}

-- all edges of both
all : (c : After-struct_known-2-1) →
    let args = c.args in
    c.side_at-s.result.end + c.side_at-t.result.end
    ≡ length (edges (points args.a.now)) + length (edges (points args.b.now))
all c = all_edges c.side_at-s.ensures.1 c.side_at-t.ensures.1

pub overflow_add-all : goal.overflow_add-all
overflow_add-all c =
    let sizes = c.well_formed in
    omega (arith, all c, edges-sum c.args.a.now c.args.b.now (omega (arith, sizes.0)) (omega (arith, sizes.1.0)))

pub side_at-t-requires : goal.side_at-t-requires
side_at-t-requires c =
    let p = c.requires.0 in (c.begin-far.ensures.second-side.at_in, p.second-near, p.second-shape.some)

pub loop-s-init : goal.loop-s-init
loop-s-init c =
    let first = c.side_at-s.ensures in
    let second = c.side_at-t.ensures in
    walked-with c.begin-far.ensures _ _ first.0 second.0 first.1 second.1

pub overflow_add-count : goal.overflow_add-count
overflow_add-count c =
    let a = c.args.a.now in
    let b = c.args.b.now in
    omega (
      arith,
      walked-below c.loop-s.invariant,
      next-few a b (state c.args.i c.args.j false) c.args.k c.requires.0,
      points-length a,
      points-length b,
      c.well_formed.0,
      c.well_formed.1.0,
    )

pub order-c-requires : goal.order-c-requires
order-c-requires c = let w = c.loop-s.invariant in edges_fit (walked_at w) w.first-side w.second-side

pub overflow_add-s : goal.overflow_add-s
overflow_add-s c =
    omega (
      arith,
      edges-sum c.args.a.now c.args.b.now (omega (arith, c.well_formed.0)) (omega (arith, c.well_formed.1.0)),
      c.next-s.ensures.1.at_in,
      c.next-t.ensures.1.at_in,
    )

pub returns-then-s-t : goal.returns-then-s-t
returns-then-s-t c =
    (walked-over c.loop-s.invariant (result-is w64 c.order-c.type_inv c.order-c.ensures) _ _
    c.next-s.ensures.0 c.next-t.ensures.0 c.next-s.ensures.1 c.next-t.ensures.1
    (c.if-s-t.true ∙ all c.before.before.before.before.before.before.before)).counted

pub returns-then-count-k : goal.returns-then-count-k
returns-then-count-k c =
    (walked-spent c.loop-s.invariant (result-is w64 c.order-c.type_inv c.order-c.ensures) _ _
    c.next-s.ensures.0 c.next-t.ensures.0 c.next-s.ensures.1 c.next-t.ensures.1
    (λ e. c.if-s-t.false (e ∙ sym (all c.before.before.before.before.before.before.before.before))) c.if-count-k.true).counted

pub loop-s-smaller : goal.loop-s-smaller
loop-s-smaller c =
    omega (arith, walked-below c.loop-s.invariant)

pub loop-s-preserved : goal.loop-s-preserved
loop-s-preserved c =
    walked_more c.loop-s.invariant (result-is w64 c.order-c.type_inv c.order-c.ensures) _ _
    c.next-s.ensures.0 c.next-t.ensures.0 c.next-s.ensures.1 c.next-t.ensures.1
    (λ e. c.if-s-t.false (e ∙ sym (all c.before.before.before.before.before.before.before.before))) c.if-count-k.false
