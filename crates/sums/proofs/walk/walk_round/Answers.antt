-- `walk_round` meets its contract. The invariant: if `count` corners were written when the loop began, now these are, and the walk with
-- these two sides is as far, not over, and may write more; the measure is what is left to write.
use mathlib.Core.Path.{◌≡◌, refl, sym, ◌∙◌, subst}
use mathlib.Core.Bool.{false}
use Prim.Native.Nat.{◌+◌, ◌*◌, ◌^◌, ◌≤◌, ◌<◌}
use native.Mathlib.Omega.{arith}
use lib.ListN.{length}
use mir.Syntax.{w64}
use Rattle.integer.specs.Machine.{result-is}
use Rattle.plane.specs.Point.{points}
use Rattle.plane.specs.Forms.{edges}
use Rattle.plane.proofs.theory.lists.Flat.{points-length}
use Rattle.plane.proofs.theory.sum.Positions.{edges-at-most}
use Rattle.calipers.specs.Walk.{Walk, At}
use Rattle.calipers.specs.Side.{walk_of}
use Rattle.sums.specs.Advance.{state, next_corners}
use Rattle.calipers.specs.theory.Carry.{sides-walk, first_next, corners-fit, edges_fit}
use Rattle.sums.proofs.Walked.{all_edges, walked_start, walked_at, walked-below, walked_more, walked-spent, walked-over}
use Rattle.sums.proofs.Progress.{Progress, part-progress, progress-room, progress-length}
use Rattle.sums.proofs.Progress.{progress-kept, progress-more, progress-done}
use Rattle.sums.proofs.walk.walk_round.Given as given
use Rattle.sums.proofs.walk.walk_round.Goals as goal
use Rattle.sums.proofs.walk.walk_round.Goals.{After-side_at-second, After-stride-far, After-struct_known-2-1, At-loop-s}

-- all edges of both
all : (g : given.Over) (c : After-struct_known-2-1 g) →
    let args = c.args in
    c.side_at-first.result.end + c.side_at-second.result.end
    ≡ length (edges (points args.a.now)) + length (edges (points (g.R.Round.shape args.b.now)))
all g c = all_edges c.side_at-first.ensures.1 c.side_at-second.ensures.2

-- the sides are at the place
same : (g : given.Over) (c : After-side_at-second g) → let args = c.args in
    walk_of c.side_at-first.result c.side_at-second.result false ≡ state args.i args.j false
same g c =
    let args = c.args in
    sides-walk (state args.i args.j false) c.side_at-first.result c.side_at-second.result c.side_at-first.ensures.0
    c.side_at-second.ensures.0

room : (g : given.Over) (c : After-side_at-second g) → let args = c.args in
    2 * length (next_corners args.a.now (g.R.Round.shape args.b.now) (walk_of c.side_at-first.result c.side_at-second.result false) args.k)
    ≤ length args.out.now
room g c =
    let args = c.args in
    subst (λ (w : Walk). 2 * length (next_corners args.a.now (g.R.Round.shape args.b.now) w args.k) ≤ length args.out.now) (sym (same g c))
    c.requires.3

-- few edges of both
few : (g : given.Over) (c : After-side_at-second g) → let args = c.args in
    length (edges (points args.a.now)) + length (edges (points (g.R.Round.shape args.b.now))) < 2 ^ 64
few g c =
    let a = c.args.a.now in
    omega (
      arith,
      edges-at-most (points a),
      points-length a,
      c.well_formed.0,
      c.side_at-second.ensures.2.end_is,
      c.side_at-second.ensures.1,
    )

pub overflow_add-all : goal.overflow_add-all
overflow_add-all g c = omega (arith, all g c, few g (goal.at.overflow_add-all g c).After-side_at-second)

pub stride-far-requires : goal.stride-far-requires
stride-far-requires g c =
    let args = c.args in (
      c.requires.0,
      c.side_at-second.ensures.1,
      walked_start _ _ (subst (At args.a.now (g.R.Round.shape args.b.now)) (sym
          (same g c.before.before.before)) c.requires.1) c.requires.2 _ _ refl refl
          c.side_at-first.ensures.1 c.side_at-second.ensures.2,
      room g c.before.before.before,
    )

-- what is written after the stride
begun : (g : given.Over) (c : After-stride-far g) → let args = c.args in
    Progress args.a.now (g.R.Round.shape args.b.now) args.out.now (state args.i args.j false) args.k c.stride-far.result.count
    c.stride-far.result.first c.stride-far.result.second c.stride-far.new.out
begun g c =
    let args = c.args in
    let went = c.stride-far.ensures in
    subst (λ (w : Walk). Progress args.a.now (g.R.Round.shape args.b.now) args.out.now w args.k c.stride-far.result.count
    c.stride-far.result.first c.stride-far.result.second c.stride-far.new.out) (same g c.before.before.before.before)
    (part-progress went.0 (room g c.before.before.before.before) went.1)

-- what is written in the loop
now : (g : given.Over) (c : At-loop-s g) →
    let args = c.args in
    Progress args.a.now (g.R.Round.shape args.b.now) args.out.now (state args.i args.j false) args.k c.loop-s.count c.loop-s.s
    c.loop-s.t c.loop-s.out
now g c = c.loop-s.invariant _ (begun g c.before.before.before.before)

pub here-requires : goal.here-requires
here-requires g c = let w = (now g c.before).walked in corners-fit (walked_at w) w.first-side w.second-side

pub put-requires : goal.put-requires
put-requires g c = progress-room (now g c.before.before)

pub overflow_add-count : goal.overflow_add-count
overflow_add-count g c =
    omega (
      arith,
      progress-room (now g c.before.before.before.before),
      progress-length (now g c.before.before.before.before),
      c.well_formed.1.1.1.1.1.0,
    )

pub order-c-requires : goal.order-c-requires
order-c-requires g c =
    let w = (now g c.before.before.before.before).walked in edges_fit (walked_at w) w.first-side w.second-side

pub next-s-requires : goal.next-s-requires
next-s-requires g c =
    let w = (now g c.before.before.before.before.before).walked in first_next (walked_at w) w.first-side w.second-side

pub next-t-requires : goal.next-t-requires
next-t-requires g c =
    (c.requires.0, (now g c.before.before.before.before.before.before).walked.second-side)

pub overflow_add-s : goal.overflow_add-s
overflow_add-s g c =
    omega (
      arith,
      few g (goal.at.overflow_add-s g c).After-side_at-second,
      c.next-s.ensures.1.at_in,
      c.next-t.ensures.1.at_in,
    )

pub shape_of-out-then-s-t : goal.shape_of-out-then-s-t
shape_of-out-then-s-t g c =
    progress-kept (now g c.before.before.before.before.before.before.before.before.before.before.before) c.here.ensures c.put.ensures

pub returns-then-s-t : goal.returns-then-s-t
returns-then-s-t g c =
    let at-now = c.before.before.before.before.before.before.before.before.before.before.before.before in
    progress-done (now g c.before.before.before.before.before.before.before.before.before.before.before) c.here.ensures c.put.ensures
    (walked-over (now g c.before.before.before.before.before.before.before.before.before.before.before).walked
    (result-is w64 c.order-c.type_inv c.order-c.ensures) _ _
    c.next-s.ensures.0 c.next-t.ensures.0 c.next-s.ensures.1 c.next-t.ensures.1
    (c.if-s-t.true ∙ all g at-now.before.before.before.before.before))
    _ c.arrived.ensures.0 c.arrived.ensures.1

pub shape_of-out-then-count-k : goal.shape_of-out-then-count-k
shape_of-out-then-count-k g c =
    progress-kept (now g c.before.before.before.before.before.before.before.before.before.before.before.before) c.here.ensures c.put.ensures

pub returns-then-count-k : goal.returns-then-count-k
returns-then-count-k g c =
    let entered = c.before.before.before.before.before.before.before.before.before in
    progress-done (now g c.before.before.before.before.before.before.before.before.before.before.before.before) c.here.ensures c.put.ensures
    (walked-spent (now g c.before.before.before.before.before.before.before.before.before.before.before.before).walked
    (result-is w64 c.order-c.type_inv c.order-c.ensures) _ _
    c.next-s.ensures.0 c.next-t.ensures.0 c.next-s.ensures.1 c.next-t.ensures.1
    (λ e. c.if-s-t.false (e ∙ sym (all g entered.before.before.before.before.before.before.before.before.before)))
    c.if-count-k.true)
    _ c.arrived-then-count-k.ensures.0 c.arrived-then-count-k.ensures.1

pub loop-s-smaller : goal.loop-s-smaller
loop-s-smaller g c =
    omega (arith, walked-below (now g c.before.before.before.before.before.before.before.before.before.before.before).walked)

pub loop-s-preserved : goal.loop-s-preserved
loop-s-preserved g c = λ old p.
    let inv = c.loop-s.invariant old p in
    progress-more inv c.here.ensures c.put.ensures
    (walked_more inv.walked (result-is w64 c.order-c.type_inv c.order-c.ensures) _ _
    c.next-s.ensures.0 c.next-t.ensures.0 c.next-s.ensures.1 c.next-t.ensures.1
    (λ e. c.if-s-t.false (e ∙ sym
    (all g c.before.before.before.before.before.before.before.before.before.before.before.before.before.before.before.before.before)))
    c.if-count-k.false)
