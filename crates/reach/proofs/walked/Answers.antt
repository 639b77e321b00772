-- `walked` meets its contract. The invariant: the best pair of the places passed, the walk with these two sides being the last of them; the
-- measure: the edges that are left.
use mathlib.Core.Path.{◌≡◌, refl, sym, ◌∙◌, ap}
use mathlib.Core.Bool.{Bool, false}
use native.Mathlib.Omega.{arith}
use mir.Syntax.{w64}
use Rattle.integer.specs.Machine.{result-is}
use Rattle.plane.specs.Point.{points}
use Rattle.plane.specs.Forms.{edges}
use Rattle.calipers.specs.Image.{image}
use Rattle.calipers.specs.Places.{passed as places_passed}
use Rattle.calipers.specs.Side.{walk_of}
use Rattle.calipers.specs.Walk.{Walk, begun, passed, finished, advanced, At}
use Rattle.calipers.specs.theory.Carry.{all-passed, some_left, sides-walk, sides-advanced, sides-at, first_next, edges_fit}
use Rattle.calipers.specs.theory.Standing.{passed-ended, edges-less}
use Rattle.separation.specs.theory.Image.{image-begun, image-few, image-sides}
use Rattle.reach.specs.theory.Scan.{leads-start, leads-next, leads-done}
use Rattle.reach.proofs.walked.Goals as goal
use Rattle.reach.proofs.walked.Goals.{After-next-t}

pub side_at-s-requires : goal.side_at-s-requires
side_at-s-requires c = (omega arith, c.requires.0.in_range, c.requires.0.shape.some)

pub side_at-t-requires : goal.side_at-t-requires
side_at-t-requires c = let pre = c.requires in (pre.1, pre.2, omega arith)

pub overflow_add-all : goal.overflow_add-all
overflow_add-all c =
    omega (
      arith,
      image-sides c.side_at-s.ensures.1 c.side_at-t.ensures.1,
      image-few _ _ c.requires.0 c.requires.1,
    )

pub pair-best-requires : goal.pair-best-requires
pair-best-requires c =
    let pre = c.requires in
    (pre.0, pre.1, pre.2, c.side_at-s.ensures.1, c.side_at-t.ensures.1)

pub loop-s-init : goal.loop-s-init
loop-s-init c =
    let pre = c.requires in (
      leads-start pre.0 pre.1 pre.2 (image-begun _ _ pre.0 pre.1)
          (sides-walk begun c.side_at-s.result c.side_at-t.result c.side_at-s.ensures.0
          c.side_at-t.ensures.0) c.pair-best.ensures,
      c.side_at-s.ensures.1,
      c.side_at-t.ensures.1,
    )

pub order-c-requires : goal.order-c-requires
order-c-requires c = let inv = c.loop-s.invariant in edges_fit inv.0.place_is inv.1 inv.2

pub next-s-requires : goal.next-s-requires
next-s-requires c = let inv = c.loop-s.invariant in first_next inv.0.place_is inv.1 inv.2

pub next-t-requires : goal.next-t-requires
next-t-requires c =
    let pre = c.requires in
    (pre.1, pre.2, c.loop-s.invariant.2)

-- the walk after the step
steps : (c : After-next-t) (end : Bool) →
    let args = c.args in
    At args.a.now (image args.b.now) (walk_of c.next-s.result c.next-t.result end)
steps c end =
    let inv = c.loop-s.invariant in
    sides-at inv.0.place_is inv.1 inv.2 (result-is w64 c.order-c.type_inv c.order-c.ensures)
    c.next-s.result c.next-t.result c.next-s.ensures.0 c.next-t.ensures.0

advances : (c : After-next-t) →
    let args = c.args in
    let m = c.next-s.result in
    let n = c.next-t.result in
    walk_of m n (finished (points args.a.now) m.at (points (image args.b.now)) n.at)
    ≡ advanced (points args.a.now) (points (image args.b.now)) (walk_of c.loop-s.s c.loop-s.t false)
advances c =
    let inv = c.loop-s.invariant in
    sides-advanced inv.0.place_is inv.1 inv.2 (result-is w64 c.order-c.type_inv c.order-c.ensures)
    c.next-s.result c.next-t.result c.next-s.ensures.0 c.next-t.ensures.0 refl

first_step : (c : After-next-t) →
    let args = c.args in
    c.next-s.result.at
    ≡ places_passed (edges (points args.a.now)) c.loop-s.s.at (edges (points (image args.b.now))) c.loop-s.t.at
unfolding advanced passed
first_step c = ap (λ (w : Walk). w.i) (advances c)

second-step : (c : After-next-t) →
    let args = c.args in
    c.next-t.result.at
    ≡ places_passed (edges (points (image args.b.now))) c.loop-s.t.at (edges (points args.a.now)) c.loop-s.s.at
unfolding advanced passed
second-step c = ap (λ (w : Walk). w.j) (advances c)

pub overflow_add-s : goal.overflow_add-s
overflow_add-s c =
    let first = c.next-s.ensures.1.at_in in
    let second = c.next-t.ensures.1.at_in in
    omega (arith, image-few _ _ c.requires.0 c.requires.1)

pub returns-then-s-t : goal.returns-then-s-t
returns-then-s-t c =
    let pre = c.requires in
    let over = all-passed _ _ _ _ c.next-s.ensures.1.at_in c.next-t.ensures.1.at_in
    (c.if-s-t.true ∙ image-sides c.side_at-s.ensures.1
    c.side_at-t.ensures.1) in
    leads-done pre.0 pre.1 pre.2 c.loop-s.invariant.0 (ap (λ (w : Walk). w.over) (sym (advances c.before.before.before)) ∙ over)

pub pair-requires : goal.pair-requires
pair-requires c =
    let pre = c.requires in
    (pre.0, pre.1, pre.2, c.next-s.ensures.1, c.next-t.ensures.1)

pub loop-s-smaller : goal.loop-s-smaller
loop-s-smaller c =
    let inv = c.loop-s.invariant in
    let args = c.args in
    let E = edges (points args.a.now) in
    let F = edges (points (image args.b.now)) in
    edges-less E F _ _ (first_step c.before.before.before.before.before) (second-step c.before.before.before.before.before)
    (λ h k. c.if-s-t.false (omega (
      arith,
      image-sides c.side_at-s.ensures.1
          c.side_at-t.ensures.1,
      first_step c.before.before.before.before.before ∙ passed-ended E _ F _ h,
      second-step c.before.before.before.before.before ∙ passed-ended F _ E _ k,
      inv.1.at_in,
      inv.2.at_in,
    )))

pub loop-s-preserved : goal.loop-s-preserved
loop-s-preserved c =
    let m = c.next-s.result in
    let n = c.next-t.result in
    let on = some_left _ _ m.at n.at (λ e. c.if-s-t.false (e ∙ sym (
    image-sides c.side_at-s.ensures.1
    c.side_at-t.ensures.1))) in (
      leads-next c.requires.0 c.requires.1 c.requires.2 c.loop-s.invariant.0 (steps c.before.before.before.before.before false) refl
          (ap (walk_of m n) (sym on) ∙ advances c.before.before.before.before.before) c.pair.ensures c.better-best.ensures,
      c.next-s.ensures.1,
      c.next-t.ensures.1,
    )
