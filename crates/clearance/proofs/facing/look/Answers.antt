-- `look` meets its contract. The invariant: from wherever the walk began, all places that are passed fail, but for the corner there, which
-- is kept; the measure: the edges that are left.
use mathlib.Core.Path.{◌≡◌, refl, sym, ◌∙◌, ap, subst}
use mathlib.Core.Bool.{Bool, false}
use Prim.Native.Nat.{zero-le}
use native.Mathlib.Omega.{arith}
use mir.Syntax.{w64}
use Rattle.integer.specs.Bound.{within-add, within-neg}
use Rattle.integer.specs.Machine.{result-is}
use Rattle.plane.specs.Point.{points}
use Rattle.plane.specs.Forms.{edges}
use Rattle.polygon.specs.Point.{at, Small}
use Rattle.polygon.specs.theory.Small.{small-wide}
use Rattle.calipers.specs.Image.{image}
use Rattle.calipers.specs.Side.{walk_of}
use Rattle.calipers.specs.Places as Places
use Rattle.calipers.specs.Walk.{Walk, here, begun, finished, advanced, passed, At}
use Rattle.calipers.specs.theory.Carry.{all-passed, some_left, sides-walk, sides-here, sides-advanced, sides-at}
use Rattle.calipers.specs.theory.Carry.{here-near, first_next, corners-fit, edges_fit}
use Rattle.calipers.specs.theory.Standing.{passed-ended, edges-less}
use Rattle.calipers.specs.theory.Steps.{at-stepped}
use Rattle.separation.specs.theory.Image.{image-begun, image-few, image-sides}
use Rattle.clearance.specs.Stop.{rests, crosses, Stopped}
use Rattle.clearance.proofs.Looking.{Looking, looking-start, looking-at, looking-corner, looking-edge, looking-more, looking-end}
use Rattle.clearance.proofs.facing.look.Goals as goal
use Rattle.clearance.proofs.facing.look.Goals.{After-here-there, After-next-n}
use Rattle.clearance.proofs.facing.look.Goals.{At-walk, Else-crosses, Start}

-- the walk is where it begins
starts : (c : Start) → At c.args.a.now (image c.args.b.now) begun
starts c = image-begun _ _ c.requires.0 c.requires.1

placed : (c : Start)
    → At c.args.a.now (image c.args.b.now) (record { i = c.args.i; j = c.args.j; over = false })
placed c = let p = c.requires.3 in subst (At _ _) (sym p.moved) (at-stepped _ _ begun (starts c) p.count)

pub side_at-s-requires : goal.side_at-s-requires
side_at-s-requires c = ((placed c).standing.left_in, c.requires.0.in_range, c.requires.0.shape.some)

pub side_at-t-requires : goal.side_at-t-requires
side_at-t-requires c = let pre = c.requires in (pre.1, pre.2, (placed c.before).standing.right-in)

pub overflow_add-all : goal.overflow_add-all
overflow_add-all c =
    omega (
      arith,
      image-sides c.side_at-s.ensures.1 c.side_at-t.ensures.1,
      image-few _ _ c.requires.0 c.requires.1,
    )

pub walk-init : goal.walk-init
walk-init c = (
  λ k below moved. looking-start (starts (goal.at.walk-init c).Start) below (sides-walk (record { i = _; j = _; over = false })
      c.side_at-s.result c.side_at-t.result c.side_at-s.ensures.0 c.side_at-t.ensures.0 ∙ moved),
  c.side_at-s.ensures.1,
  c.side_at-t.ensures.1,
  record { small-x = record { size = zero-le }; small-y = record { size = zero-le } },
)

-- the walk in the loop, from where it is known to begin
looking : (c : At-walk) → let args = c.args in
    Looking args.a.now (image args.b.now) c.requires.3.count (walk_of c.walk.s c.walk.t false) (at c.walk.back)
looking c = let p = c.requires.3 in c.walk.invariant.0 p.count p.below p.moved

pub order-c-requires : goal.order-c-requires
order-c-requires c = let inv = c.walk.invariant in edges_fit (looking-at (looking c)) inv.1 inv.2

pub next-m-requires : goal.next-m-requires
next-m-requires c = let inv = c.walk.invariant in first_next (looking-at (looking c.before)) inv.1 inv.2

pub next-n-requires : goal.next-n-requires
next-n-requires c =
    let pre = c.requires in
    (pre.1, pre.2, c.walk.invariant.2)

pub here-here-requires : goal.here-here-requires
here-here-requires c =
    corners-fit (looking-at (looking c.before.before.before)) c.walk.invariant.1 c.walk.invariant.2

-- the walk after the step
steps : (c : After-next-n) (end : Bool) →
    let args = c.args in
    At args.a.now (image args.b.now) (walk_of c.next-m.result c.next-n.result end)
steps c end =
    let inv = c.walk.invariant in
    sides-at (looking-at (looking c.before.before.before)) inv.1 inv.2 (result-is w64 c.order-c.type_inv c.order-c.ensures)
    c.next-m.result c.next-n.result c.next-m.ensures.0 c.next-n.ensures.0

advances : (c : After-next-n) →
    let args = c.args in
    let m = c.next-m.result in
    let n = c.next-n.result in
    walk_of m n (finished (points args.a.now) m.at (points (image args.b.now)) n.at)
    ≡ advanced (points args.a.now) (points (image args.b.now)) (walk_of c.walk.s c.walk.t false)
advances c =
    let inv = c.walk.invariant in
    sides-advanced (looking-at (looking c.before.before.before)) inv.1 inv.2
    (result-is w64 c.order-c.type_inv c.order-c.ensures)
    c.next-m.result c.next-n.result c.next-m.ensures.0 c.next-n.ensures.0 refl

first_step : (c : After-next-n) →
    let args = c.args in
    c.next-m.result.at
    ≡ Places.passed (edges (points args.a.now)) c.walk.s.at (edges (points (image args.b.now))) c.walk.t.at
unfolding advanced passed
first_step c = ap (λ (w : Walk). w.i) (advances c)

second-step : (c : After-next-n) →
    let args = c.args in
    c.next-n.result.at
    ≡ Places.passed (edges (points (image args.b.now))) c.walk.t.at (edges (points args.a.now)) c.walk.s.at
unfolding advanced passed
second-step c = ap (λ (w : Walk). w.j) (advances c)

pub here-there-requires : goal.here-there-requires
here-there-requires c =
    corners-fit (steps c.before false) c.next-m.ensures.1 c.next-n.ensures.1

-- where it is before and after the step
leaves : (c : After-here-there) →
    let args = c.args in
    at c.here-here.result
    ≡ here (points args.a.now) (points (image args.b.now)) (walk_of c.walk.s c.walk.t false)
leaves c =
    c.here-here.ensures ∙ sides-here (looking-at (looking c.before.before.before.before.before)) c.walk.invariant.1
    c.walk.invariant.2

arrives : (c : After-here-there) (end : Bool) →
    let args = c.args in
    at c.here-there.result
    ≡ here (points args.a.now) (points (image args.b.now)) (walk_of c.next-m.result c.next-n.result end)
arrives c end =
    c.here-there.ensures ∙ sides-here (steps c.before.before end) c.next-m.ensures.1 c.next-n.ensures.1

near : (c : After-here-there) → Small 2097152 (at c.here-here.result) × Small 2097152 (at c.here-there.result)
near c = (
  here-near (looking-at (looking c.before.before.before.before.before)) (leaves c),
  here-near (steps c.before.before false)
      (arrives c false),
)

pub rests-requires : goal.rests-requires
rests-requires c = let both = near c in
    (c.walk.invariant.3, small-wide both.0, small-wide both.1)

pub returns-then-rests : goal.returns-then-rests
returns-then-rests c = (
  subst (Small 4194304) (sym c.seen.ensures) (small-wide (near c.before.before.before).0),
  subst (Stopped _) (sym c.seen.ensures)
      (looking-corner (looking c.before.before.before.before.before.before.before.before) refl
      (advances c.before.before.before.before.before) (leaves c.before.before.before) (arrives c.before.before.before _)
      c.requires.4 (sym c.rests.ensures ∙ c.if-rests.true)),
)

pub crosses-requires : goal.crosses-requires
crosses-requires c = let both = near c.before.before in (small-wide both.0, small-wide both.1)

pub across-requires : goal.across-requires
across-requires c = near c.before.before.before.before

pub returns-then-crosses : goal.returns-then-crosses
returns-then-crosses c =
    let both = near c.before.before.before.before.before.before in
    let is = c.seen-then-crosses.ensures ∙ c.across.ensures in (
      subst (Small 4194304) (sym is) (record {
        small-x = within-neg (within-add both.1.small-y (within-neg both.0.small-y));
        small-y = within-add both.1.small-x (within-neg both.0.small-x);
      }),
      subst (Stopped _) (sym is)
          (looking-edge (looking c.before.before.before.before.before.before.before.before.before.before.before) refl
          (advances c.before.before.before.before.before.before.before.before) (leaves c.before.before.before.before.before.before)
          (arrives c.before.before.before.before.before.before _)
          (sym c.crosses.ensures ∙ c.if-crosses.true)),
    )

pub overflow_add-m : goal.overflow_add-m
overflow_add-m c =
    let first = c.next-m.ensures.1.at_in in
    let second = c.next-n.ensures.1.at_in in
    omega (arith, image-few _ _ c.requires.0 c.requires.1)

-- neither place at hand passes
fails : (c : Else-crosses) →
    let back = at c.walk.back in
    (rests back (at c.here-here.result) (at c.here-there.result) ≡ false)
    × (crosses (at c.here-here.result) (at c.here-there.result) ≡ false)
fails c = (
  sym c.rests.ensures ∙ c.if-rests.false,
  sym c.crosses.ensures ∙ c.if-crosses.false,
)

pub returns-then-m-n : goal.returns-then-m-n
returns-then-m-n c = λ k below moved.
    looking-end (c.walk.invariant.0 k below moved) refl
    (advances (goal.at.returns-then-m-n c).After-next-n)
    (leaves (goal.at.returns-then-m-n c).After-here-there)
    (arrives (goal.at.returns-then-m-n c).After-here-there _) (fails (goal.at.returns-then-m-n c).Else-crosses).0
    (fails (goal.at.returns-then-m-n c).Else-crosses).1
    (all-passed _ _ _ _ c.next-m.ensures.1.at_in c.next-n.ensures.1.at_in
    (c.if-m-n.true ∙ image-sides c.side_at-s.ensures.1 c.side_at-t.ensures.1))

pub walk-smaller : goal.walk-smaller
walk-smaller c =
    let inv = c.walk.invariant in
    let args = c.args in
    let E = edges (points args.a.now) in
    let F = edges (points (image args.b.now)) in
    edges-less E F _ _ (first_step c.before.before.before.before.before.before.before.before.before)
    (second-step c.before.before.before.before.before.before.before.before.before) (λ h k. c.if-m-n.false (omega (
      arith,
      image-sides c.side_at-s.ensures.1
          c.side_at-t.ensures.1,
      first_step c.before.before.before.before.before.before.before.before.before ∙ passed-ended E _ F _ h,
      second-step c.before.before.before.before.before.before.before.before.before ∙ passed-ended F _ E _ k,
      inv.1.at_in,
      inv.2.at_in,
    )))

pub walk-preserved : goal.walk-preserved
walk-preserved c =
    let args = c.args in
    let on = some_left _ _ c.next-m.result.at c.next-n.result.at
    (λ e. c.if-m-n.false (e ∙ sym (image-sides c.side_at-s.ensures.1
    c.side_at-t.ensures.1))) in (
      λ k below moved. subst (λ (o : Bool). Looking args.a.now (image args.b.now) k
          (walk_of c.next-m.result c.next-n.result o) (at c.here-here.result)) on
          (looking-more (c.walk.invariant.0 k below moved) refl
          (advances c.before.before.before.before.before.before.before.before.before)
          (leaves c.before.before.before.before.before.before.before) (arrives c.before.before.before.before.before.before.before _)
          (fails (goal.at.walk-preserved c).Else-crosses).0
          (fails (goal.at.walk-preserved c).Else-crosses).1),
      c.next-m.ensures.1,
      c.next-n.ensures.1,
      small-wide (near c.before.before.before.before.before.before.before).0,
    )
