-- `stride` meets its contract. The invariant is what it promises, with three edges left of both shapes; the measure: the edges that are
-- left.
use mathlib.Core.Path.{◌∙◌, ap}
use Prim.Native.Nat.{ℕ, ◌+◌, ◌-◌, ◌^◌, ◌<◌}
use native.Mathlib.Omega.{arith}
use lib.ListN.{length}
use mir.Syntax.{w64}
use Rattle.integer.specs.Machine.{result-is}
use Rattle.plane.specs.Point.{points}
use Rattle.plane.specs.Refusal.{InRange, Valid}
use Rattle.plane.specs.Forms.{edges}
use Rattle.polygon.specs.Peak.{Peak}
use Rattle.polygon.specs.Point.{at, Small}
use Rattle.polygon.specs.theory.Small.{small-wide}
use Rattle.calipers.specs.declared.side.Side.{Side}
use Rattle.calipers.specs.Image.{image}
use Rattle.calipers.specs.Side.{next_of, Carried}
use Rattle.calipers.specs.theory.Carry.{sides-here, here-near, first_next, corners-fit, edges_fit}
use Rattle.separation.specs.Passing.{Strode}
use Rattle.separation.specs.theory.Image.{image-begun, image-few}
use Rattle.separation.proofs.Striding.{strode-start, strode-at, strode-first, strode-second, strode-both, strode-same, goes_on}
use Rattle.separation.proofs.stride.stride.Goals as goal
use Rattle.separation.proofs.stride.stride.Goals.{After-order-c, At-loop-from, Joined-c-gt0, Start, then-c-gt0+else-stays}
use Rattle.separation.proofs.stride.stride.Goals.{else-c-gt0+then-c-lt0+else-moment-le0, else-c-gt0+else-c-lt0+else-joint_moment-le0}

pub alone-t-requires : goal.alone-t-requires
alone-t-requires c =
    let pre = c.requires in (
      pre.0,
      pre.1,
      pre.2,
      strode-start (image-begun _ _ pre.0 pre.1) c.side_at-s.ensures.0 c.side_at.ensures.0 c.side_at-s.ensures.1
          c.side_at.ensures.1,
    )

-- the edges that are passed fit
bound : (c : Start) {s t : Side} {joined : ℕ} → Strode c.args.a.now (image c.args.b.now) s t joined
    → s.at + t.at < 2 ^ 63
bound c p = omega (
  arith,
  p.first-side.at_in,
  p.second-side.at_in,
  image-few _ _ c.requires.0 c.requires.1,
  c.well_formed.0,
  c.well_formed.1.0,
)

pub are_inside-requires : goal.are_inside-requires
are_inside-requires c = let fits = bound c.before.before.before c.alone-t.ensures in (omega (arith, fits), omega (arith, fits))

abbrev start : At-loop-from → Start
start c = c.before.before.before.before.before.before

pub here-from-requires : goal.here-from-requires
here-from-requires c = let p = c.loop-from.invariant.0 in corners-fit (strode-at p) p.first-side p.second-side

pub order-c-requires : goal.order-c-requires
order-c-requires c = let p = c.loop-from.invariant.0 in edges_fit (strode-at p) p.first-side p.second-side

-- the corner and the edges may be multiplied
fit : (c : After-order-c) →
    Small (2 ^ 22) (at c.here-from.result) × Small (2 ^ 22) (next_of c.loop-from.s) × Small (2 ^ 22) (next_of c.loop-from.t)
fit c =
    let p = c.loop-from.invariant.0 in
    let both = edges_fit (strode-at p) p.first-side p.second-side in
    let near = here-near (strode-at p) (c.here-from.ensures ∙ sides-here (strode-at p) p.first-side p.second-side) in
    (small-wide near, both.0, both.1)

-- what the sides ask for to go on
first-ahead : (c : At-loop-from) → let args = c.args in
    let s = c.loop-from.s in
    Carried args.a.now s × InRange args.a.now × (0 < length (points args.a.now)) × (s.at + 2 < s.end)
first-ahead c =
    let p = c.loop-from.invariant.0 in
    let ready = first_next (strode-at p) p.first-side p.second-side in
    (ready.0, ready.1, ready.2, c.loop-from.invariant.1)

second-ahead : (c : At-loop-from) → let args = c.args in
    let t = c.loop-from.t in
    Valid args.b.now × Peak (points args.b.now) args.top × Carried (image args.b.now) t × (t.at + 2 < t.end)
second-ahead c = let pre = c.requires in (pre.1, pre.2, c.loop-from.invariant.0.second-side, c.loop-from.invariant.2)

pub moment-stays-requires : goal.moment-stays-requires
moment-stays-requires c = let f = fit c.before in (f.0, f.1)

pub moment-requires : goal.moment-requires
moment-requires c = let f = fit c.before.before in (f.0, f.2)

pub joint_moment-requires : goal.joint_moment-requires
joint_moment-requires c = fit c.before.before

pub overflow_add-joined : goal.overflow_add-joined
overflow_add-joined c =
    let p = c.loop-from.invariant.0 in
    omega (
      arith,
      p.counted,
      bound (start c.before.before.before.before.before.before.before.before) p,
      c.loop-from.invariant.1,
      p.first-side.end_is,
    )

-- one side went on, or both: the walk is further, and less is left
further : (c : Joined-c-gt0) →
    let args = c.args in
    let E = edges (points args.a.now) in
    let F = edges (points (image args.b.now)) in
    Strode args.a.now (image args.b.now) c.if-c-gt0.s c.if-c-gt0.t c.if-c-gt0.joined
    × (length E - c.if-c-gt0.s.at + (length F - c.if-c-gt0.t.at) < length E - c.loop-from.s.at + (length F - c.loop-from.t.at))
further c =
    let inv = c.loop-from.invariant in
    let p = inv.0 in
    let product = result-is w64 c.order-c.type_inv c.order-c.ensures in
    elim c.if-c-gt0.branch [
      | then-c-gt0+else-stays w ↦ (
        strode-same w.s-is w.t-is w.joined-is (strode-first p product c.here-from.ensures w.if-stays.false inv.1 inv.2
            w.if-c-gt0.true (result-is w64 w.moment-stays.type_inv w.moment-stays.ensures) _ w.ahead-s.ensures.0 w.ahead-s.ensures.1),
        omega (
          arith,
          ap (λ (z : Side). z.at) w.s-is,
          ap (λ (z : Side). z.at) w.t-is,
          inv.1,
          p.first-side.end_is,
          goes_on p.first-side inv.1 w.ahead-s.ensures.0,
        ),
      )
      | else-c-gt0+then-c-lt0+else-moment-le0 w ↦ (
        strode-same w.s-is w.t-is w.joined-is (strode-second p product c.here-from.ensures w.if-moment-le0.false inv.1 inv.2
            w.if-c-lt0.true (result-is w64 w.moment.type_inv w.moment.ensures) _ w.ahead-t.ensures.0
            w.ahead-t.ensures.1),
        omega (
          arith,
          ap (λ (z : Side). z.at) w.s-is,
          ap (λ (z : Side). z.at) w.t-is,
          inv.2,
          p.second-side.end_is,
          goes_on p.second-side inv.2 w.ahead-t.ensures.0,
        ),
      )
      | else-c-gt0+else-c-lt0+else-joint_moment-le0 w ↦ (
        strode-same w.s-is w.t-is w.joined-is (strode-both p product c.here-from.ensures w.if-joint_moment-le0.false inv.1 inv.2
            w.if-c-gt0.false w.if-c-lt0.false (result-is w64 w.joint_moment.type_inv w.joint_moment.ensures) _ _
            w.ahead-s-else-c-lt0.ensures.0 w.ahead-t-else-c-lt0.ensures.0 w.ahead-s-else-c-lt0.ensures.1
            w.ahead-t-else-c-lt0.ensures.1),
        omega (
          arith,
          ap (λ (z : Side). z.at) w.s-is,
          ap (λ (z : Side). z.at) w.t-is,
          inv.1,
          inv.2,
          p.first-side.end_is,
          p.second-side.end_is,
          goes_on p.first-side inv.1 w.ahead-s-else-c-lt0.ensures.0,
          goes_on p.second-side inv.2 w.ahead-t-else-c-lt0.ensures.0,
        ),
      )
    ]

pub are_inside-requires-in-loop-from : goal.are_inside-requires-in-loop-from
are_inside-requires-in-loop-from c =
    let fits = bound (start c.before.before.before) (further c).0 in (omega (arith, fits), omega (arith, fits))

pub returns-then-not-are_inside-2 : goal.returns-then-not-are_inside-2
returns-then-not-are_inside-2 c = (further c.before.before).0

pub loop-from-smaller : goal.loop-from-smaller
loop-from-smaller c = (further c.before.before).1

pub loop-from-preserved : goal.loop-from-preserved
loop-from-preserved c =
    let three = c.are_inside-in-loop-from.ensures (c.if-not-are_inside-2.false) in ((further c.before.before).0, three.0, three.1)
