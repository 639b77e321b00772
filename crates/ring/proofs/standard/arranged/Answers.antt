-- `arranged` meets its contract: points from the least on that are a shape are the corners, whichever way they are read.
use mathlib.Core.Path.{sym, subst}
use mathlib.Core.Bool.{false≢true}
use Prim.Native.Nat.{ℕ, ◌<◌}
use native.Mathlib.Omega.{arith}
use lib.IntN.{pos}
use lib.Seq.{length-take-le}
use lib.Signed.{lt_z}
use mir.Syntax.{w64}
use mir.Val.{to_z, of_z}
use Rattle.plane.specs.Point.{points, corner}
use Rattle.ring.specs.theory.Steps.{opened-le, opened_some, least-below}
use Rattle.ring.specs.theory.Arranged.{arranged-front}
use Rattle.ring.proofs.standard.arranged.Goals as goal
use Rattle.ring.proofs.standard.arranged.Goals.{Start}

-- the start is one of the points
begins : (c : Start) → c.args.start < c.args.n
begins c =
    let ps = points c.args.list.now in
    let n = c.args.n in
    subst (λ (k : ℕ). k < n) (sym c.requires.1.least)
    (least-below (corner ps) n (omega (arith, c.requires.1.all, opened_some (λ p. p) ps c.requires.0.some)))

pub previous-before-requires : goal.previous-before-requires
previous-before-requires c = begins c

pub next-requires : goal.next-requires
next-requires c = begins c.before

pub turn_at-turn-requires : goal.turn_at-turn-requires
turn_at-turn-requires c =
    let few = opened-le (λ p. p) (points c.args.list.now) in
    let n = c.requires.1.all in (
      omega (arith, few, n, c.previous-before.ensures.upper_bound),
      omega (arith, few, n, begins c.before.before),
      omega (arith, few, n, c.next.ensures.upper_bound),
      c.requires.0.in_range,
    )

pub returns-then-turn-eq0 : goal.returns-then-turn-eq0
returns-then-turn-eq0 c e = absurd (false≢true e)

pub arrange-requires : goal.arrange-requires
arrange-requires c = (
  omega (arith, c.requires.1.all, opened-le (λ p. p) (points c.args.list.now)),
  begins c.before.before.before.before.before,
  c.requires.2,
)

pub slice_bounds-passes-end-2 : goal.slice_bounds-passes-end-2
slice_bounds-passes-end-2 c =
    sym (length-take-le _ c.arrange.new.shape
    (omega (arith, c.requires.2, c.arrange.auto.shape)))

pub returns : goal.returns
returns c e =
    let args = c.args in
    let back = lt_z (to_z w64 (of_z w64 c.turn_at-turn.result)) (pos 0) in
    arranged-front (points args.list.now) args.n args.start back c.requires.1.all c.requires.1.least
    args.shape.now c.arrange.new.shape c.arrange.ensures (c.passes.ensures.0 e).shape
