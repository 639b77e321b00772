-- `better` meets its contract: a neighbour that draws, or neither does.
use mathlib.Core.Path.{◌≡◌, sym, ◌∙◌, ap, subst}
use mathlib.Core.Bool.{false}
use Prim.Native.Nat.{ℕ, ◌<◌}
use native.Mathlib.Omega.{arith}
use lib.ListN.{length}
use Rattle.plane.specs.Point.{points, corner}
use Rattle.plane.specs.Shape.{next}
use Rattle.polygon.specs.Point.{at}
use Rattle.tangents.specs.Draws.{draws}
use Rattle.tangents.specs.theory.NeighboursSuffice.{better-rests}
use Rattle.tangents.proofs.rest.better.Goals as goal
use Rattle.tangents.proofs.rest.better.Goals.{After-drawn, After-drawn-2, After-previous-before, Else-drawn}

-- what the two tests say
after_is : (c : After-drawn) → let args = c.args in
    let ps = points args.list.now in
    draws args.s (corner ps args.i) (at args.q) (corner ps c.next-after.result) ≡ c.drawn.result
after_is c = sym c.drawn.ensures

before-is : (c : After-drawn-2) → let args = c.args in
    let ps = points args.list.now in
    draws args.s (corner ps args.i) (at args.q) (corner ps c.previous-before.result) ≡ c.drawn-2.result
before-is c = sym c.drawn-2.ensures

pub returns-then-drawn : goal.returns-then-drawn
returns-then-drawn c =
    (omega (arith, c.next-after.ensures.upper_bound, c.count-n.ensures), after_is c.before ∙ c.if-drawn.true)

-- the corner before, where it is known
below : (c : After-previous-before) →
    c.previous-before.result < length (points c.args.list.now)
below c = omega (arith, c.previous-before.ensures.0, c.count-n.ensures)

pub returns-then-drawn-2 : goal.returns-then-drawn-2
returns-then-drawn-2 c = (below c.before.before, before-is c.before ∙ c.if-drawn-2.true)

-- the corner after does not draw
after : (c : Else-drawn) → let args = c.args in
    let ps = points args.list.now in
    draws args.s (corner ps args.i) (at args.q) (corner ps (next (length ps) args.i)) ≡ false
after c =
    let args = c.args in
    let ps = points args.list.now in
    let is = c.next-after.ensures.value ∙ ap (λ (n : ℕ). next n args.i) c.count-n.ensures in
    ap (λ (k : ℕ). draws args.s (corner ps args.i) (at args.q) (corner ps k)) (sym is) ∙ after_is c.before ∙ c.if-drawn.false

pub returns : goal.returns
returns c =
    let ready = c.requires in
    let round = subst (λ (n : ℕ). next n c.previous-before.result ≡ c.args.i)
    c.count-n.ensures c.previous-before.ensures.1 in
    better-rests _ _ ready.valid.shape _ ready.facing _ _ (below c.before.before) round
    (before-is c.before ∙ c.if-drawn-2.false) (after c.before.before.before)
