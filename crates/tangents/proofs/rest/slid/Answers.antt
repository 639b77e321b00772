-- `slid` meets its contract. The invariant: the walk is where it began, or came to a corner that draws; the measure: how many corners draw
-- away from it.
use mathlib.Core.Path.{◌≡◌, refl, sym, ◌∙◌, subst}
use mathlib.Core.Bool.{true}
use Prim.Native.Nat.{ℕ, ◌<◌}
use native.Mathlib.Omega.{arith}
use lib.ListN.{length}
use Rattle.plane.specs.Point.{points, corner}
use Rattle.polygon.specs.Point.{at}
use Rattle.tangents.specs.Draws.{draws, Beside, stayed, moved}
use Rattle.tangents.specs.theory.FiniteOrder.{counted-after}
use Rattle.tangents.specs.theory.DrawsOrder.{draws-self}
use Rattle.tangents.specs.theory.SettledExists.{rest-trans}
use Rattle.tangents.proofs.rest.slid.Goals as goal
use Rattle.tangents.proofs.rest.slid.Goals.{After-beside-k, Else-not-drawn}

pub count-n-requires : goal.count-n-requires
count-n-requires c = tt

pub loop-q-init : goal.loop-q-init
loop-q-init c = (c.requires.within, stayed refl)

pub beside-k-requires : goal.beside-k-requires
beside-k-requires c = omega (arith, c.loop-q.invariant.0, c.count-n.ensures)

-- the corner beside
there : (c : After-beside-k) → c.beside-k.result < length (points c.args.list.now)
there c = omega (arith, c.beside-k.ensures.0, c.count-n.ensures)

way : (c : After-beside-k) → let args = c.args in
    Beside args.forward (length (points args.list.now)) c.loop-q.i c.beside-k.result
way c = let args = c.args in
    subst (λ (n : ℕ). Beside args.forward n c.loop-q.i c.beside-k.result) c.count-n.ensures
    c.beside-k.ensures.1

pub drawn-requires : goal.drawn-requires
drawn-requires c =
    let ready = c.requires in
    (c.loop-q.invariant.0, there c, ready.valid.in_range, ready.small)

pub returns-then-not-drawn : goal.returns-then-not-drawn
returns-then-not-drawn c =
    let inv = c.loop-q.invariant in
    record {
      within = inv.0;
      ends = record {
        other = c.beside-k.result;
        other-in = there c.before.before;
        beside = way c.before.before;
        undrawn = sym c.drawn.ensures ∙ c.if-not-drawn.true;
      };
      came = inv.1;
    }

-- it draws
draws-on : (c : Else-not-drawn) →
    let args = c.args in
    let ps = points args.list.now in
    draws args.s (corner ps c.loop-q.i) (at args.q) (corner ps c.beside-k.result) ≡ true
draws-on c = sym c.drawn.ensures ∙ c.if-not-drawn.false

pub loop-q-smaller : goal.loop-q-smaller
loop-q-smaller c =
    let ps = points c.args.list.now in
    counted-after (λ i k. draws c.args.s (corner ps i) (at c.args.q) (corner ps k)) (length ps)
    (λ i h. draws-self _ _ _) (rest-trans c.requires.facing _) _ _ c.loop-q.invariant.0 (there c.before.before)
    (draws-on c)

pub loop-q-preserved : goal.loop-q-preserved
loop-q-preserved c =
    (there c.before.before, moved c.loop-q.i c.loop-q.invariant.0 (way c.before.before) (draws-on c))
