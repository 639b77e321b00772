-- `across` meets its contract: the turn by the cross product of two steps, the edge's squared length, and the root of their fraction.
use mathlib.Core.Path.{◌≡◌, sym, ◌∙◌, ap, ap₂}
use Prim.Native.Nat.{ℕ, ◌*◌, ◌<◌}
use native.Mathlib.Omega.{arith}
use borrow.Author.Tests.{ltb-true}
use lib.IntN.{pos, nat_abs}
use lib.ListN.{length}
use mir.Syntax.{w64}
use mir.Val.{to_z, of_z}
use Rattle.integer.specs.Machine.{result-is}
use Rattle.integer.specs.Order.{lt-lt_z}
use Rattle.plane.specs.Point.{points, corner, ◌⊖◌}
use Rattle.plane.specs.Turn.{cross, turn-cross}
use Rattle.plane.specs.Shape.{next}
use Rattle.plane.specs.Measure.{squared, edge_squared, root_below}
use Rattle.plane.specs.Clearance.{turn_on}
use Rattle.plane.proofs.theory.forms.Squared.{squared-nonneg}
use Rattle.polygon.specs.Point.{at, Small}
use Rattle.polygon.specs.theory.Small.{small-corner, small-step}
use Rattle.measure.specs.theory.Rounded.{rounded-unique}
use Rattle.clearance.proofs.measured.across.Goals as goal
use Rattle.clearance.proofs.measured.across.Goals.{After-corner_at-to, After-cross, After-magnitude-squared, After-squared, After-step}

-- where the edge ends
end_is : (c : After-corner_at-to) → let B = points c.args.b.now in
    at c.corner_at-to.result ≡ corner B (next (length B) c.args.e)
end_is c =
    c.corner_at-to.ensures ∙ ap (corner (points c.args.b.now))
    (c.next.ensures.value ∙ ap (λ (n : ℕ). next n c.args.e) c.count.ensures)

pub step-edge-requires : goal.step-edge-requires
step-edge-requires c =
    let pre = c.requires in (
      small-corner _ pre.3 _ pre.1 c.corner_at-from.ensures,
      small-corner _ pre.3 _ (omega (arith, c.next.ensures.upper_bound, c.count.ensures)) c.corner_at-to.ensures,
    )

pub step-requires : goal.step-requires
step-requires c =
    let pre = c.requires in
    (small-corner _ pre.3 _ pre.1 c.corner_at-from.ensures, small-corner _ pre.2 _ pre.0 c.corner_at.ensures)

steps-small : (c : After-step) → Small 4194304 (at c.step-edge.result) × Small 4194304 (at c.step.result)
steps-small c =
    let edge = step-edge-requires c.before.before.before in
    let other = step-requires c.before in
    (small-step edge.0 edge.1 c.step-edge.ensures, small-step other.0 other.1 c.step.ensures)

pub cross-requires : goal.cross-requires
cross-requires c = steps-small c

-- the turn
turn_is : (c : After-cross) →
    to_z w64 (of_z w64 c.cross.result)
    ≡ turn_on (points c.args.b.now) c.args.e (corner (points c.args.a.now) c.args.c)
turn_is c =
    result-is w64 c.cross.type_inv (c.cross.ensures
    ∙ ap₂ cross (c.step-edge.ensures ∙ ap₂ ◌⊖◌ (end_is c.before.before.before.before) c.corner_at-from.ensures)
    (c.step.ensures ∙ ap₂ ◌⊖◌ c.corner_at.ensures c.corner_at-from.ensures) ∙ sym (turn-cross _ _ _))

pub squared-requires : goal.squared-requires
squared-requires c = step-edge-requires c.before.before.before.before.before

squared-is : (c : After-squared) →
    to_z w64 (of_z w64 c.squared.result) ≡ edge_squared (points c.args.b.now) c.args.e
unfolding edge_squared
squared-is c =
    result-is w64 c.squared.type_inv
    (c.squared.ensures ∙ ap₂ squared c.corner_at-from.ensures (end_is c.before.before.before.before.before.before))

pub magnitude-squared-requires : goal.magnitude-squared-requires
unfolding edge_squared
magnitude-squared-requires c = rw (squared-is c) (squared-nonneg _ _)

length-is : (c : After-magnitude-squared)
    →
    edge_squared (points c.args.b.now) c.args.e ≡ pos c.magnitude-squared.result
length-is c = sym (squared-is c.before) ∙ c.magnitude-squared.ensures

positive : (c : After-magnitude-squared) → 0 < c.magnitude-squared.result
positive c =
    ltb-true 0 c.magnitude-squared.result (lt-lt_z (rw (length-is c) at c.requires.4))

pub root_of_fraction-requires : goal.root_of_fraction-requires
root_of_fraction-requires c = record { positive = positive c }

pub returns : goal.returns
returns c =
    let turns = c.unsigned_abs-turn.ensures.value ∙ ap nat_abs (turn_is c.before.before.before.before) in
    let t = c.unsigned_abs-turn.result in
    let q = c.magnitude-squared.result in
    let root = rounded-unique (t * t) q (positive c.before) c.root_of_fraction.result
    c.root_of_fraction.ensures.reached c.root_of_fraction.ensures.next-above in
    record {
      turn_is = turns;
      squared-is = sym (length-is c.before);
      rounded-is = sym root ∙ ap₂ (λ (t q : ℕ). root_below (t * t) q) turns (ap nat_abs (sym (length-is c.before)));
    }
