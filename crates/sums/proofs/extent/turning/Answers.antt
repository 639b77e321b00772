-- `turning` meets its contract. The invariant: the corner before `low` goes on to it, and that at `high` does not; the measure is what is
-- between them.
use mathlib.Core.Path.{◌≡◌, sym, ◌∙◌, subst}
use Prim.Native.Nat.{ℕ, ◌+◌, ◌-◌, ◌/◌, ◌<◌}
use native.Mathlib.Omega.{arith}
use Rattle.integer.specs.Order.{le_z-true, le_z-false}
use Rattle.plane.specs.Point.{points}
use Rattle.polygon.specs.Point.{at}
use Rattle.sums.proofs.extent.turning.Goals as goal
use Rattle.sums.proofs.extent.turning.Goals.{In-loop-low}
use Rattle.sums.proofs.extent.turning.Invariants.{GoesOn, Stops}

pub loop-low-init : goal.loop-low-init
loop-low-init c = record {
  after = omega arith;
  order = c.requires.0;
  within = omega arith;
  goes = λ k h e. absurd (omega (arith, h, e));
  stops = λ h. absurd (omega (arith, h));
}

-- the middle is before the end
inside : (c : In-loop-low) →
    c.loop-low.low + (c.loop-low.high - c.loop-low.low) / 2 < c.loop-low.high
inside c = omega (arith, c.loop-low-test.true)

pub goes_on-requires : goal.goes_on-requires
goes_on-requires c =
    let pre = c.requires in
    (omega (arith, inside c, c.loop-low.invariant.within, pre.1), pre.2, pre.3)

pub loop-low-preserved-then-goes_on : goal.loop-low-preserved-then-goes_on
loop-low-preserved-then-goes_on c =
    let inv = c.loop-low.invariant in
    let args = c.args in
    let middle = c.loop-low.low + (c.loop-low.high - c.loop-low.low) / 2 in
    record {
      after = omega (arith, inv.after);
      order = omega (arith, inside c.before.before);
      within = inv.within;
      goes = λ k h e.
          let same : middle ≡ k = omega (arith, e) in
          subst (λ (i : ℕ). GoesOn (points args.list.now) (at args.d) i) same
          (le_z-true (sym c.goes_on.ensures ∙ c.if-goes_on.true));
      stops = inv.stops;
    }

pub loop-low-preserved : goal.loop-low-preserved
loop-low-preserved c =
    let inv = c.loop-low.invariant in
    record {
      after = inv.after;
      order = omega arith;
      within = omega (arith, inside c.before.before, inv.within);
      goes = inv.goes;
      stops = λ h. le_z-false (sym c.goes_on.ensures ∙ c.if-goes_on.false);
    }

pub returns : goal.returns
returns c =
    let inv = c.loop-low.invariant in
    let all : c.loop-low.high ≡ c.loop-low.low = omega (arith, inv.order, c.loop-low-test.false) in
    let args = c.args in
    record {
      after = inv.after;
      within = omega (arith, inv.order, inv.within);
      goes = inv.goes;
      stops = λ h. subst (λ (i : ℕ). Stops (points args.list.now) (at args.d) i) all (inv.stops (omega (arith, all, h)));
    }
