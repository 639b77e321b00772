-- `narrowest` meets its contract. The invariant: the best of the edges passed; the measure is how many steps are to come.
use mathlib.Core.Path.{refl, sym, ◌∙◌}
use mathlib.Core.Bool.{true, false}
use native.Mathlib.Omega.{arith}
use Rattle.measure.specs.theory.Chains.{chains-found}
use Rattle.measure.proofs.Stepped.{half-edges, half_room, half-on}
use Rattle.measure.proofs.Sweep.{sweep-fits, sweep-next, sweep-done}
use Rattle.measure.proofs.narrowest.narrowest.Goals as goal

pub top-top-requires : goal.top-top-requires
top-top-requires c = c.requires.0.shape.some

pub stride-from-requires : goal.stride-from-requires
stride-from-requires c =
    let pre = c.requires in
    let v = pre.0 in
    (record { valid = v; chains = chains-found v.shape c.top-top.ensures; sides = c.sides-end.ensures }, pre.1)

pub loop-s-init : goal.loop-s-init
loop-s-init c = c.stride-from.ensures

pub overflow_add-s : goal.overflow_add-s
overflow_add-s c = omega (arith, (half_room c.loop-s.invariant.half).0)

pub overflow_add-top : goal.overflow_add-top
overflow_add-top c = let inv = c.loop-s.invariant in omega (arith, (half_room inv.half).1, inv.sides)

pub goes_right-requires : goal.goes_right-requires
goes_right-requires c = half-edges c.loop-s.invariant.half

-- ---- a step on the right-hand chain
pub measured-requires : goal.measured-requires
measured-requires c = sweep-fits c.loop-s.invariant true refl refl

pub next-s-requires : goal.next-s-requires
next-s-requires c =
    let half = c.loop-s.invariant.half in
    (half.right_side, half.valid.in_range, half.valid.shape.some)

pub loop-s-smaller-then-goes_right : goal.loop-s-smaller-then-goes_right
loop-s-smaller-then-goes_right c =
    let inv = c.loop-s.invariant in
    (half-on inv.half inv.sides (omega (arith, c.loop-s-test.true))
    (sym c.if-goes_right.true ∙ c.goes_right.ensures) c.next-s.ensures (refl, inv.half.left-side)).2

pub loop-s-preserved-then-goes_right : goal.loop-s-preserved-then-goes_right
loop-s-preserved-then-goes_right c =
    let inv = c.loop-s.invariant in
    sweep-next inv true refl refl (omega (arith, c.loop-s-test.true)) (sym c.if-goes_right.true ∙ c.goes_right.ensures)
    c.next-s.ensures (refl, inv.half.left-side) c.measured.ensures c.narrower-best.ensures

-- ---- and on the left-hand one
pub measured-requires-else-goes_right : goal.measured-requires-else-goes_right
measured-requires-else-goes_right c = sweep-fits c.loop-s.invariant false refl refl

pub next-t-requires : goal.next-t-requires
next-t-requires c =
    let half = c.loop-s.invariant.half in
    (half.left-side, half.valid.in_range, half.valid.shape.some)

pub loop-s-smaller : goal.loop-s-smaller
loop-s-smaller c =
    let inv = c.loop-s.invariant in
    (half-on inv.half inv.sides (omega (arith, c.loop-s-test.true)) (sym c.if-goes_right.false ∙ c.goes_right.ensures)
    (refl, inv.half.right_side) c.next-t.ensures).2

pub loop-s-preserved : goal.loop-s-preserved
loop-s-preserved c =
    let inv = c.loop-s.invariant in
    sweep-next inv false refl refl (omega (arith, c.loop-s-test.true)) (sym c.if-goes_right.false ∙ c.goes_right.ensures)
    (refl, inv.half.right_side) c.next-t.ensures c.measured-else-goes_right.ensures c.narrower-best-else-goes_right.ensures

pub returns : goal.returns
returns c = sweep-done c.loop-s.invariant (omega (arith, c.loop-s-test.false))
