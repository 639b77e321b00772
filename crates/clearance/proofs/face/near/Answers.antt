-- `near` meets its contract: a corner that neither neighbour is lower than is lowest, and only a neighbour can be as low.
use mathlib.Core.Path.{◌≡◌, sym, ◌∙◌, ap, ap₂, subst}
use mathlib.Core.Bool.{true, false}
use Prim.Native.Nat.{◌<◌}
use native.Mathlib.Omega.{arith}
use lib.IntN.{ℤ}
use lib.ListN.{length}
use lib.Signed.{lt_z, le_z, ◌≤ℤ◌, ◌<ℤ◌}
use mir.Syntax.{w64}
use mir.Val.{to_z, of_z}
use Rattle.integer.specs.Machine.{result-is}
use Rattle.integer.specs.Order.{lt_z-false, le_z-true, le_z-false}
use Rattle.plane.specs.Point.{points, corner}
use Rattle.plane.specs.Shape.{next}
use Rattle.plane.specs.Direction.{value}
use Rattle.polygon.specs.Point.{at}
use Rattle.clearance.specs.Facing.{Lowest}
use Rattle.clearance.specs.Faces.{IsFace}
use Rattle.clearance.specs.theory.Lowest.{between-lowest, level-lowest, edge-face, corner-face}
use Rattle.clearance.proofs.face.near.Goals as goal
use Rattle.clearance.proofs.face.near.Goals.{After-next-on, After-previous-back, After-value_at-one, After-value_at-other}
use Rattle.clearance.proofs.face.near.Goals.{After-value_at-own, Else-other-own}

pub previous-back-requires : goal.previous-back-requires
previous-back-requires c = omega (arith, c.count-count.ensures, c.requires.3)

pub next-on-requires : goal.next-on-requires
next-on-requires c = omega (arith, c.count-count.ensures, c.requires.3)

-- the positions of the neighbours
back_in : (c : After-previous-back) → c.previous-back.result < length (points c.args.list.now)
back_in c = omega (arith, c.count-count.ensures, c.previous-back.ensures.0)

from_back : (c : After-previous-back) → let args = c.args in
    next (length (points args.list.now)) c.previous-back.result ≡ args.i
from_back c = ap (λ m. next m c.previous-back.result) (sym c.count-count.ensures) ∙ c.previous-back.ensures.1

to-on : (c : After-next-on) → let args = c.args in
    next (length (points args.list.now)) args.i ≡ c.next-on.result
to-on c = ap (λ m. next m c.args.i) (sym c.count-count.ensures) ∙ sym c.next-on.ensures.value

on_in : (c : After-next-on) → c.next-on.result < length (points c.args.list.now)
on_in c = omega (arith, c.count-count.ensures, c.next-on.ensures.upper_bound)

pub value_at-own-requires : goal.value_at-own-requires
value_at-own-requires c = let pre = c.requires in (pre.3, pre.0.in_range, pre.1)

pub value_at-one-requires : goal.value_at-one-requires
value_at-one-requires c = let pre = c.requires in (back_in c.before.before, pre.0.in_range, pre.1)

pub value_at-other-requires : goal.value_at-other-requires
value_at-other-requires c =
    let pre = c.requires in (on_in c.before.before, pre.0.in_range, pre.1)

pub lowest-requires : goal.lowest-requires
lowest-requires c = let pre = c.requires in (pre.0, pre.1, pre.2)

-- what the tests say of the values
not-less : {x y u v : ℤ} → u ≡ x → v ≡ y → lt_z u v ≡ false → y ≤ℤ x
not-less p q e = lt_z-false (sym (ap₂ lt_z p q) ∙ e)

no_more : {x y u v : ℤ} → u ≡ x → v ≡ y → le_z u v ≡ true → x ≤ℤ y
no_more p q e = le_z-true (sym (ap₂ le_z p q) ∙ e)

more : {x y u v : ℤ} → u ≡ x → v ≡ y → le_z u v ≡ false → y <ℤ x
more p q e = le_z-false (sym (ap₂ le_z p q) ∙ e)

-- the values of the corner and of its neighbours
own : (c : After-value_at-own) → let args = c.args in
    to_z w64 (of_z w64 c.value_at-own.result) ≡ value (at args.n) (corner (points args.list.now) args.i)
own c = result-is w64 c.value_at-own.type_inv c.value_at-own.ensures

one : (c : After-value_at-one) →
    let args = c.args in
    to_z w64 (of_z w64 c.value_at-one.result) ≡ value (at args.n) (corner (points args.list.now) c.previous-back.result)
one c = result-is w64 c.value_at-one.type_inv c.value_at-one.ensures

other : (c : After-value_at-other) →
    let args = c.args in
    to_z w64 (of_z w64 c.value_at-other.result) ≡ value (at args.n) (corner (points args.list.now) c.next-on.result)
other c = result-is w64 c.value_at-other.type_inv c.value_at-other.ensures

-- the corner is lowest
own-lowest : (c : Else-other-own) → let args = c.args in
    Lowest (at args.n) (points args.list.now) args.i
own-lowest c =
    between-lowest c.requires.0.shape _ _ _ (back_in c.before.before.before.before.before.before)
    (from_back c.before.before.before.before.before.before) (to-on c.before.before.before.before.before)
    (not-less (one c.before.before.before) (own c.before.before.before.before) c.if-one-own.false)
    (not-less (other c.before.before) (own c.before.before.before.before) c.if-other-own.false)

pub returns-then-other-own-2 : goal.returns-then-other-own-2
returns-then-other-own-2 c =
    let pre = c.requires in
    subst (IsFace _ _) (sym c.ordered.ensures)
    (edge-face pre.0.shape pre.2 _ _ (to-on c.before.before.before.before.before.before.before) (own-lowest c.before.before)
    (level-lowest (own-lowest c.before.before) _ (on_in c.before.before.before.before.before.before.before)
    (no_more (other c.before.before.before.before) (own c.before.before.before.before.before.before) c.if-other-own-2.true)))

pub returns-then-one-own-2 : goal.returns-then-one-own-2
returns-then-one-own-2 c =
    let pre = c.requires in
    subst (IsFace _ _) (sym c.ordered-then-one-own-2.ensures)
    (edge-face pre.0.shape pre.2 _ _ (from_back c.before.before.before.before.before.before.before.before.before)
    (level-lowest (own-lowest c.before.before.before) _ (back_in c.before.before.before.before.before.before.before.before.before)
    (no_more (one c.before.before.before.before.before.before) (own c.before.before.before.before.before.before.before)
    c.if-one-own-2.true))
    (own-lowest c.before.before.before))

pub returns : goal.returns
returns c =
    let pre = c.requires in
    subst (IsFace _ _) (sym c.ordered-2.ensures)
    (corner-face pre.0.shape pre.2 _ _ _ (back_in c.before.before.before.before.before.before.before.before.before)
    (from_back c.before.before.before.before.before.before.before.before.before)
    (to-on c.before.before.before.before.before.before.before.before) (own-lowest c.before.before.before)
    (more (one c.before.before.before.before.before.before) (own c.before.before.before.before.before.before.before) c.if-one-own-2.false)
    (more (other c.before.before.before.before.before) (own c.before.before.before.before.before.before.before) c.if-other-own-2.false))
