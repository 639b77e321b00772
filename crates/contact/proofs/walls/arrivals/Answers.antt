-- `arrivals` meets its contract. The invariant: `there` and `back` are the last entries up to i edges.
use mathlib.Core.Path.{◌≡◌, refl, sym, ◌∙◌, ap₂, subst}
use Prim.Native.Nat.{ℕ, ◌^◌, ◌<◌}
use native.Mathlib.Omega.{arith}
use lib.IntN.{ℤ}
use lib.ListN.{length}
use lib.Signed.{mag}
use mir.Syntax.{w64}
use mir.Val.{to_z, of_z}
use Rattle.integer.specs.Bound.{Within}
use Rattle.integer.specs.Machine.{result-is}
use Rattle.plane.specs.Point.{Point, points}
use Rattle.polygon.specs.Point.{at}
use Rattle.motion.specs.Contact.{edge_normal, past, entering, later}
use Rattle.contact.specs.declared.walls.BothWays.{BothWays}
use Rattle.contact.specs.Share.{Places, Arrived}
use Rattle.contact.proofs.theory.Arrivals.{wall-more, all-met, out-met}
use Rattle.contact.proofs.walls.arrivals.Goals as goal
use Rattle.contact.proofs.walls.arrivals.Goals.{After-edge_past-a, After-edge_past-b}

turned : {t u : Point} → Places t u → Places u t
turned p = record { from-near = p.to-near; to-near = p.from-near }

pub start-back-requires : goal.start-back-requires
start-back-requires c = let pre = c.requires in (pre.0, turned pre.1)

pub loop-i-init : goal.loop-i-init
loop-i-init c = (
  c.count-i-end.ensures,
  record { there-is = c.start-there.ensures; back_is = c.start-back.ensures },
)

pub edge_past-a-requires : goal.edge_past-a-requires
edge_past-a-requires c =
    (c.requires.0, omega arith, c.requires.1.from-near)

pub edge_past-b-requires : goal.edge_past-b-requires
edge_past-b-requires c =
    (c.requires.0, omega arith, c.requires.1.to-near)

bounded : {z : ℤ} → mag z < 2 ^ 63 → Within 8_000_000_000_000 z → Within 8_000_000_000_000 (to_z w64 (of_z w64 z))
bounded ok h = subst (λ (z : ℤ). Within 8_000_000_000_000 z) (sym (result-is w64 ok refl)) h

-- how far both ends are past the edge
from_is : (c : After-edge_past-a) →
    let args = c.args in
    to_z w64 (of_z w64 c.edge_past-a.result)
    ≡ past (points args.list.now) (edge_normal (points args.list.now) c.loop-i.i) (at args.t)
from_is c = result-is w64 c.edge_past-a.type_inv c.edge_past-a.ensures.0

to_is : (c : After-edge_past-b) →
    let args = c.args in
    to_z w64 (of_z w64 c.edge_past-b.result)
    ≡ past (points args.list.now) (edge_normal (points args.list.now) c.loop-i.i) (at args.u)
to_is c = result-is w64 c.edge_past-b.type_inv c.edge_past-b.ensures.0

-- both ends are past one wall
pub returns-then-are_past : goal.returns-then-are_past
returns-then-are_past c =
    let G = points c.args.list.now in
    out-met (at c.args.t) (at c.args.u) G c.requires.0.shape (edge_normal G c.loop-i.i)
    (from_is c.before.before.before) (to_is c.before.before) (sym c.are_past.ensures ∙ c.if-are_past.true)

pub entering-requires : goal.entering-requires
entering-requires c =
    (bounded c.edge_past-a.type_inv c.edge_past-a.ensures.1, bounded c.edge_past-b.type_inv c.edge_past-b.ensures.1)

pub entering-requires-in-loop-i : goal.entering-requires-in-loop-i
entering-requires-in-loop-i c =
    (bounded c.edge_past-b.type_inv c.edge_past-b.ensures.1, bounded c.edge_past-a.type_inv c.edge_past-a.ensures.1)

pub loop-i-preserved : goal.loop-i-preserved
loop-i-preserved c =
    let inv = c.loop-i.invariant in
    let args = c.args in
    let G = points args.list.now in (
      inv.0,
      record {
        there-is = c.later-there.ensures ∙ ap₂ later inv.1.there-is (c.entering.ensures
            ∙ ap₂ entering (from_is c.before.before.before.before.before.before.before) (to_is c.before.before.before.before.before.before))
            ∙ wall-more (at args.t) (at args.u) G c.loop-i.i;
        back_is = c.later-back.ensures ∙ ap₂ later inv.1.back_is (c.entering-in-loop-i.ensures
            ∙ ap₂ entering (to_is c.before.before.before.before.before.before) (from_is c.before.before.before.before.before.before.before))
            ∙ wall-more (at args.u) (at args.t) G c.loop-i.i;
      },
    )

pub returns : goal.returns
returns c =
    let inv = c.loop-i.invariant in
    let G = points c.args.list.now in
    let all : c.loop-i.i ≡ length G = omega (arith, inv.0) in
    let found : BothWays = record { there = c.loop-i.there; back = c.loop-i.back } in
    all-met (at c.args.t) (at c.args.u) G c.requires.0.shape
    (subst (λ (i : ℕ). Arrived (at c.args.t) (at c.args.u) G i found) all inv.1)
