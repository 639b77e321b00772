-- `foot` meets its contract: the other end of the edge, then where the corner falls.
use mathlib.Core.Path.{◌≡◌, sym, ◌∙◌, ap, ap₂}
use mathlib.Core.Bool.{Bool, ◌&&◌}
use Prim.Native.Nat.{ℕ}
use native.Mathlib.Omega.{arith}
use lib.ListN.{length}
use Rattle.plane.specs.Point.{Point, points, corner}
use Rattle.plane.specs.Shape.{next}
use Rattle.plane.specs.Clearance.{falls, falls_on}
use Rattle.polygon.specs.Point.{at}
use Rattle.polygon.specs.theory.Small.{small-corner}
use Rattle.clearance.specs.Faces.{is_end, is_foot}
use Rattle.clearance.proofs.Tests.{and-taken}
use Rattle.clearance.proofs.reach.foot.Goals as goal
use Rattle.clearance.proofs.reach.foot.Goals.{After-holds, After-next-end}

-- the other end
end_is : (c : After-next-end) →
    c.next-end.result ≡ next (length (points c.args.b.now)) c.args.e
end_is c = c.next-end.ensures.value ∙ ap (λ (n : ℕ). next n c.args.e) c.count.ensures

held-is : (c : After-holds) →
    c.holds.result ≡ is_end c.args.g (next (length (points c.args.b.now)) c.args.e)
held-is c = c.holds.ensures ∙ ap (is_end c.args.g) (end_is c.before)

pub returns-then-not-holds : goal.returns-then-not-holds
unfolding is_foot
returns-then-not-holds c =
    sym (ap
    (λ (b : Bool). b && falls_on (points c.args.b.now) c.args.e (corner (points c.args.a.now) c.args.c))
    (sym (held-is c.before) ∙ c.if-not-holds.true))

pub falls-requires : goal.falls-requires
falls-requires c =
    let pre = c.requires in (
      small-corner _ pre.3 _ pre.1 c.corner_at.ensures,
      small-corner _ pre.3 _ (omega (arith, c.next-end.ensures.upper_bound, c.count.ensures)) c.corner_at-2.ensures,
      small-corner _ pre.2 _ pre.0 c.corner_at-3.ensures,
    )

pub returns : goal.returns
unfolding is_foot
returns c =
    and-taken _ (held-is c.before.before.before.before.before) (c.if-not-holds.false)
    (c.falls.ensures ∙ ap (falls (at c.corner_at.result) (at c.corner_at-2.result)) c.corner_at-3.ensures
    ∙ ap₂ (λ (p q : Point). falls p q (corner (points c.args.a.now) c.args.c)) c.corner_at.ensures
    (c.corner_at-2.ensures ∙ ap (corner (points c.args.b.now)) (end_is c.before.before.before.before.before.before)))
