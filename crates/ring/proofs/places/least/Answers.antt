-- `least` meets its contract. The invariant: the best is the least of the first i, and the lowest is its corner.
use mathlib.Core.Path.{◌≡◌, refl, sym, ◌∙◌, ap, ap₂}
use mathlib.Core.Bool.{Bool, true, false, cond}
use Prim.Native.Nat.{ℕ, ◌+◌}
use native.Mathlib.Numerals.{add-one}
use Rattle.plane.specs.Point.{points, corner}
use Rattle.plane.specs.Shape.{precedes}
use Rattle.polygon.specs.Point.{at}
use Rattle.ring.specs.Ring.{least_place}
use Rattle.ring.proofs.places.least.Goals as goal
use Rattle.ring.proofs.places.least.Goals.{Joined-precedes, then-precedes, else-precedes}

alone : (t : Bool) → ◌≡◌ {A = ℕ} 0 (cond t 0 0)
alone true = refl
alone false = refl

pub loop-i-init : goal.loop-i-init
loop-i-init c = (alone _, c.corner_at-lowest.ensures)

-- the test is asked of the corners
asked : (c : Joined-precedes) → let g = corner (points c.args.list.now) in
    c.precedes.result ≡ precedes (g c.loop-i.i) (g c.loop-i.best)
asked c = c.precedes.ensures ∙ ap₂ precedes c.corner_at-p.ensures c.loop-i.invariant.1

-- what is best of one corner more
next : (c : Joined-precedes) → let g = corner (points c.args.list.now) in
    cond c.precedes.result c.loop-i.i c.loop-i.best ≡ least_place g (c.loop-i.i + 1)
next c =
    let g = corner (points c.args.list.now) in
    let i = c.loop-i.i in
    ap (λ (t : Bool). cond t i c.loop-i.best) (asked c) ∙ ap (λ (b : ℕ). cond (precedes (g i) (g b)) i b) c.loop-i.invariant.0
    ∙ sym (ap (least_place g) (add-one i))

pub loop-i-preserved : goal.loop-i-preserved
loop-i-preserved c =
    let g = corner (points c.args.list.now) in
    let kept = λ (t : Bool). cond t c.loop-i.i c.loop-i.best in
    elim c.if-precedes.branch [
      | then-precedes w ↦
          (w.best-is ∙ sym (ap kept w.if-precedes.true) ∙ next c, ap at w.lowest-is ∙ c.corner_at-p.ensures ∙ sym (ap g w.best-is))
      | else-precedes w ↦
          (w.best-is ∙ sym (ap kept w.if-precedes.false) ∙ next c, ap at w.lowest-is ∙ c.loop-i.invariant.1 ∙ sym (ap g w.best-is))
    ]
