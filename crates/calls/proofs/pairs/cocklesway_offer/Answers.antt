-- `cocklesway_offer` meets its contract: 13 for a floor above its limit, else the reply of `offer`, crossed.
use mir.Syntax.{w32}
use mathlib.Core.Path.{◌≡◌, refl, sym, ◌∙◌, ap, ap₂}
use mathlib.Core.Bool.{false}
use lib.Dec.{ltb}
use mir.Facts.{to_z-of_z}
use Rattle.plane.specs.Limits.{max_floor}
use Rattle.plane.specs.Point.{Point, point}
use Rattle.plane.specs.Floor.{on}
use Rattle.plane.specs.Question.{reply, ask_offer}
use Rattle.crossing.specs.theory.Low.{low_fits, both-low, within-told}
use Rattle.crossing.specs.theory.High.{above-pair}
use Rattle.calls.proofs.pairs.cocklesway_offer.Goals as goal
use Rattle.calls.proofs.pairs.cocklesway_offer.Goals.{Else-exceeds}

-- past the test both floors are within their limit
low : (c : Else-exceeds) → (ltb max_floor c.args.f ≡ false) × (ltb max_floor c.args.g ≡ false)
low c = both-low _ _ (sym c.exceeds.ensures ∙ c.if-exceeds.false)

pub returns : goal.returns
returns c =
    let direction = ap₂ point (to_z-of_z {w = w32} c.ranges.u) (to_z-of_z {w = w32} c.ranges.v) in
    let one = on c.args.a.now c.args.f in
    let other = on c.args.b.now c.args.g in
    within-told _ (low c.before.before).0 c.of.ensures
    (c.offer.ensures ∙ ap (λ (d : Point). reply (ask_offer one other d)) direction)

pub returns-then-exceeds : goal.returns-then-exceeds
returns-then-exceeds c = (above-pair _ refl (sym c.exceeds.ensures ∙ c.if-exceeds.true) c.barred_pair.ensures).0

pub overflow_cast-f : goal.overflow_cast-f
overflow_cast-f c = low_fits _ (low c).0

pub overflow_cast-g : goal.overflow_cast-g
overflow_cast-g c = low_fits _ (low c).1
