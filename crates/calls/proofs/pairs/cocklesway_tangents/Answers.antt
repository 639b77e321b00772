-- `cocklesway_tangents` meets its contract: 13 for a floor above its limit, else the reply of `tangents`, crossed.
use mathlib.Core.Path.{◌≡◌, refl, sym, ◌∙◌}
use mathlib.Core.Bool.{false}
use lib.Dec.{ltb}
use Rattle.plane.specs.Limits.{max_floor}
use Rattle.crossing.specs.theory.Low.{low_fits, both-low, within-told}
use Rattle.crossing.specs.theory.High.{above-pair}
use Rattle.calls.proofs.pairs.cocklesway_tangents.Goals as goal
use Rattle.calls.proofs.pairs.cocklesway_tangents.Goals.{Else-exceeds}

-- past the test both floors are within their limit
low : (c : Else-exceeds) → (ltb max_floor c.args.f ≡ false) × (ltb max_floor c.args.g ≡ false)
low c = both-low _ _ (sym c.exceeds.ensures ∙ c.if-exceeds.false)

pub returns-then-exceeds : goal.returns-then-exceeds
returns-then-exceeds c = (above-pair _ refl (sym c.exceeds.ensures ∙ c.if-exceeds.true) c.barred_pair.ensures).0

pub overflow_cast-f : goal.overflow_cast-f
overflow_cast-f c = low_fits _ (low c).0

pub overflow_cast-g : goal.overflow_cast-g
overflow_cast-g c = low_fits _ (low c).1

pub returns : goal.returns
returns c = within-told _ (low c.before.before).0 c.of.ensures c.tangents.ensures
