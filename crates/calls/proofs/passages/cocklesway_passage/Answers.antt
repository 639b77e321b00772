-- `cocklesway_passage` meets its contract: 13 for a floor above its limit, else the reply of `passage`, crossed.
use mathlib.Core.Path.{◌≡◌, sym, ◌∙◌, ap}
use mathlib.Core.Bool.{false}
use lib.Dec.{ltb}
use Rattle.plane.specs.Limits.{max_floor}
use Rattle.wire.specs.Told.{crossed}
use Rattle.crossing.specs.theory.Low.{low_fits}
use Rattle.crossing.specs.theory.Passages.{all-low, passage-within, passage-above}
use Rattle.calls.proofs.passages.cocklesway_passage.Goals as goal
use Rattle.calls.proofs.passages.cocklesway_passage.Goals.{Else-exceeds_three}

-- past the test all floors are within their limit
low : (c : Else-exceeds_three) → let args = c.args in
    (ltb max_floor args.f ≡ false) × (ltb max_floor args.g ≡ false) × (ltb max_floor args.h ≡ false)
low c = all-low _ _ _ (sym c.exceeds_three.ensures ∙ c.if-exceeds_three.false)

pub returns-then-exceeds_three : goal.returns-then-exceeds_three
returns-then-exceeds_three c = c.barred_three.ensures
    ∙ ap crossed (passage-above _ _ _ (sym c.exceeds_three.ensures ∙ c.if-exceeds_three.true))

pub returns : goal.returns
returns c = c.of.ensures
    ∙ ap crossed (c.passage.ensures ∙ passage-within _ _ _ (low c.before.before).0)

pub overflow_cast-f : goal.overflow_cast-f
overflow_cast-f c = low_fits _ (low c).0

pub overflow_cast-g : goal.overflow_cast-g
overflow_cast-g c = low_fits _ (low c).1

pub overflow_cast-h : goal.overflow_cast-h
overflow_cast-h c = low_fits _ (low c).2
