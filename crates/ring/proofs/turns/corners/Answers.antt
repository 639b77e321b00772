-- `corners` meets its contract: the sense, then the bends.
use mathlib.Core.Path.{subst}
use mathlib.Core.Bool.{Bool}
use Rattle.plane.specs.Point.{points, corner}
use Rattle.ring.specs.Round.{in_sense, bends}
use Rattle.ring.specs.Places.{Held}
use Rattle.ring.proofs.turns.corners.Goals as goal

pub returns : goal.returns
returns c =
    let args = c.args in
    subst (λ (b : Bool). Held (bends (corner (points args.list.now)) (in_sense b args.kept.now)) c.bends.result
    c.bends.new.bent) c.clockwise-back.ensures c.bends.ensures
