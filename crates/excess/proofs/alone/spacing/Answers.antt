-- `spacing` meets its contract: it is clearance's, of a list of one corner.
use mathlib.Core.Path.{subst}
use mathlib.Core.List.{List}
use Rattle.plane.specs.Point.{Point, points}
use Rattle.polygon.specs.Point.{at}
use Rattle.clearance.specs.Answer.{Spaced}
use Rattle.excess.proofs.Reading.{reads-back}
use Rattle.excess.proofs.alone.spacing.Goals as goal

pub returns : goal.returns
returns c =
    subst (λ (ps : List Point). Spaced ps (points c.args.shape.now) c.between.result)
    (reads-back (at c.args.p) c.requires.0) c.between.ensures
