-- `barred_points` meets its contract: what judging refuses, or 13.
use Rattle.plane.proofs.theory.refusals.Points.{points→accepted}
use Rattle.crossing.specs.theory.High.{judged-barred}
use Rattle.crossing.proofs.floors.barred_points.Goals as goal

pub returns : goal.returns
returns c = judged-barred _ c.admit_points.ensures (points→accepted _) c.refused.ensures.ok c.refused.ensures.err
