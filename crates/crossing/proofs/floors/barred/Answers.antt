-- `barred` meets its contract: what judging refuses, or 13.
use Rattle.plane.proofs.theory.refusals.Accept.{valid→accepted}
use Rattle.crossing.specs.theory.High.{judged-barred}
use Rattle.crossing.proofs.floors.barred.Goals as goal

pub returns : goal.returns
returns c = judged-barred _ c.admit.ensures (valid→accepted _ 1) c.refused.ensures.ok c.refused.ensures.err
