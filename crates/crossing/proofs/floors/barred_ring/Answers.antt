-- `barred_ring` meets its contract: what judging refuses, or 13.
use Rattle.crossing.specs.theory.High.{judged-told}
use Rattle.crossing.specs.theory.Rings.{ring-barred}
use Rattle.crossing.proofs.floors.barred_ring.Goals as goal

pub returns : goal.returns
returns c = judged-told _ c.admit.ensures (ring-barred _) c.refused.ensures.ok c.refused.ensures.err
