-- `admit` meets its contract: a list that passes is valid, and another is blamed.
use Rattle.admission.specs.theory.Judged.{passes}
use Rattle.admission.proofs.admit.Goals as goal

pub returns-then-passes : goal.returns-then-passes
returns-then-passes c = passes (c.passes.ensures.0 c.if-passes.true)

pub returns : goal.returns
returns c = c.blamed.ensures
