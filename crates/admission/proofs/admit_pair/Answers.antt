-- `admit_pair` meets its contract: two lists that pass are valid, and their floors are compared; others are blamed.
use Rattle.plane.specs.Floor.{on}
use Rattle.admission.specs.theory.Door.{then-floors}
use Rattle.admission.proofs.admit_pair.Goals as goal

pub returns-then-not-passes : goal.returns-then-not-passes
returns-then-not-passes c = c.blamed_pair.ensures

pub returns-then-not-passes-2 : goal.returns-then-not-passes-2
returns-then-not-passes-2 c = c.blamed_pair-then-not-passes-2.ensures

pub returns : goal.returns
returns c =
    let args = c.args in
    then-floors (on args.a.now args.f) (on args.b.now args.g)
    (c.passes.ensures.0 (c.if-not-passes.false))
    (c.passes-2.ensures.0 (c.if-not-passes-2.false)) c.admit_floors.ensures
