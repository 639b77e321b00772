-- `meet` meets its contract: of a grown obstacle that is no shape nothing is asked.
use Rattle.plane.proofs.theory.refusals.Rows.{first-not-none}
use Rattle.passage.proofs.theory.Found.{grown-valid}
use Rattle.drives.proofs.meet.Goals as goal

pub returns-in-Err : goal.returns-in-Err
returns-in-Err c =
    let refused = c.admit_grown.ensures.no _ c.in-Err.is in
    λ none. absurd (first-not-none refused.first none)

pub first-requires : goal.first-requires
first-requires c =
    let pre = c.requires in (
      pre.0,
      pre.1,
      grown-valid _ _ pre.0.shape.some pre.1.shape.some (c.admit_grown.ensures.valid c.in-Ok.is),
      pre.2,
    )

pub returns-in-Ok : goal.returns-in-Ok
returns-in-Ok c = λ none. c.first.ensures
