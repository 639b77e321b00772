-- `length` meets its contract: the list is refused, or its furthest pair of corners sought.
use Rattle.plane.specs.Floor.{Floored, on}
use Rattle.plane.specs.Question.{ask_length}
use Rattle.admission.specs.theory.Judged.{held, refusal-of, handed-on}
use Rattle.admission.specs.theory.Door.{shapes-refused, all-answered}
use Rattle.shape_questions.specs.theory.Measures.{length-values}
use Rattle.shape_questions.proofs.length.Goals as goal
use Rattle.shape_questions.proofs.length.Goals.{Start}

-- the shape
abbrev shape : Start → Floored
shape c = on c.args.list.now c.args.floor

pub returns-in_err-admit : goal.returns-in_err-admit
returns-in_err-admit c =
    rw (handed-on _ _ c.from_residual.ensures.1)
    (shapes-refused (ask_length (shape (goal.at.returns-in_err-admit c).Start)) (refusal-of c.in_err-admit.ensures)).0

pub furthest_pair-requires : goal.furthest_pair-requires
furthest_pair-requires c = held c.in_ok-admit.ensures

pub returns : goal.returns
returns c =
    let a = shape (goal.at.returns c).Start in
    all-answered (ask_length a) (held c.in_ok-admit.ensures) tt (length-values a c.furthest_pair.ensures)
