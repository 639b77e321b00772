-- `sweep` meets its contract: a list is refused, or the inner function answers.
use Rattle.plane.specs.Floor.{Floored, on}
use Rattle.plane.specs.Question.{ask_sweep}
use Rattle.admission.specs.theory.Judged.{held, refusal-of, handed-on}
use Rattle.admission.specs.theory.Door.{shapes-refused}
use Rattle.shape_questions.proofs.sweep.Goals as goal
use Rattle.shape_questions.proofs.sweep.Goals.{Start}

-- the points
abbrev swept : Start → Floored
swept c = on c.args.list.now c.args.floor

pub returns-in_err-admit_points : goal.returns-in_err-admit_points
returns-in_err-admit_points c =
    rw (handed-on _ _ c.from_residual.ensures.1)
    (shapes-refused (ask_sweep (swept (goal.at.returns-in_err-admit_points c).Start) c.args.out.now)
    (refusal-of c.in_err-admit_points.ensures))

pub sweep-requires : goal.sweep-requires
sweep-requires c = held c.in_ok-admit_points.ensures

pub returns : goal.returns
returns c = c.sweep.ensures
