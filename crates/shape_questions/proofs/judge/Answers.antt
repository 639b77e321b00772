-- `judge` meets its contract: the list is refused, or its corners are counted.
use mathlib.Core.Path.{ap}
use mathlib.Core.List.{[], ◌∷◌}
use Prim.Native.Nat.{ℕ}
use lib.IntN.{pos}
use Rattle.plane.specs.Floor.{on}
use Rattle.plane.specs.Question.{Question, ask_judge}
use Rattle.admission.specs.theory.Judged.{held, refusal-of, handed-on}
use Rattle.admission.specs.theory.Door.{shapes-refused, all-answered}
use Rattle.shape_questions.proofs.judge.Goals as goal
use Rattle.shape_questions.proofs.judge.Goals.{Start}

-- the question
abbrev asked : Start → Question
asked c = ask_judge (on c.args.list.now c.args.floor)

pub returns-in_err-admit : goal.returns-in_err-admit
returns-in_err-admit c =
    rw (handed-on _ _ c.from_residual.ensures.1)
    (shapes-refused (asked (goal.at.returns-in_err-admit c).Start) (refusal-of c.in_err-admit.ensures)).0

pub returns : goal.returns
returns c =
    all-answered (asked (goal.at.returns c).Start) (held c.in_ok-admit.ensures) tt
    (ap (λ (n : ℕ). pos n ∷ pos c.args.floor ∷ []) c.count.ensures)
