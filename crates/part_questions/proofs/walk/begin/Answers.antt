-- `begin` meets its contract: a list is refused, or the sum is, or the walk is begun.
use mathlib.Core.Path.{refl}
use Rattle.plane.specs.Floor.{Floored, on, Same}
use Rattle.plane.specs.Question.{Question}
use Rattle.parts.specs.Part.{ask_begin}
use Rattle.admission.specs.theory.Door.{shapes-refused, rest-refused, all-answered}
use Rattle.admission.specs.theory.Judged.{held, refusal-of, handed-on}
use Rattle.part_questions.proofs.walk.begin.Goals as goal
use Rattle.part_questions.proofs.walk.begin.Goals.{In_ok-admit_pair, Start}

-- the two shapes
abbrev one : Start → Floored
one c = on c.args.a.now c.args.f

abbrev other : Start → Floored
other c = on c.args.b.now c.args.g

abbrev asked : Start → Question
asked c = ask_begin (one c) (other c)

-- past the judging they are shapes on one floor
shapes : (c : In_ok-admit_pair) → Same (one (goal.at.In_ok-admit_pair c).Start) (other (goal.at.In_ok-admit_pair c).Start)
shapes c = held c.in_ok-admit_pair.ensures

pub returns-in_err-admit_pair : goal.returns-in_err-admit_pair
returns-in_err-admit_pair c =
    rw (handed-on _ _ c.from_residual.ensures.1)
    (shapes-refused (asked (goal.at.returns-in_err-admit_pair c).Start) (refusal-of c.in_err-admit_pair.ensures)).0

pub survey-requires : goal.survey-requires
survey-requires c = let both = shapes c in (both.first-valid, both.second-valid)

pub returns-in_err-survey : goal.returns-in_err-survey
returns-in_err-survey c =
    rw (handed-on _ _ c.from_residual-in_err-survey.ensures.1)
    (rest-refused (asked (goal.at.returns-in_err-survey c).Start) (held c.in_ok-admit_pair.ensures) (refusal-of c.in_err-survey.ensures)).0

pub returns : goal.returns
returns c =
    all-answered (asked (goal.at.returns c).Start) (held c.in_ok-admit_pair.ensures) (held c.in_ok-survey.ensures) refl
