-- `log_nearest` meets its contract: a list is refused, a record is bad, no shape is left, or the nearest is found.
use Rattle.std.specs.Prelude.{◌≡◌, false, ◌∷◌, pos}
use Rattle.std.proofs.Common.{sym, ap, ◌∙◌}
use Rattle.journal.specs.Format.{records}
use Rattle.journal.specs.Reading.{damaged}
use Rattle.journal.proofs.theory.Survey.{surveyed-ends}
use Rattle.admission.specs.theory.Judged.{held, refusal-of, handed-on}
use Rattle.log_questions.specs.theory.Books.{distance-numbers, nearest-refused, nearest-damaged, nearest-nobody, nearest-somebody}
use Rattle.log_questions.proofs.books.log_nearest.Goals as goal
use Rattle.log_questions.proofs.books.log_nearest.Goals.{In_ok-survey}

-- past the survey no record is bad
sound : (c : In_ok-survey) → damaged (records c.args.log.now) ≡ false
sound c = (surveyed-ends _ _ (sym c.in_ok-survey.ensures)).0

pub returns-in_err-admit : goal.returns-in_err-admit
returns-in_err-admit c =
    rw (handed-on _ _ c.from_residual.ensures.1) (nearest-refused _ _ _ _ (refusal-of c.in_err-admit.ensures))

pub returns-in_err-survey : goal.returns-in_err-survey
returns-in_err-survey c =
    rw (handed-on _ _ c.from_residual-in_err-survey.ensures.1)
    (nearest-damaged _ _ _ _ (held c.in_ok-admit.ensures) _ (sym c.in_err-survey.ensures))

pub nearest-requires : goal.nearest-requires
nearest-requires c = (sound c, held c.in_ok-admit.ensures)

pub returns-in_default : goal.returns-in_default
returns-in_default c =
    nearest-nobody _ _ _ _ (held c.in_ok-admit.ensures) (sound (goal.at.returns-in_default c).In_ok-survey) c.in_default.ensures

pub returns : goal.returns
returns c =
    nearest-somebody _ _ _ _ (held c.in_ok-admit.ensures) (sound (goal.at.returns c).In_ok-survey) _ _
    (ap (λ vs. pos c.in-Some.answer.name ∷ vs) (distance-numbers c.in-Some.answer.distance) ∙ c.in-Some.ensures)
