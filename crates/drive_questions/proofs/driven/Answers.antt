-- `driven` meets its contract: a list, a place or the grown obstacle is refused, or what is met is answered.
use mathlib.Core.Path.{sym, ◌∙◌, ap}
use mathlib.Core.List.{List, [], ◌∷◌, ◌++◌}
use lib.IntN.{ℤ, pos}
use Rattle.plane.specs.Point.{points}
use Rattle.plane.specs.Reply.{answered, Row}
use Rattle.plane.specs.Output.{size_rows}
use Rattle.plane.specs.Floor.{Floored, on}
use Rattle.plane.specs.Question.{Question}
use Rattle.polygon.specs.Point.{at}
use Rattle.admission.specs.theory.Judged.{refuses-append, refuses-join, held, refusal-of, handed-on}
use Rattle.admission.specs.theory.Door.{shapes-refused, rest-refused}
use Rattle.growth.specs.Grown.{grown}
use Rattle.passage.proofs.theory.Found.{grown-valid}
use Rattle.motion.specs.Contact.{place_row, ask_contact}
use Rattle.motion.proofs.theory.Replies.{contact-answers}
use Rattle.drive_questions.proofs.Places.{in-range}
use Rattle.drive_questions.proofs.driven.Goals as goal
use Rattle.drive_questions.proofs.driven.Goals.{Start}

-- the two shapes, and what is asked of them
abbrev one : Start → Floored
one c = on c.args.obstacle.now c.args.f

abbrev other : Start → Floored
other c = on c.args.cart.now c.args.g

abbrev asked : Start → Question
asked c = ask_contact (one c) (other c) (at c.args.from) (at c.args.to)

abbrev rows : Start → List Row
rows c = size_rows (grown (points c.args.obstacle.now) (points c.args.cart.now))

pub returns-in_err-admit_pair : goal.returns-in_err-admit_pair
returns-in_err-admit_pair c =
    rw (handed-on _ _ c.from_residual.ensures.1)
    (shapes-refused (asked (goal.at.returns-in_err-admit_pair c).Start) (refusal-of c.in_err-admit_pair.ensures)).0

pub returns-in_err-admit_place : goal.returns-in_err-admit_place
returns-in_err-admit_place c =
    rw (handed-on _ _ c.from_residual-in_err-admit_place.ensures.1)
    (rest-refused (asked (goal.at.returns-in_err-admit_place c).Start) (held c.in_ok-admit_pair.ensures)
    (refuses-append (place_row 4 (at c.args.to) ∷ rows (goal.at.returns-in_err-admit_place c).Start)
    (refusal-of c.in_err-admit_place.ensures))).0

pub returns-in_err-admit_place-2 : goal.returns-in_err-admit_place-2
returns-in_err-admit_place-2 c =
    rw (handed-on _ _ c.from_residual-in_err-admit_place-2.ensures.1)
    (rest-refused (asked (goal.at.returns-in_err-admit_place-2 c).Start) (held c.in_ok-admit_pair.ensures)
    (refuses-join (place_row 3 (at c.args.from) ∷ []) (held c.in_ok-admit_place.ensures, tt)
    (refuses-append (rows (goal.at.returns-in_err-admit_place-2 c).Start) (refusal-of c.in_err-admit_place-2.ensures)))).0

pub admit_grown-requires : goal.admit_grown-requires
admit_grown-requires c = let all = held c.in_ok-admit_pair.ensures in (all.first-valid, all.second-valid)

pub returns-in_err-admit_grown : goal.returns-in_err-admit_grown
returns-in_err-admit_grown c =
    rw (handed-on _ _ c.from_residual-in_err-admit_grown.ensures.1)
    (rest-refused (asked (goal.at.returns-in_err-admit_grown c).Start) (held c.in_ok-admit_pair.ensures)
    (refuses-join (place_row 3 (at c.args.from) ∷ place_row 4 (at c.args.to) ∷ [])
    (held c.in_ok-admit_place.ensures, (held c.in_ok-admit_place-2.ensures, tt)) (refusal-of c.in_err-admit_grown.ensures))).0

pub first-answer-requires : goal.first-answer-requires
first-answer-requires c =
    let all = held c.in_ok-admit_pair.ensures in (
      all.first-valid,
      all.second-valid,
      grown-valid _ _ all.first-valid.shape.some all.second-valid.shape.some (held c.in_ok-admit_grown.ensures),
      record {
        from-near = in-range _ (held c.in_ok-admit_place.ensures);
        to-near = in-range _ (held c.in_ok-admit_place-2.ensures);
      },
    )

pub returns : goal.returns
returns c =
    ap (λ (vs : List ℤ). answered (vs ++ (pos c.args.f ∷ []))) c.first-answer.ensures
    ∙ sym (contact-answers (one (goal.at.returns c).Start) (other (goal.at.returns c).Start) _ _ (held c.in_ok-admit_pair.ensures) (
      held c.in_ok-admit_place.ensures,
      (held c.in_ok-admit_place-2.ensures, held c.in_ok-admit_grown.ensures),
    ))
