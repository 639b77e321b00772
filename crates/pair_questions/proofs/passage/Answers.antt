-- `passage` meets its contract: a list is refused, or a grown obstacle, or the way between the grown obstacles is answered.
use mathlib.Core.Path.{sym, ◌∙◌, ap}
use mathlib.Core.List.{List, [], ◌∷◌, ◌++◌}
use lib.IntN.{ℤ, pos}
use Rattle.plane.specs.Point.{points}
use Rattle.plane.specs.Reply.{answered, NoneApply}
use Rattle.plane.specs.Output.{size_rows}
use Rattle.plane.specs.Floor.{Floored, on}
use Rattle.plane.specs.Question.{Question}
use Rattle.admission.specs.Three.{three_rows}
use Rattle.admission.specs.theory.Judged.{refuses-append, refuses-join, held, refusal-of, handed-on}
use Rattle.admission.specs.theory.Three.{three→none}
use Rattle.admission.specs.theory.Door.{rest-refused}
use Rattle.growth.specs.Grown.{grown}
use Rattle.passage.specs.Passage.{grown_rows, ask_passage}
use Rattle.passage.proofs.theory.Replies.{passage-answers}
use Rattle.passage.proofs.theory.Found.{grown-valid}
use Rattle.pair_questions.specs.theory.Told.{lane-told}
use Rattle.pair_questions.proofs.passage.Goals as goal
use Rattle.pair_questions.proofs.passage.Goals.{In_ok-admit_grown, In_ok-admit_grown-2, Start}

-- the three shapes, and what is asked of them
abbrev one : Start → Floored
one c = on c.args.left.now c.args.f

abbrev two : Start → Floored
two c = on c.args.right.now c.args.g

abbrev three : Start → Floored
three c = on c.args.cart.now c.args.h

abbrev asked : Start → Question
asked c = ask_passage (one c) (two c) (three c)

-- past the judging each grown obstacle is a shape
left : (c : In_ok-admit_grown) → let args = c.args in
    NoneApply (size_rows (grown (points args.left.now) (points args.cart.now)))
left c = held c.in_ok-admit_grown.ensures

right : (c : In_ok-admit_grown-2) → let args = c.args in
    NoneApply (size_rows (grown (points args.right.now) (points args.cart.now)))
right c = held c.in_ok-admit_grown-2.ensures

pub returns-in_err-admit_three : goal.returns-in_err-admit_three
returns-in_err-admit_three c =
    let start = (goal.at.returns-in_err-admit_three c).Start in
    rw (handed-on _ _ c.from_residual.ensures.1)
    (rest-refused (asked start) tt (refuses-append (grown_rows (one start) (two start) (three start))
    (refusal-of c.in_err-admit_three.ensures))).0

pub admit_grown-requires : goal.admit_grown-requires
admit_grown-requires c = let all = held c.in_ok-admit_three.ensures in (all.first-valid, all.third-valid)

pub returns-in_err-admit_grown : goal.returns-in_err-admit_grown
returns-in_err-admit_grown c =
    let start = (goal.at.returns-in_err-admit_grown c).Start in
    rw (handed-on _ _ c.from_residual-in_err-admit_grown.ensures.1)
    (rest-refused (asked start) tt (refuses-join (three_rows (one start) (two start) (three start))
    (three→none _ _ _ (held c.in_ok-admit_three.ensures))
    (refuses-append (size_rows (grown (points c.args.right.now) (points c.args.cart.now)))
    (refusal-of c.in_err-admit_grown.ensures)))).0

pub admit_grown-requires-2 : goal.admit_grown-requires-2
admit_grown-requires-2 c = let all = held c.in_ok-admit_three.ensures in (all.second-valid, all.third-valid)

pub returns-in_err-admit_grown-2 : goal.returns-in_err-admit_grown-2
returns-in_err-admit_grown-2 c =
    let start = (goal.at.returns-in_err-admit_grown-2 c).Start in
    rw (handed-on _ _ c.from_residual-in_err-admit_grown-2.ensures.1)
    (rest-refused (asked start) tt (refuses-join (three_rows (one start) (two start) (three start))
    (three→none _ _ _ (held c.in_ok-admit_three.ensures))
    (refuses-join (size_rows (grown (points c.args.left.now) (points c.args.cart.now))) (held c.in_ok-admit_grown.ensures)
    (refusal-of c.in_err-admit_grown-2.ensures)))).0

pub between-requires : goal.between-requires
between-requires c =
    let all = held c.in_ok-admit_three.ensures in (
      all.first-valid,
      all.second-valid,
      all.third-valid,
      grown-valid _ _ all.first-valid.shape.some all.third-valid.shape.some (left (goal.at.between-requires c).In_ok-admit_grown),
      grown-valid _ _ all.second-valid.shape.some all.third-valid.shape.some (right c),
    )

pub returns : goal.returns
returns c =
    let start = (goal.at.returns c).Start in
    ap (λ (vs : List ℤ). answered (vs ++ (pos c.args.f ∷ []))) (lane-told c.between.result ∙ c.between.ensures)
    ∙ sym (passage-answers (one start) (two start) (three start) (held c.in_ok-admit_three.ensures)
    (left (goal.at.returns c).In_ok-admit_grown) (right (goal.at.returns c).In_ok-admit_grown-2))
