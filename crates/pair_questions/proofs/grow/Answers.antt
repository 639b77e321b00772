-- `grow` meets its contract: a list is refused, or the size of the differences, or they are written.
use mathlib.Core.Path.{ap}
use mathlib.Core.List.{List, [], ◌∷◌}
use borrow.Author.Rules.{rules}
use lib.IntN.{ℤ, pos}
use Rattle.plane.specs.Point.{Point, points}
use Rattle.plane.specs.Corner.{shape_of}
use Rattle.plane.specs.Separation.{differences}
use Rattle.plane.specs.Reply.{NoneApply}
use Rattle.plane.specs.Output.{answer_rows}
use Rattle.plane.specs.Floor.{Floored, on}
use Rattle.plane.specs.Question.{Question, ask_grow}
use Rattle.admission.specs.Admission.{Judged}
use Rattle.admission.specs.theory.Judged.{held, refusal-of, handed-on}
use Rattle.admission.specs.theory.Door.{shapes-refused, rest-refused, all-written}
use Rattle.delivery.specs.theory.Delivery.{fit-judged, room-there}
use Rattle.pair_questions.proofs.grow.Goals as goal
use Rattle.pair_questions.proofs.grow.Goals.{After-fits, In_ok-fits, Start}

-- the two shapes, and what is asked of them
abbrev one : Start → Floored
one c = on c.args.obstacle.now c.args.f

abbrev other : Start → Floored
other c = on c.args.cart.now c.args.g

abbrev asked : Start → Question
asked c = ask_grow (one c) (other c) c.args.out.now

-- the shape that is written
abbrev grown : List ℤ → List ℤ → List Point
grown a b = shape_of (differences (points a) (points b))

-- the sum is judged by its size
judged : (c : After-fits) → let args = c.args in
    let rows = answer_rows (grown args.obstacle.now args.cart.now) args.out.now in
    Judged (NoneApply rows) rows c.fits.result
judged c =
    let args = c.args in
    fit-judged (grown args.obstacle.now args.cart.now) c.is_far.ensures args.out.now
    c.reckon-n.ensures c.fits.ensures

pub returns-in_err-admit_pair : goal.returns-in_err-admit_pair
returns-in_err-admit_pair c =
    rw (handed-on _ _ c.from_residual.ensures.1)
    (shapes-refused (asked (goal.at.returns-in_err-admit_pair c).Start)
    (refusal-of c.in_err-admit_pair.ensures))

pub top-top-requires : goal.top-top-requires
top-top-requires c = (held c.in_ok-admit_pair.ensures).second-valid.shape.some

pub reckon-n-requires : goal.reckon-n-requires
reckon-n-requires c = let both = held c.in_ok-admit_pair.ensures in (both.first-valid, both.second-valid, c.top-top.ensures)

pub is_far-requires : goal.is_far-requires
is_far-requires c = let both = held c.in_ok-admit_pair.ensures in (both.first-valid, both.second-valid)

pub returns-in_err-fits : goal.returns-in_err-fits
returns-in_err-fits c =
    rw (handed-on _ _ c.from_residual-in_err-fits.ensures.1)
    (rest-refused (asked (goal.at.returns-in_err-fits c).Start) (held c.in_ok-admit_pair.ensures)
    ((judged (goal.at.returns-in_err-fits c).After-fits).no _ c.in_err-fits.was))

-- past this judging no row applies
passed : (c : In_ok-fits) → let args = c.args in
    NoneApply (answer_rows (grown args.obstacle.now args.cart.now) args.out.now)
passed c = (judged (goal.at.In_ok-fits c).After-fits).valid c.in_ok-fits.was

pub write-requires : goal.write-requires
write-requires c =
    let u = (held c.in_ok-admit_pair.ensures).first-valid in
    let v = (held c.in_ok-admit_pair.ensures).second-valid in
    (search rules, search rules, c.top-top.ensures, room-there _ _ (passed (goal.at.write-requires c).In_ok-fits))

pub returns : goal.returns
returns c =
    all-written (asked (goal.at.returns c).Start) (held c.in_ok-admit_pair.ensures) (passed (goal.at.returns c).In_ok-fits)
    (ap (λ n. pos n ∷ pos c.args.f ∷ []) c.write.ensures.0) c.write.ensures.1
