-- `sum` meets its contract: a list is refused, or the size of the sum, or it is written.
use mathlib.Core.Path.{ap}
use mathlib.Core.List.{[], ◌∷◌}
use lib.IntN.{pos}
use Rattle.plane.specs.Reply.{NoneApply}
use Rattle.plane.specs.Output.{answer_rows}
use Rattle.plane.specs.Floor.{Floored, on}
use Rattle.plane.specs.Question.{Question, ask_sum}
use Rattle.sums.specs.PlaceAfter.{whole_sum}
use Rattle.admission.specs.Admission.{Judged}
use Rattle.admission.specs.theory.Judged.{held, refusal-of, handed-on}
use Rattle.admission.specs.theory.Door.{shapes-refused, rest-refused, all-written}
use Rattle.delivery.specs.theory.Delivery.{fit-judged, room-there}
use Rattle.pair_questions.proofs.sum.Goals as goal
use Rattle.pair_questions.proofs.sum.Goals.{After-fits, In_ok-fits, Start}

-- the two shapes, and what is asked of them
abbrev one : Start → Floored
one c = on c.args.a.now c.args.f

abbrev other : Start → Floored
other c = on c.args.b.now c.args.g

abbrev asked : Start → Question
asked c = ask_sum (one c) (other c) c.args.out.now

-- the sum is judged by its size
judged : (c : After-fits) → let args = c.args in
    let rows = answer_rows (whole_sum args.a.now args.b.now) args.out.now in
    Judged (NoneApply rows) rows c.fits.result
judged c =
    let args = c.args in
    fit-judged (whole_sum args.a.now args.b.now) c.is_far.ensures args.out.now
    c.reckon-n.ensures c.fits.ensures

pub returns-in_err-admit_pair : goal.returns-in_err-admit_pair
returns-in_err-admit_pair c =
    rw (handed-on _ _ c.from_residual.ensures.1)
    (shapes-refused (asked (goal.at.returns-in_err-admit_pair c).Start)
    (refusal-of c.in_err-admit_pair.ensures))

pub reckon-n-requires : goal.reckon-n-requires
reckon-n-requires c = let both = held c.in_ok-admit_pair.ensures in (both.first-valid, both.second-valid)

pub is_far-requires : goal.is_far-requires
is_far-requires c = let both = held c.in_ok-admit_pair.ensures in (both.first-valid, both.second-valid)

pub returns-in_err-fits : goal.returns-in_err-fits
returns-in_err-fits c =
    rw (handed-on _ _ c.from_residual-in_err-fits.ensures.1)
    (rest-refused (asked (goal.at.returns-in_err-fits c).Start) (held c.in_ok-admit_pair.ensures)
    ((judged (goal.at.returns-in_err-fits c).After-fits).no _ c.in_err-fits.was))

-- past this judging no row applies
passed : (c : In_ok-fits) → let args = c.args in
    NoneApply (answer_rows (whole_sum args.a.now args.b.now) args.out.now)
passed c = (judged (goal.at.In_ok-fits c).After-fits).valid c.in_ok-fits.was

pub sum-requires : goal.sum-requires
sum-requires c =
    let both = held c.in_ok-admit_pair.ensures in
    (both.first-valid, both.second-valid, room-there _ _ (passed (goal.at.sum-requires c).In_ok-fits))

pub returns : goal.returns
returns c =
    all-written (asked (goal.at.returns c).Start) (held c.in_ok-admit_pair.ensures) (passed (goal.at.returns c).In_ok-fits)
    (ap (λ n. pos n ∷ pos c.args.f ∷ []) c.sum.ensures.0) c.sum.ensures.1
