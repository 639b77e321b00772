-- `survey` meets its contract: the sum is judged by its size.
use Rattle.sums.specs.PlaceAfter.{whole_sum}
use Rattle.delivery.specs.theory.Delivery.{sized_rows_lem, judged-by}
use Rattle.part_questions.proofs.walk.survey.Goals as goal

pub returns : goal.returns
returns c =
    let args = c.args in
    judged-by (sized_rows_lem (whole_sum args.a.now args.b.now) c.is_far.ensures c.reckon-n.ensures)
    c.sized.ensures
