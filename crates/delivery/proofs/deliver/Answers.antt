-- `deliver` meets its contract: refusals 6, 7 and 8 in their order, and a copy makes the answer.
use mathlib.Core.Path.{◌∙◌, ap}
use mathlib.Core.List.{[], ◌∷◌}
use native.Mathlib.Omega.{arith}
use lib.IntN.{pos}
use Rattle.plane.specs.Point.{points}
use Rattle.plane.specs.Reply.{NoneApply}
use Rattle.plane.specs.Output.{answer_rows}
use Rattle.plane.specs.Floor.{no_shape}
use Rattle.plane.specs.Question.{makes}
use Rattle.plane.proofs.theory.lists.Flat.{points-length}
use Rattle.sums.specs.Size.{exact}
use Rattle.admission.specs.Admission.{Judged}
use Rattle.admission.specs.theory.Door.{rest-refused, all-written}
use Rattle.delivery.specs.theory.Delivery.{fit-judged, room-there, numbers-outside, copied}
use Rattle.admission.specs.theory.Judged.{handed-on}
use Rattle.delivery.proofs.deliver.Goals as goal
use Rattle.delivery.proofs.deliver.Goals.{After-fits, In_ok-fits}

-- its size is judged by the rows of the shape
judged : (c : After-fits) → let args = c.args in
    let rows = answer_rows (points args.shape.now) args.out.now in
    Judged (NoneApply rows) rows c.fits.result
judged c =
    fit-judged _ (c.some_outside.ensures ∙ numbers-outside _ c.requires.paired) c.args.out.now (exact c.count-n.ensures) c.fits.ensures

pub returns-in_err-fits : goal.returns-in_err-fits
returns-in_err-fits c =
    let asked = makes (no_shape c.args.floor) (points c.args.shape.now) c.args.out.now in
    rw (handed-on _ _ c.from_residual.ensures.1)
    (rest-refused asked tt ((judged (goal.at.returns-in_err-fits c).After-fits).no _ c.in_err-fits.was))

-- past the judging no row applies, and there is room
passed : (c : In_ok-fits) → let args = c.args in NoneApply (answer_rows (points args.shape.now) args.out.now)
passed c = (judged (goal.at.In_ok-fits c).After-fits).valid c.in_ok-fits.was

pub copy-requires : goal.copy-requires
copy-requires c =
    let at = (goal.at.copy-requires c).In_ok-fits in
    (omega arith, omega (arith, room-there _ _ (passed at), points-length c.args.shape.now, c.requires.paired))

pub returns : goal.returns
returns c =
    all-written (makes (no_shape c.args.floor) (points c.args.shape.now) c.args.out.now) tt (passed (goal.at.returns c).In_ok-fits)
    (ap (λ n. pos n ∷ pos c.args.floor ∷ []) c.count-n.ensures)
    (copied c.args.shape.now c.requires.paired c.args.out.now c.copy.ensures)
