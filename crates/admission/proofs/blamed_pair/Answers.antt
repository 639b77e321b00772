-- `blamed_pair` meets its contract: the first list's refusal is given before the second's, and that before 13.
use Rattle.std.proofs.Common.{[], ◌∷◌, ◌++◌}
use Rattle.plane.specs.Refusal.{shape_rows}
use Rattle.plane.specs.Floor.{on, floor_row}
use Rattle.plane.proofs.theory.refusals.Accept.{valid→accepted}
use Rattle.admission.specs.theory.Judged.{refuses-append, refuses-join, held, refusal-of, hands-on}
use Rattle.admission.specs.theory.Door.{then-floors}
use Rattle.admission.proofs.blamed_pair.Goals as goal

pub returns-in_err-admit : goal.returns-in_err-admit
returns-in_err-admit c =
    hands-on _ _ c.from_residual.ensures.1 (refuses-append (shape_rows 2 c.args.second.now ++ (floor_row c.args.f c.args.g ∷ []))
    (refusal-of c.in_err-admit.ensures))

pub returns-in_err-blamed : goal.returns-in_err-blamed
returns-in_err-blamed c =
    hands-on _ _ c.from_residual-in_err-blamed.ensures.1
    (refuses-join (shape_rows 1 c.args.first.now) (valid→accepted _ 1 (held c.in_ok-admit.ensures))
    (refuses-append (floor_row c.args.f c.args.g ∷ []) (refusal-of c.in_err-blamed.ensures)))

pub returns : goal.returns
returns c =
    let args = c.args in
    then-floors (on args.first.now args.f) (on args.second.now args.g) (held c.in_ok-admit.ensures) (held c.in_ok-blamed.ensures)
    c.admit_floors.ensures
