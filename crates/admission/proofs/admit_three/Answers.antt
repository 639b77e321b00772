-- `admit_three` meets its contract: the lists are judged in order, and then their floors.
use Rattle.std.proofs.Common.{[], ◌∷◌, ◌++◌}
use Rattle.plane.specs.Refusal.{shape_rows}
use Rattle.plane.specs.Floor.{Floored, on, floor_row}
use Rattle.plane.proofs.theory.refusals.Accept.{valid→accepted}
use Rattle.admission.specs.Three.{floor_rows}
use Rattle.admission.specs.theory.Judged.{refuses-append, refuses-join, held, refusal-of, hands-on}
use Rattle.admission.specs.theory.Three.{floors-refused, then-last}
use Rattle.admission.proofs.admit_three.Goals as goal
use Rattle.admission.proofs.admit_three.Goals.{Start}

-- the three shapes
abbrev one : Start → Floored
one c = on c.args.a.now c.args.f

abbrev two : Start → Floored
two c = on c.args.b.now c.args.g

abbrev three : Start → Floored
three c = on c.args.c.now c.args.h

pub returns-in_err-admit : goal.returns-in_err-admit
returns-in_err-admit c =
    let start = (goal.at.returns-in_err-admit c).Start in
    hands-on _ _ c.from_residual.ensures.1
    (refuses-append (shape_rows 2 c.args.b.now ++ (shape_rows 3 c.args.c.now ++ floor_rows (one start) (two start) (three start)))
    (refusal-of c.in_err-admit.ensures))

pub returns-in_err-admit-2 : goal.returns-in_err-admit-2
returns-in_err-admit-2 c =
    let start = (goal.at.returns-in_err-admit-2 c).Start in
    hands-on _ _ c.from_residual-in_err-admit-2.ensures.1
    (refuses-join (shape_rows 1 c.args.a.now) (valid→accepted _ 1 (held c.in_ok-admit.ensures))
    (refuses-append (shape_rows 3 c.args.c.now ++ floor_rows (one start) (two start) (three start)) (refusal-of c.in_err-admit-2.ensures)))

pub returns-in_err-admit-3 : goal.returns-in_err-admit-3
returns-in_err-admit-3 c =
    let start = (goal.at.returns-in_err-admit-3 c).Start in
    hands-on _ _ c.from_residual-in_err-admit-3.ensures.1
    (refuses-join (shape_rows 1 c.args.a.now) (valid→accepted _ 1 (held c.in_ok-admit.ensures))
    (refuses-join (shape_rows 2 c.args.b.now) (valid→accepted _ 2 (held c.in_ok-admit-2.ensures))
    (refuses-append (floor_rows (one start) (two start) (three start)) (refusal-of c.in_err-admit-3.ensures))))

pub returns-in_err-admit_floors : goal.returns-in_err-admit_floors
returns-in_err-admit_floors c =
    let start = (goal.at.returns-in_err-admit_floors c).Start in
    hands-on _ _ c.from_residual-in_err-admit_floors.ensures.1
    (floors-refused (one start) (two start) (three start) (held c.in_ok-admit.ensures) (held c.in_ok-admit-2.ensures)
    (held c.in_ok-admit-3.ensures) (refuses-append (floor_row c.args.f c.args.h ∷ []) (refusal-of c.in_err-admit_floors.ensures)))

pub returns : goal.returns
returns c =
    let start = (goal.at.returns c).Start in
    then-last (one start) (two start) (three start) (held c.in_ok-admit.ensures) (held c.in_ok-admit-2.ensures)
    (held c.in_ok-admit-3.ensures) (held c.in_ok-admit_floors.ensures) c.admit_floors-2.ensures
