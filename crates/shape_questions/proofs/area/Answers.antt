-- `area` meets its contract: the list is refused, or its area summed up.
use mathlib.Core.Path.{sym, ap}
use mathlib.Core.List.{[], ◌∷◌}
use lib.IntN.{pos}
use Rattle.plane.specs.Floor.{Floored, on}
use Rattle.area.specs.Area.{ask_area}
use Rattle.admission.specs.theory.Judged.{held, refusal-of, handed-on}
use Rattle.admission.specs.theory.Door.{shapes-refused, all-answered}
use Rattle.shape_questions.proofs.area.Goals as goal
use Rattle.shape_questions.proofs.area.Goals.{Start}

-- the shape
abbrev shape : Start → Floored
shape c = on c.args.list.now c.args.floor

pub returns-in_err-admit : goal.returns-in_err-admit
returns-in_err-admit c =
    rw (handed-on _ _ c.from_residual.ensures.1)
    (shapes-refused (ask_area (shape (goal.at.returns-in_err-admit c).Start)) (refusal-of c.in_err-admit.ensures)).0

pub twice_area-requires : goal.twice_area-requires
twice_area-requires c = held c.in_ok-admit.ensures

pub returns : goal.returns
returns c =
    let a = shape (goal.at.returns c).Start in
    all-answered (ask_area a) (held c.in_ok-admit.ensures) tt (ap (λ z. z ∷ pos a.floor ∷ []) (sym c.twice_area.ensures))
