-- `inside` meets its contract: a list is refused, or the shapes are compared.
use mathlib.Core.Path.{ap}
use mathlib.Core.Bool.{Bool, cond}
use mathlib.Core.List.{[], ◌∷◌}
use lib.IntN.{pos}
use Rattle.plane.specs.Floor.{Floored, on}
use Rattle.plane.specs.Question.{ask_inside}
use Rattle.admission.specs.theory.Judged.{held, refusal-of, handed-on}
use Rattle.admission.specs.theory.Door.{shapes-refused, all-answered}
use Rattle.pair_questions.proofs.inside.Goals as goal
use Rattle.pair_questions.proofs.inside.Goals.{Start}

-- the two shapes
abbrev one : Start → Floored
one c = on c.args.a.now c.args.f

abbrev other : Start → Floored
other c = on c.args.b.now c.args.g

pub returns-in_err-admit_pair : goal.returns-in_err-admit_pair
returns-in_err-admit_pair c =
    rw (handed-on _ _ c.from_residual.ensures.1)
    (shapes-refused (ask_inside (one (goal.at.returns-in_err-admit_pair c).Start) (other (goal.at.returns-in_err-admit_pair c).Start))
    (refusal-of c.in_err-admit_pair.ensures)).0

pub inside-requires : goal.inside-requires
inside-requires c = let both = held c.in_ok-admit_pair.ensures in (both.first-valid, both.second-valid)

pub returns : goal.returns
returns c =
    all-answered (ask_inside (one (goal.at.returns c).Start) (other (goal.at.returns c).Start)) (held c.in_ok-admit_pair.ensures) tt
    (ap (λ (t : Bool). cond t (pos 1) (pos 0) ∷ pos c.args.f ∷ []) c.inside.ensures)
