-- `relation` meets its contract: a list is refused, or the shapes are placed.
use mathlib.Core.Path.{ap}
use mathlib.Core.List.{[], ◌∷◌}
use lib.IntN.{ℤ, pos}
use Rattle.plane.specs.Floor.{Floored, on}
use Rattle.plane.specs.Question.{ask_relation}
use Rattle.admission.specs.theory.Judged.{held, refusal-of, handed-on}
use Rattle.admission.specs.theory.Door.{shapes-refused, all-answered}
use Rattle.pair_questions.proofs.relation.Goals as goal
use Rattle.pair_questions.proofs.relation.Goals.{Start}

-- the two shapes
abbrev one : Start → Floored
one c = on c.args.a.now c.args.f

abbrev other : Start → Floored
other c = on c.args.b.now c.args.g

pub returns-in_err-admit_pair : goal.returns-in_err-admit_pair
returns-in_err-admit_pair c =
    rw (handed-on _ _ c.from_residual.ensures.1)
    (shapes-refused (ask_relation (one (goal.at.returns-in_err-admit_pair c).Start) (other (goal.at.returns-in_err-admit_pair c).Start))
    (refusal-of c.in_err-admit_pair.ensures)).0

pub relation-requires : goal.relation-requires
relation-requires c = let both = held c.in_ok-admit_pair.ensures in (both.first-valid, both.second-valid)

pub returns : goal.returns
returns c =
    all-answered (ask_relation (one (goal.at.returns c).Start) (other (goal.at.returns c).Start))
    (held c.in_ok-admit_pair.ensures) tt
    (ap (λ (z : ℤ). z ∷ pos c.args.f ∷ []) c.relation.ensures)
