-- `excess` meets its contract: a list is refused, or the new shape is compared with the old one.
use mathlib.Core.Path.{◌∙◌, ap}
use mathlib.Core.List.{List, [], ◌∷◌, ◌++◌}
use lib.IntN.{ℤ, pos}
use Rattle.plane.specs.Floor.{Floored, on}
use Rattle.excess.specs.Excess.{ask_excess}
use Rattle.admission.specs.theory.Judged.{held, refusal-of, handed-on}
use Rattle.admission.specs.theory.Door.{shapes-refused, all-answered}
use Rattle.pair_questions.specs.theory.Told.{beyond-told}
use Rattle.pair_questions.proofs.changes.excess.Goals as goal
use Rattle.pair_questions.proofs.changes.excess.Goals.{Start}

-- the two shapes
abbrev one : Start → Floored
one c = on c.args.new.now c.args.f

abbrev other : Start → Floored
other c = on c.args.old.now c.args.g

pub returns-in_err-admit_pair : goal.returns-in_err-admit_pair
returns-in_err-admit_pair c =
    rw (handed-on _ _ c.from_residual.ensures.1)
    (shapes-refused (ask_excess (one (goal.at.returns-in_err-admit_pair c).Start) (other (goal.at.returns-in_err-admit_pair c).Start))
    (refusal-of c.in_err-admit_pair.ensures)).0

pub beyond-requires : goal.beyond-requires
beyond-requires c = let both = held c.in_ok-admit_pair.ensures in (both.first-valid, both.second-valid)

pub returns : goal.returns
returns c =
    let start = (goal.at.returns c).Start in
    all-answered (ask_excess (one start) (other start)) (held c.in_ok-admit_pair.ensures) tt
    (ap (λ (vs : List ℤ). vs ++ (pos c.args.f ∷ [])) (beyond-told c.beyond.result ∙ c.beyond.ensures))
