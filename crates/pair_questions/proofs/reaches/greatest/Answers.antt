-- `greatest` meets its contract: a list is refused, or the furthest pair of corners sought.
use mathlib.Core.Path.{refl}
use Rattle.plane.specs.Floor.{Floored, on}
use Rattle.admission.specs.theory.Judged.{held, refusal-of, handed-on}
use Rattle.admission.specs.theory.Door.{shapes-refused, all-answered}
use Rattle.reach.specs.Greatest.{ask_greatest}
use Rattle.pair_questions.proofs.reaches.greatest.Goals as goal
use Rattle.pair_questions.proofs.reaches.greatest.Goals.{Start}

-- the two shapes
abbrev one : Start → Floored
one c = on c.args.a.now c.args.f

abbrev other : Start → Floored
other c = on c.args.b.now c.args.g

pub returns-in_err-admit_pair : goal.returns-in_err-admit_pair
returns-in_err-admit_pair c =
    rw (handed-on _ _ c.from_residual.ensures.1)
    (shapes-refused (ask_greatest (one (goal.at.returns-in_err-admit_pair c).Start) (other (goal.at.returns-in_err-admit_pair c).Start))
    (refusal-of c.in_err-admit_pair.ensures)).0

pub furthest_corners-requires : goal.furthest_corners-requires
furthest_corners-requires c = let both = held c.in_ok-admit_pair.ensures in (both.first-valid, both.second-valid)

pub returns : goal.returns
returns c =
    let found = c.furthest_corners.ensures in
    all-answered (ask_greatest (one (goal.at.returns c).Start) (other (goal.at.returns c).Start)) (held c.in_ok-admit_pair.ensures) tt
    (rw (found.squared-is, found.from_is, found.to_is) refl)
