-- `find` meets its contract: a list is refused, or what is found is told.
use mathlib.Core.Path.{ap}
use mathlib.Core.List.{List, [], ◌∷◌, ◌++◌}
use lib.IntN.{ℤ, pos}
use Rattle.plane.specs.Floor.{Floored, on}
use Rattle.separator.specs.Separator.{ask_separator}
use Rattle.admission.specs.theory.Judged.{held, refusal-of, handed-on}
use Rattle.admission.specs.theory.Door.{all-answered}
use Rattle.pair_questions.specs.theory.Told.{direction-told}
use Rattle.pair_questions.specs.theory.Offers.{search-refused}
use Rattle.pair_questions.proofs.separators.find.Goals as goal
use Rattle.pair_questions.proofs.separators.find.Goals.{Start}

-- the two shapes
abbrev one : Start → Floored
one c = on c.args.a.now c.args.f

abbrev other : Start → Floored
other c = on c.args.b.now c.args.g

pub returns-in_err-admit_pair : goal.returns-in_err-admit_pair
returns-in_err-admit_pair c =
    let start = (goal.at.returns-in_err-admit_pair c).Start in
    rw (handed-on _ _ c.from_residual.ensures.1) (search-refused (one start) (other start) (refusal-of c.in_err-admit_pair.ensures))

pub find-requires : goal.find-requires
find-requires c = let both = held c.in_ok-admit_pair.ensures in (both.first-valid, both.second-valid)

pub returns : goal.returns
returns c =
    let start = (goal.at.returns c).Start in
    let found = c.find.result in
    record {
      found = found;
      reply-is = all-answered (ask_separator (one start) (other start) found) (held c.in_ok-admit_pair.ensures) tt
          (ap (λ (vs : List ℤ). vs ++ (pos c.args.f ∷ [])) (direction-told found));
      found-is = λ none. c.find.ensures;
    }
