-- `part` meets its contract: a list is refused, then the walk, then the sum; else the part is written.
use mathlib.Core.Path.{◌≡◌, sym, ◌∙◌}
use mathlib.Core.Bool.{Bool}
use Rattle.plane.specs.Floor.{Floored, on, Same}
use Rattle.sums.specs.PlaceAfter.{is_place}
use Rattle.parts.specs.Part.{ask_part}
use Rattle.admission.specs.theory.Door.{shapes-refused}
use Rattle.admission.specs.theory.Judged.{held, refusal-of, handed-on}
use Rattle.part_questions.specs.Walk.{state_of}
use Rattle.part_questions.specs.theory.Parts.{part-off-place, part-surveyed}
use Rattle.part_questions.proofs.walk.Walk.part.Goals as goal
use Rattle.part_questions.proofs.walk.Walk.part.Goals.{After-is_place, In_ok-admit_pair, Start}

-- the two shapes
abbrev one : Start → Floored
one c = on c.args.a.now c.args.f

abbrev other : Start → Floored
other c = on c.args.b.now c.args.g

-- past the judging they are shapes on one floor
shapes : (c : In_ok-admit_pair) → Same (one (goal.at.In_ok-admit_pair c).Start) (other (goal.at.In_ok-admit_pair c).Start)
shapes c = held c.in_ok-admit_pair.ensures

-- what the test of the walk says
told : (c : After-is_place) {t : Bool} → c.is_place.result ≡ t → let args = c.args in
    is_place args.a.now args.b.now (state_of args.self) ≡ t
told c e = sym c.is_place.ensures ∙ e

pub returns-in_err-admit_pair : goal.returns-in_err-admit_pair
returns-in_err-admit_pair c =
    let start = (goal.at.returns-in_err-admit_pair c).Start in
    rw (handed-on _ _ c.from_residual.ensures.1)
    (shapes-refused (ask_part (one start) (other start) (state_of c.args.self) c.args.k c.args.out.now)
    (refusal-of c.in_err-admit_pair.ensures))

pub is_place-requires : goal.is_place-requires
is_place-requires c = let both = shapes c in (both.first-valid, both.second-valid)

pub returns-then-not-is_place : goal.returns-then-not-is_place
returns-then-not-is_place c =
    let start = (goal.at.returns-then-not-is_place c).Start in
    part-off-place (one start) (other start) (state_of c.args.self) c.args.k c.args.out.now (held c.in_ok-admit_pair.ensures)
    (told c.before (c.if-not-is_place.true))

pub survey-requires : goal.survey-requires
survey-requires c = let both = shapes (goal.at.survey-requires c).In_ok-admit_pair in (both.first-valid, both.second-valid)

pub returns-in_err-survey : goal.returns-in_err-survey
returns-in_err-survey c =
    let start = (goal.at.returns-in_err-survey c).Start in
    rw (handed-on _ _ c.from_residual-in_err-survey.ensures.1)
    (part-surveyed (one start) (other start) (state_of c.args.self) c.args.k c.args.out.now (held c.in_ok-admit_pair.ensures)
    (told (goal.at.returns-in_err-survey c).After-is_place (c.if-not-is_place.false)) (refusal-of c.in_err-survey.ensures))

pub write-requires : goal.write-requires
write-requires c = (
  held c.in_ok-admit_pair.ensures,
  told (goal.at.write-requires c).After-is_place (c.if-not-is_place.false),
  held c.in_ok-survey.ensures,
)

pub returns : goal.returns
returns c = c.write.ensures
