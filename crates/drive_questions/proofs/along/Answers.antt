-- `along` meets its contract: the cart is refused, a record is bad, no shape is there, a place is far, a grown shape is too large, or what
-- is met is answered.
use mathlib.Core.Path.{◌≡◌, sym, ◌∙◌}
use mathlib.Core.Bool.{false}
use lib.Dec.{ltb}
use lib.ListN.{length}
use Rattle.plane.specs.Floor.{Floored, on}
use Rattle.admission.specs.theory.Judged.{held, refusal-of, handed-on}
use Rattle.journal.specs.Format.{records}
use Rattle.journal.specs.Reading.{damaged}
use Rattle.journal.proofs.theory.Survey.{surveyed-ends}
use Rattle.gaps.specs.Gap.{on_floor}
use Rattle.drives.specs.theory.Replies.{drive-refused, drive-damaged, drive-empty, drive-far, drive-beyond, drive-large, drive-found}
use Rattle.drive_questions.proofs.Places.{in-range}
use Rattle.drive_questions.proofs.along.Goals as goal
use Rattle.drive_questions.proofs.along.Goals.{Else-is_empty, In_ok-survey, Start}

-- the cart with its floor
abbrev lent : Start → Floored
lent c = on c.args.cart.now c.args.floor

-- past the judging no record is bad, and a shape is on the floor
sound : (c : In_ok-survey) → damaged (records c.args.log.now) ≡ false
sound c = (surveyed-ends _ _ (sym c.in_ok-survey.ensures)).0

some : (c : Else-is_empty) → ltb (length (on_floor c.args.floor c.args.log.now)) 1 ≡ false
some c = sym c.is_empty.ensures ∙ c.if-is_empty.false

pub returns-in_err-admit : goal.returns-in_err-admit
returns-in_err-admit c =
    rw (handed-on _ _ c.from_residual.ensures.1)
    (drive-refused _ (lent (goal.at.returns-in_err-admit c).Start) _ _ (refusal-of c.in_err-admit.ensures))

pub returns-in_err-survey : goal.returns-in_err-survey
returns-in_err-survey c =
    rw (handed-on _ _ c.from_residual-in_err-survey.ensures.1)
    (drive-damaged _ (lent (goal.at.returns-in_err-survey c).Start) _ _ (held c.in_ok-admit.ensures) _ (sym c.in_err-survey.ensures))

pub is_empty-requires : goal.is_empty-requires
is_empty-requires c = sound c

pub returns-then-is_empty : goal.returns-then-is_empty
returns-then-is_empty c =
    drive-empty _ (lent (goal.at.returns-then-is_empty c).Start) _ _ (held c.in_ok-admit.ensures)
    (sound (goal.at.returns-then-is_empty c).In_ok-survey) (sym c.is_empty.ensures ∙ c.if-is_empty.true)

pub returns-in_err-admit_place : goal.returns-in_err-admit_place
returns-in_err-admit_place c =
    rw (handed-on _ _ c.from_residual-in_err-admit_place.ensures.1)
    (drive-far _ (lent (goal.at.returns-in_err-admit_place c).Start) _ _ (held c.in_ok-admit.ensures)
    (sound (goal.at.returns-in_err-admit_place c).In_ok-survey) (some (goal.at.returns-in_err-admit_place c).Else-is_empty)
    (refusal-of c.in_err-admit_place.ensures))

pub returns-in_err-admit_place-2 : goal.returns-in_err-admit_place-2
returns-in_err-admit_place-2 c =
    rw (handed-on _ _ c.from_residual-in_err-admit_place-2.ensures.1)
    (drive-beyond _ (lent (goal.at.returns-in_err-admit_place-2 c).Start) _ _ (held c.in_ok-admit.ensures)
    (sound (goal.at.returns-in_err-admit_place-2 c).In_ok-survey) (some (goal.at.returns-in_err-admit_place-2 c).Else-is_empty)
    (held c.in_ok-admit_place.ensures) (refusal-of c.in_err-admit_place-2.ensures))

pub admit_sizes-requires : goal.admit_sizes-requires
admit_sizes-requires c = (sound (goal.at.admit_sizes-requires c).In_ok-survey, held c.in_ok-admit.ensures)

pub returns-in_err-admit_sizes : goal.returns-in_err-admit_sizes
returns-in_err-admit_sizes c =
    rw (handed-on _ _ c.from_residual-in_err-admit_sizes.ensures.1)
    (drive-large _ (lent (goal.at.returns-in_err-admit_sizes c).Start) _ _ (held c.in_ok-admit.ensures)
    (sound (goal.at.returns-in_err-admit_sizes c).In_ok-survey) (some (goal.at.returns-in_err-admit_sizes c).Else-is_empty)
    (held c.in_ok-admit_place.ensures) (held c.in_ok-admit_place-2.ensures) (refusal-of c.in_err-admit_sizes.ensures))

pub first-answer-requires : goal.first-answer-requires
first-answer-requires c = (
  sound (goal.at.first-answer-requires c).In_ok-survey,
  held c.in_ok-admit.ensures,
  record {
    from-near = in-range _ (held c.in_ok-admit_place.ensures);
    to-near = in-range _ (held c.in_ok-admit_place-2.ensures);
  },
  held c.in_ok-admit_sizes.ensures,
)

pub returns : goal.returns
returns c =
    drive-found _ (lent (goal.at.returns c).Start) _ _ (held c.in_ok-admit.ensures)
    (sound (goal.at.returns c).In_ok-survey) (some (goal.at.returns c).Else-is_empty)
    (held c.in_ok-admit_place.ensures) (held c.in_ok-admit_place-2.ensures)
    (held c.in_ok-admit_sizes.ensures) c.first-answer.ensures
