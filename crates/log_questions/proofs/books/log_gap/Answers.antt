-- `log_gap` meets its contract: the cart is refused, a record is bad, too few shapes are there, a grown one is too large, or the narrowest
-- gap is found.
use Rattle.std.specs.Prelude.{◌≡◌, false, ◌≤◌, ◌∷◌, length, pos}
use Rattle.std.proofs.Common.{sym, ap, ◌∙◌, arith}
use Rattle.plane.specs.Point.{points}
use Rattle.plane.specs.Floor.{Floored, on}
use Rattle.journal.specs.Format.{records}
use Rattle.journal.specs.Reading.{damaged}
use Rattle.journal.proofs.theory.Survey.{surveyed-ends}
use Rattle.gaps.specs.Gap.{on_floor}
use Rattle.gaps.proofs.theory.Replies.{some_pair, gap-refused, gap-damaged, gap-few, gap-large, gap-found}
use Rattle.admission.specs.theory.Judged.{held, refusal-of, handed-on}
use Rattle.log_questions.specs.theory.Books.{distance-numbers}
use Rattle.log_questions.proofs.books.log_gap.Goals as goal
use Rattle.log_questions.proofs.books.log_gap.Goals.{Else-count-lt2, In_ok-survey, Start}

-- the cart with its floor
abbrev lent : Start → Floored
lent c = on c.args.cart.now c.args.floor

-- past the survey no record is bad
sound : (c : In_ok-survey) → damaged (records c.args.log.now) ≡ false
sound c = (surveyed-ends _ _ (sym c.in_ok-survey.ensures)).0

-- past the count there are two shapes
two : (c : Else-count-lt2) → let args = c.args in
    2 ≤ length (on_floor args.floor args.log.now)
two c = omega (arith, c.count.ensures, c.if-count-lt2.false)

pub returns-in_err-admit : goal.returns-in_err-admit
returns-in_err-admit c =
    rw (handed-on _ _ c.from_residual.ensures.1)
    (gap-refused _ (lent (goal.at.returns-in_err-admit c).Start) (refusal-of c.in_err-admit.ensures))

pub returns-in_err-survey : goal.returns-in_err-survey
returns-in_err-survey c =
    rw (handed-on _ _ c.from_residual-in_err-survey.ensures.1)
    (gap-damaged _ (lent (goal.at.returns-in_err-survey c).Start) (held c.in_ok-admit.ensures) _ (sym c.in_err-survey.ensures))

pub count-requires : goal.count-requires
count-requires c = sound c

pub returns-then-count-lt2 : goal.returns-then-count-lt2
returns-then-count-lt2 c =
    gap-few _ (lent (goal.at.returns-then-count-lt2 c).Start) (held c.in_ok-admit.ensures)
    (sound (goal.at.returns-then-count-lt2 c).In_ok-survey) (omega (arith, c.count.ensures, c.if-count-lt2.true))

pub admit_sizes-requires : goal.admit_sizes-requires
admit_sizes-requires c = (sound (goal.at.admit_sizes-requires c).In_ok-survey, held c.in_ok-admit.ensures)

pub returns-in_err-admit_sizes : goal.returns-in_err-admit_sizes
returns-in_err-admit_sizes c =
    rw (handed-on _ _ c.from_residual-in_err-admit_sizes.ensures.1)
    (gap-large _ (lent (goal.at.returns-in_err-admit_sizes c).Start) (held c.in_ok-admit.ensures)
    (sound (goal.at.returns-in_err-admit_sizes c).In_ok-survey) (two (goal.at.returns-in_err-admit_sizes c).Else-count-lt2)
    (refusal-of c.in_err-admit_sizes.ensures))

pub gap-requires : goal.gap-requires
gap-requires c =
    (sound (goal.at.gap-requires c).In_ok-survey, held c.in_ok-admit.ensures, held c.in_ok-admit_sizes.ensures)

pub returns-in_default : goal.returns-in_default
returns-in_default c =
    let args = c.args in
    absurd (some_pair (points args.cart.now) (on_floor args.floor args.log.now) (two (goal.at.returns-in_default c).Else-count-lt2)
    c.in_default.ensures)

pub returns : goal.returns
returns c =
    let gap = c.in-Some.answer in
    gap-found _ (lent (goal.at.returns c).Start) (held c.in_ok-admit.ensures) (sound (goal.at.returns c).In_ok-survey)
    (two (goal.at.returns c).Else-count-lt2) (held c.in_ok-admit_sizes.ensures)
    (ap (λ vs. pos gap.name ∷ pos gap.other ∷ vs) (distance-numbers gap.distance) ∙ c.in-Some.ensures)
