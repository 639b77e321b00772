-- `offer` meets its contract: a list is refused, or the direction, or it is tried.
use mathlib.Core.Path.{◌≡◌, sym, ◌∙◌, ap, ap₂, subst}
use mathlib.Core.Bool.{Bool, false, cond}
use mathlib.Core.List.{[], ◌∷◌}
use lib.IntN.{pos}
use mir.Syntax.{w32}
use mir.Val.{to_z, of_z}
use mir.Facts.{to_z-of_z}
use Rattle.plane.specs.Point.{Point, point, points}
use Rattle.plane.specs.Reply.{NoneApply}
use Rattle.plane.specs.Furthest.{bad_direction, direction_rows}
use Rattle.plane.specs.Offer.{below}
use Rattle.plane.specs.Floor.{Floored, on}
use Rattle.plane.specs.Question.{Question, ask_offer}
use Rattle.admission.specs.Admission.{Judged}
use Rattle.admission.specs.theory.Judged.{held, refusal-of, handed-on}
use Rattle.admission.specs.theory.Door.{shapes-refused, rest-refused, all-answered}
use Rattle.pair_questions.proofs.separators.offer.Goals as goal
use Rattle.pair_questions.proofs.separators.offer.Goals.{After-admit_direction, In_ok-admit_direction, Start}

-- the two shapes, and the direction
abbrev one : Start → Floored
one c = on c.args.a.now c.args.f

abbrev other : Start → Floored
other c = on c.args.b.now c.args.g

abbrev offered : Start → Point
offered c = point c.args.u c.args.v

abbrev asked : Start → Question
asked c = ask_offer (one c) (other c) (offered c)

-- the direction, read back from its bits
direction-is : (c : Start) → point (to_z w32 (of_z w32 c.args.u)) (to_z w32 (of_z w32 c.args.v)) ≡ offered c
direction-is c = ap₂ point (to_z-of_z {w = w32} c.ranges.u) (to_z-of_z {w = w32} c.ranges.v)

-- what judging it says
judged-direction : (c : After-admit_direction) → let d = offered (goal.at.After-admit_direction c).Start in
    Judged (NoneApply (direction_rows d)) (direction_rows d) c.admit_direction.result
judged-direction c =
    subst (λ (d : Point). Judged (NoneApply (direction_rows d)) (direction_rows d) c.admit_direction.result)
    (direction-is (goal.at.After-admit_direction c).Start) c.admit_direction.ensures

-- past it, neither row applies
passed : (c : In_ok-admit_direction) → NoneApply (direction_rows (offered (goal.at.In_ok-admit_direction c).Start))
passed c = (judged-direction (goal.at.In_ok-admit_direction c).After-admit_direction).valid c.in_ok-admit_direction.was

pub returns-in_err-admit_pair : goal.returns-in_err-admit_pair
returns-in_err-admit_pair c =
    rw (handed-on _ _ c.from_residual.ensures.1)
    (shapes-refused (asked (goal.at.returns-in_err-admit_pair c).Start)
    (refusal-of c.in_err-admit_pair.ensures)).0

pub returns-in_err-admit_direction : goal.returns-in_err-admit_direction
returns-in_err-admit_direction c =
    rw (handed-on _ _ c.from_residual-in_err-admit_direction.ensures.1)
    (rest-refused (asked (goal.at.returns-in_err-admit_direction c).Start) (held c.in_ok-admit_pair.ensures)
    ((judged-direction (goal.at.returns-in_err-admit_direction c).After-admit_direction).no _ c.in_err-admit_direction.was)).0

pub is_below-requires : goal.is_below-requires
is_below-requires c =
    let both = held c.in_ok-admit_pair.ensures in
    let direction = sym (direction-is (goal.at.is_below-requires c).Start) in
    (both.first-valid, both.second-valid, subst (λ (d : Point). bad_direction d ≡ false) direction (passed c).0)

pub returns : goal.returns
returns c =
    all-answered (asked (goal.at.returns c).Start) (held c.in_ok-admit_pair.ensures)
    (passed (goal.at.returns c).In_ok-admit_direction)
    (ap (λ (t : Bool). cond t (pos 1) (pos 0) ∷ pos c.args.f ∷ []) (c.is_below.ensures
    ∙ ap (λ (d : Point). below d (points c.args.a.now) (points c.args.b.now)) (direction-is (goal.at.returns c).Start)))
