-- `furthest` meets its contract: the list is refused, or the direction, or the face sought.
use mathlib.Core.Path.{◌≡◌, refl, sym, ◌∙◌, ap, ap₂, subst}
use mathlib.Core.List.{[], ◌∷◌}
use Prim.Native.Nat.{ℕ}
use lib.IntN.{ℤ, pos}
use mir.Syntax.{w32}
use mir.Val.{to_z, of_z}
use mir.Facts.{to_z-of_z}
use Rattle.integer.specs.Bound.{within-widen}
use Rattle.plane.specs.Limits.{part_small}
use Rattle.plane.specs.Point.{Point, point, points}
use Rattle.plane.specs.Forms.{NonZero}
use Rattle.plane.specs.Reply.{NoneApply}
use Rattle.plane.specs.Direction.{support}
use Rattle.plane.specs.Face.{face_first, face_last}
use Rattle.plane.specs.Furthest.{direction_rows}
use Rattle.plane.specs.Floor.{on}
use Rattle.plane.specs.Question.{Question, ask_furthest}
use Rattle.plane.proofs.theory.direction.Rows.{direction-near, direction-some}
use Rattle.polygon.specs.Point.{Small}
use Rattle.polygon.specs.theory.Small.{small-wide}
use Rattle.admission.specs.Admission.{Judged}
use Rattle.admission.specs.theory.Judged.{held, refusal-of, handed-on}
use Rattle.admission.specs.theory.Door.{shapes-refused, rest-refused, all-answered}
use Rattle.shape_questions.proofs.furthest.Goals as goal
use Rattle.shape_questions.proofs.furthest.Goals.{After-admit_direction, In_ok-admit_direction, Start}

-- the direction, and the question
abbrev towards : Start → Point
towards c = point c.args.u c.args.v

abbrev asked : Start → Question
asked c = ask_furthest (on c.args.list.now c.args.floor) (towards c)

-- the direction, read back from its bits
direction-is : (c : Start) → point (to_z w32 (of_z w32 c.args.u)) (to_z w32 (of_z w32 c.args.v)) ≡ towards c
direction-is c = ap₂ point (to_z-of_z {w = w32} c.ranges.u) (to_z-of_z {w = w32} c.ranges.v)

-- what judging it says
judged-direction : (c : After-admit_direction) → let d = towards (goal.at.After-admit_direction c).Start in
    Judged (NoneApply (direction_rows d)) (direction_rows d) c.admit_direction.result
judged-direction c =
    subst (λ (d : Point). Judged (NoneApply (direction_rows d)) (direction_rows d) c.admit_direction.result)
    (direction-is (goal.at.After-admit_direction c).Start) c.admit_direction.ensures

-- past it, neither row applies
passed : (c : In_ok-admit_direction) → NoneApply (direction_rows (towards (goal.at.In_ok-admit_direction c).Start))
passed c = (judged-direction (goal.at.In_ok-admit_direction c).After-admit_direction).valid c.in_ok-admit_direction.was

pub returns-in_err-admit : goal.returns-in_err-admit
returns-in_err-admit c =
    rw (handed-on _ _ c.from_residual.ensures.1)
    (shapes-refused (asked (goal.at.returns-in_err-admit c).Start) (refusal-of c.in_err-admit.ensures)).0

pub returns-in_err-admit_direction : goal.returns-in_err-admit_direction
returns-in_err-admit_direction c =
    rw (handed-on _ _ c.from_residual-in_err-admit_direction.ensures.1)
    (rest-refused (asked (goal.at.returns-in_err-admit_direction c).Start) (held c.in_ok-admit.ensures)
    ((judged-direction (goal.at.returns-in_err-admit_direction c).After-admit_direction).no _ c.in_err-admit_direction.was)).0

pub face_towards-requires : goal.face_towards-requires
face_towards-requires c =
    let direction = sym (direction-is (goal.at.face_towards-requires c).Start) in
    let v = held c.in_ok-admit.ensures in
    let good = (passed c).0 in
    let near = direction-near _ good in
    let small : Small 2097152 _ = record { small-x = within-widen part_small near.0; small-y = within-widen part_small near.1 } in
    (v.in_range, v.shape, subst (Small 4194304) direction (small-wide small), subst NonZero direction (direction-some _ good))

told : {p q i j f : ℕ} {y z : ℤ} → p ≡ i → q ≡ j → y ≡ z
    → pos p ∷ pos q ∷ y ∷ pos f ∷ [] ≡ pos i ∷ pos j ∷ z ∷ pos f ∷ []
told e f g = rw (e, f, g) refl

pub returns : goal.returns
returns c =
    let ps = points c.args.list.now in
    let face = c.face_towards.ensures in
    let read = direction-is (goal.at.returns c).Start in
    all-answered (asked (goal.at.returns c).Start) (held c.in_ok-admit.ensures) (passed (goal.at.returns c).In_ok-admit_direction)
    (told (face.first_value ∙ ap (λ (d : Point). face_first d ps) read) (face.last_value ∙ ap (λ (d : Point). face_last d ps) read)
    (face.value_value ∙ ap (λ (d : Point). support d ps) read))
