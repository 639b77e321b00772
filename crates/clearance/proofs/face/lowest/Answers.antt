-- `lowest` meets its contract: the face in the opposite direction, its ends put in order.
use mathlib.Core.Path.{◌≡◌, sym, ◌∙◌, ap, subst}
use Rattle.integer.specs.Bound.{within-neg}
use Rattle.plane.specs.Point.{Point, points, opposite}
use Rattle.plane.specs.Forms.{NonZero}
use Rattle.plane.specs.Face.{face_first, face_last}
use Rattle.plane.proofs.theory.forms.Vector.{opposite-non-zero}
use Rattle.polygon.specs.Point.{at, Small}
use Rattle.clearance.specs.Faces.{IsFace}
use Rattle.clearance.specs.theory.Lowest.{face-ends}
use Rattle.clearance.proofs.face.lowest.Goals as goal
use Rattle.clearance.proofs.face.lowest.Goals.{After-face_towards-face}

pub face_towards-face-requires : goal.face_towards-face-requires
face_towards-face-requires c =
    let small = c.requires.1 in (
      c.requires.0.in_range,
      c.requires.0.shape,
      subst (Small 4194304) (sym c.against.ensures)
          (record { small-x = within-neg small.small-x; small-y = within-neg small.small-y }),
      subst NonZero (sym c.against.ensures) (opposite-non-zero c.requires.2),
    )

-- the two ends, in the opposite direction
first-is : (c : After-face_towards-face) → let args = c.args in
    c.face_towards-face.result.first ≡ face_first (opposite (at args.n)) (points args.list.now)
first-is c =
    let ps = points c.args.list.now in
    c.face_towards-face.ensures.first_value ∙ ap (λ (d : Point). face_first d ps) c.against.ensures

last-is : (c : After-face_towards-face) → let args = c.args in
    c.face_towards-face.result.last ≡ face_last (opposite (at args.n)) (points args.list.now)
last-is c =
    let ps = points c.args.list.now in
    c.face_towards-face.ensures.last_value ∙ ap (λ (d : Point). face_last d ps) c.against.ensures

pub returns : goal.returns
returns c =
    let w = (goal.at.returns c).After-face_towards-face in
    subst (IsFace _ _) (sym c.ordered.ensures) (face-ends c.requires.0.shape c.requires.2 (first-is w) (last-is w))
