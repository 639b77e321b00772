-- `contact` meets its contract: the places are read back from their bits.
use mir.Syntax.{w32}
use mathlib.Core.Path.{◌∙◌, ap₂}
use mir.Facts.{to_z-of_z}
use Rattle.plane.specs.Point.{Point, point}
use Rattle.plane.specs.Floor.{on}
use Rattle.plane.specs.Question.{reply}
use Rattle.motion.specs.Contact.{ask_contact}
use Rattle.drive_questions.proofs.contact.Goals as goal

pub returns : goal.returns
returns c =
    let args = c.args in
    let fits = c.ranges in
    c.driven.ensures
    ∙ ap₂ (λ (p q : Point). reply (ask_contact (on args.obstacle.now args.f) (on args.cart.now args.g) p q))
    (ap₂ point (to_z-of_z {w = w32} fits.x) (to_z-of_z {w = w32} fits.y))
    (ap₂ point (to_z-of_z {w = w32} fits.u) (to_z-of_z {w = w32} fits.v))
