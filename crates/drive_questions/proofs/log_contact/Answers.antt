-- `log_contact` meets its contract: the places are read back from their bits.
use mir.Syntax.{w32}
use mathlib.Core.Path.{◌∙◌, ap₂}
use mir.Facts.{to_z-of_z}
use Rattle.plane.specs.Point.{Point, point}
use Rattle.plane.specs.Floor.{on}
use Rattle.plane.specs.Question.{reply}
use Rattle.drives.specs.Drive.{ask_drive}
use Rattle.drive_questions.proofs.log_contact.Goals as goal

pub returns : goal.returns
returns c =
    let args = c.args in
    let fits = c.ranges in
    c.along.ensures
    ∙ ap₂ (λ (p q : Point). reply (ask_drive args.log.now (on args.cart.now args.floor) p q))
    (ap₂ point (to_z-of_z {w = w32} fits.x) (to_z-of_z {w = w32} fits.y))
    (ap₂ point (to_z-of_z {w = w32} fits.u) (to_z-of_z {w = w32} fits.v))
