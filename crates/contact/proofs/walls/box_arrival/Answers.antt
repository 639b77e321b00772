-- `box_arrival` meets its contract: the four sides, one after the other.
use mathlib.Core.Path.{◌∙◌, ap, ap₂}
use lib.IntN.{pos}
use Rattle.plane.specs.Distance.{over}
use Rattle.motion.specs.Contact.{later}
use Rattle.contact.proofs.walls.box_arrival.Goals as goal

pub returns : goal.returns
returns c =
    let first = c.side_entry-right.ensures in
    let second = c.side_entry-left.ensures in
    c.later-4.ensures ∙ ap₂ later (c.later-3.ensures ∙ ap₂ later (c.later-2.ensures
    ∙ ap₂ later (c.later.ensures ∙ ap (later (over (pos 0) (pos 1))) first) second)
    c.side_entry-up.ensures) c.side_entry-down.ensures
