-- `found` meets its contract: the first candidate that is reached in a direction that faces the least distance is the nearest.
use mathlib.Core.Path.{sym, ◌∙◌, ap, subst}
use Rattle.plane.specs.Point.{points}
use Rattle.plane.specs.Clearance.{numbers_of}
use Rattle.clearance.specs.Answer.{Measurable}
use Rattle.clearance.specs.theory.Walked.{nearest-measurable}
use Rattle.clearance.proofs.found.Goals as goal

pub place-first-requires : goal.place-first-requires
place-first-requires c = c.requires.0.shape.some

pub place-second-requires : goal.place-second-requires
place-second-requires c = c.requires.3.within

pub first_reached-requires : goal.first_reached-requires
first_reached-requires c =
    let pre = c.requires in
    (pre.0, pre.1, c.sought-seen.ensures.0, c.sought-seen.ensures.1, c.place-first.ensures, c.place-second.ensures)

pub measured-requires : goal.measured-requires
measured-requires c =
    let A = points c.args.a.now in
    let B = points c.args.b.now in (
      c.requires.0.in_range,
      c.requires.1.in_range,
      subst (Measurable A B) (sym c.first_reached.ensures)
          (nearest-measurable A B c.requires.0.shape.some c.requires.1.shape.some _ c.sought-seen.ensures.1),
    )

pub returns : goal.returns
returns c =
    c.measured.ensures ∙ ap (numbers_of (points c.args.a.now) (points c.args.b.now)) c.first_reached.ensures
