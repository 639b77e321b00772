-- `side_entry` meets its contract: the values and the greatest value are bounded, so that their differences fit.
use mathlib.Core.Path.{◌≡◌, ◌∙◌, ap₂}
use lib.IntN.{◌-ℤ◌}
use mir.Syntax.{w64}
use mir.Val.{to_z, of_z}
use Rattle.integer.specs.Machine.{machine, known, machine-fits, machine-is}
use Rattle.plane.specs.Point.{points}
use Rattle.polygon.specs.Point.{at}
use Rattle.polygon.specs.theory.Small.{small-wide}
use Rattle.motion.specs.Contact.{past, entering}
use Rattle.contact.proofs.theory.Sides.{small-place, small-side, side-value, side-support, side-past}
use Rattle.contact.proofs.walls.side_entry.Goals as goal
use Rattle.contact.proofs.walls.side_entry.Goals.{After-dot, After-dot-2}

pub dot-requires : goal.dot-requires
dot-requires c = let pre = c.requires in (small-side pre.1, small-wide (small-place pre.2.from-near))

pub overflow_sub-dot : goal.overflow_sub-dot
overflow_sub-dot c =
    let p = known c.dot.ensures (side-value c.requires.1 c.requires.2.from-near) in
    let q = known c.reach-far.ensures (side-support c.requires.1 _ c.requires.0.in_range c.requires.0.shape.some) in
    machine-fits (search machine depth 40) tt

pub dot-requires-2 : goal.dot-requires-2
dot-requires-2 c = let pre = c.requires in (small-side pre.1, small-wide (small-place pre.2.to-near))

pub overflow_sub-dot-2 : goal.overflow_sub-dot-2
overflow_sub-dot-2 c =
    let p = known c.dot-2.ensures (side-value c.requires.1 c.requires.2.to-near) in
    let q = known c.reach-far.ensures
    (side-support c.requires.1 _ c.requires.0.in_range c.requires.0.shape.some) in
    machine-fits (search machine depth 40) tt

-- how far both places are past it
from_past : (c : After-dot) → let args = c.args in
    to_z w64 (of_z w64 (to_z w64 (of_z w64 c.dot.result) -ℤ to_z w64 (of_z w64 c.reach-far.result)))
    ≡ past (points args.list.now) (at args.d) (at args.t)
unfolding past
from_past c =
    let p = known c.dot.ensures (side-value c.requires.1 c.requires.2.from-near) in
    let q = known c.reach-far.ensures (side-support c.requires.1 _ c.requires.0.in_range c.requires.0.shape.some) in
    machine-is (search machine depth 40) tt

to-past : (c : After-dot-2) → let args = c.args in
    to_z w64 (of_z w64 (to_z w64 (of_z w64 c.dot-2.result) -ℤ to_z w64 (of_z w64 c.reach-far.result)))
    ≡ past (points args.list.now) (at args.d) (at args.u)
unfolding past
to-past c =
    let p = known c.dot-2.ensures (side-value c.requires.1 c.requires.2.to-near) in
    let q = known c.reach-far.ensures
    (side-support c.requires.1 _ c.requires.0.in_range c.requires.0.shape.some) in
    machine-is (search machine depth 40) tt

pub entering-requires : goal.entering-requires
entering-requires c =
    let p = c.requires in (
      rw (from_past c.before) (side-past p.1 _ p.0.in_range p.0.shape.some p.2.from-near),
      rw (to-past c) (side-past p.1 _ p.0.in_range p.0.shape.some p.2.to-near),
    )

pub returns : goal.returns
returns c = c.entering.ensures ∙ ap₂ entering (from_past c.before.before) (to-past c.before)
