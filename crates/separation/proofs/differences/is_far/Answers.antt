-- `is_far` meets its contract: supports add, and the image reaches as far as the shape, the other way round.
use mathlib.Core.Path.{◌∙◌}
use Rattle.plane.specs.Point.{points}
use Rattle.plane.specs.Corner.{mirrored}
use Rattle.plane.proofs.theory.lists.Members.{mirrored-some}
use Rattle.polygon.specs.theory.Extents.{extends-small, far-sum}
use Rattle.separation.specs.theory.Image.{image-extends}
use Rattle.separation.proofs.differences.is_far.Goals as goal

pub is_far-requires : goal.is_far-requires
is_far-requires c =
    let pre = c.requires in
    let first = extends-small _ pre.0.in_range pre.0.shape.some c.extent_of.ensures in
    let second = extends-small _ pre.1.in_range pre.1.shape.some c.extent_of-e.ensures in
    (first.0, first.1, second.1, second.0)

pub returns : goal.returns
returns c =
    let A = points c.args.a.now in
    let B = points c.args.b.now in
    c.is_far.ensures ∙ far-sum A (mirrored B) c.requires.0.shape.some (mirrored-some B c.requires.1.shape.some)
    c.extent_of.ensures (image-extends B c.extent_of-e.ensures)
