-- `is_far` meets its contract: the boxes are held against the ratio of the distance.
use Rattle.plane.specs.Distance.{distance}
use Rattle.clearance.specs.theory.Distance.{distance-whole}
use Rattle.extents.specs.theory.Gaps.{extends-bounded}
use Rattle.neighbours.specs.Spacing.{fraction_of}
use Rattle.neighbours.specs.theory.Spacings.{ratio-no_more, sized-whole}
use Rattle.neighbours.proofs.spacing.is_far.Goals as goal

pub are_far-requires : goal.are_far-requires
are_far-requires c =
    let pre = c.requires in
    (pre.0, extends-bounded _ pre.1 c.extent_of.ensures)

pub returns : goal.returns
returns c k A B s t spans =
    let w = c.args.w in
    ratio-no_more (fraction_of w) (distance A B) c.as_ratio-ratio.result (sized-whole w c.requires.2) (distance-whole A B s t)
    c.as_ratio-ratio.ensures (c.are_far.ensures k A B s t (spans _ c.extent_of.ensures))
