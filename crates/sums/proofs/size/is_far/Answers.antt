-- `is_far` meets its contract: supports add.
use mathlib.Core.Path.{◌∙◌}
use Rattle.polygon.specs.theory.Extents.{extends-small, far-sum}
use Rattle.sums.proofs.size.is_far.Goals as goal

pub is_far-requires : goal.is_far-requires
is_far-requires c =
    let pre = c.requires in
    let first = extends-small _ pre.0.in_range pre.0.shape.some c.extent_of.ensures in
    let second = extends-small _ pre.1.in_range pre.1.shape.some c.extent_of-2.ensures in
    (first.0, first.1, second.0, second.1)

pub returns : goal.returns
returns c =
    let pre = c.requires in
    c.is_far.ensures
    ∙ far-sum _ _ pre.0.shape.some pre.1.shape.some c.extent_of.ensures c.extent_of-2.ensures
