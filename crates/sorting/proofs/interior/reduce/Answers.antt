-- `reduce` meets its contract: the set reaches past each corner of the rectangle, so what is copied has its shape.
use Rattle.sorting.specs.theory.Interior.{outer-reduced}
use Rattle.sorting.proofs.interior.reduce.Goals as goal

pub inner_rectangle-inner-requires : goal.inner_rectangle-inner-requires
inner_rectangle-inner-requires c = (c.requires.0, c.requires.1)

pub copy_outer-requires : goal.copy_outer-requires
copy_outer-requires c = c.requires.2

pub returns : goal.returns
returns c = outer-reduced _ _ c.inner_rectangle-inner.ensures c.copy_outer.ensures
