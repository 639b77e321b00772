-- `admit_grown` meets its contract: the size of the differences is judged.
use Rattle.delivery.specs.theory.Delivery.{sized_rows_lem, judged-by}
use Rattle.growth.specs.Grown.{grown}
use Rattle.passage.proofs.admit_grown.Goals as goal

pub top-requires : goal.top-requires
top-requires c = c.requires.1.shape.some

pub reckon-n-requires : goal.reckon-n-requires
reckon-n-requires c = (c.requires.0, c.requires.1, c.top.ensures)

pub is_far-requires : goal.is_far-requires
is_far-requires c = c.requires

pub returns : goal.returns
unfolding grown
returns c = judged-by (sized_rows_lem _ c.is_far.ensures c.reckon-n.ensures) c.sized.ensures
