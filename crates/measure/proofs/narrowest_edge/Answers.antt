-- `narrowest_edge` meets its contract.
use Rattle.measure.proofs.Found.{width-opposed, some-squared, width-found}
use Rattle.measure.proofs.narrowest_edge.Goals as goal

pub first_facing-requires : goal.first_facing-requires
first_facing-requires c = width-opposed _ c.requires.0 c.requires.1 _ c.narrowest-best.ensures

pub root_of_fraction-requires : goal.root_of_fraction-requires
root_of_fraction-requires c = record { positive = some-squared _ c.requires.0 c.requires.1 _ c.narrowest-best.ensures }

pub returns : goal.returns
returns c =
    width-found _ c.requires.0 c.requires.1 _ c.narrowest-best.ensures _ _ c.first_facing.ensures
    c.root_of_fraction.ensures
