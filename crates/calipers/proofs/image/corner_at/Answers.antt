-- `corner_at` meets its contract.
use mathlib.Core.Path.{◌∙◌, ap}
use Rattle.plane.specs.Point.{opposite}
use Rattle.polygon.specs.theory.Small.{small-corner}
use Rattle.calipers.specs.theory.Image.{image-corner}
use Rattle.calipers.proofs.image.corner_at.Goals as goal

pub opposite-requires : goal.opposite-requires
opposite-requires c = small-corner _ c.requires.0.in_range _ c.place.ensures.upper_bound c.corner_at.ensures

pub returns : goal.returns
returns c =
    image-corner _ c.requires.0 _ c.requires.1 _ c.requires.2 c.place.ensures.value
    (c.opposite.ensures ∙ ap opposite c.corner_at.ensures)
