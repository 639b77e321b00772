-- Document 01's number for each case of `Relation` ("Where an answer is an enum ..").
--     number_of r    0 apart, 1 touching, 2 overlapping
use Rattle.std.specs.Prelude.{ℤ, pos}
use Rattle.separation.specs.declared.answer.Relation.{Relation}
use Rattle.separation.specs.declared.answer.Relation.TheVariants.{Apart, Touching, Overlapping}

abbrev pub number_of : Relation → ℤ
number_of Apart = pos 0
number_of Touching = pos 1
number_of Overlapping = pos 2
