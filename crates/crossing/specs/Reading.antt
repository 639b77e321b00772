-- A reading of the tablet as a host sends it: a double and its unit.
--     reading eighths v        in eighths of a millimetre or in millimetres
use Rattle.std.specs.Prelude.{Bool, cond, Float}
use Rattle.tablet.specs.declared.reading.Reading.{Reading}
use Rattle.tablet.specs.declared.reading.Reading.TheVariants.{Millimetres, Eighths}

abbrev pub reading : Bool → Float → Reading
reading eighths v = cond eighths (Eighths v) (Millimetres v)
