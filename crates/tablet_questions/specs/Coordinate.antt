-- What judging a reading of a corner says. Our own, not of documents 01 and 02.
--     Coordinated axis x r    a reading's whole number, or its rows refuse it and blame the part
use Rattle.std.specs.Prelude.{◌≡◌, ℤ, Result, Ok, Err}
use Rattle.tablet.specs.Reading.{read_as, reading_rows}
use Rattle.tablet.specs.declared.reading.Reading.{Reading}
use Rattle.admission.specs.Admission.{Refuses}
use Rattle.answers.specs.declared.Axis.{Axis}
use Rattle.answers.specs.declared.Unread.{Unread}
use Rattle.answers.specs.Answer.{axis_number, of_unread}

abbrev pub Coordinated : Axis → Reading → Result ℤ Unread → Type 0
Coordinated axis x (Ok n) = read_as x ≡ Ok n
Coordinated axis x (Err r) = Refuses (reading_rows (axis_number axis) x) (of_unread r)
