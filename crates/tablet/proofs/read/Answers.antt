-- `read` meets its contract. What an arm binds is a double, which fits its format.
use Rattle.std.proofs.Common.{sym, ap, ◌∙◌}
use Rattle.tablet.specs.Reading.{read_as}
use Rattle.tablet.proofs.read.Goals as goal

pub returns-in-Millimetres : goal.returns-in-Millimetres
returns-in-Millimetres c = c.of_millimetres.ensures ∙ ap read_as (sym c.in-Millimetres.is)

pub returns-in-Eighths : goal.returns-in-Eighths
returns-in-Eighths c = c.of_eighths.ensures ∙ ap read_as (sym c.in-Eighths.is)
