-- `reading` meets its contract, case by case.
use Rattle.crossing.proofs.readings.reading.Goals as goal

pub returns-then-eighths : goal.returns-then-eighths
returns-then-eighths c = rw c.if-eighths.true

pub returns : goal.returns
returns c = rw c.if-eighths.false
