-- `ask` meets its contract, each way that of its question.
use Rattle.calls.proofs.writing.ask.Goals as goal

pub returns-then-merged : goal.returns-then-merged
returns-then-merged c = rw c.if-merged.true c.cocklesway_merge.ensures

pub returns-else-merged : goal.returns-else-merged
returns-else-merged c = rw c.if-merged.false c.cocklesway_sum.ensures
