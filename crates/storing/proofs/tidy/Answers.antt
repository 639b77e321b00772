-- `tidy` meets its contract: a byte that is 0 is left alone.
use Rattle.journal.proofs.theory.Storing.{ran-kept, ran-cleared}
use Rattle.storing.proofs.tidy.Goals as goal

pub returns-then-log-p-eq0 : goal.returns-then-log-p-eq0
returns-then-log-p-eq0 c = ran-kept _ _ _ _ c.if-log-p-eq0.true

pub returns : goal.returns
returns c = ran-cleared _ _ c.if-log-p-eq0.false c.byte.ensures
