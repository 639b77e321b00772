-- `is_on` meets its contract: another floor, or it is asked whether a later record has the name.
use mathlib.Core.Path.{◌∙◌}
use Rattle.std.proofs.Common.{ne_eqb}
use Rattle.gaps.proofs.theory.Read.{on-elsewhere, on-here}
use Rattle.gaps.proofs.floor.is_on.Goals as goal

pub returns-then-head_at-floor : goal.returns-then-head_at-floor
returns-then-head_at-floor c = c.is_current.ensures ∙ on-here c.head_at.ensures _ c.if-head_at-floor.true

pub returns-else-head_at-floor : goal.returns-else-head_at-floor
returns-else-head_at-floor c = ne_eqb _ _ c.if-head_at-floor.false ∙ on-elsewhere c.head_at.ensures _ c.if-head_at-floor.false
