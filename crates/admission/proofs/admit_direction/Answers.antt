-- `admit_direction` meets its contract: each test is a row of the table, and 11 comes first.
use mathlib.Core.Path.{◌≡◌, sym, ◌∙◌, ap, ap₂}
use mathlib.Core.Bool.{false}
use mir.Syntax.{w32}
use mir.Val.{to_z, of_z}
use mir.Facts.{to_z-of_z}
use Rattle.plane.specs.Point.{point}
use Rattle.plane.specs.Reply.{here, later}
use Rattle.plane.specs.Furthest.{bad_direction, common_divisor}
use Rattle.admission.specs.theory.Judged.{refuses, passes, turns-away}
use Rattle.admission.proofs.admit_direction.Goals as goal
use Rattle.admission.proofs.admit_direction.Goals.{After-bad_direction, After-common_divisor, Else-bad_direction, Start}

-- the direction, read back from its bits
direction-is : (c : Start) → point (to_z w32 (of_z w32 c.args.u)) (to_z w32 (of_z w32 c.args.v)) ≡ point c.args.u c.args.v
direction-is c = ap₂ point (to_z-of_z {w = w32} c.ranges.u) (to_z-of_z {w = w32} c.ranges.v)

bad-is : (c : After-bad_direction) → c.bad_direction.result ≡ bad_direction (point c.args.u c.args.v)
bad-is c = c.bad_direction.ensures ∙ ap bad_direction (direction-is c.before)

row-11 : (c : Else-bad_direction) → bad_direction (point c.args.u c.args.v) ≡ false
row-11 c = sym (bad-is c.before) ∙ c.if-bad_direction.false

common-is : (c : After-common_divisor)
    → c.common_divisor.result ≡ common_divisor (point c.args.u c.args.v)
common-is c = c.common_divisor.ensures ∙ ap common_divisor (direction-is c.before.before.before)

pub returns-then-bad_direction : goal.returns-then-bad_direction
returns-then-bad_direction c = turns-away (refuses (here (sym (bad-is c.before) ∙ c.if-bad_direction.true)))

pub returns-then-common_divisor : goal.returns-then-common_divisor
returns-then-common_divisor c = turns-away
    (refuses (later (row-11 c.before.before) (here (sym (common-is c.before) ∙ c.if-common_divisor.true))))

pub returns : goal.returns
returns c = passes (row-11 c.before.before, (sym (common-is c.before) ∙ c.if-common_divisor.false, tt))
