-- `admit_points` meets its contract: each test is a row of the table, and the rows before it did not apply.
use mathlib.Core.Path.{◌≡◌, sym, ◌∙◌}
use mathlib.Core.Bool.{false}
use Rattle.plane.specs.Point.{points}
use Rattle.plane.specs.Reply.{here, later}
use Rattle.plane.specs.Refusal.{bad_count}
use Rattle.plane.specs.Sweep.{too_many_points}
use Rattle.plane.proofs.theory.refusals.Points.{accepted→points}
use Rattle.admission.specs.theory.Judged.{refuses, passes, turns-away}
use Rattle.admission.proofs.admit_points.Goals as goal
use Rattle.admission.proofs.admit_points.Goals.{Else-bad_count, Else-too_many_points}

-- ---- the rows that do not apply, each where it is known
row-1 : (c : Else-bad_count) → bad_count c.args.list.now ≡ false
row-1 c = sym c.bad_count.ensures ∙ c.if-bad_count.false

row-2 : (c : Else-too_many_points) → too_many_points (points c.args.list.now) ≡ false
row-2 c = sym c.too_many_points.ensures ∙ c.if-too_many_points.false

-- ---- the needs
pub returns-then-bad_count : goal.returns-then-bad_count
returns-then-bad_count c = turns-away (refuses (here (sym c.bad_count.ensures ∙ c.if-bad_count.true)))

pub returns-then-too_many_points : goal.returns-then-too_many_points
returns-then-too_many_points c = turns-away
    (refuses (later (row-1 c.before.before) (here (sym c.too_many_points.ensures ∙ c.if-too_many_points.true))))

pub returns-then-some_outside : goal.returns-then-some_outside
returns-then-some_outside c =
    turns-away (refuses (later (row-1 c.before.before.before.before) (later (row-2 c.before.before)
    (here (sym c.some_outside.ensures ∙ c.if-some_outside.true)))))

pub returns : goal.returns
returns c =
    passes (accepted→points _
    (row-1 c.before.before.before.before, (row-2 c.before.before, (sym c.some_outside.ensures ∙ c.if-some_outside.false, tt))))
