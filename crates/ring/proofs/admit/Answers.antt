-- `admit` meets its contract: each test is a row of the table, and the rows before it did not apply.
use mathlib.Core.Path.{◌≡◌, sym, ◌∙◌, ap}
use mathlib.Core.Bool.{false}
use lib.Dec.{ltb}
use Rattle.plane.specs.Limits.{max_points}
use Rattle.plane.specs.Point.{points}
use Rattle.plane.specs.Reply.{here, later}
use Rattle.plane.specs.Refusal.{bad_count}
use Rattle.plane.specs.Sweep.{too_many_points}
use Rattle.plane.proofs.theory.refusals.Accept.{counted}
use Rattle.admission.specs.theory.Judged.{refuses, passes, turns-away}
use Rattle.ring.specs.Ring.{open_ring}
use Rattle.ring.specs.theory.Rows.{accepted→ring}
use Rattle.ring.proofs.admit.Goals as goal
use Rattle.ring.proofs.admit.Goals.{After-exceeds_points, Else-bad_count, Else-exceeds_points}

-- ---- the rows that do not apply, each where it is known
row-1 : (c : Else-bad_count) → bad_count c.args.list.now ≡ false
row-1 c = sym c.bad_count.ensures ∙ c.if-bad_count.false

-- the code's test is row 2
told-2 : (c : After-exceeds_points)
    → c.exceeds_points.result ≡ too_many_points (open_ring (points c.args.list.now))
unfolding too_many_points
told-2 c = c.exceeds_points.ensures ∙ ap (ltb max_points) c.open_count.ensures

row-2 : (c : Else-exceeds_points) → too_many_points (open_ring (points c.args.list.now)) ≡ false
row-2 c = sym (told-2 c.before) ∙ c.if-exceeds_points.false

-- ---- the needs
pub returns-then-bad_count : goal.returns-then-bad_count
returns-then-bad_count c = turns-away (refuses (here (sym c.bad_count.ensures ∙ c.if-bad_count.true)))

pub open_count-requires : goal.open_count-requires
open_count-requires c = (counted _ (row-1 c)).0

pub returns-then-exceeds_points : goal.returns-then-exceeds_points
returns-then-exceeds_points c = turns-away
    (refuses (later (row-1 (goal.at.returns-then-exceeds_points c).Else-bad_count) (here (sym (told-2 c.before)
    ∙ c.if-exceeds_points.true))))

pub returns-then-some_outside : goal.returns-then-some_outside
returns-then-some_outside c =
    turns-away (refuses (later (row-1 (goal.at.returns-then-some_outside c).Else-bad_count) (later (row-2
    (goal.at.returns-then-some_outside c).Else-exceeds_points)
    (here (sym c.some_outside.ensures ∙ c.if-some_outside.true)))))

pub returns : goal.returns
returns c =
    passes (accepted→ring _ (
      row-1 (goal.at.returns c).Else-bad_count,
      (row-2 (goal.at.returns c).Else-exceeds_points, (sym c.some_outside.ensures ∙ c.if-some_outside.false, tt)),
    ))
