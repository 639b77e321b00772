-- `bad_start` meets its contract. The invariant: no corner before c precedes the first.
use mathlib.Core.Path.{sym, ◌∙◌}
use Prim.Native.Nat.{◌<◌}
use native.Mathlib.Omega.{arith}
use lib.ListN.{length}
use Rattle.plane.specs.Point.{points}
use Rattle.plane.specs.Refusal.{bad_start}
use Rattle.plane.proofs.theory.lists.Sought.{sought-more, sought-yes, sought-no}
use Rattle.polygon.proofs.rules.bad_start.Goals as goal
use Rattle.polygon.proofs.rules.bad_start.Goals.{In-loop-c}

-- the loop's test, said of the corners
below : (c : In-loop-c) → c.loop-c.c < length (points c.args.list.now)
below c = omega (arith, c.count-n.ensures)

pub returns-then-precedes_at : goal.returns-then-precedes_at
unfolding bad_start
returns-then-precedes_at c =
    sym (sought-yes _ _ c.loop-c.c (below c.before.before) (sym c.precedes_at.ensures ∙ c.if-precedes_at.true))

pub loop-c-preserved : goal.loop-c-preserved
loop-c-preserved c =
    sought-more _ _ c.loop-c.c c.loop-c.invariant (below c.before.before)
    (sym c.precedes_at.ensures ∙ c.if-precedes_at.false)

pub returns : goal.returns
unfolding bad_start
returns c = sym (sought-no _ _ c.loop-c.c c.loop-c.invariant (omega (arith, c.count-n.ensures)))
