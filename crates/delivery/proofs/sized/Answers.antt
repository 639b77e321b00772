-- `sized` meets its contract: refusal 6, then 7, or neither.
use mathlib.Core.Path.{◌≡◌, sym, ◌∙◌}
use mathlib.Core.Bool.{false}
use lib.Dec.{ltb}
use Rattle.plane.specs.Limits.{max_corners}
use Rattle.plane.specs.Reply.{here, later}
use Rattle.admission.specs.theory.Judged.{refuses, passes, turns-away}
use Rattle.delivery.proofs.sized.Goals as goal
use Rattle.delivery.proofs.sized.Goals.{Else-exceeds_corners}

-- row 6 does not apply
row-6 : (c : Else-exceeds_corners) → ltb max_corners c.args.n ≡ false
row-6 c = sym c.exceeds_corners.ensures ∙ c.if-exceeds_corners.false

pub returns-then-exceeds_corners : goal.returns-then-exceeds_corners
returns-then-exceeds_corners c = turns-away (refuses (here (sym c.exceeds_corners.ensures ∙ c.if-exceeds_corners.true)))

pub returns-then-far : goal.returns-then-far
returns-then-far c = turns-away (refuses (later (row-6 c.before) (here c.if-far.true)))

pub returns : goal.returns
returns c = passes (row-6 c.before, (c.if-far.false, tt))
