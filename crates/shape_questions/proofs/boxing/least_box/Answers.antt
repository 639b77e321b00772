-- `least_box` meets its contract: the list is refused, or is flat, or its least box sought.
use Prim.Native.Nat.{◌≤◌}
use native.Mathlib.Omega.{arith}
use borrow.Author.Tests.{lt-ltb, le-ltb}
use lib.ListN.{length}
use Rattle.plane.specs.Point.{points}
use Rattle.plane.specs.Reply.{here}
use Rattle.plane.specs.Floor.{Floored, on, corners}
use Rattle.boxes.specs.Box.{ask_box}
use Rattle.admission.specs.theory.Judged.{refuses, held, refusal-of, handed-on}
use Rattle.admission.specs.theory.Door.{shapes-refused, rest-refused, all-answered}
use Rattle.shape_questions.specs.theory.Boxing.{box-values}
use Rattle.shape_questions.proofs.boxing.least_box.Goals as goal
use Rattle.shape_questions.proofs.boxing.least_box.Goals.{Else-count-lt3, Start}

-- the shape
abbrev shape : Start → Floored
shape c = on c.args.list.now c.args.floor

-- past the count there are three corners
three : (c : Else-count-lt3) → 3 ≤ length (points c.args.list.now)
three c = omega (arith, c.if-count-lt3.false, c.count.ensures)

pub returns-in_err-admit : goal.returns-in_err-admit
returns-in_err-admit c =
    rw (handed-on _ _ c.from_residual.ensures.1)
    (shapes-refused (ask_box (shape (goal.at.returns-in_err-admit c).Start)) (refusal-of c.in_err-admit.ensures)).0

pub returns-then-count-lt3 : goal.returns-then-count-lt3
returns-then-count-lt3 c =
    let a = shape (goal.at.returns-then-count-lt3 c).Start in
    let flat = lt-ltb (length (corners a)) 3 (omega (arith, c.if-count-lt3.true, c.count.ensures)) in
    (rest-refused (ask_box a) (held c.in_ok-admit.ensures) (refuses {rows = (ask_box a).rest} (here flat))).0

pub least_box-found-requires : goal.least_box-found-requires
least_box-found-requires c = (held c.in_ok-admit.ensures, three c)

pub returns : goal.returns
returns c =
    let a = shape (goal.at.returns c).Start in
    all-answered (ask_box a) (held c.in_ok-admit.ensures) (le-ltb (length (corners a)) 3 (three c.before), tt)
    (box-values a c.least_box-found.ensures)
