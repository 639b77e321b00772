-- `width` meets its contract: the list is refused, or is flat, or its narrowest edge sought.
use Prim.Native.Nat.{◌≤◌}
use native.Mathlib.Omega.{arith}
use borrow.Author.Tests.{lt-ltb, le-ltb}
use lib.ListN.{length}
use Rattle.plane.specs.Point.{points}
use Rattle.plane.specs.Reply.{here}
use Rattle.plane.specs.Floor.{Floored, on, corners}
use Rattle.plane.specs.Question.{ask_width}
use Rattle.admission.specs.theory.Judged.{refuses, held, refusal-of, handed-on}
use Rattle.admission.specs.theory.Door.{shapes-refused, rest-refused, all-answered}
use Rattle.shape_questions.specs.theory.Measures.{width-values}
use Rattle.shape_questions.proofs.width.Goals as goal
use Rattle.shape_questions.proofs.width.Goals.{Else-count-lt3, Start}

-- the shape
abbrev shape : Start → Floored
shape c = on c.args.list.now c.args.floor

-- past the count there are three corners
three : (c : Else-count-lt3) → 3 ≤ length (points c.args.list.now)
three c = omega (arith, c.if-count-lt3.false, c.count.ensures)

pub returns-in_err-admit : goal.returns-in_err-admit
returns-in_err-admit c =
    rw (handed-on _ _ c.from_residual.ensures.1)
    (shapes-refused (ask_width (shape (goal.at.returns-in_err-admit c).Start)) (refusal-of c.in_err-admit.ensures)).0

pub returns-then-count-lt3 : goal.returns-then-count-lt3
returns-then-count-lt3 c =
    let a = shape (goal.at.returns-then-count-lt3 c).Start in
    let flat = lt-ltb (length (corners a)) 3 (omega (arith, c.if-count-lt3.true, c.count.ensures)) in
    (rest-refused (ask_width a) (held c.in_ok-admit.ensures) (refuses {rows = (ask_width a).rest} (here flat))).0

pub narrowest_edge-requires : goal.narrowest_edge-requires
narrowest_edge-requires c = (held c.in_ok-admit.ensures, three c)

pub returns : goal.returns
returns c =
    let a = shape (goal.at.returns c).Start in
    all-answered (ask_width a) (held c.in_ok-admit.ensures) (le-ltb (length (corners a)) 3 (three c.before), tt)
    (width-values a c.narrowest_edge.ensures)
