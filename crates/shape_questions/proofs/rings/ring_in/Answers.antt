-- `ring_in` meets its contract: where points were arranged they are the corners.
use mathlib.Core.Path.{◌≡◌, sym}
use mathlib.Core.Bool.{true}
use native.Mathlib.Omega.{arith}
use Rattle.plane.specs.Point.{points}
use Rattle.polygon.specs.theory.Fronts.{front_length}
use Rattle.ring.specs.theory.Steps.{opened-le}
use Rattle.shape_questions.proofs.rings.ring_in.Goals as goal
use Rattle.shape_questions.proofs.rings.ring_in.Goals.{Else-not-arranged}

pub least-start-requires : goal.least-start-requires
least-start-requires c = omega (arith, c.open_count-n.ensures, opened-le (λ p. p) (points c.args.list.now))

-- past the test the points are the corners
passed : (c : Else-not-arranged) → c.arranged.result ≡ true
passed c = c.if-not-arranged.false

pub slice_bounds-shown-end-2 : goal.slice_bounds-shown-end-2
slice_bounds-shown-end-2 c = sym (front_length (c.arranged.ensures (passed c)).0)

pub shown-requires : goal.shown-requires
shown-requires c =
    let made = c.arranged.ensures (passed c.before) in
    (c.requires.0, made.0.front, made.1)
