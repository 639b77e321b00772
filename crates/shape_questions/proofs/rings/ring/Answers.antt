-- `ring` meets its contract: a list is refused by 1 to 3, or the inner function answers.
use mathlib.Core.List.{[], ◌∷◌}
use native.Mathlib.Omega.{arith}
use Rattle.plane.specs.Limits.{max_points}
use Rattle.plane.specs.Point.{points}
use Rattle.plane.specs.Floor.{on}
use Rattle.plane.specs.Output.{room_row}
use Rattle.plane.proofs.theory.lists.Flat.{points-length}
use Rattle.admission.specs.theory.Judged.{refuses-append, held, refusal-of, handed-on}
use Rattle.admission.specs.theory.Door.{rest-refused}
use Rattle.ring.specs.Ring.{ring_shape, inward_row, ask_ring}
use Rattle.ring.specs.theory.Steps.{opened-le}
use Rattle.shape_questions.proofs.rings.ring.Goals as goal

pub returns-in_err-admit : goal.returns-in_err-admit
returns-in_err-admit c =
    let args = c.args in
    let qs = points args.list.now in
    rw (handed-on _ _ c.from_residual.ensures.1) (rest-refused (ask_ring (on args.list.now args.floor) args.out.now) tt
    (refuses-append (inward_row qs ∷ room_row (ring_shape qs) args.out.now ∷ [])
    (refusal-of c.in_err-admit.ensures)))

pub ring_in-requires : goal.ring_in-requires
ring_in-requires c =
    let l = c.args.list.now in (
      held c.in_ok-admit.ensures,
      omega (arith, c.if-list-le-FEW_NUMBERS.true, opened-le (λ p. p) (points l), points-length l),
    )

pub ring_in-requires-2 : goal.ring_in-requires-2
unfolding max_points
ring_in-requires-2 c =
    let v = held c.in_ok-admit.ensures in
    (v, omega (arith, v.few))
