-- `fits` meets its contract: refusal 6 or 7, then 8, or none.
use mathlib.Core.List.{[], ◌∷◌}
use Prim.Native.Nat.{◌*◌}
use native.Mathlib.Omega.{arith}
use borrow.Author.Tests.{lt-ltb, le-ltb, ltb-false}
use lib.Dec.{ltb}
use Rattle.plane.specs.Limits.{max_corners}
use Rattle.plane.specs.Reply.{row, here}
use Rattle.plane.proofs.theory.refusals.Rows.{none-join}
use Rattle.delivery.specs.Fit.{sized_rows}
use Rattle.admission.specs.theory.Judged.{refuses, refuses-append, refuses-join, passes, turns-away, held, refusal-of, hands-on}
use Rattle.delivery.proofs.fits.Goals as goal

pub returns-in_err-sized : goal.returns-in_err-sized
returns-in_err-sized c =
    let args = c.args in
    hands-on _ _ c.from_residual.ensures.1 (refuses-append (row 8 (ltb args.room (2 * args.n)) [] ∷ []) (refusal-of c.in_err-sized.ensures))

pub overflow_mul-n : goal.overflow_mul-n
unfolding max_corners
overflow_mul-n c = omega (arith, ltb-false max_corners c.args.n (held c.in_ok-sized.ensures).0)

pub returns-then-room-n : goal.returns-then-room-n
returns-then-room-n c =
    let args = c.args in
    turns-away (refuses-join (sized_rows args.n args.far) (held c.in_ok-sized.ensures)
    (refuses (here (lt-ltb _ _ c.if-room-n.true))))

pub returns : goal.returns
returns c =
    let args = c.args in
    passes (none-join (sized_rows args.n args.far) (row 8 (ltb args.room (2 * args.n)) [] ∷ []) (held c.in_ok-sized.ensures)
    (le-ltb _ _ c.if-room-n.false, tt))
