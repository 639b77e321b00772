-- `goes_right` meets its contract.
use mathlib.Core.Path.{ap}
use borrow.Author.Tests.{eq-eqb, ne_eqb}
use lib.IntN.{ℤ, pos}
use lib.Signed.{lt_z}
use mir.Syntax.{w64}
use Rattle.integer.specs.Machine.{result-is}
use Rattle.measure.proofs.half.goes_right.Goals as goal

pub returns-else-s-top : goal.returns-else-s-top
returns-else-s-top c = let args = c.args in rw (eq-eqb args.s.at args.top c.if-s-top.false)

pub returns-then-t-end : goal.returns-then-t-end
returns-then-t-end c = let args = c.args in
    rw (ne_eqb args.s.at args.top c.if-s-top.true, eq-eqb args.t.at args.end c.if-t-end.true)

pub returns-else-t-end : goal.returns-else-t-end
returns-else-t-end c = let args = c.args in
    rw (ne_eqb args.s.at args.top c.if-s-top.true, ne_eqb args.t.at args.end c.if-t-end.false)
    (ap (λ (z : ℤ). lt_z z (pos 0)) (result-is w64 c.order.type_inv c.order.ensures))
