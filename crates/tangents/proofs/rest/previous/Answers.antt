-- `previous` meets its contract: before the first comes the last.
use mathlib.Core.Path.{sym, ◌∙◌}
use Prim.Native.Nat.{◌-◌}
use native.Mathlib.Omega.{arith}
use Rattle.plane.proofs.theory.lists.Next.{next-end, next-on}
use Rattle.tangents.proofs.rest.previous.Goals as goal

pub returns-then-i-eq0 : goal.returns-then-i-eq0
returns-then-i-eq0 c =
    let n = c.args.n in
    (omega arith, next-end n (n - 1) (omega arith) ∙ sym c.if-i-eq0.true)

pub returns-else-i-eq0 : goal.returns-else-i-eq0
returns-else-i-eq0 c =
    let i = c.args.i in
    let other = c.if-i-eq0.false in
    (omega (arith, other), next-on c.args.n (i - 1) (λ e. omega (arith, other)) ∙ omega (arith, other))
