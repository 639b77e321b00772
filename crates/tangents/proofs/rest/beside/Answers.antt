-- `beside` meets its contract: the position after, or the one before.
use mathlib.Core.Path.{sym, subst}
use mathlib.Core.Bool.{Bool}
use Rattle.tangents.specs.Draws.{Beside}
use Rattle.tangents.proofs.rest.beside.Goals as goal

pub next-requires : goal.next-requires
next-requires c = c.requires

pub returns-then-forward : goal.returns-then-forward
returns-then-forward c =
    let args = c.args in (
      c.next.ensures.upper_bound,
      subst (λ (b : Bool). Beside b args.n args.i c.next.result) (sym c.if-forward.true) c.next.ensures.value,
    )

pub previous-requires : goal.previous-requires
previous-requires c = c.requires

pub returns-else-forward : goal.returns-else-forward
returns-else-forward c =
    let args = c.args in (
      c.previous.ensures.0,
      subst (λ (b : Bool). Beside b args.n args.i c.previous.result) (sym c.if-forward.false) c.previous.ensures.1,
    )
