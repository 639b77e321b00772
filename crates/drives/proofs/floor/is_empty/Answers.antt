-- `is_empty` meets its contract. The invariant: the floor's shapes are those from p on.
use Rattle.std.specs.Prelude.{ℕ}
use Rattle.std.proofs.Common.{sym, ◌∙◌}
use Rattle.journal.proofs.theory.Walk.{on-start, on-here, on-next, on-end}
use Rattle.drives.specs.theory.Walked.{Bare, bare-start, bare-sound, bare-next, bare-found, bare-end}
use Rattle.drives.proofs.floor.is_empty.Goals as goal

pub loop-p-init : goal.loop-p-init
loop-p-init c = on-start c.into_iter-p-iterator.ensures.into_iter_gives c.all-p-items.ensures (bare-start _ _ c.requires)

pub is_on-requires : goal.is_on-requires
is_on-requires c = let it = on-here c.loop-p.invariant c.in-Some.ensures.steps in bare-sound it.1 it.0

pub returns-then-is_on : goal.returns-then-is_on
returns-then-is_on c =
    let it = on-here c.loop-p.invariant c.in-Some.ensures.steps in bare-found it.1 it.0 (sym c.is_on.ensures ∙ c.if-is_on.true)

pub loop-p-preserved : goal.loop-p-preserved
loop-p-preserved c =
    let steps = c.in-Some.ensures.steps in
    let it = on-here c.loop-p.invariant steps in
    on-next c.loop-p.invariant (λ (p : ℕ). Bare c.args.log.now c.args.floor p) steps
    (bare-next it.1 it.0 (sym c.is_on.ensures ∙ c.if-is_on.false))

pub returns : goal.returns
returns c = let it = on-end c.loop-p.invariant c.in-None.ensures.steps in bare-end it.1 it.0
