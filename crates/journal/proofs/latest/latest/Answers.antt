-- `latest` meets its contract. The invariant: what is found up to p, and what is still to come.
use Rattle.std.specs.Prelude.{ℕ}
use Rattle.std.proofs.Common.{sym, subst}
use Rattle.journal.proofs.theory.Stepping.{reached-sound}
use Rattle.journal.proofs.theory.Latest.{SoFar, so-far-start, so-far-next, so-far-end}
use Rattle.journal.proofs.theory.Walk.{on-start, on-here, on-next, on-end}
use Rattle.journal.proofs.latest.latest.Goals as goal

pub loop-p-init : goal.loop-p-init
loop-p-init c =
    on-start c.into_iter-p-iterator.ensures.into_iter_gives c.all-p-items.ensures (so-far-start _ _ c.requires)

pub head_at-requires : goal.head_at-requires
head_at-requires c = let it = on-here c.loop-p.invariant c.in-Some.ensures.steps in reached-sound it.1.reached it.0

pub loop-p-preserved : goal.loop-p-preserved
loop-p-preserved c =
    let args = c.args in
    let steps = c.in-Some.ensures.steps in
    let it = on-here c.loop-p.invariant steps in
    on-next c.loop-p.invariant (λ (p : ℕ). SoFar args.name args.log.now p c.newer-found.result) steps
    (subst (SoFar args.name args.log.now _) (sym c.newer-found.ensures) (so-far-next it.1 it.0 c.head_at.ensures))

pub returns : goal.returns
returns c = let it = on-end c.loop-p.invariant c.in-None.ensures.steps in so-far-end _ _ _ _ it.1 it.0
