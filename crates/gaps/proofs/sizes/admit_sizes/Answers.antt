-- `admit_sizes` meets its contract. The invariant: the rows of the records up to p pass.
use Rattle.std.specs.Prelude.{ℕ}
use Rattle.plane.specs.Point.{points}
use Rattle.admission.specs.theory.Judged.{passes, held, refusal-of, hands-on}
use Rattle.journal.proofs.theory.Walk.{on-start, on-here, on-next, on-end}
use Rattle.gaps.proofs.theory.Steps.{Judging, judging-start, judging-sound, judging-next, judging-refused, judging-end}
use Rattle.gaps.proofs.sizes.admit_sizes.Goals as goal

pub loop-p-init : goal.loop-p-init
loop-p-init c = on-start c.into_iter-p-iterator.ensures.into_iter_gives c.all-p-items.ensures (judging-start _ _ _ c.requires.0)

pub admit_at-requires : goal.admit_at-requires
admit_at-requires c =
    let it = on-here c.loop-p.invariant c.in-Some.ensures.steps in (judging-sound it.1 it.0, c.requires.1)

pub returns-in_err-admit_at : goal.returns-in_err-admit_at
returns-in_err-admit_at c =
    let it = on-here c.loop-p.invariant c.in-Some.ensures.steps in
    hands-on _ _ c.from_residual.ensures.1 (judging-refused it.1 it.0 (refusal-of c.in_err-admit_at.ensures))

pub loop-p-preserved : goal.loop-p-preserved
loop-p-preserved c =
    let args = c.args in
    let steps = c.in-Some.ensures.steps in
    let it = on-here c.loop-p.invariant steps in
    on-next c.loop-p.invariant (λ (p : ℕ). Judging (points args.cart.now) args.log.now args.floor p) steps
    (judging-next it.1 it.0 (held c.in_ok-admit_at.ensures))

pub returns : goal.returns
returns c = let it = on-end c.loop-p.invariant c.in-None.ensures.steps in passes (judging-end it.1 it.0)
