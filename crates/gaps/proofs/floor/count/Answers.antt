-- `count` meets its contract. The invariant: those counted up to p and those still to come are all.
use Rattle.std.specs.Prelude.{Bool, cond, ℕ, ◌+◌}
use Rattle.std.proofs.Common.{sym, ◌∙◌, ap, subst, arith}
use Rattle.journal.specs.Survey.{next_at}
use Rattle.journal.proofs.theory.Survey.{next-inside}
use Rattle.journal.proofs.theory.Walk.{on-start, on-here, on-next, on-end}
use Rattle.gaps.proofs.theory.Steps.{Counting, counting-start, counting-next, counting-end}
use Rattle.gaps.proofs.floor.count.Goals as goal

pub loop-p-init : goal.loop-p-init
loop-p-init c = on-start c.into_iter-p-iterator.ensures.into_iter_gives c.all-p-items.ensures (counting-start _ _ c.requires)

pub is_on-requires : goal.is_on-requires
is_on-requires c =
    let it = on-here c.loop-p.invariant c.in-Some.ensures.steps in record { here = it.0; good = it.1.good }

pub overflow_add-n : goal.overflow_add-n
overflow_add-n c =
    let it = on-here c.loop-p.invariant c.in-Some.ensures.steps in omega (arith, it.1.few, next-inside _ c.in-Some.p it.0)

pub loop-p-preserved-then-is_on : goal.loop-p-preserved-then-is_on
loop-p-preserved-then-is_on c =
    let args = c.args in
    let n = c.loop-p.n in
    let steps = c.in-Some.ensures.steps in
    let it = on-here c.loop-p.invariant steps in
    on-next c.loop-p.invariant (λ (p : ℕ). Counting args.log.now args.floor (n + 1) p) steps
    (subst (λ (m : ℕ). Counting args.log.now args.floor m (next_at args.log.now c.in-Some.p))
    (ap (λ (t : Bool). cond t (n + 1) n) (sym c.is_on.ensures ∙ c.if-is_on.true)) (counting-next it.1 it.0))

pub loop-p-preserved : goal.loop-p-preserved
loop-p-preserved c =
    let args = c.args in
    let n = c.loop-p.n in
    let steps = c.in-Some.ensures.steps in
    let it = on-here c.loop-p.invariant steps in
    on-next c.loop-p.invariant (λ (p : ℕ). Counting args.log.now args.floor n p) steps
    (subst (λ (m : ℕ). Counting args.log.now args.floor m (next_at args.log.now c.in-Some.p))
    (ap (λ (t : Bool). cond t (n + 1) n) (sym c.is_on.ensures ∙ c.if-is_on.false)) (counting-next it.1 it.0))

pub returns : goal.returns
returns c = let it = on-end c.loop-p.invariant c.in-None.ensures.steps in counting-end it.1 it.0
