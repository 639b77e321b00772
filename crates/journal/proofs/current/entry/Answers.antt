-- `entry` meets its contract. The invariant: what is at position k of all is at position `left` of those from p on.
use Rattle.std.specs.Prelude.{List, ℕ, ◌-◌}
use Rattle.std.proofs.Common.{sym, ◌∙◌, subst}
use Rattle.journal.specs.Marks.{Marked}
use Rattle.journal.proofs.theory.Stepping.{reached-sound}
use Rattle.journal.proofs.theory.Marks.{marked_next}
use Rattle.journal.proofs.theory.Nth.{Nth, nth-start, nth-passed, nth-counted, nth-found, nth_end}
use Rattle.journal.proofs.theory.Walk.{on-start, on-here, on-next, on-end}
use Rattle.journal.proofs.current.entry.Goals as goal

pub loop-p-init : goal.loop-p-init
loop-p-init c =
    on-start c.into_iter-p-iterator.ensures.into_iter_gives c.all-p-items.ensures (
      nth-start _ _ c.requires,
      subst (λ (t : List ℕ). Marked c.args.log.now t 0) (sym c.as_slice-table.ensures) c.of-marked.ensures,
    )

pub is_latest-requires : goal.is_latest-requires
is_latest-requires c =
    let it = on-here c.loop-p.invariant c.in-Some.ensures.steps in (reached-sound it.1.0.reached it.0, it.1.1)

pub head_at-requires : goal.head_at-requires
head_at-requires c =
    let it = on-here c.loop-p.invariant c.in-Some.ensures.steps in reached-sound it.1.0.reached it.0

pub returns-then-left-eq0 : goal.returns-then-left-eq0
returns-then-left-eq0 c =
    let it = on-here c.loop-p.invariant c.in-Some.ensures.steps in
    nth-found it.1.0 it.0 (sym c.is_latest.ensures ∙ c.if-is_latest.true) c.if-left-eq0.true c.head_at.ensures

pub loop-p-preserved-then-is_latest : goal.loop-p-preserved-then-is_latest
loop-p-preserved-then-is_latest c =
    let args = c.args in
    let steps = c.in-Some.ensures.steps in
    let it = on-here c.loop-p.invariant steps in
    on-next c.loop-p.invariant (λ (p : ℕ). Nth args.k args.log.now p (c.loop-p.left - 1)
    × Marked args.log.now c.as_slice-table.result.now p) steps
    (nth-counted it.1.0 it.0 (sym c.is_latest.ensures ∙ c.if-is_latest.true) c.if-left-eq0.false, marked_next it.1.1 it.0)

pub loop-p-preserved : goal.loop-p-preserved
loop-p-preserved c =
    let args = c.args in
    let steps = c.in-Some.ensures.steps in
    let it = on-here c.loop-p.invariant steps in
    on-next c.loop-p.invariant (λ (p : ℕ). Nth args.k args.log.now p c.loop-p.left
    × Marked args.log.now c.as_slice-table.result.now p) steps
    (nth-passed it.1.0 it.0 (sym c.is_latest.ensures ∙ c.if-is_latest.false), marked_next it.1.1 it.0)

pub returns : goal.returns
returns c = let it = on-end c.loop-p.invariant c.in-None.ensures.steps in nth_end it.1.0 it.0
