-- `measure` meets its contract. The invariant: n bytes are kept up to p.
use Rattle.std.specs.Prelude.{ℕ, ◌+◌, ◌-◌}
use Rattle.std.proofs.Common.{refl, sym, ◌∙◌, subst, arith}
use Rattle.journal.specs.Marks.{Marked}
use Rattle.journal.proofs.theory.Stepping.{reached-sound}
use Rattle.journal.proofs.theory.Marks.{marked_next}
use Rattle.journal.proofs.theory.Walk.{on-start, on-here, on-next, on-end}
use Rattle.packing.specs.theory.Passes.{Measured, measured-start, measured-end, measured-kept, measured-skipped, measured-fits}
use Rattle.packing.proofs.measure.Goals as goal

pub loop-p-init : goal.loop-p-init
loop-p-init c =
    on-start c.into_iter-p-iterator.ensures.into_iter_gives c.all-p-items.ensures (
      measured-start _ _ c.requires.0,
      c.requires.1,
    )

pub is_kept-requires : goal.is_kept-requires
is_kept-requires c =
    let it = on-here c.loop-p.invariant c.in-Some.ensures.steps in (reached-sound it.1.0.reached it.0, it.1.1)

pub next_at-requires : goal.next_at-requires
next_at-requires c = (on-here c.loop-p.invariant c.in-Some.ensures.steps).0

pub overflow_sub-n : goal.overflow_sub-n
overflow_sub-n c = omega (arith, c.next_at.ensures)

pub overflow_add-n : goal.overflow_add-n
overflow_add-n c =
    let it = on-here c.loop-p.invariant c.in-Some.ensures.steps in
    omega (arith, measured-fits it.1.0 it.0 c.next_at.ensures (sym c.is_kept.ensures ∙ c.if-is_kept.true))

pub loop-p-preserved-then-is_kept : goal.loop-p-preserved-then-is_kept
loop-p-preserved-then-is_kept c =
    let args = c.args in
    let steps = c.in-Some.ensures.steps in
    let it = on-here c.loop-p.invariant steps in
    let count = c.loop-p.n + (c.next_at.result - c.in-Some.p) in
    on-next c.loop-p.invariant (λ (p : ℕ). Measured args.old.now args.but p count
    × Marked args.old.now args.table.now p) steps (
      subst (λ (p : ℕ). Measured args.old.now args.but p count) c.next_at.ensures
          (measured-kept it.1.0 it.0 c.next_at.ensures (sym c.is_kept.ensures ∙ c.if-is_kept.true)),
      marked_next it.1.1 it.0,
    )

pub loop-p-preserved : goal.loop-p-preserved
loop-p-preserved c =
    let args = c.args in
    let steps = c.in-Some.ensures.steps in
    let it = on-here c.loop-p.invariant steps in
    on-next c.loop-p.invariant (λ (p : ℕ). Measured args.old.now args.but p c.loop-p.n
    × Marked args.old.now args.table.now p) steps
    (measured-skipped it.1.0 it.0 refl (sym c.is_kept.ensures ∙ c.if-is_kept.false), marked_next it.1.1 it.0)

pub returns : goal.returns
returns c = let it = on-end c.loop-p.invariant c.in-None.ensures.steps in measured-end it.1.0 it.0
