-- `store` meets its contract. The invariant: up to place p of the old log, the bytes before place q of the new run are done.
use Rattle.std.specs.Prelude.{ℕ, ◌+◌, ◌-◌, ◌≤◌, length}
use Rattle.std.proofs.Common.{sym, ◌∙◌, subst, arith}
use Rattle.journal.specs.Marks.{Marked}
use Rattle.journal.proofs.theory.Survey.{next-inside}
use Rattle.journal.proofs.theory.Stepping.{reached-sound}
use Rattle.journal.proofs.theory.Marks.{marked_next}
use Rattle.journal.proofs.theory.Walk.{on-start, on-here, on-next, on-end}
use Rattle.packing.specs.theory.Passes.{Packs, packs-start, packs-length, packs-few, packs-skip, packs-room, packs-copy}
use Rattle.packing.specs.theory.Passes.{packs-end}
use Rattle.packing.proofs.store.Goals as goal
use Rattle.packing.proofs.store.Goals.{After-next_at}

-- a record that is kept has room in the new run
room : (c : After-next_at) →
    c.loop-p.q + (c.next_at.result - c.in-Some.p) ≤ length c.args.new.now
room c =
    let it = on-here c.loop-p.invariant c.in-Some.ensures.steps in
    omega (arith, packs-room it.1.0 it.0 (sym c.is_kept.ensures ∙ c.if-is_kept.true), c.next_at.ensures)

pub loop-p-init : goal.loop-p-init
loop-p-init c =
    let pre = c.requires in
    on-start c.into_iter-p-iterator.ensures.into_iter_gives c.all-p-items.ensures (
      packs-start _ _ _ _ pre.0 pre.1,
      pre.2,
    )

pub is_kept-requires : goal.is_kept-requires
is_kept-requires c =
    let it = on-here c.loop-p.invariant c.in-Some.ensures.steps in (reached-sound it.1.0.reached it.0, it.1.1)

pub next_at-requires : goal.next_at-requires
next_at-requires c = (on-here c.loop-p.invariant c.in-Some.ensures.steps).0

pub copy-need-requires : goal.copy-need-requires
copy-need-requires c =
    let it = on-here c.loop-p.invariant c.in-Some.ensures.steps in
    let inv = it.1.0 in (
      omega (arith, next-inside c.args.old.now c.in-Some.p it.0, c.next_at.ensures),
      omega (arith, room (goal.at.copy-need-requires c).After-next_at, packs-length inv),
      packs-few inv,
    )

pub loop-p-preserved-then-is_kept : goal.loop-p-preserved-then-is_kept
loop-p-preserved-then-is_kept c =
    let args = c.args in
    let steps = c.in-Some.ensures.steps in
    let it = on-here c.loop-p.invariant steps in
    let Done : ℕ → Type 0 =
    λ (p : ℕ). Packs args.allowed args.old.now args.new.now args.but p (c.loop-p.q + (c.next_at.result - c.in-Some.p)) c.copy-need.result
    c.copy-need.new.new in
    on-next c.loop-p.invariant (λ (p : ℕ). Done p × Marked args.old.now args.table.now p) steps (
      subst Done c.next_at.ensures
          (packs-copy it.1.0 it.0 (sym c.is_kept.ensures ∙ c.if-is_kept.true) c.next_at.ensures c.copy-need.ensures),
      marked_next it.1.1 it.0,
    )

pub loop-p-preserved : goal.loop-p-preserved
loop-p-preserved c =
    let args = c.args in
    let steps = c.in-Some.ensures.steps in
    let it = on-here c.loop-p.invariant steps in
    on-next c.loop-p.invariant
    (λ (p : ℕ). Packs args.allowed args.old.now args.new.now args.but p c.loop-p.q c.loop-p.need c.loop-p.new
    × Marked args.old.now args.table.now p) steps
    (packs-skip it.1.0 it.0 (sym c.is_kept.ensures ∙ c.if-is_kept.false), marked_next it.1.1 it.0)

pub blank-need-requires : goal.blank-need-requires
blank-need-requires c =
    let inv = (on-end c.loop-p.invariant c.in-None.ensures.steps).1.0 in
    (omega (arith, packs-length inv, inv.fits), packs-few inv)

pub returns : goal.returns
returns c =
    let it = on-end c.loop-p.invariant c.in-None.ensures.steps in packs-end it.1.0 it.0 c.blank-need.ensures
