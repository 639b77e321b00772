-- `has_room` meets its contract: no more corners than k are due, nor than both shapes have together; else they are counted.
use mathlib.Core.Path.{sym, ◌∙◌}
use mathlib.Core.Bool.{false, true≢false}
use Prim.Native.Nat.{◌/◌}
use native.Mathlib.Omega.{arith}
use borrow.Author.Tests.{leb-true}
use Rattle.plane.proofs.theory.lists.Flat.{points-length}
use Rattle.sums.specs.Advance.{state}
use Rattle.sums.specs.theory.Summed.{next-few, next-at-most}
use Rattle.sums.proofs.size.has_room.Goals as goal
use Rattle.sums.proofs.size.has_room.Goals.{then-k-most, else-k-most}

pub overflow_add-count : goal.overflow_add-count
overflow_add-count c =
    let a = c.args.a.now in
    let b = c.args.b.now in
    omega (
      arith,
      c.count.ensures,
      c.count-else-k-most.ensures,
      points-length a,
      points-length b,
      c.well_formed.0,
      c.well_formed.1.0,
    )

pub returns-then-count-most : goal.returns-then-count-most
returns-then-count-most c =
    let args = c.args in
    let at-most = next-at-most args.a.now args.b.now (state args.i args.j false) args.k in
    let few = next-few args.a.now args.b.now (state args.i args.j false) args.k c.requires.0 in (
      (λ e. elim c.if-k-most.branch [
        | then-k-most w ↦ omega (arith, at-most, w.if-k-most.true)
        | else-k-most w ↦ omega (
          arith,
          few,
          leb-true _ (args.room / 2) (sym w.value-is ∙ e),
          w.count.ensures,
          w.count-else-k-most.ensures,
        )
      ]),
      (λ e. absurd (true≢false (sym c.if-count-most.true ∙ e))),
    )
