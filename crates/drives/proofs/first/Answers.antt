-- `first` meets its contract. The invariant: what is found up to p, and what is still to come.
use Rattle.std.specs.Prelude.{ℕ}
use Rattle.plane.specs.Point.{points}
use Rattle.polygon.specs.Point.{at}
use Rattle.journal.proofs.theory.Walk.{on-start, on-here, on-next, on-end}
use Rattle.gaps.proofs.theory.Steps.{walk_start, walk-sound}
use Rattle.drives.specs.theory.Walked.{Searched, searched-start, searched-next, searched-end}
use Rattle.drives.proofs.first.Goals as goal

pub loop-p-init : goal.loop-p-init
loop-p-init c =
    let pre = c.requires in
    on-start c.into_iter-p-iterator.ensures.into_iter_gives c.all-p-items.ensures
    (searched-start _ _ _ _ _ (walk_start _ _ _ pre.0 pre.3))

pub look-best-requires : goal.look-best-requires
look-best-requires c =
    let pre = c.requires in
    let it = on-here c.loop-p.invariant c.in-Some.ensures.steps in
    (it.1.walk, walk-sound _ it.1.walk it.0, pre.1, pre.2)

pub loop-p-preserved : goal.loop-p-preserved
loop-p-preserved c =
    let args = c.args in
    let steps = c.in-Some.ensures.steps in
    let it = on-here c.loop-p.invariant steps in
    on-next c.loop-p.invariant
    (λ (p : ℕ). Searched (points args.cart.now) (at args.t) (at args.u) args.floor args.log.now p c.look-best.result) steps
    (searched-next it.1 it.0 c.look-best.ensures)

pub returns : goal.returns
returns c = let it = on-end c.loop-p.invariant c.in-None.ensures.steps in searched-end it.1 it.0
