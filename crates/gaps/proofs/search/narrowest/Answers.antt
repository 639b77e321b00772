-- `narrowest` meets its contract. The invariant: what is kept up to p, and the pairs still to come.
use Rattle.std.specs.Prelude.{None, ℕ}
use Rattle.std.proofs.Common.{ap}
use Rattle.plane.specs.Point.{points}
use Rattle.journal.proofs.theory.Walk.{on-start, on-here, on-next, on-end}
use Rattle.gaps.specs.Gap.{pairs_of}
use Rattle.gaps.specs.Search.{Walk}
use Rattle.gaps.proofs.theory.Steps.{walk-sound, walk-next, pairs-step, from_end}
use Rattle.gaps.proofs.theory.Passed.{Along, along-start, along-next, along-end}
use Rattle.gaps.proofs.search.narrowest.Goals as goal
use Rattle.gaps.proofs.search.narrowest.Invariants.{pairs}

pub loop-p-init : goal.loop-p-init
loop-p-init c =
    let args = c.args in
    on-start c.into_iter-p-iterator.ensures.into_iter_gives c.all-p-items.ensures
    (c.requires.0, along-start (points args.cart.now) args.log.now (pairs args.floor args.log.now) 0 None tt)

pub from-best-requires : goal.from-best-requires
from-best-requires c =
    let it = on-here c.loop-p.invariant c.in-Some.ensures.steps in
    (it.1.0, walk-sound _ it.1.0 it.0, c.requires.1, it.1.1.told)

pub loop-p-preserved : goal.loop-p-preserved
loop-p-preserved c =
    let args = c.args in
    let A = points args.cart.now in
    let b = args.log.now in
    let ps = pairs args.floor b in
    let steps = c.in-Some.ensures.steps in
    let it = on-here c.loop-p.invariant steps in
    on-next c.loop-p.invariant (λ (p : ℕ). Walk A b args.floor p × Along A b ps 0 None c.from-best.result p) steps
    (walk-next A it.1.0 it.0, along-next A b ps it.1.1 c.from-best.ensures (pairs-step args.floor b _ it.0))

pub returns : goal.returns
returns c =
    let args = c.args in
    let b = args.log.now in
    let it = on-end c.loop-p.invariant c.in-None.ensures.steps in
    along-end (points args.cart.now) b (pairs args.floor b) it.1.1 (ap pairs_of (from_end args.floor b _ it.0))
