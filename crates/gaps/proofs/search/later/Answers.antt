-- `later` meets its contract. The invariant: what is kept up to q, and the pairs still to come.
use Rattle.std.specs.Prelude.{map, ℕ}
use Rattle.std.proofs.Common.{◌∙◌, ap}
use Rattle.plane.specs.Point.{points}
use Rattle.journal.specs.Survey.{record_at, next_at}
use Rattle.journal.proofs.theory.Walk.{on-start, on-here, on-next, on-end}
use Rattle.gaps.specs.Search.{later_pairs, Walk}
use Rattle.gaps.proofs.theory.Steps.{walk-sound, walk-next, later-step, from_end}
use Rattle.gaps.proofs.theory.Passed.{Along, along-start, along-next, along-end}
use Rattle.gaps.proofs.search.later.Goals as goal

pub reach-reach-requires : goal.reach-reach-requires
reach-reach-requires c = let pre = c.requires in (pre.4, pre.2)

pub next_at-requires : goal.next_at-requires
next_at-requires c = c.requires.1.here

pub loop-q-init : goal.loop-q-init
loop-q-init c =
    let args = c.args in
    let pre = c.requires in
    let A = points args.cart.now in
    let b = args.log.now in
    let began = c.from-q-items.ensures in
    on-start c.into_iter-q-iterator.ensures.into_iter_gives (began.0, began.1 ∙ c.next_at.ensures)
    (walk-next A pre.0 pre.1.here, along-start A b (later_pairs args.floor b args.p) (next_at b args.p) args.best pre.3)

pub tried-kept-requires : goal.tried-kept-requires
tried-kept-requires c =
    let it = on-here c.loop-q.invariant c.in-Some.ensures.steps in
    let reached = c.reach-reach.ensures in
    let pre = c.requires in
    (it.1.0, pre.1, walk-sound _ it.1.0 it.0, pre.2, it.1.1.told, pre.4, pre.5, reached.0, reached.1)

pub loop-q-preserved : goal.loop-q-preserved
loop-q-preserved c =
    let args = c.args in
    let A = points args.cart.now in
    let b = args.log.now in
    let ps = later_pairs args.floor b args.p in
    let steps = c.in-Some.ensures.steps in
    let it = on-here c.loop-q.invariant steps in
    on-next c.loop-q.invariant (λ (q : ℕ). Walk A b args.floor q × Along A b ps (next_at b args.p) args.best c.tried-kept.result q) steps
    (walk-next A it.1.0 it.0, along-next A b ps it.1.1 c.tried-kept.ensures (later-step args.floor b _ it.0 args.p))

pub returns : goal.returns
returns c =
    let args = c.args in
    let b = args.log.now in
    let it = on-end c.loop-q.invariant c.in-None.ensures.steps in
    along-end (points args.cart.now) b (later_pairs args.floor b args.p) it.1.1
    (ap (map (λ s. (record_at b args.p, s))) (from_end args.floor b _ it.0))
