-- `mark` meets its contract. The invariant: the table is filled as far as p.
use Rattle.std.proofs.Common.{sym, ◌∙◌, arith}
use Rattle.journal.specs.Survey.{Sound}
use Rattle.journal.proofs.theory.Survey.{name-at}
use Rattle.journal.proofs.theory.Stepping.{name-here, name-inside, reached-sound}
use Rattle.journal.proofs.theory.Marks.{marking-start, marking-next, marking-end}
use Rattle.journal.proofs.theory.Walk.{on-start, on-here, on-next, on-end}
use Rattle.journal.proofs.marks.mark.Goals as goal
use Rattle.journal.proofs.marks.mark.Goals.{In-Some}

-- a whole record is here
here : (c : In-Some) →
    Sound c.args.log.now c.in-Some.p
here c = let it = on-here c.loop-p.invariant c.in-Some.ensures.steps in reached-sound it.1.reached it.0

pub loop-p-init : goal.loop-p-init
loop-p-init c =
    on-start c.into_iter-p-iterator.ensures.into_iter_gives c.all-p-items.ensures (marking-start _ _ c.requires.0 c.requires.2)

pub pair_at-requires : goal.pair_at-requires
pair_at-requires c = omega (arith, name-inside (here c))

pub loop-p-preserved : goal.loop-p-preserved
loop-p-preserved c =
    let steps = c.in-Some.ensures.steps in
    let inv = c.loop-p.invariant in
    let it = here (goal.at.loop-p-preserved c).In-Some in
    on-next inv _ steps (marking-next (on-here inv steps).1 it.here (name-here it ∙ name-at _ _ ∙ sym c.pair_at.ensures.0))

pub returns : goal.returns
returns c = let it = on-end c.loop-p.invariant c.in-None.ensures.steps in marking-end it.1 it.0
