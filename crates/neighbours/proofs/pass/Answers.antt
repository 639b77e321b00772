-- `pass` meets its contract. The invariant: what is found up to p, and what is still to come.
use mathlib.Core.Path.{sym, ◌∙◌}
use Prim.Native.Nat.{ℕ}
use Rattle.plane.specs.Point.{points}
use Rattle.journal.specs.Survey.{next_at}
use Rattle.journal.proofs.theory.Walk.{on-start, on-here, on-next, on-end}
use Rattle.neighbours.specs.theory.Search.{Searched, searched-start, searched-sized, searched-sound, searched-next, searched-end}
use Rattle.neighbours.specs.theory.Search.{searched-met}
use Rattle.neighbours.proofs.pass.Goals as goal
use Rattle.neighbours.proofs.pass.Goals.{After-look-best}

pub loop-p-init : goal.loop-p-init
loop-p-init c = (
  on-start c.into_iter-p-iterator.ensures.into_iter_gives c.all-p-items.ensures (searched-start _ _ _ _ c.requires.0),
  c.requires.2,
)

pub look-best-requires : goal.look-best-requires
look-best-requires c =
    let it = on-here c.loop-p.invariant.0 c.in-Some.ensures.steps in (
      searched-sound it.1 it.0,
      c.requires.1,
      searched-sized it.1 c.requires.1.shape,
      c.loop-p.invariant.1,
      c.extent_of-extent.ensures,
    )

-- what is found once the record is looked at
looked : (c : After-look-best) →
    let args = c.args in
    let b = args.log.now in
    Searched (points args.list.now) args.floor args.but b (next_at b c.in-Some.p) c.look-best.result
looked c = let it = on-here c.loop-p.invariant.0 c.in-Some.ensures.steps in searched-next it.1 it.0 c.look-best.ensures.0

pub shape_of-buffer-then-is_met : goal.shape_of-buffer-then-is_met
shape_of-buffer-then-is_met c =
    c.look-best.ensures.1 ∙ sym c.requires.2

pub returns-then-is_met : goal.returns-then-is_met
returns-then-is_met c =
    searched-met (looked (goal.at.returns-then-is_met c).After-look-best) c.requires.1.shape (sym c.is_met.ensures ∙ c.if-is_met.true)

pub loop-p-preserved : goal.loop-p-preserved
loop-p-preserved c =
    let args = c.args in (
      on-next c.loop-p.invariant.0 (λ (p : ℕ). Searched (points args.list.now) args.floor args.but args.log.now p c.look-best.result)
          c.in-Some.ensures.steps (looked (goal.at.loop-p-preserved c).After-look-best),
      c.look-best.ensures.1,
    )

pub shape_of-buffer : goal.shape_of-buffer
shape_of-buffer c = c.loop-p.invariant.1 ∙ sym c.requires.2

pub returns : goal.returns
returns c =
    let it = on-end c.loop-p.invariant.0 c.in-None.ensures.steps in
    searched-end it.1 c.requires.1.shape it.0
