-- `is_held` meets its contract. The invariant: the name is held from `from` on exactly if it is from p on.
use Rattle.std.specs.Prelude.{◌≡◌, drop}
use Rattle.std.proofs.Common.{sym, ◌∙◌, arith}
use Rattle.journal.specs.Format.{name as format_name}
use Rattle.journal.specs.Survey.{Sound}
use Rattle.journal.proofs.theory.Survey.{name-at}
use Rattle.journal.proofs.theory.Stepping.{name-inside, reached-sound}
use Rattle.journal.proofs.theory.Ahead.{Ahead, ahead-start, ahead-next, ahead-found, ahead-end}
use Rattle.journal.proofs.theory.Walk.{on-start, on-here, on-next, on-end}
use Rattle.journal.proofs.current.is_held.Goals as goal
use Rattle.journal.proofs.current.is_held.Goals.{After-pair_at, In-Some}

-- a whole record is here, and long enough to have a name
here : (c : In-Some) → Sound c.args.log.now c.in-Some.p
here c = let it = on-here c.loop-p.invariant c.in-Some.ensures.steps in reached-sound it.1.reached it.0

name-read : (c : After-pair_at) →
    format_name (drop c.in-Some.p c.args.log.now) ≡ c.pair_at.result
name-read c = name-at _ _ ∙ sym c.pair_at.ensures.0

pub loop-p-init : goal.loop-p-init
loop-p-init c =
    on-start c.into_iter-p-iterator.ensures.into_iter_gives c.from-p-items.ensures (ahead-start _ _ _ c.requires)

pub pair_at-requires : goal.pair_at-requires
pair_at-requires c = omega (arith, name-inside (here c))

pub returns-then-pair_at-name : goal.returns-then-pair_at-name
returns-then-pair_at-name c =
    let it = on-here c.loop-p.invariant c.in-Some.ensures.steps in
    ahead-found it.1 it.0 (name-read (goal.at.returns-then-pair_at-name c).After-pair_at ∙ c.if-pair_at-name.true)

pub loop-p-preserved : goal.loop-p-preserved
loop-p-preserved c =
    let args = c.args in
    let steps = c.in-Some.ensures.steps in
    let it = on-here c.loop-p.invariant steps in
    on-next c.loop-p.invariant (Ahead args.name args.log.now args.from) steps
    (ahead-next it.1 it.0 (λ e. c.if-pair_at-name.false (sym (name-read (goal.at.loop-p-preserved c).After-pair_at) ∙ e)))

pub returns : goal.returns
returns c = let it = on-end c.loop-p.invariant c.in-None.ensures.steps in ahead-end it.1 it.0
