-- `pass` meets its contract. The invariant: the records up to the place are good.
use Rattle.std.specs.Prelude.{◌≡◌, Ok}
use Rattle.std.proofs.Common.{refl, sym, ◌∙◌, ap, arith}
use Rattle.journal.proofs.theory.Survey.{Along, along-start, along-good, along-bad, along-end}
use Rattle.journal.proofs.theory.Walk.{on-start, on-here, on-next, on-end}
use Rattle.journal.proofs.survey.pass.Goals as goal

pub loop-place-init : goal.loop-place-init
loop-place-init c = (
  on-start c.into_iter-place-iterator.ensures.into_iter_gives c.all-place-items.ensures (along-start _, refl),
  refl,
)

pub bad_at-requires : goal.bad_at-requires
bad_at-requires c =
    ((on-here c.loop-place.invariant.0 c.in-Some.ensures.steps).0, λ n l m. omega (arith, c.requires n l m, c.loop-place.invariant.1))

pub returns-then-bad_at : goal.returns-then-bad_at
returns-then-bad_at c =
    let it = on-here c.loop-place.invariant.0 c.in-Some.ensures.steps in
    along-bad it.1.0 it.0 (sym c.bad_at.ensures.0 ∙ c.if-bad_at.true)

pub next_at-end-requires : goal.next_at-end-requires
next_at-end-requires c = (on-here c.loop-place.invariant.0 c.in-Some.ensures.steps).0

pub loop-place-preserved : goal.loop-place-preserved
loop-place-preserved c =
    let steps = c.in-Some.ensures.steps in
    let it = on-here c.loop-place.invariant.0 steps in (
      on-next c.loop-place.invariant.0 (λ p. Along c.args.log.now p × (c.next_at-end.result ≡ p)) steps
          (along-good it.1.0 it.0 (sym c.bad_at.ensures.0 ∙ c.if-bad_at.false), c.next_at-end.ensures),
      c.bad_at.ensures.1 ∙ c.loop-place.invariant.1,
    )

pub returns : goal.returns
returns c =
    let it = on-end c.loop-place.invariant.0 c.in-None.ensures.steps in
    ap Ok it.1.1 ∙ along-end it.1.0 it.0
