-- `rest` meets its contract. The invariant: the stack, and the corners from i on, still give what the scan of all gives.
use mathlib.Core.Path.{◌≡◌, sym, ap, subst}
use mathlib.Core.List.{◌∷◌}
use Prim.Native.Nat.{◌+◌, ◌-◌, ◌^◌}
use native.Mathlib.Numerals.{add-one}
use native.Mathlib.Omega.{arith}
use Rattle.plane.specs.Point.{points}
use Rattle.polygon.specs.Point.{at, Small}
use Rattle.sorting.specs.Order.{closed, run}
use Rattle.hull.specs.theory.Peak.{closed-small}
use Rattle.sorting.specs.theory.Run.{run_length, run_more}
use Rattle.hull.specs.theory.Stack.{scanning-start, scanning-room, scanning-one, scanning-end}
use Rattle.hull.proofs.chains.rest.Goals as goal
use Rattle.hull.proofs.chains.rest.Goals.{After-closed_at}

-- the corner at i is the next
next : (c : After-closed_at) →
    let args = c.args in
    let ps = closed (points args.list.now) in
    run ps c.loop-i.i (args.end - c.loop-i.i) ≡ at c.closed_at.result ∷ run ps (c.loop-i.i + 1)
    (args.end - (c.loop-i.i + 1))
next c =
    let ps = closed (points c.args.list.now) in
    rw (c.closed_at.ensures, add-one c.loop-i.i) (run_more ps c.loop-i-test.true)

pub loop-i-init : goal.loop-i-init
loop-i-init c =
    let args = c.args in
    scanning-start c.requires.2
    (omega (arith, c.requires.1, run_length (closed (points args.list.now)) args.from (args.end - args.from)))

pub closed_at-requires : goal.closed_at-requires
closed_at-requires c =
    let line = c.requires.0 in
    (omega (arith, line.within, c.loop-i-test.true), line.some)

pub push-kept-requires : goal.push-kept-requires
push-kept-requires c =
    let line = c.requires.0 in (
      scanning-room c.loop-i.invariant (next c),
      c.loop-i.invariant.small,
      subst (Small (2 ^ 21)) (sym c.closed_at.ensures) (closed-small c.args.list.now line.near line.some
          c.loop-i.i (omega (arith, line.within, c.loop-i-test.true))),
    )

pub loop-i-preserved : goal.loop-i-preserved
loop-i-preserved c =
    scanning-one c.loop-i.invariant (next (goal.at.loop-i-preserved c).After-closed_at) c.push-kept.ensures

pub returns : goal.returns
returns c =
    let args = c.args in
    let none : args.end - c.loop-i.i ≡ 0 = omega arith in
    scanning-end c.loop-i.invariant (ap (run (closed (points args.list.now)) c.loop-i.i) none)
