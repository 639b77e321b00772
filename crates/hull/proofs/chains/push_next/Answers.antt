-- `push_next` meets its contract: the order of the two corners says which one is pushed, and what is read.
use Rattle.std.proofs.Common.{◌+◌, ◌^◌, sym, ap, ap₂, subst, arith, Bool, cond, ℤ}
use Rattle.polygon.specs.Point.{at, Small}
use Rattle.sorting.specs.Order.{order}
use Rattle.hull.specs.theory.Peak.{closed-small}
use Rattle.hull.specs.theory.Reading.{sign-less, sign-equal, sign-greater, stepped-first, stepped-second}
use Rattle.hull.proofs.chains.push_next.Goals as goal

pub push-requires : goal.push-requires
push-requires c =
    let line = c.requires.0 in (
      c.requires.2,
      c.requires.3,
      subst (Small (2 ^ 21)) (sym c.closed_at-p.ensures)
          (closed-small c.args.a.now line.near line.some c.args.i (omega (arith, line.within))),
    )

pub push-requires-in-Equal : goal.push-requires-in-Equal
push-requires-in-Equal c =
    let line = c.requires.0 in (
      c.requires.2,
      c.requires.3,
      subst (Small (2 ^ 21)) (sym c.closed_at-p.ensures)
          (closed-small c.args.a.now line.near line.some c.args.i (omega (arith, line.within))),
    )

pub push-requires-in-Greater : goal.push-requires-in-Greater
push-requires-in-Greater c =
    let line = c.requires.1 in (
      c.requires.2,
      c.requires.3,
      subst (Small (2 ^ 21)) (sym c.closed_at-q.ensures)
          (closed-small c.args.b.now line.near line.some c.args.j (omega (arith, line.within))),
    )

pub returns-in-Less : goal.returns-in-Less
returns-in-Less c =
    let z : ℤ = order c.args.up (at c.closed_at-p.result) (at c.closed_at-q.result) in
    let sign = sign-less z c.in-Less.ensures in
    stepped-first (ap₂ (order c.args.up) c.closed_at-p.ensures c.closed_at-q.ensures) c.push.ensures sign.0 c.closed_at-p.ensures
    (sym (ap (λ (t : Bool). cond t (c.args.j + 1) c.args.j) sign.1))

pub returns-in-Equal : goal.returns-in-Equal
returns-in-Equal c =
    let z : ℤ = order c.args.up (at c.closed_at-p.result) (at c.closed_at-q.result) in
    let sign = sign-equal z c.in-Equal.ensures in
    stepped-first (ap₂ (order c.args.up) c.closed_at-p.ensures c.closed_at-q.ensures) c.push-in-Equal.ensures sign.0 c.closed_at-p.ensures
    (sym (ap (λ (t : Bool). cond t (c.args.j + 1) c.args.j) sign.1))

pub returns-in-Greater : goal.returns-in-Greater
returns-in-Greater c =
    let z : ℤ = order c.args.up (at c.closed_at-p.result) (at c.closed_at-q.result) in
    stepped-second (ap₂ (order c.args.up) c.closed_at-p.ensures c.closed_at-q.ensures) c.push-in-Greater.ensures
    (sign-greater z c.in-Greater.ensures) c.closed_at-q.ensures
