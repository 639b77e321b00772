-- `turned_by` meets its contract, ahead of the start or past the end.
use mathlib.Core.Path.{◌≡◌, sym}
use Prim.Native.Nat.{◌+◌, ◌-◌, ◌<◌}
use native.Mathlib.Omega.{arith}
use Rattle.plane.specs.Cycle.{turned}
use Rattle.plane.proofs.theory.lists.Turned.{Turned, ahead, round, turned-cases}
use Rattle.ring.proofs.standard.turned_by.Goals as goal

pub overflow_add-result : goal.overflow_add-result
overflow_add-result c = omega (arith, c.well_formed.0)

pub returns-then-by-ahead : goal.returns-then-by-ahead
returns-then-by-ahead c = let args = c.args in go (turned-cases args.n args.start args.by)
  where
    go : Turned c.args.n c.args.start c.args.by
        → (c.args.start + c.args.by ≡ turned c.args.n c.args.start c.args.by)
        × (c.args.start + c.args.by < c.args.n)
    go (ahead l e) = (sym e, l)
    go (round l e) = absurd (omega (arith, c.if-by-ahead.true, c.requires.0))

pub returns : goal.returns
returns c = let args = c.args in go (turned-cases args.n args.start args.by)
  where
    go : Turned c.args.n c.args.start c.args.by
        → (c.args.by - (c.args.n - c.args.start)
        ≡ turned c.args.n c.args.start c.args.by)
        × (c.args.by - (c.args.n - c.args.start) < c.args.n)
    go (ahead l e) = absurd (omega (arith, c.if-by-ahead.false, c.requires.0))
    go (round l e) = (omega (arith, c.requires.0), omega (arith, c.requires.0, c.requires.1))
