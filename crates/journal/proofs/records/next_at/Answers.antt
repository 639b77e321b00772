-- `next_at` meets its contract: the length is read at the place, and the record is inside.
use mathlib.Core.Path.{◌≡◌, sym, ◌∙◌, ap}
use Prim.Native.Nat.{ℕ, ◌+◌}
use native.Mathlib.Omega.{arith}
use lib.ListN.{drop}
use Rattle.journal.specs.Format.{size}
use Rattle.journal.proofs.theory.Survey.{size-at, next-inside}
use Rattle.journal.proofs.records.next_at.Goals as goal
use Rattle.journal.proofs.records.next_at.Goals.{After-pair_at}

size-read : (c : After-pair_at) → let args = c.args in
    c.pair_at.result ≡ size (drop args.p args.log.now)
size-read c = c.pair_at.ensures.0 ∙ sym (size-at _ _)

pub pair_at-requires : goal.pair_at-requires
pair_at-requires c = omega (arith, next-inside _ c.args.p c.requires)

pub overflow_add-result-2 : goal.overflow_add-result-2
overflow_add-result-2 c = omega (arith, next-inside _ c.args.p c.requires, size-read c)

pub returns : goal.returns
returns c = ap (λ (k : ℕ). c.args.p + (2 + k)) (size-read c)
