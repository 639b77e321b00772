-- `packed_reply` meets its contract: the numbers are narrow, so that nothing is cut.
use mathlib.Core.Path.{◌≡◌}
use native.Mathlib.Omega.{arith}
use Prim.Native.Nat.{◌+◌, ◌<◌}
use lib.ListN.{length, get_or}
use Rattle.bytewise.specs.theory.Packed.{bounded, packed-parts}
use borrow.Author.Rules.{rules}
use Rattle.bytewise.proofs.packing.packed_reply.Goals as goal
use Rattle.bytewise.proofs.packing.packed_reply.Goals.{Start}

-- an array of three
three : (c : Start) → length c.args.reply.carried ≡ 3
three c = search rules

bounds : (c : Start) → let r = c.args.reply in
    (r.number < 256) × (get_or r.carried 0 0 < 256)
    × (get_or r.carried 1 0 + get_or r.values 0 0 < 65536) × (get_or r.carried 2 0 + get_or r.values 1 0 < 65536)
bounds c = let r = c.args.reply in bounded r.number r.count r.values r.carried (three c) c.requires

pub overflow_add-first : goal.overflow_add-first
overflow_add-first c = let b = bounds c.before.before in record { fits = omega (arith, b.0, b.1, b.2, b.3) }

pub overflow_add-second : goal.overflow_add-second
overflow_add-second c = let b = bounds c.before.before.before.before in record { fits = omega (arith, b.0, b.1, b.2, b.3) }

pub overflow_mul-result : goal.overflow_mul-result
overflow_mul-result c = let b = bounds c.before.before.before.before.before in record { fits = omega (arith, b.0, b.1, b.2, b.3) }

pub overflow_add-result : goal.overflow_add-result
overflow_add-result c = let b = bounds c.before.before.before.before.before in record { fits = omega (arith, b.0, b.1, b.2, b.3) }

pub overflow_mul-result-2 : goal.overflow_mul-result-2
overflow_mul-result-2 c = let b = bounds c.before.before.before.before.before in record { fits = omega (arith, b.0, b.1, b.2, b.3) }

pub overflow_add-result-2 : goal.overflow_add-result-2
overflow_add-result-2 c = let b = bounds c.before.before.before.before.before in record { fits = omega (arith, b.0, b.1, b.2, b.3) }

pub overflow_mul-result-3 : goal.overflow_mul-result-3
overflow_mul-result-3 c = let b = bounds c.before.before.before.before.before in record { fits = omega (arith, b.0, b.1, b.2, b.3) }

pub overflow_add-result-3 : goal.overflow_add-result-3
overflow_add-result-3 c = let b = bounds c.before.before.before.before.before in record { fits = omega (arith, b.0, b.1, b.2, b.3) }

pub returns : goal.returns
returns c = let r = c.args.reply in
    packed-parts r.number r.count r.values r.carried (three c.before.before.before.before.before)
