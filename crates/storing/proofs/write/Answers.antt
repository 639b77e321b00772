-- `write` meets its contract: the fields of a record one after the other, each where the one before it ends.
use mathlib.Core.Path.{◌≡◌, refl, ◌∙◌, ap}
use Prim.Native.Nat.{ℕ, ◌+◌, ◌*◌, ◌≤◌}
use native.Mathlib.Omega.{arith}
use lib.ListN.{length}
use Rattle.journal.proofs.theory.Kind.{fixed-floored}
use Rattle.journal.proofs.theory.Read.{recorded-length}
use Rattle.journal.proofs.theory.Storing.{ran-length, ran-pair, ran-recorded}
use Rattle.storing.proofs.write.Goals as goal
use Rattle.storing.proofs.write.Goals.{After-byte-left-2, After-fixed_bytes, After-pair-left-2, Start}

-- the record is inside the log
inside : (c : Start) → c.args.p + (9 + 4 * length c.args.list.now) ≤ length c.args.log.now
inside c = omega (arith, c.requires, recorded-length c.args.name c.args.floor c.args.list.now)

-- what the length counts besides the corners
fixed : (c : After-fixed_bytes) → c.fixed_bytes.result ≡ 7
fixed c = c.fixed_bytes.ensures ∙ fixed-floored 2 refl

-- the log is as long as it was, after two calls and after four
room-2 : (c : After-byte-left-2) →
    length c.byte-left-2.new.log ≡ length c.args.log.now
room-2 c = ran-length c.byte-left-2.ensures ∙ ran-length c.byte-left.ensures

room-4 : (c : After-pair-left-2) →
    length c.pair-left-2.new.log ≡ length c.args.log.now
room-4 c =
    ran-length c.pair-left-2.ensures ∙ ran-length c.pair-left.ensures ∙ room-2 (goal.at.After-pair-left-2 c).After-byte-left-2

pub overflow_add-size : goal.overflow_add-size
overflow_add-size c = omega (arith, inside (goal.at.overflow_add-size c).Start, fixed c)

pub overflow_add-last-2 : goal.overflow_add-last-2
overflow_add-last-2 c =
    omega (arith, inside (goal.at.overflow_add-last-2 c).Start, fixed (goal.at.overflow_add-last-2 c).After-fixed_bytes)

pub byte-left-requires : goal.byte-left-requires
byte-left-requires c = omega (arith, inside (goal.at.byte-left-requires c).Start)

pub byte-left-requires-2 : goal.byte-left-requires-2
byte-left-requires-2 c =
    omega (arith, inside (goal.at.byte-left-requires-2 c).Start, ran-length c.byte-left.ensures)

pub pair-left-requires : goal.pair-left-requires
pair-left-requires c =
    omega (arith, inside (goal.at.pair-left-requires c).Start, room-2 (goal.at.pair-left-requires c).After-byte-left-2)

pub pair-left-requires-2 : goal.pair-left-requires-2
pair-left-requires-2 c =
    omega (
      arith,
      inside (goal.at.pair-left-requires-2 c).Start,
      room-2 (goal.at.pair-left-requires-2 c).After-byte-left-2,
      ran-length
          c.pair-left.ensures,
    )

pub pair-left-requires-3 : goal.pair-left-requires-3
pair-left-requires-3 c =
    omega (arith, inside (goal.at.pair-left-requires-3 c).Start, room-4 (goal.at.pair-left-requires-3 c).After-pair-left-2)

pub words-left-requires : goal.words-left-requires
words-left-requires c =
    omega (
      arith,
      inside (goal.at.words-left-requires c).Start,
      room-4 (goal.at.words-left-requires c).After-pair-left-2,
      ran-length
          c.pair-left-3.ensures,
    )

pub byte-requires : goal.byte-requires
byte-requires c =
    let same = ran-length c.words-left.ensures ∙ ran-length c.pair-left-3.ensures ∙ room-4 (goal.at.byte-requires c).After-pair-left-2 in
    omega (arith, inside (goal.at.byte-requires c).Start, fixed (goal.at.byte-requires c).After-fixed_bytes)

pub returns : goal.returns
returns c =
    let args = c.args in
    let size = ap (λ (n : ℕ). n + 4 * length args.list.now) (fixed (goal.at.returns c).After-fixed_bytes) in
    ran-recorded args.p args.name args.floor args.list.now size (ran-pair _ _ c.byte-left.ensures c.byte-left-2.ensures)
    c.pair-left.ensures c.pair-left-2.ensures c.pair-left-3.ensures c.words-left.ensures c.byte.ensures
