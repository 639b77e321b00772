-- `pair` meets its contract: two bytes, the lower first.
use Rattle.std.specs.Int.{w16, to_le_bytes}
use Rattle.std.proofs.Common.{arith}
use Rattle.journal.proofs.theory.Storing.{ran-byte-more, ran-pair-bytes}
use Rattle.storing.proofs.pair.Goals as goal

pub returns : goal.returns
returns c =
    let args = c.args in
    let is = c.to_le_bytes.ensures in
    ran-pair-bytes _ _
    (ran-byte-more args.p 1 (to_le_bytes w16 args.n) (omega arith) (rw is at c.byte-left.ensures) (rw is at c.byte.ensures))
