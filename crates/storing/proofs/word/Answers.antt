-- `word` meets its contract: four bytes, the lowest first.
use Rattle.std.specs.Int.{w32, to_le_bytes}
use Rattle.std.proofs.Common.{arith, of_z, to_z-of_z}
use Rattle.journal.proofs.theory.Storing.{ran-byte-more, ran-word-bytes}
use Rattle.storing.proofs.word.Goals as goal

pub returns : goal.returns
returns c =
    let args = c.args in
    let t = to_le_bytes w32 (of_z w32 args.z) in
    let is = rw (to_z-of_z {w = w32} c.ranges.z) at c.to_le_bytes.ensures in
    ran-word-bytes _ _ c.ranges.z
    (ran-byte-more args.p 3 t (omega arith)
    (ran-byte-more args.p 2 t (omega arith)
    (ran-byte-more args.p 1 t (omega arith) (rw is at c.byte-left.ensures) (rw is at c.byte-left-2.ensures))
    (rw is at c.byte-left-3.ensures)) (rw is at c.byte.ensures))
