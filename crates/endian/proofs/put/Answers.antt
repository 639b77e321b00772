-- `put` meets its contract: the four bytes stand side by side.
use Rattle.std.proofs.Common.{◌∙◌, arith, to_z-of_z}
use Rattle.std.specs.Int.{w32}
use Rattle.endian.specs.theory.Coded.{word-copied}
use Rattle.endian.proofs.put.Goals as goal

pub returns : goal.returns
returns c =
    word-copied c.args.z c.ranges.z _ _ _ _ (rw (to_z-of_z {w = w32} c.ranges.z) at (c.copy_from_slice.ensures.after
    ∙ c.to_le_bytes.ensures))
    (omega arith) (omega arith)
