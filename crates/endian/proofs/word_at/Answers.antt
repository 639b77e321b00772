-- `word_at` meets its contract: two numbers of two bytes, the lower first.
use Rattle.std.proofs.Common.{arith, ◌∙◌, ap, to_z, to_z-of_z}
use Rattle.std.specs.Int.{w32}
use Rattle.endian.specs.Bytes.{pair_at, word_at}
use borrow.Author.Rules.{sfits_of}
use Rattle.endian.proofs.word_at.Goals as goal

pub returns : goal.returns
unfolding word_at pair_at
returns c =
    to_z-of_z {w = w32} (sfits_of c.from_le_bytes.type_inv) ∙ c.from_le_bytes.ensures ∙ ap (to_z w32) (grind arith)
