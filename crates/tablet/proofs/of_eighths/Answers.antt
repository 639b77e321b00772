-- `of_eighths` meets its contract: small readings are not whole, all others are scaled exactly.
use Rattle.std.proofs.Common.{sym, ◌∙◌}
use lib.Ieee.{binary64, of_bits}
use lib.Ieee.Fits.{mul-fits}
use Rattle.tablet.proofs.theory.Reads.{small-not-whole, scaled-same}
use Rattle.tablet.proofs.of_eighths.Goals as goal

pub returns-then-is_small : goal.returns-then-is_small
returns-then-is_small c = small-not-whole c.args.v (sym c.is_small.ensures ∙ c.if-is_small.true)

pub of_millimetres-requires : goal.of_millimetres-requires
of_millimetres-requires c = mul-fits binary64 c.args.v _

pub returns : goal.returns
unfolding of_bits
returns c =
    c.of_millimetres.ensures
    ∙ scaled-same c.args.v c.requires (sym c.is_small.ensures ∙ c.if-is_small.false)
