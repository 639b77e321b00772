-- `is_whole` meets its contract: below 2^53 the whole part is a double exactly, and above it every double is whole.
use Rattle.std.proofs.Common.{ap, ◌∙◌, w64}
use lib.Ieee.{Float, binary64, of_bits, neg, eq, of_int}
use Rattle.integer.specs.Machine.{result-is}
use Rattle.tablet.proofs.theory.Tested.{cuttable, whole-tested, large-high, large-low}
use Rattle.tablet.proofs.doubles.is_whole.Goals as goal
use Rattle.tablet.proofs.doubles.is_whole.Goals.{else-v-via-then-v+else-v-2, else-v-via-else-v}

pub truncating_f64_to_i64-requires : goal.truncating_f64_to_i64-requires
unfolding of_bits neg
truncating_f64_to_i64-requires c =
    let p = cuttable c.args.v c.if-v.true c.if-v-2.true in
    record { lower_bound = p.0; upper_bound = p.1 }

pub returns-then-v-2 : goal.returns-then-v-2
unfolding of_bits neg
returns-then-v-2 c =
    let cut = result-is w64 c.truncating_f64_to_i64.type_inv c.truncating_f64_to_i64.ensures in
    ap (λ (x : Float). eq x c.args.v) (c.nearest_i64_to_f64.ensures ∙ ap (of_int binary64) cut)
    ∙ whole-tested c.args.v c.requires.1 c.if-v.true c.if-v-2.true

pub returns : goal.returns
unfolding of_bits neg
returns c = elim c.else-v.branch [
  | else-v-via-then-v+else-v-2 w ↦ large-high c.args.v c.requires.0 c.requires.1 w.if-v.true w.if-v-2.false
  | else-v-via-else-v w ↦ large-low c.args.v c.requires.0 c.requires.1 w.if-v.false
]
