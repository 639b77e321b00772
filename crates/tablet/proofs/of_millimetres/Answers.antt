-- `of_millimetres` meets its contract, test by test. What passes 31 bits is out of range.
use Rattle.std.specs.Prelude.{Ok}
use Rattle.std.proofs.Common.{◌≡◌, true, sym, ap, ◌∙◌, w32}
use Rattle.integer.specs.Machine.{result-is}
use Rattle.plane.specs.Refusal.{outside}
use Rattle.tablet.specs.Double.{finite}
use Rattle.tablet.specs.Test.{whole, short, truncated}
use Rattle.tablet.proofs.theory.Reads.{read-not-finite, read-not-whole, read-far, read-near, short-far}
use Rattle.tablet.proofs.of_millimetres.Goals as goal
use Rattle.tablet.proofs.of_millimetres.Goals.{After-outside, Else-not-is_finite, Else-not-is_short, Else-not-is_whole}

-- what each test that was passed says
is_finite : (c : Else-not-is_finite) → finite c.args.v ≡ true
is_finite c = sym c.is_finite.ensures ∙ c.if-not-is_finite.false

is_whole : (c : Else-not-is_whole) → whole c.args.v ≡ true
is_whole c = sym c.is_whole.ensures ∙ c.if-not-is_whole.false

is-short : (c : Else-not-is_short) → short c.args.v ≡ true
is-short c = sym c.is_short.ensures ∙ c.if-not-is_short.false

-- whether the number is out of range
is-outside : (c : After-outside)
    → c.outside.result ≡ outside (truncated c.args.v)
is-outside c = c.outside.ensures ∙ ap outside (result-is w32 c.number-n.type_inv c.number-n.ensures)

pub returns-then-not-is_finite : goal.returns-then-not-is_finite
returns-then-not-is_finite c = read-not-finite _ (sym c.is_finite.ensures ∙ c.if-not-is_finite.true)

pub is_whole-requires : goal.is_whole-requires
is_whole-requires c = (c.requires, is_finite c)

pub returns-then-not-is_whole : goal.returns-then-not-is_whole
returns-then-not-is_whole c = read-not-whole _ (is_finite c.before.before) (sym c.is_whole.ensures ∙ c.if-not-is_whole.true)

pub is_short-requires : goal.is_short-requires
is_short-requires c = is_finite c.before.before

pub returns-then-not-is_short : goal.returns-then-not-is_short
returns-then-not-is_short c =
    read-far _ (is_finite c.before.before.before.before) (is_whole c.before.before)
    (short-far _ (sym c.is_short.ensures ∙ c.if-not-is_short.true))

pub number-n-requires : goal.number-n-requires
number-n-requires c = (is_finite c.before.before.before.before, is_whole c.before.before, is-short c)

pub returns-then-outside : goal.returns-then-outside
returns-then-outside c =
    read-far _ (is_finite c.before.before.before.before.before.before.before) (is_whole c.before.before.before.before.before)
    (sym (is-outside c.before) ∙ c.if-outside.true)

pub returns : goal.returns
returns c =
    ap Ok (result-is w32 c.number-n.type_inv c.number-n.ensures)
    ∙ read-near _ (is_finite c.before.before.before.before.before.before.before) (is_whole c.before.before.before.before.before)
    (sym (is-outside c.before) ∙ c.if-outside.false)
