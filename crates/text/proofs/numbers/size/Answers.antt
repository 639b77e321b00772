-- `size` meets its contract: each digit keeps the invariant or ends the loop.
use Rattle.std.proofs.Common.{◌∙◌, ◌+◌, ◌<◌, sym, ap, refl, arith, drop, length, slice_index}
use Rattle.std.proofs.lemmas.List.{drop_more, drop_all}
use Rattle.std.proofs.lemmas.Bool.Decides.{nat_tests}
use Rattle.text.proofs.Numeral.{sized, sized-more, sized-none, sized-end, sized-all}
use Rattle.text.proofs.numbers.size.Goals as goal

pub loop-byte-init : goal.loop-byte-init
loop-byte-init c = (omega arith, refl)

pub returns-in_err-size : goal.returns-in_err-size
returns-in_err-size c =
    let ds = c.args.digits.now in
    let i = c.loop-byte.byte-index in
    let n = c.loop-byte.size in
    let e = sized-none n (slice_index ds i) (drop (i + 1) ds) (sym c.in_err-size.was ∙ c.grown.ensures) in
    c.from_residual.ensures ∙ sym e ∙ sym (ap (sized n) (drop_more ds i 0 c.loop-byte-test.true)) ∙ c.loop-byte.invariant.1
    ∙ sym (sized-all ds (omega (arith, c.loop-byte-test.true)))

pub loop-byte-preserved : goal.loop-byte-preserved
loop-byte-preserved c =
    let ds = c.args.digits.now in
    let i = c.loop-byte.byte-index in
    let n = c.loop-byte.size in
    let e = sized-more n (slice_index ds i) c.in_ok-size.size (drop (i + 1) ds) (sym c.in_ok-size.was ∙ c.grown.ensures) in
    (e.0, sym e.1 ∙ sym (ap (sized n) (drop_more ds i 0 c.loop-byte-test.true)) ∙ c.loop-byte.invariant.1)

pub returns : goal.returns
returns c =
    let ds = c.args.digits.now in
    let n = c.loop-byte.size in
    let some : 0 < length ds = grind (arith, nat_tests, c.if-is_empty.false, c.is_empty.ensures) in
    sym (sized-end n c.loop-byte.invariant.0) ∙ sym (ap (sized n) (drop_all c.loop-byte.byte-index ds c.loop-byte-test.false))
    ∙ c.loop-byte.invariant.1 ∙ sym (sized-all ds some)
