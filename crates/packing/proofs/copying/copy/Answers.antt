-- `copy` meets its contract. The invariant: i bytes are copied.
use Rattle.std.specs.Prelude.{drop}
use Rattle.std.proofs.Common.{sym, arith, length-drop, get_or-drop, length-take-le}
use Rattle.packing.specs.theory.Copying.{copied_none, copied-length, copied-few, copied_more}
use Rattle.packing.proofs.copying.copy.Goals as goal

pub loop-i-init : goal.loop-i-init
loop-i-init c = copied_none _ _ _ _

-- no more stores are needed than there were bytes
pub mend-count-requires : goal.mend-count-requires
mend-count-requires c =
    let s = drop c.args.p c.args.old.now in
    let count = length-take-le c.loop-i.i s (omega (arith, c.requires.0, length-drop c.args.p c.args.old.now)) in (
      omega (arith, c.loop-i-test.true, c.requires.1, copied-length c.loop-i.invariant),
      omega (arith, copied-few c.loop-i.invariant, count, c.requires.2),
    )

pub loop-i-preserved : goal.loop-i-preserved
loop-i-preserved c =
    let more = c.loop-i-test.true in
    let old = c.args.old.now in
    copied_more (drop c.args.p old) c.loop-i.i c.loop-i.invariant
    (omega (arith, more, c.requires.0, length-drop c.args.p old)) (omega (arith, more, c.requires.1))
    (sym (get_or-drop c.args.p old c.loop-i.i 0)) c.mend-count.ensures
