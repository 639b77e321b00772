-- `words` meets its contract. The invariant: i numbers are written.
use Rattle.std.proofs.Common.{arith, rules}
use Rattle.journal.proofs.theory.Storing.{ran-start, ran-more}
use Rattle.storing.proofs.words.Goals as goal

pub loop-i-init : goal.loop-i-init
loop-i-init c = ran-start _ _ _

pub loop-i-preserved : goal.loop-i-preserved
loop-i-preserved c =
    let args = c.args in
    ran-more args.p c.loop-i.i args.list.now (omega (arith, c.loop-i-test.true)) (search rules) c.loop-i.invariant c.word-left.ensures
