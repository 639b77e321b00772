-- `decode` meets its contract. The invariant: i numbers are read.
use Rattle.std.proofs.Common.{sym, ◌∙◌, arith, to_z-of_z}
use Rattle.std.specs.Int.{w32}
use borrow.Author.Rules.{sfits_of}
use Rattle.plane.proofs.theory.lists.Filled.{filled_put, filled-done}
use Rattle.endian.specs.theory.Bytes.{words_at-length, words_at-at}
use Rattle.endian.proofs.decode.Goals as goal

pub loop-i-preserved : goal.loop-i-preserved
loop-i-preserved c =
    let taken = c.loop-i-test.true in
    let count = words_at-length c.args.bytes.now c.args.n c.args.p in
    filled_put c.loop-i.invariant (omega arith) (omega arith)
    (to_z-of_z {w = w32} (sfits_of c.word_at.type_inv) ∙ c.word_at.ensures
    ∙ sym (words_at-at c.args.bytes.now c.args.n c.args.p c.loop-i.i taken))

pub returns : goal.returns
returns c = let count = words_at-length c.args.bytes.now c.args.n c.args.p in filled-done c.loop-i.invariant (omega arith)
