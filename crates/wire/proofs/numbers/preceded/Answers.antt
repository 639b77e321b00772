-- `preceded` meets its contract: an answer has at most nine values, and there were fewer.
use mathlib.Core.Path.{◌≡◌}
use lib.ListN.{length}
use Rattle.wire.specs.theory.Precede.{precede}
use borrow.Author.Rules.{rules}
use Rattle.wire.proofs.numbers.preceded.Goals as goal
use Rattle.wire.proofs.numbers.preceded.Goals.{Start}

-- an array of three
three : (c : Start) → length c.args.reply.carried ≡ 3
three c = search rules

pub returns : goal.returns
returns c =
    let r = c.args.reply in
    precede c.args.value r.number r.count r.carried r.values (three c.before.before.before.before.before.before.before.before.before)
