-- `pack` meets its contract: with a table of all places or with none.
use Rattle.std.proofs.Common.{refl}
use Rattle.journal.proofs.theory.Marks.{marked_empty}
use Rattle.packing.proofs.pack.Goals as goal

pub mark-requires : goal.mark-requires
mark-requires c =
    (c.requires.0, c.serves.ensures c.if-serves.true, refl)

pub store-requires-2 : goal.store-requires-2
store-requires-2 c =
    let pre = c.requires in
    (pre.0, pre.1, marked_empty _ _)
