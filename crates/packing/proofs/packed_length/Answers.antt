-- `packed_length` meets its contract: with a table of all places or with none.
use Rattle.std.proofs.Common.{refl}
use Rattle.journal.proofs.theory.Marks.{marked_empty}
use Rattle.packing.proofs.packed_length.Goals as goal

pub mark-requires : goal.mark-requires
mark-requires c =
    (c.requires, c.serves.ensures c.if-serves.true, refl)

pub measure-requires-2 : goal.measure-requires-2
measure-requires-2 c = (c.requires, marked_empty _ _)
