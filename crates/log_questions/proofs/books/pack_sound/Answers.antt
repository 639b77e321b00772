-- `pack_sound` meets its contract: too little room, or the stores are made.
use Prim.Native.Nat.{◌≤◌}
use native.Mathlib.Omega.{arith}
use lib.ListN.{length}
use Rattle.packing.specs.Packing.{packed}
use Rattle.log_questions.specs.theory.Packing.{pack-full, pack-done}
use Rattle.log_questions.proofs.books.pack_sound.Goals as goal
use Rattle.log_questions.proofs.books.pack_sound.Goals.{Else-new-packed_length}

-- the packed log has room
room : (c : Else-new-packed_length) → let args = c.args in
    length (packed args.old.now args.but) ≤ length args.new.now
room c = omega (arith, c.if-new-packed_length.false, c.packed_length.ensures)

pub returns-then-new-packed_length : goal.returns-then-new-packed_length
returns-then-new-packed_length c =
    pack-full c.args.old.now c.args.but c.args.new.now c.args.allowed c.requires
    (omega (arith, c.if-new-packed_length.true, c.packed_length.ensures))

pub pack-requires : goal.pack-requires
pack-requires c = (c.requires, room (goal.at.pack-requires c).Else-new-packed_length)

pub returns-then-pack : goal.returns-then-pack
returns-then-pack c =
    pack-done _ _ _ _ c.requires (room (goal.at.returns-then-pack c).Else-new-packed_length) c.if-pack.true c.pack.ensures.0
    c.pack.ensures.1

pub returns-else-pack : goal.returns-else-pack
returns-else-pack c =
    pack-done _ _ _ _ c.requires (room (goal.at.returns-else-pack c).Else-new-packed_length) c.if-pack.false c.pack.ensures.0
    c.pack.ensures.1
