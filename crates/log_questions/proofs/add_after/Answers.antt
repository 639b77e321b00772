-- `add_after` meets its contract: too little room, or the stores are made.
use mathlib.Core.Path.{sym, ◌∙◌}
use Prim.Native.Nat.{◌+◌, ◌-◌, ◌≤◌}
use native.Mathlib.Omega.{arith}
use borrow.Author.Tests.{ltb-true, ltb-false}
use lib.ListN.{length}
use Rattle.journal.specs.Format.{recorded}
use Rattle.journal.proofs.theory.Records.{end-le}
use Rattle.log_questions.specs.theory.Logs.{add-full, add_done}
use Rattle.log_questions.proofs.add_after.Goals as goal
use Rattle.log_questions.proofs.add_after.Goals.{Else-is_full}

-- the record has room
room : (c : Else-is_full) → let args = c.args in
    args.end + length (recorded args.name args.floor args.list.now) ≤ length args.log.now
room c =
    let args = c.args in
    let end = c.requires.2 in
    let large = ltb-false (length args.log.now - args.end) (length (recorded args.name args.floor args.list.now))
    (sym (c.is_full.ensures args.name args.floor) ∙ c.if-is_full.false) in
    omega (arith, large, end, end-le args.log.now)

pub is_full-requires : goal.is_full-requires
is_full-requires c =
    let end = c.requires.2 in omega (arith, end, end-le c.args.log.now)

pub returns-then-is_full : goal.returns-then-is_full
returns-then-is_full c =
    let args = c.args in
    let end = c.requires.2 in
    let small = ltb-true (length args.log.now - args.end) (length (recorded args.name args.floor args.list.now))
    (sym (c.is_full.ensures args.name args.floor) ∙ c.if-is_full.true) in
    add-full _ _ _ _ _ c.requires.0 c.requires.1 (omega (arith, small, end))

pub add-requires : goal.add-requires
add-requires c = (c.requires.2, room c.before)

pub returns-then-add : goal.returns-then-add
returns-then-add c =
    let end = c.requires.2 in
    add_done _ _ _ _ _ c.requires.0 c.requires.1 (omega (arith, room (goal.at.returns-then-add c).Else-is_full, end)) c.if-add.true
    c.add.ensures.0
    c.add.ensures.1

pub returns-else-add : goal.returns-else-add
returns-else-add c =
    let end = c.requires.2 in
    add_done _ _ _ _ _ c.requires.0 c.requires.1 (omega (arith, room (goal.at.returns-else-add c).Else-is_full, end)) c.if-add.false
    c.add.ensures.0
    c.add.ensures.1
