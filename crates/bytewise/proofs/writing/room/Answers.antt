-- `room` meets its contract.
use native.Mathlib.Omega.{arith}
use Rattle.bytewise.proofs.writing.room.Goals as goal

pub returns-then-most-n : goal.returns-then-most-n
returns-then-most-n c = (omega arith, record { holds = λ n h. omega (arith, h, c.if-most-n.true); enough = λ n h k. omega (arith, h) })

pub returns : goal.returns
returns c = (omega (arith, c.if-most-n.false), record { holds = λ n h. omega (arith, h); enough = λ n h k. omega (arith, k) })
