-- `previous` meets its contract.
use native.Mathlib.Omega.{arith}
use borrow.Author.Tests.{eq-eqb, ne_eqb}
use Rattle.ring.proofs.turns.previous.Goals as goal

pub returns-then-i-eq0 : goal.returns-then-i-eq0
returns-then-i-eq0 c = record { value = simp (eq-eqb _ _ c.if-i-eq0.true); upper_bound = omega arith }

pub returns-else-i-eq0 : goal.returns-else-i-eq0
returns-else-i-eq0 c = record { value = simp (ne_eqb _ _ c.if-i-eq0.false); upper_bound = omega arith }
