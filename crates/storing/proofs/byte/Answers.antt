-- `byte` meets its contract: one store, if one is left.
use native.Mathlib.Omega.{arith}
use Rattle.journal.proofs.theory.Storing.{ran-byte}
use Rattle.storing.proofs.byte.Goals as goal

pub returns : goal.returns
returns c = ran-byte _ _ _ _ (omega (arith, c.if-left-eq0.false))
