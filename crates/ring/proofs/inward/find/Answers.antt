-- `find` meets its contract. The invariant: no corner before i turns in.
use mathlib.Core.Path.{sym, ◌∙◌}
use native.Mathlib.Omega.{arith}
use Rattle.plane.proofs.theory.lists.Sought.{sought-found, sought-none}
use Rattle.ring.specs.Ring.{first_inward}
use Rattle.ring.proofs.inward.find.Goals as goal

pub returns-then-turns_in : goal.returns-then-turns_in
unfolding first_inward
returns-then-turns_in c =
    sym (sought-found _ _ c.loop-i.i c.loop-i.invariant c.loop-i-test.true
    (sym c.turns_in.ensures ∙ c.if-turns_in.true))

pub returns : goal.returns
unfolding first_inward
returns c = sym (sought-none _ _ c.loop-i.i c.loop-i.invariant (omega (arith, c.loop-i-test.false)))
