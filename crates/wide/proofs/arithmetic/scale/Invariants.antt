use Rattle.wide.specs.theory.Carry.{Scaling}
use Rattle.wide.proofs.arithmetic.scale.Given as goal

abbrev pub invariant-loop-i : goal.invariant-loop-i
invariant-loop-i l = Scaling l.a l.w l.out l.carry l.i
