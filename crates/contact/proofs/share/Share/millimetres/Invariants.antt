use Prim.Native.Nat.{◌-◌, ◌*◌}
use Rattle.contact.proofs.theory.Found.{Spanned}
use Rattle.contact.proofs.share.Share.millimetres.Given as goal

abbrev pub invariant-loop-low : goal.invariant-loop-low
invariant-loop-low l = Spanned (l.self.numerator * l.self.numerator * l.length) (l.self.denominator * l.self.denominator) l.low l.high

abbrev pub decreases-loop-low : goal.decreases-loop-low
decreases-loop-low l = l.high - l.low
