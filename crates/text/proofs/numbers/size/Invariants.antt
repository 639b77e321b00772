-- What is left stands, after what was read, for what all digits stand for.
use Rattle.std.proofs.Common.{◌≡◌, ◌≤◌, drop}
use Rattle.text.proofs.Numeral.{sized}
use Rattle.text.proofs.numbers.size.Given as goal

abbrev pub invariant-loop-byte : goal.invariant-loop-byte
invariant-loop-byte l = (l.size ≤ 2147483648) × (sized l.size (drop l.byte-index l.digits) ≡ sized 0 l.digits)
