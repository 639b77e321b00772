-- What checks need to know of lengths, and of a flag that is added to a number.
--     lengths      a list has half as many corners as numbers
--     added        the next number if the flag is set
use Rattle.std.specs.Prelude.{◌≡◌, refl, Bool, true, false, cond, ℕ, ◌+◌}
use Rattle.std.proofs.Common.{add-zero}
use Rattle.std.specs.Int.{from_bool}
use Rattle.plane.proofs.theory.lists.Flat.{points-length}

pub ruleset lengths = points-length

pub added : (b : Bool) (n : ℕ) → n + from_bool b ≡ cond b (n + 1) n
added true n = refl
added false n = add-zero n
