-- The greatest common divisor of two numbers (document 02, request W12: "a common divisor above 1").
--     gcd a b       by Euclid's remainders; of a number and 0 it is the number
--     Gcd a b g     g is the greatest common divisor of a and b as number theory says it
-- What it means: `gcd-is` and `gcd-unique` of `Euclid.antt`, the one is the other.
use Rattle.std.specs.Prelude.{ℕ, zero, suc, ◌%◌}
use Rattle.std.specs.Int.{◌∣◌}

-- the remainder of each step is less than the number divided by, so that b steps are enough for a and b
unfoldable pub euclid : ℕ → ℕ → ℕ → ℕ
euclid zero a b = a
euclid (suc steps) a zero = a
euclid (suc steps) a (suc b) = euclid steps (suc b) (a % suc b)

unfoldable pub gcd : ℕ → ℕ → ℕ
unfolding euclid
gcd a b = euclid b a b

-- "divides both; every common divisor divides it"
pub record Gcd (a b g : ℕ) : Type 0 where
  pub divides-left : g ∣ a
  pub divides-right : g ∣ b
  pub greatest : (k : ℕ) → k ∣ a → k ∣ b → k ∣ g
