-- Searching the numbers below a bound.
--     some p n      the test p passes at some number below n
--     every p n     it passes at every number below n
--     first p n     the least i below n at which it passes; n where it passes at none
-- What it means: `Sought` of the theory.
use Rattle.std.specs.Prelude.{Bool, true, false, ◌&&◌, ◌||◌, ℕ, zero, suc}

abbrev pub some : (ℕ → Bool) → ℕ → Bool
some p zero = false
some p (suc n) = some p n || p n

abbrev pub every : (ℕ → Bool) → ℕ → Bool
every p zero = true
every p (suc n) = every p n && p n

abbrev pub first : (ℕ → Bool) → ℕ → ℕ
first p zero = 0
first p (suc n) = let later = suc (first (λ i. p (suc i)) n) in elim (p 0) [ true ↦ 0 | false ↦ later ]
