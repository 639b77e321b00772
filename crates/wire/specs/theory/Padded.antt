-- What is written at the front of zeros.
--     told-padded     numbers before as many zeros as are left are the padded list
--     told-bits       numbers as whole numbers, and then as bits, are the numbers
use Rattle.std.specs.Prelude.{◌≡◌, refl, List, [], ◌∷◌, ◌++◌, map, ℕ, zero, suc, ◌≤◌, pos, length, drop}
use Rattle.std.proofs.Common.{ap, arith}
use Rattle.wire.specs.Told.{padded, bits}

pub told-padded : (k : ℕ) (l : List ℕ) → length l ≤ k → l ++ drop (length l) (padded k []) ≡ padded k l
told-padded k [] h = refl
told-padded zero (n ∷ l) h = absurd (omega arith)
told-padded (suc k) (n ∷ l) h = ap (λ (m : List ℕ). n ∷ m) (told-padded k l (omega arith))

pub told-bits : (l : List ℕ) → map bits (map (λ n. pos n) l) ≡ l
told-bits [] = refl
told-bits (n ∷ l) = ap (λ (m : List ℕ). n ∷ m) (told-bits l)
