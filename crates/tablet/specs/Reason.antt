-- Why a reading is refused (document 02, W4, "Refuse 17 for a value that is not finite, 18 if not whole, then 3 for range"), by its exact
-- value alone: top / bottom, which is m · 2^e of the double `fin s m e` over the reading's unit. No test of the table is named here.
--     Equals r z      the exact value in millimetres is the whole number z
--     Accepted r z    "Accept it exactly if it is finite, its exact value in millimetres is whole, and it is in range": this whole number
--     Reason r n      the reason that the ticket gives for refusal n
--     Blamed x y n c  "x is judged wholly before y, and a refusal says which of them it was": 1 or 2, which is all that c holds
-- What it means: a corner is refused n with c exactly if it is so blamed (`refused-for-reason`, `reason-refuses`).
use Rattle.std.specs.Prelude.{◌≡◌, ℕ, true, false, List, [], ◌∷◌, ℤ, pos, ◌*ℤ◌}
use Rattle.integer.specs.Bound.{Within}
use Rattle.plane.specs.Limits.{max_coordinate}
use Rattle.tablet.specs.Double.{finite}
use Rattle.tablet.specs.Reading.{double, top, bottom}
use Rattle.tablet.specs.declared.reading.Reading.{Reading}

abbrev pub Equals : Reading → ℤ → Type 0
Equals r z = top r ≡ z *ℤ pos (bottom r)

abbrev pub Accepted : Reading → ℤ → Type 0
Accepted r z = (finite (double r) ≡ true) × Equals r z × Within max_coordinate z

pub data Reason (r : Reading) (n : ℕ) : Type 0 where
  not-finite : n ≡ 17 → finite (double r) ≡ false → Reason r n
  not-whole : n ≡ 18 → finite (double r) ≡ true → ((z : ℤ) → Equals r z → ⊥) → Reason r n
  out_of_range : n ≡ 3 → finite (double r) ≡ true → (z : ℤ) → Equals r z → (Within max_coordinate z → ⊥) → Reason r n

pub data Blamed (x y : Reading) (n : ℕ) (carries : List ℕ) : Type 0 where
  first : carries ≡ 1 ∷ [] → Reason x n → Blamed x y n carries
  second : carries ≡ 2 ∷ [] → (z : ℤ) → Accepted x z → Reason y n → Blamed x y n carries
