-- The ticket's order of candidates (document 02, W3, "On a tie two corners go first, ..").
--     Listed A B c         the positions of c are in the shapes, and its corner falls strictly inside its edge: exactly those are in
--                          `candidates` (`candidate-is-listed`, `listed-is-candidate`)
--     Sooner i j k l       by the first number, then by the second
--     Earlier c d          c comes before d
--     AtOrAfter c d        d is c or comes after it
--     FirstOfLeast A B c   the ticket's rule for the answer: no candidate is nearer, and each that comes before c is further
-- What it means: of shapes that are apart, one candidate is the first of the least (`nearest-is-first-of-least`, `nearest-is-only-one`).
use Rattle.std.specs.Prelude.{◌≡◌, true, ◌⊎◌, List, ℕ, ◌<◌, ◌*ℤ◌, length, ◌≤ℤ◌, ◌<ℤ◌}
use Rattle.plane.specs.Point.{Point, corner}
use Rattle.plane.specs.Clearance.{falls_on, Candidate, corners, on_second, on_first, top, bottom}

abbrev pub Listed : List Point → List Point → Candidate → Type 0
Listed A B (corners i j) = (i < length A) × (j < length B)
Listed A B (on_second i e) = (i < length A) × (e < length B) × (falls_on B e (corner A i) ≡ true)
Listed A B (on_first j e) = (j < length B) × (e < length A) × (falls_on A e (corner B j) ≡ true)

abbrev pub Sooner : ℕ → ℕ → ℕ → ℕ → Type 0
Sooner i j k l = (i < k) ⊎ ((i ≡ k) × (j < l))

abbrev pub Earlier : Candidate → Candidate → Type 0
Earlier (corners i j) (corners k l) = Sooner i j k l
Earlier (corners i j) (on_second k l) = Unit {0}
Earlier (corners i j) (on_first k l) = Unit {0}
Earlier (on_second i j) (corners k l) = ⊥
Earlier (on_second i j) (on_second k l) = Sooner i j k l
Earlier (on_second i j) (on_first k l) = Unit {0}
Earlier (on_first i j) (corners k l) = ⊥
Earlier (on_first i j) (on_second k l) = ⊥
Earlier (on_first i j) (on_first k l) = Sooner i j k l

pub data AtOrAfter (c d : Candidate) : Type 0 where
  itself : d ≡ c → AtOrAfter c d
  after : Earlier c d → AtOrAfter c d

-- distances "compare as exact fractions": top over bottom of c and of d, multiplied out. The bottom of each is positive
-- (`candidate-is-a-fraction`)
pub record FirstOfLeast (A B : List Point) (c : Candidate) : Type 0 where
  pub is-listed : Listed A B c
  pub none-nearer : (d : Candidate) → Listed A B d → (top A B c *ℤ bottom A B d) ≤ℤ (top A B d *ℤ bottom A B c)
  pub earlier-further : (d : Candidate) → Listed A B d → Earlier d c → (top A B c *ℤ bottom A B d) <ℤ (top A B d *ℤ bottom A B c)
