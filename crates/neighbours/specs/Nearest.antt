-- The nearest current shape of a floor (document 02, W3 and W5: clearance, asked of all that a log holds). Our own.
--     shape_of r                    the corners of a record
--     is_as_near A r s               the shape of r is no further from A than that of s, as exact fractions
--     nearest_of A r rs             the first of the least of r and rs
--     nearest_numbers A rs          its name, and what clearance answers of A and that shape; nothing if there are no records
--     ask_nearest b l f but         the nearest to the shape l of the current shapes on floor f, the name `but` left out. Refused 1 to 5
-- and
--                                  15; then 20 if there is none
-- What it means: `Meaning.antt`.
use Rattle.std.specs.Prelude.{Bool, List, [], ◌∷◌, ℕ, ℤ, pos}
use Rattle.plane.specs.Point.{Point, points}
use Rattle.plane.specs.Clearance.{least_of, clearance_numbers}
use Rattle.plane.specs.Distance.{no_more, distance}
use Rattle.plane.specs.Floor.{on, corners, one_shape}
use Rattle.plane.specs.Question.{Question, asks}
use Rattle.journal.specs.Format.{records, name, content}
use Rattle.journal.specs.Reading.{damage_row}
use Rattle.journal.specs.Current.{around, too_few_row}

abbrev pub shape_of : List ℕ → List Point
shape_of r = corners (content r)

-- "distances compare as exact fractions"
unfoldable pub is_as_near : List Point → List ℕ → List ℕ → Bool
is_as_near A r s = no_more (distance A (shape_of r)) (distance A (shape_of s))

abbrev pub nearest_of : List Point → List ℕ → List (List ℕ) → List ℕ
nearest_of A r rs = least_of (is_as_near A) r rs

abbrev pub nearest_numbers : List Point → List (List ℕ) → List ℤ
nearest_numbers A [] = []
nearest_numbers A (r ∷ rs) = let near = nearest_of A r rs in pos (name near) ∷ clearance_numbers A (shape_of near)

abbrev pub ask_nearest : List ℕ → List ℤ → ℕ → ℕ → Question
ask_nearest b l f but =
    let rs = around f but (records b) in
    asks (one_shape (on l f)) (damage_row b ∷ too_few_row 1 rs ∷ []) (nearest_numbers (points l) rs)
