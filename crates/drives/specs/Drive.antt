-- The first current shape of a floor that a cart meets on a straight drive. Our own, not of documents 01 and 02. A is the cart's outline,
-- relative to its own origin, whose place goes from t to u; rs are the current records of the floor, in the log's order.
--     is_met A t u r          the way meets the shape of the record r, grown by the outline
--     is_as_soon A t u r s     where both are met: that of r no later than that of s, as exact fractions
--     first_met A t u r rs    the first of the soonest of r and rs
--     drive_numbers A t u rs  what is answered: 0 if no shape is met; else 1, the name, and contact's fraction and safe millimetres
--     ask_drive b cart t u    the question: refused 1 to 5 of the cart, 15, 20 for no shape on the floor, 3 of the places, then 6 and 7 of
--                            the grown shapes, shape by shape
-- What it means: `Meaning.antt`.
use Rattle.std.specs.Prelude.{Bool, not, List, [], ◌∷◌, ℕ, ℤ, pos}
use Rattle.plane.specs.Point.{Point}
use Rattle.plane.specs.Reply.{Row}
use Rattle.plane.specs.Separation.{apart}
use Rattle.plane.specs.Clearance.{least_of}
use Rattle.plane.specs.Distance.{no_more}
use Rattle.plane.specs.Floor.{Floored, corners, one_shape}
use Rattle.plane.specs.Question.{Question, asks}
use Rattle.journal.specs.Format.{name}
use Rattle.journal.specs.Reading.{damage_row}
use Rattle.journal.specs.Current.{keep, too_few_row}
use Rattle.motion.specs.Contact.{contact, safe, place_row}
use Rattle.gaps.specs.Gap.{grown_of, on_floor, size_rows_of}

unfoldable pub is_met : List Point → Point → Point → List ℕ → Bool
is_met A t u r = not (apart (t ∷ u ∷ []) (grown_of A r))

unfoldable pub is_as_soon : List Point → Point → Point → List ℕ → List ℕ → Bool
is_as_soon A t u r s = no_more (contact t u (grown_of A r)) (contact t u (grown_of A s))

abbrev pub first_met : List Point → Point → Point → List ℕ → List (List ℕ) → List ℕ
first_met A t u r rs = least_of (is_as_soon A t u) r rs

-- of one shape that is met: its name, and what contact answers after its 1
abbrev pub met_numbers : List Point → Point → Point → List ℕ → List ℤ
met_numbers A t u r =
    let c = contact t u (grown_of A r) in
    pos 1 ∷ pos (name r) ∷ c.numerator ∷ c.denominator ∷ pos (safe t u (grown_of A r)) ∷ []

-- of all that are met
abbrev pub soonest_numbers : List Point → Point → Point → List (List ℕ) → List ℤ
soonest_numbers A t u [] = pos 0 ∷ []
soonest_numbers A t u (r ∷ rs) = met_numbers A t u (first_met A t u r rs)

abbrev pub drive_numbers : List Point → Point → Point → List (List ℕ) → List ℤ
drive_numbers A t u rs = soonest_numbers A t u (keep (is_met A t u) rs)

-- ---- the question

-- the place of departure is the second list of the question, the destination the third
abbrev pub drive_rows : List ℕ → Floored → Point → Point → List Row
drive_rows b cart t u =
    let rs = on_floor cart.floor b in
    damage_row b ∷ too_few_row 1 rs ∷ place_row 2 t ∷ place_row 3 u ∷ size_rows_of (corners cart) rs

abbrev pub ask_drive : List ℕ → Floored → Point → Point → Question
ask_drive b cart t u = asks (one_shape cart) (drive_rows b cart t u) (drive_numbers (corners cart) t u (on_floor cart.floor b))
