-- Refusals 6, 7 and 8 of an answer that is not written yet, by its size. Our own, not of document 01.
--     sized_rows n far        6 and 7 of an answer of n corners, of which some are out of range or none
--     fit_rows n far room     these, and 8 for an output of `room` numbers
-- What it means: `sized_rows_lem`, `fit-judged` of the theory: every shape of that size is judged by them.
use Rattle.std.specs.Prelude.{Bool, List, [], ◌∷◌, ◌++◌, ℕ, ◌*◌, ltb}
use Rattle.plane.specs.Limits.{max_corners}
use Rattle.plane.specs.Reply.{Row, row}

abbrev pub sized_rows : ℕ → Bool → List Row
sized_rows n far = row 6 (ltb max_corners n) [] ∷ row 7 far [] ∷ []

abbrev pub fit_rows : ℕ → Bool → ℕ → List Row
fit_rows n far room = sized_rows n far ++ (row 8 (ltb room (2 * n)) [] ∷ [])
