-- The narrowest gap of a floor: over all pairs of current shapes of a log on one floor, grown by a cart's outline, the first pair of the
-- least distance. Our own, not of documents 01 and 02. A is the outline, relative to the cart's own origin; the point 0 0 asks the gap
-- of the shapes as they are.
--     grown_of A r       the shape of the record r, grown by the outline
--     pairs_of xs        each with every later one: by the first, then by the second, in the list's order
--     gap_of A p         the squared distance of a pair of records, both grown: 0 if they are not apart
--     no_wider A p q     the gap of p is at most that of q, as exact fractions
--     narrowest A ps    the first of the least, if there is a pair; so the first pair that is not apart, if there is one
--     size_rows_of A rs   6 and 7 shape by shape, in the log's order
--     gap_numbers A rs   what is answered: both names, and clearance's numbers of both grown shapes
--     ask_gap b cart     the question: refused 1 to 5 of the cart, 15, 20 for fewer than two shapes, then 6 and 7
-- What it means: `Meaning.antt`.
use Rattle.std.specs.Prelude.{Bool, List, [], ◌∷◌, ◌++◌, map, ℕ, ℤ, pos}
use Rattle.plane.specs.Point.{Point}
use Rattle.plane.specs.Reply.{Row}
use Rattle.plane.specs.Output.{size_rows}
use Rattle.plane.specs.Clearance.{least_of, clearance_numbers}
use Rattle.plane.specs.Distance.{Fraction, no_more, distance}
use Rattle.plane.specs.Floor.{Floored, corners, one_shape}
use Rattle.plane.specs.Question.{Question, asks}
use Rattle.growth.specs.Grown.{grown}
use Rattle.journal.specs.Format.{records, name, content}
use Rattle.journal.specs.Reading.{damage_row}
use Rattle.journal.specs.Current.{around, too_few_row}

unfoldable pub grown_of : List Point → List ℕ → List Point
grown_of A r = grown (corners (content r)) A

-- two records of a log, the earlier one first
abbrev pub Pair : Type 0
Pair = List ℕ × List ℕ

abbrev pub pairs_of : List (List ℕ) → List Pair
pairs_of [] = []
pairs_of (r ∷ rs) = map (λ s. (r, s)) rs ++ pairs_of rs

unfoldable pub gap_of : List Point → Pair → Fraction
gap_of A p = distance (grown_of A p.0) (grown_of A p.1)

abbrev pub no_wider : List Point → Pair → Pair → Bool
no_wider A p q = no_more (gap_of A p) (gap_of A q)

-- a pair, or none
pub data Kept : Type 0 where
  no_pair : Kept
  the_pair : Pair → Kept

abbrev pub narrowest : List Point → List Pair → Kept
narrowest A [] = no_pair
narrowest A (p ∷ ps) = the_pair (least_of (no_wider A) p ps)

-- ---- the question

abbrev pub size_rows_of : List Point → List (List ℕ) → List Row
size_rows_of A [] = []
size_rows_of A (r ∷ rs) = size_rows (grown_of A r) ++ size_rows_of A rs

-- nothing is told of no pair, which is refused 20
abbrev pub pair_numbers : List Point → Kept → List ℤ
pair_numbers A no_pair = []
pair_numbers A (the_pair p) = pos (name p.0) ∷ pos (name p.1) ∷ clearance_numbers (grown_of A p.0) (grown_of A p.1)

-- 65,536 is nobody's name: none is left out
abbrev pub on_floor : ℕ → List ℕ → List (List ℕ)
on_floor f b = around f 65536 (records b)

abbrev pub gap_numbers : List Point → List (List ℕ) → List ℤ
gap_numbers A rs = pair_numbers A (narrowest A (pairs_of rs))

abbrev pub ask_gap : List ℕ → Floored → Question
ask_gap b cart =
    let rs = on_floor cart.floor b in
    let A = corners cart in
    asks (one_shape cart) (damage_row b ∷ too_few_row 2 rs ∷ size_rows_of A rs) (gap_numbers A rs)
