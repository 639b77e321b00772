-- How far a changed shape reaches beyond the old one: the directed Hausdorff distance. Our own, not of documents 01 and 02: the user would
-- be "glad of map changes that leave settled answers alone". N is the new shape and O the old one.
--     beyond c O             the squared distance of the point c from the shape O, as an exact fraction
--     no_nearer N O i j       corner i of N is no nearer to O than corner j
--     outermost N O          the corner of N furthest from O, the smallest position on a tie
--     excess N O             its squared distance from O, so the greatest over the corners of N
--     root_above n q          the root of n/q, rounded up
--     up N O                 the excess in millimetres, rounded up: rounded down it would promise nothing
--     excess_numbers N O      what is answered: 0 inside; or where the outermost corner and the old shape are nearest, and `up`
--     ask_excess new old      the question: the new shape and the old one, each with its floor
-- What it means: `Meaning.antt`, in the words of `Settled.antt`.
use Rattle.std.specs.Prelude.{Bool, cond, List, [], ◌∷◌, ℕ, ◌*◌, leb, ℤ, pos, nat_abs, length}
use Rattle.plane.specs.Point.{Point, corner}
use Rattle.plane.specs.Search.{every, first}
use Rattle.plane.specs.Measure.{squared, edge_squared}
use Rattle.plane.specs.Separation.{inside}
use Rattle.plane.specs.Clearance.{Candidate, corners, on_second, on_first, turn_on, nearest}
use Rattle.plane.specs.Distance.{Fraction, no_more, distance}
use Rattle.plane.specs.Floor.{Floored, corners as corners_of, two_shapes}
use Rattle.plane.specs.Question.{Question, asks}

unfoldable pub beyond : Point → List Point → Fraction
beyond c O = distance (c ∷ []) O

-- "distances compare as exact fractions"
unfoldable pub no_nearer : List Point → List Point → ℕ → ℕ → Bool
no_nearer N O i j = no_more (beyond (corner N j) O) (beyond (corner N i) O)

-- the first corner that is no nearer than any
unfoldable pub outermost : List Point → List Point → ℕ
outermost N O = first (λ i. every (no_nearer N O i) (length N)) (length N)

unfoldable pub excess : List Point → List Point → Fraction
excess N O = beyond (corner N (outermost N O)) O

-- the first e with n ≤ e·e·q; where q is not 0 it is at most n
unfoldable pub root_above : ℕ → ℕ → ℕ
root_above n q = first (λ e. leb n (e * e * q)) n

unfoldable pub up : List Point → List Point → ℕ
up N O = root_above (nat_abs (excess N O).numerator) (nat_abs (excess N O).denominator)

-- ---- the question

-- the numbers of clearance for corner c of N, `up` in place of the distance rounded down: 1, c, corner j of O and the squared distance; or
-- 2, c, edge e of O, the turn size and the squared edge length. The third kind is never nearest: nothing falls strictly inside a point
abbrev pub corner_numbers : List Point → List Point → ℕ → Candidate → List ℤ
corner_numbers N O c (corners i j) = pos 1 ∷ pos c ∷ pos j ∷ squared (corner N c) (corner O j) ∷ pos (up N O) ∷ []
corner_numbers N O c (on_second i e) =
    pos 2 ∷ pos c ∷ pos e ∷ pos (nat_abs (turn_on O e (corner N c))) ∷ edge_squared O e ∷ pos (up N O) ∷ []
corner_numbers N O c (on_first j e) = []

abbrev pub excess_numbers : List Point → List Point → List ℤ
excess_numbers N O =
    let c = outermost N O in
    cond (inside N O) (pos 0 ∷ []) (corner_numbers N O c (nearest (corner N c ∷ []) O))

-- 1 to 5 of the new shape, then of the old one, then 13
abbrev pub ask_excess : Floored → Floored → Question
ask_excess new old = asks (two_shapes new old) [] (excess_numbers (corners_of new) (corners_of old))
