-- An outline as people have it, brought to the standard list, or refused; never filled up. Our own, not of documents 01 and 02.
--     previous n i      the position before i on the way round n corners
--     walked n s k      k positions on the way round n, from s on
--     least_place g n    the first position below n whose point no other precedes; 0 where n is 0
--     from_least ps      the points of a ring from the least on, of which theorems speak
--     ring_places ps     the positions of the different neighbours, from the least point on
--     ring_corners ps    the positions of the corners, from the least on, in the sense in which it turns left there
--     ring_shape ps      these corners
--     turns_in g n i     of three or more corners, corner i does not turn strictly left, or it begins to rise again: it precedes both
--                       neighbours, and is not the first
--     inward ps         the first such corner, counted in ring_corners
--     list_rows l        1; 2, a closing point not counted; 3; ValidRing l: none of them applies
--     ring_rows l out    these; 4, with the position in the list of the corner before and of the corner that turns in; 8
--     ask_ring a out     the question
-- What it means: `Meaning.antt`.
use Rattle.std.specs.Prelude.{◌≡◌, Bool, not, cond, ◌&&◌, ◌||◌, List, [], ◌∷◌, ◌++◌, map, ℕ, zero, suc, ◌-◌, ◌%◌, ◌≤◌, ◌<◌, eqb, ltb, ℤ}
use Rattle.std.specs.Prelude.{pos, length, get_or}
use Rattle.std.specs.Int.Signed.{lt_z}
use Rattle.plane.specs.Limits.{max_points}
use Rattle.plane.specs.Point.{Point, points, corner}
use Rattle.plane.specs.Turn.{turn}
use Rattle.plane.specs.Shape.{next, precedes}
use Rattle.plane.specs.Search.{some, first}
use Rattle.plane.specs.Reply.{Row, row}
use Rattle.plane.specs.Refusal.{bad_count, some_outside, InRange}
use Rattle.plane.specs.Sweep.{too_many_points}
use Rattle.plane.specs.Output.{room_row}
use Rattle.plane.specs.Floor.{Floored, corners, no_shape}
use Rattle.plane.specs.Question.{Question, writes}
use Rattle.ring.specs.Round.{opened, distinct, sensed, bends}

abbrev pub previous : ℕ → ℕ → ℕ
previous n i = cond (eqb i 0) (n - 1) (i - 1)

abbrev pub walked : ℕ → ℕ → ℕ → List ℕ
walked n s zero = []
walked n s (suc k) = s ∷ walked n (next n s) k

abbrev pub least_place : (ℕ → Point) → ℕ → ℕ
least_place g zero = 0
least_place g (suc i) = let best = least_place g i in cond (precedes (g i) (g best)) i best

-- the points without a closing one
abbrev pub open_ring : List Point → List Point
open_ring ps = opened (λ p. p) ps

abbrev pub from_least : List Point → List Point
from_least ps = let n = length (open_ring ps) in map (corner ps) (walked n (least_place (corner ps) n) n)

unfoldable pub ring_places : List Point → List ℕ
ring_places ps = let n = length (open_ring ps) in distinct (corner ps) (walked n (least_place (corner ps) n) n)

unfoldable pub ring_corners : List Point → List ℕ
ring_corners ps = bends (corner ps) (sensed (corner ps) (ring_places ps))

abbrev pub ring_shape : List Point → List Point
ring_shape ps = map (corner ps) (ring_corners ps)

-- ---- where it turns in

unfoldable pub turns_in : (ℕ → Point) → ℕ → ℕ → Bool
turns_in g n i =
    ltb 2 n && (not (lt_z (pos 0) (turn (g (previous n i)) (g i) (g (next n i))))
    || (ltb 0 i && (precedes (g i) (g (previous n i)) && precedes (g i) (g (next n i)))))

-- the point at place i of a list of positions
abbrev pub corner_of : List Point → List ℕ → ℕ → Point
corner_of ps is i = corner ps (get_or is i 0)

abbrev pub inward_at : List Point → List ℕ → ℕ → Bool
inward_at ps is = turns_in (corner_of ps is) (length is)

unfoldable pub first_inward : List Point → List ℕ → ℕ
first_inward ps is = first (inward_at ps is) (length is)

-- ---- the question

abbrev pub inward_row : List Point → Row
inward_row ps =
    let is = ring_corners ps in
    let i = first_inward ps is in
    row 4 (some (inward_at ps is) (length is)) (1 ∷ get_or is (previous (length is) i) 0 ∷ get_or is i 0 ∷ [])

abbrev pub list_rows : List ℤ → List Row
list_rows l = row 1 (bad_count l) (1 ∷ []) ∷ row 2 (too_many_points (open_ring (points l))) (1 ∷ []) ∷ row 3 (some_outside l) (1 ∷ []) ∷ []

pub record ValidRing (l : List ℤ) : Type 0 where
  pub paired : length l % 2 ≡ 0
  pub some : 0 < length (points l)
  pub few : length (open_ring (points l)) ≤ max_points
  pub in_range : InRange l

abbrev pub ring_rows : List ℤ → List ℤ → List Row
ring_rows l out = list_rows l ++ (inward_row (points l) ∷ room_row (ring_shape (points l)) out ∷ [])

abbrev pub ask_ring : Floored → List ℤ → Question
ask_ring a out = writes (no_shape a.floor) (ring_rows a.list out) (ring_shape (corners a)) out
