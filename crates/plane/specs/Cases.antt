-- Document 01's starred cases ("Cases to hold against"), as one table over the definitions and one fact about all its rows, by computing.
-- The rows are quoted in 01's order; a row is what the definition gives and what 01 states. The last are of document 02, requests W1, W3,
-- W8 and W10 to W13, and our own of growing.
use Rattle.std.specs.Prelude.{◌≡◌, refl, cond, List, [], ◌∷◌, ◌++◌, map, ℕ, ◌+◌, ℤ, pos, negsuc, length, replicate}
use Rattle.std.specs.Int.Signed.{lt_z}
use Rattle.divisor.specs.Divisor.{gcd, euclid}
use Rattle.plane.specs.Limits.{max_corners, max_coordinate, max_points, max_part}
use Rattle.plane.specs.Point.{Point, point, points, corner, same_point}
use Rattle.plane.specs.Turn.{turn}
use Rattle.plane.specs.Shape.{next, breaks, precedes}
use Rattle.plane.specs.Reply.{Reply, answered, refused}
use Rattle.plane.specs.Refusal.{bad_count, too_many, outside, some_outside, equal_pair, left_broken, breaking_edge, breaking_corner}
use Rattle.plane.specs.Refusal.{rule_broken, broken_edge, broken_corner, bad_start}
use Rattle.plane.specs.Direction.{greater, value, support, furthest}
use Rattle.plane.specs.Corner.{shape_of}
use Rattle.plane.specs.Output.{Written, no_room, overwritten}
use Rattle.plane.specs.Face.{face_first, face_last}
use Rattle.plane.specs.Furthest.{bad_direction, common_divisor}
use Rattle.plane.specs.Primitive.{primitive}
use Rattle.plane.specs.Sweep.{too_many_points}
use Rattle.plane.specs.Measure.{squared, length_squared, furthest_pair, length_from, length_to, edge_turn, height}
use Rattle.plane.specs.Measure.{edge_squared, no_wider, width_edge, width_corner, root_below}
use Rattle.plane.specs.Separation.{inside, apart, not_left, on_rim, touching, relation_number}
use Rattle.plane.specs.Offer.{below}
use Rattle.plane.specs.Tangent.{on_side, touches, nearer, tangent, tangent_from, tangent_to}
use Rattle.plane.specs.Floor.{Floored, on}
use Rattle.plane.specs.Clearance.{falls, top, bottom, no_further, nearest}
use Rattle.plane.specs.Question.{Question, written, reply, output, ask_judge, ask_furthest, ask_sum, ask_merge, ask_grow, ask_sweep}
use Rattle.plane.specs.Question.{ask_length, ask_width, ask_relation, ask_offer, ask_clearance, ask_tangents}

-- what the definition gives and what 01 states: each a reply and a whole output
pub record Case : Type 0 where
  pub given : Written
  pub stated : Written

-- two replies without an output
abbrev says : Reply → Reply → Case
says r s = record { given = record { reply = r; output = [] }; stated = record { reply = s; output = [] } }

-- a list on the ground floor, 0
abbrev ground : List ℤ → Floored
ground l = on l 0

-- a question about the ground floor that only answers: the values, and the floor after them
abbrev answers : Question → List ℤ → Case
answers q values = record { given = written q; stated = record { reply = answered (values ++ (pos 0 ∷ [])); output = [] } }

-- a question that is refused: whatever it is lent stays
abbrev refuses : Question → ℕ → List ℕ → Case
refuses q n carries = record { given = written q; stated = record { reply = refused n carries; output = q.lent } }

-- an output of 7s, two numbers longer than l
abbrev sevens : List ℤ → List ℤ
sevens l = replicate (length l + 2) (pos 7)

-- a question that writes the n corners of l: it is lent sevens, and the last two stay
abbrev fills : (List ℤ → Question) → ℕ → List ℤ → Case
fills question n l = record {
  given = written (question (sevens l));
  stated = record { reply = answered (pos n ∷ pos 0 ∷ []); output = l ++ (pos 7 ∷ pos 7 ∷ []) };
}

-- 0 0 2 0 2 2 0 2
abbrev S : List ℤ
S = pos 0 ∷ pos 0 ∷ pos 2 ∷ pos 0 ∷ pos 2 ∷ pos 2 ∷ pos 0 ∷ pos 2 ∷ []

-- 5 0 7 0 7 2 5 2
abbrev square : List ℤ
square = pos 5 ∷ pos 0 ∷ pos 7 ∷ pos 0 ∷ pos 7 ∷ pos 2 ∷ pos 5 ∷ pos 2 ∷ []

-- 0 0 1 0 0 1
abbrev T : List ℤ
T = pos 0 ∷ pos 0 ∷ pos 1 ∷ pos 0 ∷ pos 0 ∷ pos 1 ∷ []

-- 0 0 4 0 0 3
abbrev triangle : List ℤ
triangle = pos 0 ∷ pos 0 ∷ pos 4 ∷ pos 0 ∷ pos 0 ∷ pos 3 ∷ []

-- 0 0 5 4 -1 4 4 0 2 6
abbrev star : List ℤ
star = pos 0 ∷ pos 0 ∷ pos 5 ∷ pos 4 ∷ negsuc 0 ∷ pos 4 ∷ pos 4 ∷ pos 0 ∷ pos 2 ∷ pos 6 ∷ []

abbrev pair : ℕ → ℕ → List ℤ
pair x y = pos x ∷ pos y ∷ []

abbrev segment : ℕ → ℕ → ℕ → ℕ → List ℤ
segment x y u v = pos x ∷ pos y ∷ pos u ∷ pos v ∷ []

-- -3000 0 3000 0
abbrev wall : List ℤ
wall = negsuc 2999 ∷ pos 0 ∷ pos 3000 ∷ pos 0 ∷ []

-- 0 -2 4 -2 4 0 0 0, and above it 1 1 6 1 6 3 1 3
abbrev under : List ℤ
under = pos 0 ∷ negsuc 1 ∷ pos 4 ∷ negsuc 1 ∷ pos 4 ∷ pos 0 ∷ pos 0 ∷ pos 0 ∷ []

abbrev over : List ℤ
over = pos 1 ∷ pos 1 ∷ pos 6 ∷ pos 1 ∷ pos 6 ∷ pos 3 ∷ pos 1 ∷ pos 3 ∷ []

-- 1 where the corner after the edge that leaves e is strictly left of it
abbrev turns_left : List ℤ → ℕ → ℤ
turns_left l e =
    let ps = points l in
    let f = next (length ps) e in
    cond (lt_z (pos 0) (turn (corner ps e) (corner ps f) (corner ps (next (length ps) f)))) (pos 1) (pos 0)

-- a direction's name, as a reply
abbrev named : Point → Reply
named d = answered ((primitive d).x ∷ (primitive d).y ∷ [])

-- a direction offered, the shapes on floors 4 and g
abbrev offered : List ℤ → List ℤ → ℕ → Point → Question
offered a b g d = ask_offer (on a 4) (on b g) d

-- 0 0 3 0 3 2 2 3 0 3, the sum of S and T
abbrev five : List ℤ
five = pos 0 ∷ pos 0 ∷ pos 3 ∷ pos 0 ∷ pos 3 ∷ pos 2 ∷ pos 2 ∷ pos 3 ∷ pos 0 ∷ pos 3 ∷ []

-- 2 2 1 0 0 2 1 1 2 2 2 0 0 0
abbrev scattered : List ℤ
scattered =
    pos 2 ∷ pos 2 ∷ pos 1 ∷ pos 0 ∷ pos 0 ∷ pos 2 ∷ pos 1 ∷ pos 1 ∷ pos 2 ∷ pos 2 ∷ pos 2 ∷ pos 0 ∷ pos 0 ∷ pos 0 ∷ []

pub rows : List Case
rows =
    -- S plus T, whole output: 5 corners
    fills (λ out. ask_sum (ground S) (ground T) out) 5 five
    -- Segment 0 0 2 0 plus segment 0 0 1 0
    ∷ fills (λ out. ask_sum (ground (segment 0 0 2 0)) (ground (segment 0 0 1 0)) out) 2 (segment 0 0 3 0)
    -- Segment 0 0 2 0 plus segment 0 0 0 1
    ∷ fills (λ out. ask_sum (ground (segment 0 0 2 0)) (ground (segment 0 0 0 1)) out) 4
    (pos 0 ∷ pos 0 ∷ pos 2 ∷ pos 0 ∷ pos 2 ∷ pos 1 ∷ pos 0 ∷ pos 1 ∷ [])
    -- S merged with point 5 1, with point 4 0, with point 1 1
    ∷ fills (λ out. ask_merge (ground S) (ground (pair 5 1)) out) 5
    (pos 0 ∷ pos 0 ∷ pos 2 ∷ pos 0 ∷ pos 5 ∷ pos 1 ∷ pos 2 ∷ pos 2 ∷ pos 0 ∷ pos 2 ∷ [])
    ∷ fills (λ out. ask_merge (ground S) (ground (pair 4 0)) out) 4
    (pos 0 ∷ pos 0 ∷ pos 4 ∷ pos 0 ∷ pos 2 ∷ pos 2 ∷ pos 0 ∷ pos 2 ∷ [])
    ∷ fills (λ out. ask_merge (ground S) (ground (pair 1 1)) out) 4 S
    -- Points 3 1 and 0 1 merged
    ∷ fills (λ out. ask_merge (ground (pair 3 1)) (ground (pair 0 1)) out) 2 (segment 0 1 3 1)
    -- Length of S: 8 at 0, 2. Length of 0 0 4 0 0 3: 25 at 1, 2
    ∷ answers (ask_length (ground S)) (pos 8 ∷ pos 0 ∷ pos 2 ∷ [])
    ∷ answers (ask_length (ground triangle)) (pos 25 ∷ pos 1 ∷ pos 2 ∷ [])
    -- Width of S: edge 0, corner 2, t 4, q 4, w 2
    ∷ answers (ask_width (ground S)) (pos 0 ∷ pos 2 ∷ pos 4 ∷ pos 4 ∷ pos 2 ∷ [])
    -- Width of 0 0 4 0 0 3: edge 1, corner 0, t 12, q 25, w 2
    ∷ answers (ask_width (ground triangle)) (pos 1 ∷ pos 0 ∷ pos 12 ∷ pos 25 ∷ pos 2 ∷ [])
    -- S against point 3 1 apart; 2 1 touching; 1 1 overlapping
    ∷ answers (ask_relation (ground S) (ground (pair 3 1))) (pos 0 ∷ [])
    ∷ answers (ask_relation (ground S) (ground (pair 2 1))) (pos 1 ∷ [])
    ∷ answers (ask_relation (ground S) (ground (pair 1 1))) (pos 2 ∷ [])
    -- 0 0 5 4 -1 4 4 0 2 6 turns left at every corner yet is refused 4
    ∷ says (answered (map (turns_left star) (0 ∷ 1 ∷ 2 ∷ 3 ∷ 4 ∷ []))) (answered (pos 1 ∷ pos 1 ∷ pos 1 ∷ pos 1 ∷ pos 1 ∷ []))
    ∷ refuses (ask_judge (ground star)) 4 (1 ∷ 0 ∷ 3 ∷ [])
    -- the lines that just touch S and the square 5 0 7 0 7 2 5 2; S and point 2 1 touch: 9
    ∷ answers (ask_tangents (ground S) (ground square)) (pos 1 ∷ pos 0 ∷ pos 2 ∷ pos 3 ∷ pos 1 ∷ pos 3 ∷ pos 2 ∷ pos 0 ∷ [])
    ∷ refuses (ask_tangents (ground S) (ground (pair 2 1))) 9 []
    -- the cart's nose before a six-metre wall: 40 mm; S and point 3 3: two corners, 2 apart; S and point 2 1 are not apart
    ∷ answers (ask_clearance (ground (pair 0 40)) (ground wall)) (pos 2 ∷ pos 0 ∷ pos 0 ∷ pos 240000 ∷ pos 36000000 ∷ pos 40 ∷ [])
    ∷ answers (ask_clearance (ground S) (ground (pair 3 3))) (pos 1 ∷ pos 2 ∷ pos 0 ∷ pos 2 ∷ pos 1 ∷ [])
    ∷ answers (ask_clearance (ground S) (ground (pair 2 1))) (pos 0 ∷ [])
    -- four feet on parallel edges: the first corner of the first shape that falls on the second
    ∷ answers (ask_clearance (ground under) (ground over)) (pos 2 ∷ pos 2 ∷ pos 0 ∷ pos 5 ∷ pos 25 ∷ pos 1 ∷ [])
    -- the face of S to the right, and to the left, over the end of the list; one corner; a segment across, both ways
    ∷ answers (ask_furthest (ground S) (point (pos 1) (pos 0))) (pos 1 ∷ pos 2 ∷ pos 2 ∷ [])
    ∷ answers (ask_furthest (ground S) (point (negsuc 0) (pos 0))) (pos 3 ∷ pos 0 ∷ pos 0 ∷ [])
    ∷ answers (ask_furthest (ground S) (point (pos 1) (pos 1))) (pos 2 ∷ pos 2 ∷ pos 4 ∷ [])
    ∷ answers (ask_furthest (ground (segment 0 1 2 1)) (point (pos 0) (pos 1))) (pos 0 ∷ pos 1 ∷ pos 1 ∷ [])
    ∷ answers (ask_furthest (ground (segment 0 1 2 1)) (point (pos 0) (negsuc 0))) (pos 0 ∷ pos 1 ∷ negsuc 0 ∷ [])
    -- a sweep of S in another order, with 2 2 twice, 1 0 in line and 1 1 inside; of one point three times; of three in line; of none: 1
    ∷ fills (λ out. ask_sweep (ground scattered) out) 4 S
    ∷ fills (λ out. ask_sweep (ground (pair 3 1 ++ (pair 3 1 ++ pair 3 1))) out) 1 (pair 3 1)
    ∷ fills (λ out. ask_sweep (ground (pair 2 1 ++ segment 3 1 0 1)) out) 2 (segment 0 1 3 1)
    ∷ refuses (ask_sweep (ground []) (pair 7 7)) 1 (1 ∷ [])
    -- floors: S and point 3 1 both on floor 2; on two floors; the second shape's own checks come first, whatever its floor
    ∷ says (reply (ask_relation (on S 2) (on (pair 3 1) 2))) (answered (pos 0 ∷ pos 2 ∷ []))
    ∷ refuses (ask_relation (on S 2) (on (pair 3 1) 0)) 13 []
    ∷ refuses (ask_relation (on S 2) (on [] 0)) 1 (2 ∷ [])
    -- 13 before the rest: S and point 2 1 touch; the floor after the count; an output with room for the sum of S and T stays as it was
    ∷ refuses (ask_tangents (on S 65535) (on (pair 2 1) 0)) 13 []
    ∷ says (reply (ask_merge (on S 7) (on (pair 1 1) 7) (S ++ S))) (answered (pos 4 ∷ pos 7 ∷ []))
    ∷ refuses (ask_sum (on S 7) (on T 8) (sevens five)) 13 []
    -- "(0,1) passes and (0,5) does not"; 2 4: 12; (0,0), and 4000000 2000000, out of range: 11; the name of 0 -5, and that of 2 4
    ∷ answers (ask_furthest (ground S) (point (pos 0) (pos 1))) (pos 2 ∷ pos 3 ∷ pos 2 ∷ [])
    ∷ refuses (ask_furthest (ground S) (point (pos 0) (pos 5))) 12 []
    ∷ refuses (ask_furthest (ground S) (point (pos 2) (pos 4))) 12 []
    ∷ refuses (ask_furthest (ground S) (point (pos 0) (pos 0))) 11 []
    ∷ refuses (ask_furthest (ground S) (point (pos 4_000_000) (pos 2_000_000))) 11 []
    ∷ says (named (point (pos 0) (negsuc 4))) (answered (pos 0 ∷ negsuc 0 ∷ []))
    ∷ says (named (point (pos 2) (pos 4))) (answered (pos 1 ∷ pos 2 ∷ []))
    -- S against point 3 1: 1 0 is accepted, its opposite is not; nor is it where they touch; 12 even there; 13 before 11
    ∷ says (reply (offered S (pair 3 1) 4 (point (pos 1) (pos 0)))) (answered (pos 1 ∷ pos 4 ∷ []))
    ∷ says (reply (offered S (pair 3 1) 4 (point (negsuc 0) (pos 0)))) (answered (pos 0 ∷ pos 4 ∷ []))
    ∷ says (reply (offered S (pair 2 1) 4 (point (pos 1) (pos 0)))) (answered (pos 0 ∷ pos 4 ∷ []))
    ∷ refuses (offered S (pair 2 1) 4 (point (pos 2) (pos 0))) 12 []
    ∷ refuses (offered S (pair 3 1) 5 (point (pos 0) (pos 0))) 13 []
    ∷ refuses (offered S (pair 3 1) 4 (point (pos 0) (pos 0))) 11 []
    -- growing, our own: S by a cart T, and by a cart that is a point; S and T on two floors, with room for the answer: 13
    ∷ fills (λ out. ask_grow (ground S) (ground T) out) 5
    (pos 0 ∷ negsuc 0 ∷ pos 2 ∷ negsuc 0 ∷ pos 2 ∷ pos 2 ∷ negsuc 0 ∷ pos 2 ∷ negsuc 0 ∷ pos 0 ∷ [])
    ∷ fills (λ out. ask_grow (ground S) (ground (pair 0 0)) out) 4 S
    ∷ refuses (ask_grow (on S 7) (on T 8) (sevens five)) 13 []
    ∷ []

pub rows-hold : map (λ (r : Case). r.given) rows ≡ map (λ (r : Case). r.stated) rows
unfolding rows max_corners max_coordinate max_points max_part turn breaks precedes same_point greater shape_of
    bad_count too_many outside some_outside equal_pair left_broken breaking_edge breaking_corner rule_broken broken_edge broken_corner
    bad_start
    no_room overwritten too_many_points squared length_squared furthest_pair length_from length_to
    edge_turn height edge_squared no_wider width_edge width_corner root_below
    inside apart not_left on_rim touching relation_number on_side touches nearer tangent tangent_from tangent_to
    value falls top bottom no_further nearest
    support furthest face_first face_last bad_direction euclid gcd common_divisor primitive below reply output
rows-hold = refl
