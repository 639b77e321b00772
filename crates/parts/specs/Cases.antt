-- Cases of a sum in parts (document 02, requests W6 and W11), as one table over the definitions and one fact about all its rows, by
-- computing: the square 0 0 2 0 2 2 0 2 and the triangle 0 0 1 0 0 1, whose sum is 0 0 3 0 3 2 2 3 0 3, and points, on floor 5.
use Rattle.std.specs.Prelude.{◌≡◌, refl, true, false, List, [], ◌∷◌, map, ℕ, ℤ, pos}
use Rattle.plane.specs.Limits.{max_corners, max_coordinate}
use Rattle.plane.specs.Point.{same_point}
use Rattle.plane.specs.Turn.{turn, cross}
use Rattle.plane.specs.Shape.{breaks, precedes}
use Rattle.plane.specs.Reply.{Reply, answered, refused}
use Rattle.plane.specs.Refusal.{bad_count, too_many, outside, some_outside, equal_pair, left_broken, rule_broken, bad_start}
use Rattle.plane.specs.Forms.{before}
use Rattle.plane.specs.Corner.{shape_of}
use Rattle.plane.specs.Output.{Written, no_room, overwritten}
use Rattle.plane.specs.Floor.{Floored, on}
use Rattle.plane.specs.Question.{reply, output, written}
use Rattle.calipers.specs.Walk.{Walk, takes, passed, finished, advanced}
use Rattle.sums.specs.Advance.{state}
use Rattle.sums.specs.PlaceAfter.{same_walk, is_place, corners_before}
use Rattle.parts.specs.Part.{part_corners, handed_back, ask_begin, ask_part}

-- what the definition gives, and what is stated
pub record Case : Type 0 where
  pub given : Written
  pub stated : Written

abbrev square : Floored
square = on (pos 0 ∷ pos 0 ∷ pos 2 ∷ pos 0 ∷ pos 2 ∷ pos 2 ∷ pos 0 ∷ pos 2 ∷ []) 5

abbrev triangle : ℕ → Floored
triangle f = on (pos 0 ∷ pos 0 ∷ pos 1 ∷ pos 0 ∷ pos 0 ∷ pos 1 ∷ []) f

abbrev origin : Floored
origin = on (pos 0 ∷ pos 0 ∷ []) 5

-- twice this point is out of range
abbrev far : Floored
far = on (pos 1_000_000 ∷ pos 0 ∷ []) 5

abbrev sevens : List ℤ
sevens = pos 7 ∷ pos 7 ∷ pos 7 ∷ pos 7 ∷ []

abbrev begins : Floored → Floored → Reply → Case
begins a b r = record { given = written (ask_begin a b); stated = record { reply = r; output = [] } }

abbrev call : Floored → Floored → Walk → ℕ → Reply → List ℤ → Case
call a b w k r out = record { given = written (ask_part a b w k sevens); stated = record { reply = r; output = out } }

-- the count, the walk and the floor
abbrev says : ℕ → ℕ → ℕ → ℕ → Reply
says n i j over = answered (pos n ∷ pos i ∷ pos j ∷ pos over ∷ pos 5 ∷ [])

pub rows : List Case
rows =
    -- the beginning
    begins square (triangle 5) (answered (pos 0 ∷ pos 0 ∷ pos 0 ∷ pos 5 ∷ []))
    -- two corners, then two, then the last and the end
    ∷ call square (triangle 5) (state 0 0 false) 2 (says 2 2 1 0) (pos 0 ∷ pos 0 ∷ pos 3 ∷ pos 0 ∷ [])
    ∷ call square (triangle 5) (state 2 1 false) 2 (says 2 3 2 0) (pos 3 ∷ pos 2 ∷ pos 2 ∷ pos 3 ∷ [])
    ∷ call square (triangle 5) (state 3 2 false) 2 (says 1 4 3 1) (pos 0 ∷ pos 3 ∷ pos 7 ∷ pos 7 ∷ [])
    -- nothing to write: at the end, and of none
    ∷ call square (triangle 5) (state 4 3 true) 2 (says 0 4 3 1) sevens
    ∷ call square (triangle 5) (state 2 1 false) 0 (says 0 2 1 0) sevens
    -- no place: an edge passed too early, the end not over, and over before the end
    ∷ call square (triangle 5) (state 1 0 false) 2 (refused 14 []) sevens
    ∷ call square (triangle 5) (state 4 3 false) 2 (refused 14 []) sevens
    ∷ call square (triangle 5) (state 2 1 true) 2 (refused 14 []) sevens
    -- 14 comes before 7, which speaks of the whole sum
    ∷ begins far far (refused 7 [])
    ∷ call far far (state 1 0 false) 0 (refused 14 []) sevens
    ∷ call far far (state 0 0 false) 0 (refused 7 []) sevens
    -- three corners find no room
    ∷ call square (triangle 5) (state 0 0 false) 3 (refused 8 []) sevens
    -- two points have one corner and two places
    ∷ call origin origin (state 0 0 false) 2 (says 1 0 0 1) (pos 0 ∷ pos 0 ∷ pos 7 ∷ pos 7 ∷ [])
    ∷ call origin origin (state 0 0 true) 2 (says 0 0 0 1) sevens
    -- two floors: the beginning, and before 14
    ∷ begins square (triangle 6) (refused 13 [])
    ∷ call square (triangle 6) (state 1 0 false) 2 (refused 13 []) sevens
    ∷ []

pub rows-hold : map (λ (r : Case). r.given) rows ≡ map (λ (r : Case). r.stated) rows
unfolding rows max_corners max_coordinate turn cross breaks precedes same_point before shape_of
    bad_count too_many outside some_outside equal_pair left_broken rule_broken bad_start no_room overwritten
    takes passed finished advanced same_walk is_place corners_before part_corners handed_back reply output
rows-hold = refl
