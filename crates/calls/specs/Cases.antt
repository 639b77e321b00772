-- Calls with floors within the limit and above it, as one table over the definitions and one fact about all its rows, by computing.
use Rattle.std.specs.Prelude.{◌≡◌, refl, List, [], ◌∷◌, ◌++◌, map, ℕ, ℤ, pos, negsuc}
use Rattle.plane.specs.Limits.{max_corners, max_coordinate, max_floor}
use Rattle.plane.specs.Point.{same_point}
use Rattle.plane.specs.Turn.{turn}
use Rattle.plane.specs.Shape.{breaks, precedes}
use Rattle.plane.specs.Refusal.{bad_count, too_many, outside, some_outside, equal_pair, left_broken, breaking_edge, breaking_corner}
use Rattle.plane.specs.Refusal.{rule_broken, broken_edge, broken_corner, bad_start}
use Rattle.plane.specs.Direction.{greater, value, support, furthest}
use Rattle.plane.specs.Corner.{shape_of}
use Rattle.plane.specs.Output.{no_room, overwritten}
use Rattle.plane.specs.Separation.{inside, apart, not_left, on_rim, touching, relation_number}
use Rattle.plane.specs.Floor.{on}
use Rattle.plane.specs.Question.{Question, reply, output, ask_judge, ask_mirror, ask_relation, ask_sum, ask_width}
use Rattle.wire.specs.Told.{padded, crossed}
use Rattle.crossing.specs.LowFloor.{low_floor}

-- the numbers that are told and the output afterwards, and those that are stated
pub record Case : Type 0 where
  pub told : List ℕ
  pub output : List ℤ
  pub stated : List ℕ
  pub left : List ℤ

abbrev writes : Question → List ℕ → List ℤ → Case
writes q numbers out = record { told = crossed (reply (low_floor q)); output = output (low_floor q); stated = numbers; left = out }

abbrev says : Question → List ℕ → Case
says q numbers = writes q numbers []

-- an answer of two values, and a refusal
abbrev two : ℕ → ℕ → List ℕ
two v w = 0 ∷ 0 ∷ 0 ∷ 0 ∷ 2 ∷ padded 9 (v ∷ w ∷ [])

abbrev refuses : ℕ → ℕ → List ℕ → List ℕ
refuses n count carried = n ∷ padded 3 carried ++ (count ∷ padded 9 [])

abbrev p : List ℤ
p = pos 1 ∷ negsuc 0 ∷ []

abbrev q : List ℤ
q = pos 258 ∷ pos 0 ∷ []

-- 0 0 5 4 -1 4 4 0 2 6: "turns left at every corner yet is refused 4"
abbrev star : List ℤ
star = pos 0 ∷ pos 0 ∷ pos 5 ∷ pos 4 ∷ negsuc 0 ∷ pos 4 ∷ pos 4 ∷ pos 0 ∷ pos 2 ∷ pos 6 ∷ []

abbrev out : List ℤ
out = pos 7 ∷ pos 7 ∷ pos 7 ∷ []

abbrev pub rows : List Case
rows =
    -- the limit itself is answered, one more is 13, and a list that is no shape is refused first
    says (ask_judge (on p 65535)) (two 1 65535)
    ∷ says (ask_judge (on p 65536)) (refuses 13 0 [])
    ∷ says (ask_judge (on star 65536)) (refuses 4 3 (1 ∷ 0 ∷ 3 ∷ []))
    -- 13 comes before what the question itself refuses
    ∷ says (ask_width (on p 65536)) (refuses 13 0 [])
    ∷ says (ask_width (on p 65535)) (refuses 10 0 [])
    -- different floors, equal ones above the limit, and a second list that is no shape
    ∷ says (ask_relation (on p 1) (on q 2)) (refuses 13 0 [])
    ∷ says (ask_relation (on p 1) (on q 65536)) (refuses 13 0 [])
    ∷ says (ask_relation (on p 65536) (on q 65536)) (refuses 13 0 [])
    ∷ says (ask_relation (on p 65536) (on [] 65536)) (refuses 1 1 (2 ∷ []))
    ∷ says (ask_relation (on p 3) (on p 3)) (two 1 3)
    -- what is written, and that 13 writes nothing
    ∷ writes (ask_sum (on p 3) (on q 3) out) (two 1 3) (pos 259 ∷ negsuc 0 ∷ pos 7 ∷ [])
    ∷ writes (ask_sum (on p 65536) (on q 65536) out) (refuses 13 0 []) out
    ∷ writes (ask_mirror (on p 65536) out) (refuses 13 0 []) out
    ∷ []

pub rows_told : map (λ (c : Case). c.told) rows ≡ map (λ (c : Case). c.stated) rows
unfolding low_floor reply no_room max_corners max_coordinate max_floor turn breaks precedes same_point greater shape_of value support
    furthest
    inside apart not_left on_rim touching relation_number bad_count too_many outside some_outside equal_pair left_broken breaking_edge
    breaking_corner rule_broken broken_edge broken_corner bad_start
rows_told = refl

pub rows_written : map (λ (c : Case). c.output) rows ≡ map (λ (c : Case). c.left) rows
unfolding low_floor output overwritten no_room max_corners max_coordinate max_floor turn breaks precedes same_point greater shape_of value
    support
    furthest inside apart not_left on_rim touching relation_number bad_count too_many outside some_outside equal_pair left_broken
    breaking_edge
    breaking_corner rule_broken broken_edge broken_corner bad_start
rows_written = refl
