-- Worked cases of the nearest shape, as a table over the definitions and one fact about all rows, by computing.
use Rattle.std.specs.Prelude.{◌≡◌, refl, List, [], ◌∷◌, ◌++◌, map, ℕ, ℤ, pos}
use Rattle.plane.specs.Limits.{max_corners, max_coordinate}
use Rattle.plane.specs.Point.{same_point}
use Rattle.plane.specs.Turn.{turn}
use Rattle.plane.specs.Shape.{breaks, precedes}
use Rattle.plane.specs.Direction.{value, greater, support}
use Rattle.plane.specs.Measure.{squared, edge_squared, root_below}
use Rattle.plane.specs.Corner.{shape_of}
use Rattle.plane.specs.Separation.{inside, apart}
use Rattle.plane.specs.Clearance.{falls, top, bottom, no_further, nearest}
use Rattle.plane.specs.Distance.{distance}
use Rattle.plane.specs.Reply.{Reply, answered, refused}
use Rattle.plane.specs.Refusal.{bad_count, too_many, outside, some_outside, equal_pair, left_broken, rule_broken, bad_start}
use Rattle.plane.specs.Question.{reply}
use Rattle.endian.specs.Bytes.{pair, pair_at, word, word_at, words, words_at}
use Rattle.journal.specs.Format.{fixed_bytes, recorded_as, recorded, size, whole, records, kind, name, floor, list}
use Rattle.journal.specs.Format.{wrong_length, other_kind, bad}
use Rattle.journal.specs.Current.{is_other, is_around, around}
use Rattle.neighbours.specs.Nearest.{is_as_near, ask_nearest}

-- the point x y
abbrev at : ℕ → ℕ → List ℤ
at x y = pos x ∷ pos y ∷ []

-- 7 and 8 on floor 2, as far from 0 0 as each other; 9 on floor 3
abbrev book : List ℕ
book = recorded 7 2 (at 10 0) ++ (recorded 8 2 (at 0 10) ++ recorded 9 3 (at 1 0))

-- 7 has moved to floor 3
abbrev moved : List ℕ
moved = book ++ recorded 7 3 (at 2 0)

-- nobody has this name
abbrev nobody : ℕ
nobody = 65536

-- what is answered, and what is stated
pub record Case : Type 0 where
  pub given : Reply
  pub stated : Reply

abbrev asks : List ℕ → List ℤ → ℕ → ℕ → Reply → Case
asks b l f but r = record { given = reply (ask_nearest b l f but); stated = r }

abbrev pub cases : List Case
cases =
    -- a tie: the first in the log; then the other, 7 being left out
    asks book (at 0 0) 2 nobody (answered (pos 7 ∷ pos 1 ∷ pos 0 ∷ pos 0 ∷ pos 100 ∷ pos 10 ∷ pos 2 ∷ []))
    ∷ asks book (at 0 0) 2 7 (answered (pos 8 ∷ pos 1 ∷ pos 0 ∷ pos 0 ∷ pos 100 ∷ pos 10 ∷ pos 2 ∷ []))
    -- "The latest record of a name counts", and then its floor
    ∷ asks moved (at 0 0) 2 nobody (answered (pos 8 ∷ pos 1 ∷ pos 0 ∷ pos 0 ∷ pos 100 ∷ pos 10 ∷ pos 2 ∷ []))
    ∷ asks moved (at 3 0) 3 nobody (answered (pos 7 ∷ pos 1 ∷ pos 0 ∷ pos 0 ∷ pos 1 ∷ pos 1 ∷ pos 3 ∷ []))
    -- "Shapes not apart still answer 0"
    ∷ asks book (at 0 10) 2 nobody (answered (pos 8 ∷ pos 0 ∷ pos 2 ∷ []))
    -- 20: no shape is there; 1 comes before it, and 15
    ∷ asks book (at 0 0) 4 nobody (refused 20 [])
    ∷ asks moved (at 0 0) 2 8 (refused 20 [])
    ∷ asks book [] 4 nobody (refused 1 (1 ∷ []))
    ∷ asks (book ++ (1 ∷ 0 ∷ 90 ∷ [])) (at 0 0) 4 nobody (refused 15 (51 ∷ []))
    ∷ []

pub cases-hold : map (λ (c : Case). c.given) cases ≡ map (λ (c : Case). c.stated) cases
unfolding pair pair_at word words word_at words_at fixed_bytes recorded_as recorded size whole records kind name floor list wrong_length
    other_kind
    bad reply bad_count too_many outside some_outside equal_pair left_broken rule_broken bad_start breaks precedes max_corners
    max_coordinate turn
    same_point value greater support squared edge_squared root_below shape_of inside apart falls top bottom no_further nearest distance
    is_other is_around around is_as_near
cases-hold = refl
