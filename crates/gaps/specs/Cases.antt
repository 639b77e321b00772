-- The narrowest gap by hand: what is replied of three points in a row, as one table, by computing.
use Rattle.std.specs.Prelude.{◌≡◌, refl, List, [], ◌∷◌, ◌++◌, map, ℕ, ℤ, pos}
use Rattle.plane.specs.Limits.{max_corners, max_coordinate}
use Rattle.plane.specs.Point.{same_point}
use Rattle.plane.specs.Turn.{turn}
use Rattle.plane.specs.Shape.{breaks, precedes}
use Rattle.plane.specs.Reply.{Reply, answered, refused}
use Rattle.plane.specs.Refusal.{bad_count, too_many, outside, some_outside, equal_pair, left_broken, rule_broken, bad_start}
use Rattle.plane.specs.Direction.{value, greater, support}
use Rattle.plane.specs.Corner.{shape_of}
use Rattle.plane.specs.Measure.{squared, edge_squared, root_below}
use Rattle.plane.specs.Separation.{inside, apart}
use Rattle.plane.specs.Clearance.{falls, top, bottom, no_further, nearest}
use Rattle.plane.specs.Distance.{distance}
use Rattle.plane.specs.Floor.{on}
use Rattle.plane.specs.Question.{reply}
use Rattle.endian.specs.Bytes.{pair, pair_at, word, word_at, words, words_at}
use Rattle.growth.specs.Grown.{grown}
use Rattle.journal.specs.Format.{fixed_bytes, recorded_as, recorded, size, whole, records, kind, name, floor, list}
use Rattle.journal.specs.Format.{wrong_length, other_kind, bad}
use Rattle.journal.specs.Current.{is_other, is_around, around}
use Rattle.gaps.specs.Gap.{grown_of, gap_of, ask_gap}

-- a log and a cart, and what is stated
pub record Case : Type 0 where
  pub log : List ℕ
  pub cart : List ℤ
  pub stated : Reply

abbrev case : List ℕ → List ℤ → Reply → Case
case b c s = record { log = b; cart = c; stated = s }

-- the point x 0 under a name on a floor
abbrev at : ℕ → ℕ → ℤ → List ℕ
at n f x = recorded n f (x ∷ pos 0 ∷ [])

-- 1, 2 and 3 at 0, 5 and 9 on floor 3
abbrev three : List ℕ
three = at 1 3 (pos 0) ++ (at 2 3 (pos 5) ++ at 3 3 (pos 9))

-- the same, and then 2 goes to floor 4
abbrev moved : List ℕ
moved = three ++ at 2 4 (pos 5)

abbrev pub rows : List Case
rows =
    case three (pos 0 ∷ pos 0 ∷ []) (answered (pos 2 ∷ pos 3 ∷ pos 1 ∷ pos 0 ∷ pos 0 ∷ pos 16 ∷ pos 4 ∷ pos 3 ∷ []))
    -- a cart of 4 mm touches both 2 and 3
    ∷ case three (pos 0 ∷ pos 0 ∷ pos 4 ∷ pos 0 ∷ []) (answered (pos 2 ∷ pos 3 ∷ pos 0 ∷ pos 3 ∷ []))
    ∷ case moved (pos 0 ∷ pos 0 ∷ []) (answered (pos 1 ∷ pos 3 ∷ pos 1 ∷ pos 0 ∷ pos 0 ∷ pos 81 ∷ pos 9 ∷ pos 3 ∷ []))
    ∷ case (at 1 3 (pos 0) ++ at 2 4 (pos 5)) (pos 0 ∷ pos 0 ∷ []) (refused 20 [])
    ∷ []

pub rows-hold : map (λ (r : Case). reply (ask_gap r.log (on r.cart 3))) rows ≡ map (λ (r : Case). r.stated) rows
unfolding max_corners max_coordinate same_point turn breaks precedes bad_count too_many outside some_outside equal_pair left_broken
    rule_broken
    bad_start value greater support shape_of squared edge_squared root_below inside apart falls top bottom no_further nearest distance reply
    pair
    pair_at word word_at words words_at grown fixed_bytes recorded_as recorded size whole records kind name floor list wrong_length
    other_kind bad
    is_other is_around around grown_of gap_of
rows-hold = refl
