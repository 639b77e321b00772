-- The first shape that is met, by hand: what is replied of drives along a row of posts, as one table, by computing.
use Rattle.std.specs.Prelude.{◌≡◌, refl, List, [], ◌∷◌, ◌++◌, map, ℕ, pos, negsuc}
use Rattle.divisor.specs.Divisor.{gcd, euclid}
use Rattle.plane.specs.Limits.{max_corners, max_coordinate}
use Rattle.plane.specs.Point.{Point, point, same_point}
use Rattle.plane.specs.Turn.{turn}
use Rattle.plane.specs.Shape.{breaks, precedes}
use Rattle.plane.specs.Reply.{Reply, answered, refused}
use Rattle.plane.specs.Refusal.{bad_count, too_many, outside, some_outside, equal_pair, left_broken, rule_broken, bad_start}
use Rattle.plane.specs.Direction.{value, greater, support}
use Rattle.plane.specs.Primitive.{primitive}
use Rattle.plane.specs.Corner.{shape_of}
use Rattle.plane.specs.Measure.{squared, root_below}
use Rattle.plane.specs.Separation.{inside, apart}
use Rattle.plane.specs.Floor.{Floored, on}
use Rattle.plane.specs.Question.{reply}
use Rattle.endian.specs.Bytes.{pair, pair_at, word, word_at, words, words_at}
use Rattle.growth.specs.Grown.{grown}
use Rattle.journal.specs.Format.{fixed_bytes, recorded_as, recorded, size, whole, records, kind, name, floor, list}
use Rattle.journal.specs.Format.{wrong_length, other_kind, bad}
use Rattle.journal.specs.Current.{is_other, is_around, around}
use Rattle.motion.specs.Contact.{past, entering, arrival, lowest, safe}
use Rattle.gaps.specs.Gap.{grown_of}
use Rattle.drives.specs.Drive.{is_met, is_as_soon, ask_drive}

-- a log, a cart on its floor, the two places, and what is stated
pub record Case : Type 0 where
  pub log : List ℕ
  pub cart : Floored
  pub from : Point
  pub to : Point
  pub stated : Reply

abbrev case : List ℕ → Floored → Point → Point → Reply → Case
case b c t u s = record { log = b; cart = c; from = t; to = u; stated = s }

abbrev place : ℕ → ℕ → Point
place x y = point (pos x) (pos y)

-- the post x 0 under a name on a floor
abbrev post : ℕ → ℕ → ℕ → List ℕ
post n f x = recorded n f (pos x ∷ pos 0 ∷ [])

-- on floor 3 the posts 1 and 2 at 12 and 6, and the wall 3 from 6 0 to 6 4; the post 4 on floor 4
abbrev book : List ℕ
book = post 1 3 12 ++ (post 2 3 6 ++ (recorded 3 3 (pos 6 ∷ pos 0 ∷ pos 6 ∷ pos 4 ∷ []) ++ post 4 4 2))

-- 2 has moved to 9, and then to floor 4
abbrev moved : List ℕ
moved = book ++ post 2 3 9

abbrev gone : List ℕ
gone = moved ++ post 2 4 9

-- a point, and a cart that reaches 2 to the left and to the right
abbrev point3 : Floored
point3 = on (pos 0 ∷ pos 0 ∷ []) 3

abbrev cart3 : Floored
cart3 = on (negsuc 1 ∷ pos 0 ∷ pos 2 ∷ pos 0 ∷ []) 3

abbrev pub cases : List Case
cases =
    -- to the right: 2 and 3 are met at 6 of 15, and 2 is the first in the log; the cart meets them at 4
    case book point3 (place 0 0) (place 15 0) (answered (pos 1 ∷ pos 2 ∷ pos 2 ∷ pos 5 ∷ pos 6 ∷ pos 3 ∷ []))
    ∷ case book cart3 (place 0 0) (place 15 0) (answered (pos 1 ∷ pos 2 ∷ pos 4 ∷ pos 15 ∷ pos 4 ∷ pos 3 ∷ []))
    -- to the left: 1 is the first
    ∷ case book point3 (place 15 0) (place 0 0) (answered (pos 1 ∷ pos 1 ∷ pos 1 ∷ pos 5 ∷ pos 3 ∷ pos 3 ∷ []))
    -- the older record of 2 does not count, nor does one on another floor
    ∷ case moved point3 (place 0 0) (place 15 0) (answered (pos 1 ∷ pos 3 ∷ pos 2 ∷ pos 5 ∷ pos 6 ∷ pos 3 ∷ []))
    ∷ case moved point3 (place 10 0) (place 0 0) (answered (pos 1 ∷ pos 2 ∷ pos 1 ∷ pos 10 ∷ pos 1 ∷ pos 3 ∷ []))
    ∷ case gone point3 (place 10 0) (place 0 0) (answered (pos 1 ∷ pos 3 ∷ pos 2 ∷ pos 5 ∷ pos 4 ∷ pos 3 ∷ []))
    -- past all of them; and too short
    ∷ case book point3 (place 0 5) (place 15 5) (answered (pos 0 ∷ pos 3 ∷ []))
    ∷ case book point3 (place 0 0) (place 5 0) (answered (pos 0 ∷ pos 3 ∷ []))
    -- 1 of the cart, then 15, then 20, then 3 of the departure and of the destination, then 7
    ∷ case (book ++ (1 ∷ 0 ∷ 90 ∷ [])) (on [] 5) (place 1_000_001 0) (place 0 0) (refused 1 (1 ∷ []))
    ∷ case (post 1 3 12 ++ (1 ∷ 0 ∷ 90 ∷ [])) (on (pos 0 ∷ pos 0 ∷ []) 5) (place 1_000_001 0) (place 0 0) (refused 15 (17 ∷ []))
    ∷ case book (on (pos 0 ∷ pos 0 ∷ []) 5) (place 1_000_001 0) (place 0 0) (refused 20 [])
    ∷ case book point3 (place 1_000_001 0) (place 0 1_000_001) (refused 3 (2 ∷ []))
    ∷ case book point3 (place 0 0) (place 0 1_000_001) (refused 3 (3 ∷ []))
    ∷ case (post 1 3 1_000_000) cart3 (place 0 0) (place 9 9) (refused 7 [])
    ∷ []

pub cases-hold : map (λ (c : Case). reply (ask_drive c.log c.cart c.from c.to)) cases ≡ map (λ (c : Case). c.stated) cases
unfolding max_corners max_coordinate same_point turn breaks precedes bad_count too_many outside some_outside equal_pair left_broken
    rule_broken
    bad_start value greater support euclid gcd primitive shape_of squared root_below inside apart reply grown past entering arrival lowest
    safe
    pair pair_at word word_at words words_at fixed_bytes recorded_as recorded size whole records kind name floor list wrong_length
    other_kind bad
    is_other is_around around grown_of is_met is_as_soon
cases-hold = refl
