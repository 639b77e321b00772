-- Calls on bytes (document 02, W14), as one table over the definitions and one fact about all its rows, by computing. A row is the number
-- and the output bytes that the definition gives, and those that are stated.
use Rattle.std.specs.Prelude.{◌≡◌, refl, List, [], ◌∷◌, ◌++◌, map, ℕ, pos, negsuc}
use Rattle.plane.specs.Limits.{max_corners, max_coordinate, max_floor}
use Rattle.plane.specs.Point.{same_point}
use Rattle.plane.specs.Turn.{turn}
use Rattle.plane.specs.Shape.{breaks, precedes}
use Rattle.plane.specs.Refusal.{bad_count, too_many, outside, some_outside, equal_pair, left_broken, breaking_edge, breaking_corner}
use Rattle.plane.specs.Refusal.{rule_broken, broken_edge, broken_corner, bad_start}
use Rattle.plane.specs.Direction.{greater, value, support, furthest}
use Rattle.plane.specs.Output.{no_room, overwritten}
use Rattle.plane.specs.Corner.{shape_of}
use Rattle.plane.specs.Separation.{inside, apart, not_left, on_rim, touching, relation_number}
use Rattle.plane.specs.Question.{Question, reply}
use Rattle.endian.specs.Bytes.{pair, pair_at, word, word_at, words, words_at}
use Rattle.crossing.specs.LowFloor.{low_floor}
use Rattle.bytewise.specs.Bytes.{list_of, ask_judge_bytes, ask_relation_bytes, ask_sum_bytes, ask_merge_bytes, bytes_after}
use Rattle.bytewise.specs.Packing.{fields, packed}

-- the number that is answered, and the output bytes afterwards
pub record Told : Type 0 where
  pub number : ℕ
  pub output : List ℕ

pub record Case : Type 0 where
  pub given : Told
  pub stated : Told

-- a call that is lent these bytes, the fields of its number, and the bytes afterwards
abbrev writes : (List ℕ → Question) → List ℕ → ℕ → ℕ → ℕ → ℕ → List ℕ → Case
writes call out refusal shape first second after = record {
  given = record { number = packed (reply (call out)); output = bytes_after (call out) out };
  stated = record { number = fields refusal shape first second; output = after };
}

-- a call that writes nothing
abbrev says : Question → ℕ → ℕ → ℕ → ℕ → Case
says q refusal shape first second = writes (λ out. q) [] refusal shape first second []

-- the points 1 -1 and 258 0
abbrev p : List ℕ
p = 1 ∷ 0 ∷ 0 ∷ 0 ∷ 255 ∷ 255 ∷ 255 ∷ 255 ∷ []

abbrev q : List ℕ
q = 2 ∷ 1 ∷ 0 ∷ 0 ∷ 0 ∷ 0 ∷ 0 ∷ 0 ∷ []

-- 0 0 5 4 -1 4 4 0 2 6: "turns left at every corner yet is refused 4"
abbrev star : List ℕ
star = words (pos 0 ∷ pos 0 ∷ pos 5 ∷ pos 4 ∷ negsuc 0 ∷ pos 4 ∷ pos 4 ∷ pos 0 ∷ pos 2 ∷ pos 6 ∷ [])

-- seven bytes, and ten
abbrev seven : List ℕ
seven = 7 ∷ 7 ∷ 7 ∷ 7 ∷ 7 ∷ 7 ∷ 7 ∷ []

abbrev ten : List ℕ
ten = 7 ∷ 7 ∷ 7 ∷ seven

abbrev pub rows : List Case
rows =
    says (ask_judge_bytes p 258) 0 0 1 258
    -- "a byte count that is no multiple of four is refused 1", and so is an odd count of numbers
    ∷ says (ask_judge_bytes seven 0) 1 1 0 0
    ∷ says (ask_judge_bytes (7 ∷ 7 ∷ 7 ∷ 7 ∷ []) 0) 1 1 0 0
    ∷ says (ask_judge_bytes star 0) 4 1 0 3
    -- "one above 65,535 being refused 13 with the same place in the order"
    ∷ says (ask_judge_bytes p 65535) 0 0 1 65535
    ∷ says (ask_judge_bytes p 65536) 13 0 0 0
    ∷ says (ask_judge_bytes seven 65536) 1 1 0 0
    ∷ says (ask_relation_bytes p 65536 q 65536) 13 0 0 0
    ∷ says (ask_relation_bytes p 0 q 65536) 13 0 0 0
    ∷ says (ask_relation_bytes p 65536 seven 65536) 1 2 0 0
    ∷ says (ask_relation_bytes p 1 q 2) 13 0 0 0
    -- "0 apart, 1 touching"
    ∷ says (ask_relation_bytes p 0 q 0) 0 0 0 0
    ∷ says (ask_relation_bytes p 3 p 3) 0 0 1 3
    -- 259 -1 at the front, and the bytes after it are kept; "eight to a corner"
    ∷ writes (ask_sum_bytes p 3 q 3) ten 0 0 1 3 (3 ∷ 1 ∷ 0 ∷ 0 ∷ 255 ∷ 255 ∷ 255 ∷ 255 ∷ 7 ∷ 7 ∷ [])
    ∷ writes (ask_sum_bytes p 3 q 3) seven 8 0 0 0 seven
    ∷ writes (ask_merge_bytes p 3 q 3) (ten ++ seven) 0 0 2 3 (p ++ (q ++ (7 ∷ [])))
    ∷ writes (ask_merge_bytes p 3 q 3) ten 8 0 0 0 ten
    ∷ []

pub rows-hold : map (λ (c : Case). c.given) rows ≡ map (λ (c : Case). c.stated) rows
unfolding list_of low_floor bytes_after reply no_room overwritten pair pair_at word word_at words words_at max_corners max_coordinate
    max_floor turn
    breaks precedes same_point greater shape_of value support furthest inside apart not_left on_rim touching relation_number
    bad_count too_many outside some_outside equal_pair left_broken breaking_edge breaking_corner rule_broken broken_edge broken_corner
    bad_start
rows-hold = refl
