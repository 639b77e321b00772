-- Order and grouping of calls (document 01, "When many shapes come together"; document 02, W11: "Demand 3 speaks of shapes on one floor,
-- with that floor's origin point"). A shape is its list of numbers and its floor, as they are lent to a call.
--     ShapeOn f a           a is a valid shape on floor f; AllOn f L: every shape of the list L is
--     origin_point f         the shape 0 0 on floor f
--     Call                  a question on two shapes and a lent output: `sum_call` or `merge_call`
--     Gives w s             the call is answered, and s is the shape in its output, on the floor that the answer carries
--     answered_with s out    the whole of a call that is answered with the shape s: its count of corners and its floor; its numbers, and
--                           what was after them in out
--     Fits shape out        the shape keeps the limits, and the output has room for it
--     Called call a b s     some call on a and b, in either order, gives s
--     Grouping L            a way to bring the list L together: no call, or two groups and one call on their results
--     Result call g s       every call of the grouping g is answered, and s is its result
--     Refused call g        some call of the grouping is refused
--     sum_of_all f L          the result of sums on floor f that 01 states; merge_of_all f L: that of merges
-- `List.Permᴰ L M` is mathlib's: M is L in another order. Groups are never empty: `group-not-empty` of the laws.
use Rattle.std.specs.Prelude.{◌≡◌, ◌⊎◌, ℕ, ◌*◌, ◌≤◌, ℤ, pos, length, take}
use mathlib.Core.List.{List, [], ◌∷◌, ◌++◌, map, flatten, Memᴰ, Permᴰ}
use Rattle.plane.specs.Limits.{max_corners}
use Rattle.plane.specs.Point.{Point, numbers}
use Rattle.plane.specs.Reply.{answered, refused}
use Rattle.plane.specs.Refusal.{InRange, Valid}
use Rattle.plane.specs.Corner.{shape_of, sums_of}
use Rattle.plane.specs.Output.{Written, overwritten}
use Rattle.plane.specs.Floor.{Floored, on, corners}
use Rattle.plane.specs.Question.{written, ask_sum, ask_merge}

pub record ShapeOn (f : ℕ) (a : Floored) : Type 0 where
  pub valid : Valid a.list
  pub on_floor : a.floor ≡ f

-- "shapes on one floor"; one may be in the list twice
abbrev pub AllOn : ℕ → List Floored → Type 0
AllOn f L = (a : Floored) → Memᴰ a L → ShapeOn f a

-- "The point at the origin is 0 0": "that floor's origin point"
abbrev pub origin_point : ℕ → Floored
origin_point f = on (pos 0 ∷ pos 0 ∷ []) f

-- ---- one call

-- the two shapes, then the output
abbrev pub Call : Type 0
Call = Floored → Floored → List ℤ → Written

abbrev pub sum_call : Call
sum_call a b out = written (ask_sum a b out)

abbrev pub merge_call : Call
merge_call a b out = written (ask_merge a b out)

-- "of an output, only the numbers that its answer counts are the shape"; "Answers carry the floor"
pub record Gives (w : Written) (s : Floored) : Type 0 where
  pub count : ℕ
  pub answer : w.reply ≡ answered (pos count ∷ pos s.floor ∷ [])
  pub counted : s.list ≡ take (2 * count) w.output

-- "the answer says how many corners", and "only its first numbers are written"
abbrev pub answered_with : Floored → List ℤ → Written
answered_with s out = record {
  reply = answered (pos (length (corners s)) ∷ pos s.floor ∷ []);
  output = overwritten s.list out;
}

-- refusals 6, 7 and 8 have nothing against this shape in this output
pub record Fits (shape : List Point) (out : List ℤ) : Type 0 where
  pub few : length shape ≤ max_corners
  pub in_range : InRange (numbers shape)
  pub room : length (numbers shape) ≤ length out

-- "The shapes of a sum may stand in either order"; so may those of a merge, and each call is lent any output
pub data Called (call : Call) (a b s : Floored) : Type 0 where
  as-named : (out : List ℤ) → Gives (call a b out) s → Called call a b s
  swapped : (out : List ℤ) → Gives (call b a out) s → Called call a b s

-- ---- many calls

pub data Grouping : List Floored → Type 0 where
  -- "a list of one shape needs no call"
  alone : (a : Floored) → Grouping (a ∷ [])
  -- "A longer list is put in any order and split into two groups, neither empty", and one call on their results is lent an output
  split : {L A B : List Floored} → Permᴰ L (A ++ B) → Grouping A → Grouping B → (out : List ℤ) → Grouping L

-- "The calls are all sums or all merges": all are `call`
abbrev pub Result : Call → {L : List Floored} → Grouping L → Floored → Type 0
-- "and its result is that shape"
Result call (alone a) s = s ≡ a
-- "Each group is brought to its result in the same way, and one call on the two results gives the result of the list":
-- a call is "lent shapes of the list or what earlier calls of this grouping answered, unchanged"
Result call (split order g h out) s =
    (a : Floored) × (b : Floored) × Result call g a × Result call h b × Gives (call a b out) s

-- "some call is refused": one of the first group, one of the second, or the one on the two results
abbrev pub Refused : Call → {L : List Floored} → Grouping L → Type 0
Refused call (alone a) = ⊥
Refused call (split order g h out) =
    Refused call g ⊎ (Refused call h ⊎ ((a : Floored) × (b : Floored) × Result call g a × Result call h b
    × (n : ℕ) × (carried : List ℕ) × ((call a b out).reply ≡ refused n carried)))

-- ---- what it comes to

-- "the shape of all points that add up one corner of each shape in the list; a shape that stands twice gives two corners"
abbrev pub sum_of_all : ℕ → List Floored → Floored
sum_of_all f L = on (numbers (shape_of (sums_of (map corners L)))) f

-- "the shape of the corners of all shapes in the list"
abbrev pub merge_of_all : ℕ → List Floored → Floored
merge_of_all f L = on (numbers (shape_of (flatten (map corners L)))) f
