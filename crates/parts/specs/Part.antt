-- A sum in parts, as two questions on two shapes (document 02, requests W6 and W11).
--     part_corners a b w k      the corners of a call that may write k: "k or what remains, whichever is less"
--     handed_back a b w k       the walk that it hands back
--     walk_numbers w            a walk as values of an answer: the edges passed of either shape, and 1 if it is over
--     ask_begin a b             the beginning: the walk with which the first call is made
--     ask_part a b w k out      a call: the count and the walk handed back, and the part at the front of the output
-- What it means: `Meaning.antt`; what holds of every question: `Meaning.antt` of the crate plane.
use Rattle.std.specs.Prelude.{not, cond, List, [], ◌∷◌, ◌++◌, ℕ, ◌+◌, ℤ, pos, length, take, drop}
use Rattle.plane.specs.Point.{Point}
use Rattle.plane.specs.Reply.{row}
use Rattle.plane.specs.Output.{size_rows, room_row}
use Rattle.plane.specs.Floor.{Floored, two_shapes}
use Rattle.plane.specs.Question.{Question, asks}
use Rattle.calipers.specs.Walk.{Walk, begun}
use Rattle.sums.specs.PlaceAfter.{whole_sum, place_after, is_place, corners_before}

-- "It writes k or what remains, whichever is less"
unfoldable pub part_corners : List ℤ → List ℤ → Walk → ℕ → List Point
part_corners a b w k = take k (drop (corners_before a b w) (whole_sum a b))

-- "A walk begun, advanced and finished is handed back each time as a value"
unfoldable pub handed_back : List ℤ → List ℤ → Walk → ℕ → Walk
handed_back a b w k = place_after a b (corners_before a b w + length (part_corners a b w k))

abbrev pub walk_numbers : Walk → List ℤ
walk_numbers w = pos w.i ∷ pos w.j ∷ cond w.over (pos 1) (pos 0) ∷ []

-- "Beginning is refused as the sum is, but for 8"
abbrev pub ask_begin : Floored → Floored → Question
ask_begin a b = asks (two_shapes a b) (size_rows (whole_sum a.list b.list)) (walk_numbers begun)

-- "refused 14, after 1 to 5 and before 6 and 7"; these "speak of the whole sum, 8 of this call's corners"; "and says how many"
abbrev pub ask_part : Floored → Floored → Walk → ℕ → List ℤ → Question
ask_part a b w k out =
    let sum = whole_sum a.list b.list in
    let part = part_corners a.list b.list w k in record {
      shapes = two_shapes a b;
      rest = row 14 (not (is_place a.list b.list w)) [] ∷ size_rows sum ++ (room_row part out ∷ []);
      answer = pos (length part) ∷ walk_numbers (handed_back a.list b.list w k);
      shape = part;
      lent = out;
    }
