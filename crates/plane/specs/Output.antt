-- Questions that write a shape into a lent output (document 01, "When the map desk says no", last sentences).
--     size_rows shape          refusals 6 and 7, of the answer
--     room_row shape out       refusal 8, of the output that is lent
--     answer_rows shape out    all three, in order
--     overwritten new out     the list `new` at the front of the output, of numbers or of bytes; all after it is kept
--     unless_refused rs k n    k if some row applies, else n
--     Written                 a reply, and the whole output afterwards
use Rattle.std.specs.Prelude.{Bool, cond, List, [], ◌∷◌, ◌++◌, ltb, ℤ, length, drop}
use Rattle.plane.specs.Point.{Point, numbers}
use Rattle.plane.specs.Reply.{Reply, Row, row}
use Rattle.plane.specs.Refusal.{too_many, some_outside}

-- 6: the answer has more corners than a shape may have; 7: "a corner of the answer is out of range"
abbrev pub size_rows : List Point → List Row
size_rows shape = row 6 (too_many shape) [] ∷ row 7 (some_outside (numbers shape)) [] ∷ []

-- 8: "the lent output holds fewer numbers than the answer"
unfoldable pub no_room : List Point → List ℤ → Bool
no_room shape out = ltb (length out) (length (numbers shape))

abbrev pub room_row : List Point → List ℤ → Row
room_row shape out = row 8 (no_room shape out) []

-- "then 6, 7, 8"
abbrev pub answer_rows : List Point → List ℤ → List Row
answer_rows shape out = size_rows shape ++ (room_row shape out ∷ [])

-- "On success only its first numbers are written"
unfoldable pub overwritten : {X : Type 0} → List X → List X → List X
overwritten new out = new ++ drop (length new) out

-- "The output is untouched on refusal"
abbrev pub unless_refused : {X : Type 0} → List Row → List X → List X → List X
unless_refused [] kept new = new
unless_refused (w ∷ ws) kept new = let later = unless_refused ws kept new in cond w.applies kept later

pub record Written : Type 0 where
  pub reply : Reply
  pub output : List ℤ
