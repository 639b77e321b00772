-- Three shapes of one question. Our own, not of documents 01 and 02, whose questions have at most two.
--     floor_rows a b c     13 unless all three are on one floor
--     three_rows a b c     what is refused of them: 1 to 5 of each, which is blamed as 1, 2 or 3, and then 13
--     SameThree a b c     three valid shapes on one floor
-- What it means: `three→none`, `none→three` of the theory.
use Rattle.std.specs.Prelude.{◌≡◌, List, [], ◌∷◌, ◌++◌}
use Rattle.plane.specs.Reply.{Row}
use Rattle.plane.specs.Refusal.{shape_rows, Valid}
use Rattle.plane.specs.Floor.{Floored, floor_row}

abbrev pub floor_rows : Floored → Floored → Floored → List Row
floor_rows a b c = floor_row a.floor b.floor ∷ floor_row a.floor c.floor ∷ []

abbrev pub three_rows : Floored → Floored → Floored → List Row
three_rows a b c = shape_rows 1 a.list ++ (shape_rows 2 b.list ++ (shape_rows 3 c.list ++ floor_rows a b c))

pub record SameThree (a b c : Floored) : Type 0 where
  pub first-valid : Valid a.list
  pub second-valid : Valid b.list
  pub third-valid : Valid c.list
  pub second-floor : a.floor ≡ b.floor
  pub third-floor : a.floor ≡ c.floor
