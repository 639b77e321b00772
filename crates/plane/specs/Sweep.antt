-- The points of a sweep (document 02, W10: "up to 1,024 points in any order, with repeats and points in line"), the paper's dots.
--     too_many_points ps      2, counted before repeats are dropped
--     point_rows l           refusals 1, 2 and 3 of the list; it is the question's one list, so they blame shape 1
--     ValidPoints l         the list holds the points of a sweep: none of these rows applies to it
-- "Refusals are 1, 2, 3 and 8 only": that 6 and 7 cannot come is proved (`Meaning.antt`).
use Rattle.std.specs.Prelude.{◌≡◌, Bool, List, [], ◌∷◌, ◌%◌, ◌≤◌, ◌<◌, ltb, ℤ, length}
use Rattle.plane.specs.Limits.{max_points}
use Rattle.plane.specs.Point.{Point, points}
use Rattle.plane.specs.Reply.{Row, row}
use Rattle.plane.specs.Refusal.{bad_count, some_outside, InRange}

unfoldable pub too_many_points : List Point → Bool
too_many_points ps = ltb max_points (length ps)

abbrev pub point_rows : List ℤ → List Row
point_rows l =
    row 1 (bad_count l) (1 ∷ []) ∷ row 2 (too_many_points (points l)) (1 ∷ []) ∷ row 3 (some_outside l) (1 ∷ []) ∷ []

pub record ValidPoints (l : List ℤ) : Type 0 where
  pub paired : length l % 2 ≡ 0
  pub some : 0 < length (points l)
  pub few : length (points l) ≤ max_points
  pub in_range : InRange l
