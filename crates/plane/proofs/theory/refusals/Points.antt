-- Rows 1 to 3 of a sweep's points (document 02, W10).
--     accepted→points, points→accepted     they do not apply exactly if the list holds the points of a sweep
use Rattle.std.specs.Prelude.{List, ℤ, length}
use borrow.Author.Tests.{ltb-false, le-ltb}
use Rattle.plane.specs.Limits.{max_points}
use Rattle.plane.specs.Point.{points}
use Rattle.plane.specs.Reply.{NoneApply}
use Rattle.plane.specs.Sweep.{too_many_points, point_rows, ValidPoints}
use Rattle.plane.proofs.theory.refusals.Accept.{near→in_range, in_range→near, counted, count-good}

module _ (l : List ℤ) where
  pub accepted→points : NoneApply (point_rows l) → ValidPoints l
  unfolding too_many_points
  accepted→points n = record {
    paired = (counted l n.0).1;
    some = (counted l n.0).0;
    few = ltb-false max_points (length (points l)) n.1.0;
    in_range = near→in_range l n.1.1.0;
  }

  pub points→accepted : ValidPoints l → NoneApply (point_rows l)
  unfolding too_many_points
  points→accepted v =
      (count-good l v.some v.paired, (le-ltb max_points (length (points l)) v.few, (in_range→near l v.in_range, tt)))
