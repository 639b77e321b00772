-- Rows 1 to 3 of a ring's points.
--     accepted→ring, ring→accepted     they do not apply exactly if the list holds the points of a ring
use Rattle.std.specs.Prelude.{List, ℤ, length}
use borrow.Author.Tests.{ltb-false, le-ltb}
use Rattle.plane.specs.Limits.{max_points}
use Rattle.plane.specs.Point.{points}
use Rattle.plane.specs.Reply.{NoneApply}
use Rattle.plane.specs.Sweep.{too_many_points}
use Rattle.plane.proofs.theory.refusals.Accept.{near→in_range, in_range→near, counted, count-good}
use Rattle.ring.specs.Ring.{open_ring, list_rows, ValidRing}

module _ (l : List ℤ) where
  pub accepted→ring : NoneApply (list_rows l) → ValidRing l
  unfolding too_many_points
  accepted→ring n = record {
    paired = (counted l n.0).1;
    some = (counted l n.0).0;
    few = ltb-false max_points (length (open_ring (points l))) n.1.0;
    in_range = near→in_range l n.1.1.0;
  }

  pub ring→accepted : ValidRing l → NoneApply (list_rows l)
  unfolding too_many_points
  ring→accepted v = (
    count-good l v.some v.paired,
    (le-ltb max_points (length (open_ring (points l))) v.few, (in_range→near l v.in_range, tt)),
  )
