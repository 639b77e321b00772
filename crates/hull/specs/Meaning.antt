-- What the merge's table of refusals comes to, in document 01's words.
use Rattle.std.specs.Prelude.{◌≡◌, false, List, ◌++◌, ℤ}
use Rattle.plane.specs.Point.{points, numbers}
use Rattle.plane.specs.Refusal.{some_outside, Valid}
use Rattle.plane.specs.Corner.{shape_of}
use Rattle.plane.proofs.theory.sweep.Few.{list-near, append-near, shape_of-near}

-- "a corner of the answer is out of range": never of a merge, since each corner of the answer is one of the two shapes'
pub merge-in-range : (a b : List ℤ) → Valid a → Valid b → some_outside (numbers (shape_of (points a ++ points b))) ≡ false
merge-in-range a b v w = shape_of-near (points a ++ points b)
    (append-near (points a) (points b) (list-near a v.paired v.in_range) (list-near b w.paired w.in_range))
