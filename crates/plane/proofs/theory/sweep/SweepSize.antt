-- The shape of a sweep's points keeps the limits of an answer (document 02, W10: "Refusals are 1, 2, 3 and 8 only").
--     sweep-few, sweep-near     rows 6 and 7 do not apply to it; `sweep-size`: both
use Rattle.std.specs.Prelude.{◌≡◌, false, List, ℤ}
use Rattle.std.proofs.Common.{arith}
use Rattle.plane.specs.Limits.{points-le-corners}
use Rattle.plane.specs.Point.{points, numbers}
use Rattle.plane.specs.Reply.{NoneApply}
use Rattle.plane.specs.Refusal.{too_many, some_outside}
use Rattle.plane.specs.Corner.{shape_of}
use Rattle.plane.specs.Output.{size_rows}
use Rattle.plane.specs.Sweep.{ValidPoints}
use Rattle.plane.proofs.theory.refusals.Accept.{corners-few}
use Rattle.plane.proofs.theory.sweep.Few.{shape_of-few, list-near, shape_of-near}

module _ (l : List ℤ) (v : ValidPoints l) where
  pub sweep-few : too_many (shape_of (points l)) ≡ false
  sweep-few = corners-few (shape_of (points l)) (omega (arith, shape_of-few (points l) v.some, v.few, points-le-corners))

  pub sweep-near : some_outside (numbers (shape_of (points l))) ≡ false
  sweep-near = shape_of-near (points l) (list-near l v.paired v.in_range)

  pub sweep-size : NoneApply (size_rows (shape_of (points l)))
  sweep-size = (sweep-few, (sweep-near, tt))
