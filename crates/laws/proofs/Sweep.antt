-- The laws of a sweep (document 02, W10; W11: "Sweeps are given their floor, and each of W10's laws speaks of sweeps and shapes all on one
-- floor"). A sweep is lent the numbers of its points, the paper's dots, and their floor; what is equal is the reply and the whole output,
-- so that refusals are included. `List.Permᴰ S T` is mathlib's: T is S in another order.
use Rattle.std.specs.Prelude.{◌≡◌, ℕ, ◌+◌, ◌≤◌, ℤ, length}
use mathlib.Core.List.{List, ◌++◌, Permᴰ}
use Rattle.plane.specs.Limits.{max_points}
use Rattle.plane.specs.Point.{Point, numbers}
use Rattle.plane.specs.Floor.{Floored, on, corners}
use Rattle.plane.specs.Question.{written, ask_sweep}
use Rattle.laws.specs.Grouping.{ShapeOn, merge_call}
use Rattle.laws.proofs.theory.Sweep.{sweep-rearranged, sweep-merge}

module _ (f : ℕ) where
  -- "Any rearrangement of the same dots, lent the same output, gives the same answer and output"
  pub rearranged-sweep-is-same : (S T : List Point) → Permᴰ S T → (out : List ℤ)
      → written (ask_sweep (on (numbers S) f) out) ≡ written (ask_sweep (on (numbers T) f) out)
  rearranged-sweep-is-same S T order out = sweep-rearranged f S T order out

  -- "Where two shapes have at most 1,024 corners together, a sweep of all those corners equals their merge, both lent the same output": in
  -- whatever order they are swept
  pub sweep-of-corners-is-merge : (a b : Floored) → ShapeOn f a → ShapeOn f b → length (corners a) + length (corners b) ≤ max_points
      → (S : List Point) → Permᴰ S (corners a ++ corners b) → (out : List ℤ)
      → written (ask_sweep (on (numbers S) f) out) ≡ merge_call a b out
  sweep-of-corners-is-merge a b v w few S order out = sweep-merge f a b v w few S order out
