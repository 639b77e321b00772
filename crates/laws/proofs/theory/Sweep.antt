-- The laws of a sweep: its rows, and the shape, depend on the points alone and not on their order; of the corners of two shapes no row of
-- their lists applies.
--     rows-passed           rows that do not apply may be left out
--     sweep-rearranged      points in another order are answered, written and refused alike
--     sweep-merge           the corners of two shapes are swept as they are merged
use Rattle.std.specs.Prelude.{◌≡◌, refl, Bool, true, false, ◌||◌, ℕ, ◌+◌, ◌*◌, ◌%◌, ◌≤◌, ltb, ℤ, pos}
use Rattle.std.proofs.Math.Path.{sym, ap}
use Rattle.std.proofs.Common.{◌∙◌, arith, length-append}
use mathlib.Core.List.Permᴰ
use mathlib.Core.List.{List, [], ◌∷◌, ◌++◌, Permᴰ}
use Rattle.std.proofs.Math.Dec.{eqb}
use Rattle.std.proofs.Math.ListN.{length}
use Rattle.plane.specs.Limits.{max_points}
use Rattle.plane.specs.Point.{Point, points, numbers}
use Rattle.plane.specs.Reply.{answered, Row, row, NoneApply}
use Rattle.plane.specs.Refusal.{bad_count, some_outside}
use Rattle.plane.specs.Corner.{shape_of}
use Rattle.plane.specs.Output.{Written, overwritten, size_rows, room_row, answer_rows}
use Rattle.plane.specs.Sweep.{too_many_points, point_rows, ValidPoints}
use Rattle.plane.specs.Floor.{Floored, on, corners, no_shape, two_shapes, pair_rows}
use Rattle.plane.specs.Question.{reply, output, written, writes, ask_sweep}
use Rattle.plane.proofs.theory.lists.Flat.{points-numbers, numbers-length}
use Rattle.plane.proofs.theory.refusals.Rows.{first_row-passed, passed-output}
use Rattle.plane.proofs.theory.refusals.Accept.{near→in_range}
use Rattle.plane.proofs.theory.refusals.Points.{points→accepted}
use Rattle.plane.proofs.theory.refusals.Asked.{admitted→none}
use Rattle.plane.proofs.theory.hull.ShapeOf.{shape_of-same}
use Rattle.plane.proofs.theory.sweep.Few.{list-near, subset-near, append-near}
use Rattle.plane.proofs.theory.sweep.SweepSize.{sweep-size}
use Rattle.laws.specs.Grouping.{ShapeOn, merge_call}
use Rattle.laws.proofs.theory.Order.{order-length, order-member}
use Rattle.laws.proofs.theory.Acceptance.{same-on}

-- a question that writes a shape, with these rows before it and this floor
abbrev told : ℕ → List Row → List Point → List ℤ → Written
told f rows shape out = written (writes (no_shape f) rows shape out)

rows-passed : (f : ℕ) (vs ws : List Row) (shape : List Point) (out : List ℤ) → NoneApply vs
    → told f (vs ++ ws) shape out ≡ told f ws shape out
unfolding reply output
rows-passed f vs ws shape out n = λ i. record {
  reply = first_row-passed vs ws (answered (pos (length shape) ∷ pos f ∷ [])) n i;
  output = passed-output vs ws out (overwritten (numbers shape) out) n i;
}

-- ---- another order

-- two tests of which each is false where the other is
same_test : (s t : Bool) → (s ≡ false → t ≡ false) → (t ≡ false → s ≡ false) → s ≡ t
same_test true true f g = refl
same_test true false f g = g refl
same_test false t f g = sym (f refl)

-- the shape of the points that are swept, in another order
swept : (S T : List Point) → Permᴰ S T → shape_of (points (numbers S)) ≡ shape_of T
swept S T order = ap shape_of (points-numbers S) ∙ shape_of-same S T (order-member order) (order-member (Permᴰ.symm order))

module _ (f : ℕ) (S T : List Point) (order : Permᴰ S T) where
  same-outside : some_outside (numbers S) ≡ some_outside (numbers T)
  same-outside = same_test (some_outside (numbers S)) (some_outside (numbers T))
      (λ h. subset-near (order-member (Permᴰ.symm order)) h) (λ h. subset-near (order-member order) h)

  same_count : bad_count (numbers S) ≡ bad_count (numbers T)
  unfolding bad_count
  same_count = ap (λ n. eqb n 0 || eqb (n % 2) 1) (numbers-length S ∙ ap (λ n. 2 * n) (order-length order) ∙ sym (numbers-length T))

  same-many : too_many_points (points (numbers S)) ≡ too_many_points (points (numbers T))
  unfolding too_many_points
  same-many = ap (ltb max_points) (ap length (points-numbers S) ∙ order-length order ∙ sym (ap length (points-numbers T)))

  same_shape : shape_of (points (numbers S)) ≡ shape_of (points (numbers T))
  same_shape = swept S T order ∙ sym (ap shape_of (points-numbers T))

  pub sweep-rearranged : (out : List ℤ) → written (ask_sweep (on (numbers S) f) out) ≡ written (ask_sweep (on (numbers T) f) out)
  unfolding reply output
  sweep-rearranged out = λ i. told f
      (row 1 (same_count i) (1 ∷ []) ∷ row 2 (same-many i) (1 ∷ []) ∷ row 3 (same-outside i) (1 ∷ []) ∷ room_row (same_shape i) out ∷ [])
      (same_shape i) out

-- ---- the corners of two shapes

module _ (f : ℕ) (a b : Floored) (v : ShapeOn f a) (w : ShapeOn f b) (few : length (corners a) + length (corners b) ≤ max_points)
    (S : List Point) (order : Permᴰ S (corners a ++ corners b)) where
  listed : ValidPoints (numbers S)
  listed = record {
    paired = omega (arith, numbers-length S);
    some = omega (arith, counted, v.valid.shape.some);
    few = omega (arith, counted);
    in_range = near→in_range (numbers S) (subset-near (order-member order) (append-near (corners a) (corners b)
        (list-near a.list v.valid.paired v.valid.in_range) (list-near b.list w.valid.paired w.valid.in_range)));
  }
    where
      counted : length (points (numbers S)) ≡ length (corners a) + length (corners b)
      counted = ap length (points-numbers S) ∙ order-length order ∙ length-append (corners a) (corners b)

  -- after the rows of the lists, which do not apply, both write the same shape; rows 6 and 7 do not apply to it
  pub sweep-merge : (out : List ℤ) → written (ask_sweep (on (numbers S) f) out) ≡ merge_call a b out
  unfolding reply output
  sweep-merge out =
      let one = shape_of (points (numbers S)) in
      let both = shape_of (corners a ++ corners b) in
      let same : one ≡ both = swept S (corners a ++ corners b) order in
      rows-passed f (point_rows (numbers S)) (room_row one out ∷ []) one out (points→accepted (numbers S) listed)
      ∙ sym (rows-passed f (size_rows one) (room_row one out ∷ []) one out (sweep-size (numbers S) listed))
      ∙ (λ i. told (sym v.on_floor i) (answer_rows (same i) out) (same i) out)
      ∙ sym (rows-passed a.floor (pair_rows a b) (answer_rows both out) both out (admitted→none (two_shapes a b) (same-on v w)))
