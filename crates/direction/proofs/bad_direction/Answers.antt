-- `bad_direction` meets its contract: the three parts of the row in turn.
use mir.Syntax.{w32}
use mir.Val.{SFits, to_z, of_z}
use mathlib.Core.Path.{◌≡◌, refl, sym, ◌∙◌, ap, ap₂}
use mathlib.Core.Bool.{Bool, true, false, ◌&&◌}
use lib.Dec.{eqb, ltb}
use lib.IntN.{ℤ, nat_abs}
use mir.Facts.{to_z-of_z}
use Rattle.plane.specs.Limits.{max_part}
use Rattle.plane.specs.Point.{point}
use Rattle.plane.specs.Furthest.{bad_direction}
use Rattle.plane.proofs.theory.lists.Sought.{true-not-false}
use Rattle.direction.proofs.bad_direction.Goals as goal
use Rattle.direction.proofs.bad_direction.Goals.{After-zero, then-zero, else-zero}

-- the first test, said of the parts themselves; and a part's test, said of the part
zero_is : (c : After-zero) → c.zero.result ≡ (eqb (nat_abs c.args.u) 0 && eqb (nat_abs c.args.v) 0)
zero_is c =
    c.zero.ensures
    ∙ ap₂ (λ (u v : ℤ). eqb (nat_abs u) 0 && eqb (nat_abs v) 0) (to_z-of_z {w = w32} c.ranges.u) (to_z-of_z {w = w32} c.ranges.v)

part-is : {b : Bool} {z : ℤ} → SFits w32 z → b ≡ ltb max_part (nat_abs (to_z w32 (of_z w32 z))) → b ≡ ltb max_part (nat_abs z)
part-is f e = e ∙ ap (λ (z : ℤ). ltb max_part (nat_abs z)) (to_z-of_z {w = w32} f)

-- ---- the row, from what the tests say
module _ (u v : ℤ) where
  by-zero : (eqb (nat_abs u) 0 && eqb (nat_abs v) 0) ≡ true → true ≡ bad_direction (point u v)
  unfolding bad_direction
  by-zero h = rw h

  by-u : (eqb (nat_abs u) 0 && eqb (nat_abs v) 0) ≡ false → ltb max_part (nat_abs u) ≡ true → true ≡ bad_direction (point u v)
  unfolding bad_direction
  by-u h k = rw (h, k)

  by-v : (eqb (nat_abs u) 0 && eqb (nat_abs v) 0) ≡ false → ltb max_part (nat_abs u) ≡ false
      → ltb max_part (nat_abs v) ≡ bad_direction (point u v)
  unfolding bad_direction
  by-v h k = rw (h, k) refl

pub returns-then-outside_part : goal.returns-then-outside_part
returns-then-outside_part c =
    let zero = zero_is (goal.at.returns-then-outside_part c).After-zero in
    c.if-outside_part.true ∙ elim c.if-zero.branch [
      | then-zero w ↦ by-zero c.args.u c.args.v (sym zero ∙ w.if-zero.true)
      | else-zero w ↦ by-u c.args.u c.args.v (sym zero ∙ w.if-zero.false)
          (sym (part-is c.ranges.u w.outside_part.ensures) ∙ sym w.value-is ∙ c.if-outside_part.true)
    ]

pub returns-else-outside_part : goal.returns-else-outside_part
returns-else-outside_part c =
    let zero = zero_is (goal.at.returns-else-outside_part c).After-zero in
    elim c.if-zero.branch [
      | then-zero w ↦ true-not-false (w.value-is ∙ w.if-zero.true) c.if-outside_part.false
      | else-zero w ↦ part-is c.ranges.v c.outside_part-else-outside_part.ensures
          ∙ by-v c.args.u c.args.v (sym zero ∙ w.if-zero.false)
          (sym (part-is c.ranges.u w.outside_part.ensures) ∙ sym w.value-is ∙ c.if-outside_part.false)
    ]
