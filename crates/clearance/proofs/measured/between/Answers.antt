-- `between` meets its contract: the squared distance, and its root by the fraction d·d/d.
use mathlib.Core.Path.{◌≡◌, sym, ◌∙◌, ap, ap₂}
use mathlib.Core.List.{[], ◌∷◌}
use Prim.Native.Nat.{◌*◌, ◌<◌}
use borrow.Author.Tests.{ltb-true}
use lib.IntN.{ℤ, pos, nat_abs}
use mir.Syntax.{w64}
use mir.Val.{to_z, of_z}
use Rattle.integer.specs.Machine.{result-is}
use Rattle.integer.specs.Order.{lt-lt_z}
use Rattle.plane.specs.Point.{points, corner}
use Rattle.plane.specs.Measure.{squared, root_below}
use Rattle.plane.proofs.theory.forms.Squared.{squared-nonneg}
use Rattle.polygon.specs.theory.Small.{small-corner}
use Rattle.measure.specs.theory.Rounded.{rounded-unique, root-square-over}
use Rattle.clearance.proofs.measured.between.Goals as goal
use Rattle.clearance.proofs.measured.between.Goals.{After-magnitude-squared, After-squared}

pub squared-requires : goal.squared-requires
squared-requires c =
    let pre = c.requires in
    (small-corner _ pre.2 _ pre.0 c.corner_at.ensures, small-corner _ pre.3 _ pre.1 c.corner_at-2.ensures)

squared-is : (c : After-squared) → let args = c.args in
    to_z w64 (of_z w64 c.squared.result) ≡ squared (corner (points args.a.now) args.i) (corner (points args.b.now) args.j)
squared-is c =
    result-is w64 c.squared.type_inv
    (c.squared.ensures ∙ ap₂ squared c.corner_at.ensures c.corner_at-2.ensures)

pub magnitude-squared-requires : goal.magnitude-squared-requires
magnitude-squared-requires c = rw (squared-is c) (squared-nonneg _ _)

size_is : (c : After-magnitude-squared) → let args = c.args in
    squared (corner (points args.a.now) args.i) (corner (points args.b.now) args.j) ≡ pos c.magnitude-squared.result
size_is c = sym (squared-is c.before) ∙ c.magnitude-squared.ensures

positive : (c : After-magnitude-squared) → 0 < c.magnitude-squared.result
positive c = ltb-true 0 c.magnitude-squared.result (lt-lt_z (rw (size_is c) at c.requires.4))

pub root_of_fraction-requires : goal.root_of_fraction-requires
root_of_fraction-requires c = record { positive = positive c }

pub returns : goal.returns
returns c =
    let d = c.magnitude-squared.result in
    let root = sym (root-square-over d (positive c.before)) ∙ rounded-unique (d * d) d (positive c.before) c.root_of_fraction.result
    c.root_of_fraction.ensures.reached c.root_of_fraction.ensures.next-above in
    let args = c.args in
    ap₂ (λ (z w : ℤ). pos 1 ∷ pos args.i ∷ pos args.j ∷ z ∷ w ∷ []) (sym (size_is c.before))
    (ap pos (sym root) ∙ ap (λ (z : ℤ). pos (root_below (nat_abs z) 1)) (sym (size_is c.before)))
