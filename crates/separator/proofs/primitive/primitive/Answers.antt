-- `primitive` meets its contract: the divisor is not 0, and a quotient by it fits.
use mathlib.Core.Path.{◌≡◌, sym, ◌∙◌, ap, ap₂, subst}
use Prim.Native.Nat.{◌^◌, ◌≤◌, ◌<◌}
use native.Mathlib.Omega.{arith}
use lib.IntN.{ℤ, pos, nat_abs}
use lib.Signed.{quot_z}
use mir.Syntax.{w32}
use mir.Val.{to_z, of_z, SFits}
use mir.Facts.{to_z_pos}
use Rattle.integer.specs.Bound.{Within}
use Rattle.divisor.specs.Divisor.{gcd}
use Rattle.plane.specs.Point.{point}
use Rattle.plane.specs.Furthest.{parts_divisor}
use Rattle.plane.specs.Primitive.{primitive}
use Rattle.plane.proofs.theory.direction.Rows.{some-divisor}
use Rattle.polygon.specs.Point.{at, Small}
use Rattle.separator.specs.theory.Direction.{divisor-limit, primitive-small}
use Rattle.separator.proofs.Parts.{part-fits, part-read, point-read}
use Rattle.separator.proofs.primitive.primitive.Goals as goal
use Rattle.separator.proofs.primitive.primitive.Goals.{After-divisor-g}

-- the divisor, and that it fits
divided : (c : After-divisor-g) → let d = at c.args.d in
    c.divisor-g.result ≡ parts_divisor d
divided c =
    let near = c.requires.0 in
    c.divisor-g.ensures ∙ ap₂ gcd (c.magnitude.ensures ∙ ap nat_abs (part-read near.small-x))
    (c.magnitude-2.ensures ∙ ap nat_abs (part-read near.small-y))

fits : (c : After-divisor-g) → (0 < c.divisor-g.result) × (c.divisor-g.result ≤ 2 ^ 22)
fits c =
    let some = some-divisor c.requires.1 in
    let limit = divisor-limit (2 ^ 22) (at c.args.d) c.requires.0 c.requires.1 in
    (omega (arith, divided c), omega (arith, divided c))

pub overflow_cast-g : goal.overflow_cast-g
overflow_cast-g c = record { sfits = omega (arith, fits c) }

-- a part over it
quotient : (c : After-divisor-g) {z : ℤ} → Within (2 ^ 22) z → let d = at c.args.d in
    quot_z (to_z w32 (of_z w32 z)) (to_z w32 c.divisor-g.result) ≡ quot_z z (pos (parts_divisor d))
quotient c h = ap₂ quot_z (part-read h) (to_z_pos w32 (omega (arith, fits c)) ∙ ap pos (divided c))

first : (c : After-divisor-g) → let d = at c.args.d in
    quot_z (to_z w32 (of_z w32 d.x)) (to_z w32 c.divisor-g.result) ≡ (primitive d).x
unfolding primitive
first c = quotient c c.requires.0.small-x

second : (c : After-divisor-g) → let d = at c.args.d in
    quot_z (to_z w32 (of_z w32 d.y)) (to_z w32 c.divisor-g.result) ≡ (primitive d).y
unfolding primitive
second c = quotient c c.requires.0.small-y

small : (c : After-divisor-g) → Small (2 ^ 22) (primitive (at c.args.d))
small c = let pre = c.requires in primitive-small (2 ^ 22) _ pre.0 pre.1

pub nonzero_div-result : goal.nonzero_div-result
nonzero_div-result c = (
  (fits (goal.at.nonzero_div-result c).After-divisor-g).0,
  subst (SFits w32) (sym (first (goal.at.nonzero_div-result c).After-divisor-g))
      (part-fits (small (goal.at.nonzero_div-result c).After-divisor-g).small-x),
)

pub nonzero_div-result-2 : goal.nonzero_div-result-2
nonzero_div-result-2 c = (
  (fits (goal.at.nonzero_div-result-2 c).After-divisor-g).0,
  subst (SFits w32)
      (sym (second (goal.at.nonzero_div-result-2 c).After-divisor-g))
      (part-fits (small (goal.at.nonzero_div-result-2 c).After-divisor-g).small-y),
)

pub returns : goal.returns
returns c =
    ap₂ (λ (x y : ℤ). point (to_z w32 (of_z w32 x)) (to_z w32 (of_z w32 y))) (first (goal.at.returns c).After-divisor-g)
    (second (goal.at.returns c).After-divisor-g)
    ∙ point-read (small (goal.at.returns c).After-divisor-g)
