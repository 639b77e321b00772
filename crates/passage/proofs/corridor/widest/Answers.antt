-- `widest` meets its contract: a direction in which the shapes face each other is divided, and the values and the width are taken in it.
use mathlib.Core.Path.{◌≡◌, sym, ◌∙◌, ap, ap₂, subst}
use mathlib.Core.Bool.{false}
use mathlib.Core.List.{List, [], ◌∷◌}
use Prim.Native.Nat.{ℕ, ◌*◌}
use lib.IntN.{ℤ, pos, nat_abs, ◌-ℤ◌}
use mir.Syntax.{w32, w64}
use mir.Val.{to_z, of_z}
use Rattle.integer.specs.Bound.{Within, within-neg}
use Rattle.integer.specs.Order.{weaken}
use Rattle.integer.specs.Machine.{machine, known, machine-fits, machine-is, machine-read}
use Rattle.plane.specs.Point.{Point, point, points, numbers}
use Rattle.plane.specs.Refusal.{Valid, InRange}
use Rattle.plane.specs.Direction.{value, support}
use Rattle.plane.specs.Furthest.{bad_direction}
use Rattle.plane.specs.Measure.{root_below}
use Rattle.plane.proofs.theory.lists.Flat.{numbers-points}
use Rattle.plane.proofs.theory.direction.Rows.{direction-near}
use Rattle.plane.proofs.theory.support.Bounds.{support-size}
use Rattle.polygon.specs.Point.{at}
use Rattle.polygon.specs.theory.Small.{small-wide}
use Rattle.strips.specs.Strip.{least, gap_in}
use Rattle.separator.specs.theory.Direction.{good-small, opposite-good}
use Rattle.separator.proofs.Parts.{point-read}
use Rattle.passage.specs.Corridor.{widest_of}
use Rattle.passage.proofs.theory.Widest.{widest-positive}
use Rattle.passage.proofs.theory.Rows.{widest-good}
use Rattle.passage.proofs.theory.Found.{facing-some, facing-name}
use Rattle.passage.proofs.corridor.widest.Goals as goal
use Rattle.passage.proofs.corridor.widest.Goals.{After-least-high, After-primitive-n, After-reach-low, Start}

-- the two lists of corners
abbrev one : Start → List Point
one c = points c.args.a.now

abbrev other : Start → List Point
other c = points c.args.b.now

pub primitive-n-requires : goal.primitive-n-requires
primitive-n-requires c =
    let pre = c.requires in (
      c.towards.ensures.0,
      facing-some (one c.before) (other c.before) pre.0.shape pre.1.shape pre.2 _ c.towards.ensures.1,
    )

-- the direction, and that 11 lets it pass
name : (c : After-primitive-n) → at c.primitive-n.result ≡ widest_of (one c.before.before) (other c.before.before)
name c =
    let pre = c.requires in
    c.primitive-n.ensures
    ∙ facing-name (one c.before.before) (other c.before.before) pre.0.shape pre.1.shape pre.2 _ c.towards.ensures.1

in-range : (l : List ℤ) → Valid l → InRange (numbers (points l))
in-range l v = subst InRange (sym (numbers-points l v.paired)) v.in_range

good : (c : After-primitive-n) → bad_direction (at c.primitive-n.result) ≡ false
good c =
    let pre = c.requires in
    ap bad_direction (name c) ∙ widest-good (one c.before.before) (other c.before.before) pre.0.shape pre.1.shape pre.2
    (in-range _ pre.0) (in-range _ pre.1)

pub reach-low-requires : goal.reach-low-requires
reach-low-requires c = let v = c.requires.1 in (v.shape.some, v.in_range, small-wide (good-small _ (good c)))

pub least-high-requires : goal.least-high-requires
least-high-requires c = (c.requires.0, good c.before)

-- the two values, and that they are small
low : (c : After-reach-low) →
    let S = support (widest_of (one c.before.before.before) (other c.before.before.before)) (other c.before.before.before) in
    (c.reach-low.result ≡ S) × Within 4_000_000_000_000 S
low c =
    let v = c.requires.1 in
    let near = direction-near _ (subst (λ (d : Point). bad_direction d ≡ false) (name c.before) (good c.before)) in (
      c.reach-low.ensures ∙ ap (λ (d : Point). support d (other c.before.before.before)) (name c.before),
      support-size c.args.b.now v.in_range near.0 near.1 v.shape.some,
    )

high : (c : After-least-high) →
    let S = least (widest_of (one c.before.before.before.before) (other c.before.before.before.before)) (one c.before.before.before.before)
    in (c.least-high.result ≡ S) × Within 4_000_000_000_000 S
unfolding least
high c =
    let v = c.requires.0 in
    let near = direction-near _
    (opposite-good _ (subst (λ (d : Point). bad_direction d ≡ false) (name c.before.before) (good c.before.before))) in (
      c.least-high.ensures ∙ ap (λ (d : Point). least d (one c.before.before.before.before)) (name c.before.before),
      within-neg (support-size c.args.a.now v.in_range near.0 near.1 v.shape.some),
    )

pub overflow_sub-high : goal.overflow_sub-high
overflow_sub-high c =
    let (e, h) = high c in
    let (f, k) = low c.before in
    let p = known e h in
    let q = known f k in
    machine-fits (search machine depth 40) tt

gap_is : (c : After-least-high) →
    to_z w64 (of_z w64 (to_z w64 (of_z w64 c.least-high.result) -ℤ to_z w64 (of_z w64 c.reach-low.result)))
    ≡ gap_in (widest_of (one c.before.before.before.before) (other c.before.before.before.before)) (one c.before.before.before.before)
    (other c.before.before.before.before)
unfolding gap_in
gap_is c =
    let (e, h) = high c in
    let (f, k) = low c.before in
    let p = known e h in
    let q = known f k in
    machine-is (search machine depth 40) tt

pub width-requires : goal.width-requires
width-requires c =
    let pre = c.requires in (
      rw (gap_is c) (weaken
          (widest-positive (one c.before.before.before.before) (other c.before.before.before.before) pre.0.shape pre.1.shape pre.2)),
      good c.before.before,
    )

pub returns : goal.returns
returns c =
    let direction = ap (λ (p : Point). point (to_z w32 (of_z w32 p.x)) (to_z w32 (of_z w32 p.y))) (name c.before.before.before.before)
    ∙ point-read (small-wide
    (good-small _ (subst (λ (d : Point). bad_direction d ≡ false) (name c.before.before.before.before)
    (good c.before.before.before.before)))) in
    let (e, h) = low c.before.before.before in
    let (f, k) = high c.before.before in
    let width = c.width.ensures
    ∙ ap₂ (λ (z : ℤ) (d : Point). root_below (nat_abs z * nat_abs z) (nat_abs (value d d))) (gap_is c.before.before)
    (name c.before.before.before.before) in
    ap₂ (λ (p : Point) (vs : List ℤ). pos 1 ∷ p.x ∷ p.y ∷ vs) direction
    (ap₂ (λ (z : ℤ) (vs : List ℤ). z ∷ vs) (machine-is (machine-read w64 _ (known e h)) tt)
    (ap₂ (λ (z : ℤ) (w : ℕ). z ∷ pos w ∷ []) (machine-is (machine-read w64 _ (known f k)) tt) width))
