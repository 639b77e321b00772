-- `is_up` meets its contract: the second part decides, or the first where it is 0.
use mathlib.Core.Path.{◌≡◌, refl, sym, ◌∙◌, ap, ap₂}
use mathlib.Core.Bool.{false}
use borrow.Author.Tests.{ne_eqb}
use lib.IntN.{pos}
use lib.Signed.{lt_z}
use mir.Syntax.{w64}
use mir.Val.{to_z, of_z}
use Rattle.integer.specs.Machine.{result-is}
use Rattle.integer.specs.Order.{Compared, is_below, is-equal, is-above, compared, le_of_eq, lt_z-true, lt-lt_z}
use Rattle.plane.specs.Point.{Point, point, origin}
use Rattle.plane.specs.Forms.{up}
use Rattle.plane.proofs.theory.lists.Sought.{true-not-false}
use Rattle.plane.proofs.theory.forms.Precedes.{precedes-below, precedes-above, precedes-level}
use Rattle.calipers.specs.Side.{next_of}
use Rattle.calipers.proofs.side.Side.is_up.Goals as goal
use Rattle.calipers.proofs.side.Side.is_up.Goals.{After-struct_told-1}

-- the parts as they are read
readback : (c : After-struct_told-1) → let s = c.args.self in
    point (to_z w64 (of_z w64 s.run)) (to_z w64 (of_z w64 s.rise)) ≡ next_of s
readback c =
    ap₂ point (result-is w64 c.struct_told-1.given.1.1.1.1.0.1 refl) (result-is w64 c.struct_told-1.given.1.1.1.1.1.0.1 refl)

-- a vector that points neither up nor level points down
points-down : (p : Point) → lt_z (pos 0) p.y ≡ false → (p.y ≡ pos 0 → ⊥) → false ≡ up p
points-down p h ne = go (compared (pos 0) p.y)
  where
    go : Compared (pos 0) p.y → false ≡ up p
    go (is_below l) = true-not-false (lt-lt_z l) h
    go (is-equal e) = absurd (ne (sym e))
    go (is-above g) = sym (precedes-above origin p g)

pub returns-then-self-gt0 : goal.returns-then-self-gt0
returns-then-self-gt0 c = c.if-self-gt0.true ∙ sym (precedes-below origin _ (lt_z-true c.if-self-gt0.true)) ∙ ap up
    (readback (goal.at.returns-then-self-gt0 c).After-struct_told-1)

pub returns-then-self-eq0 : goal.returns-then-self-eq0
returns-then-self-eq0 c =
    let s = c.args.self in
    let level : to_z w64 (of_z w64 s.rise) ≡ pos 0 = ap (to_z w64) c.if-self-eq0.true in
    sym (precedes-level origin (point (to_z w64 (of_z w64 s.run)) (to_z w64 (of_z w64 s.rise))) (le_of_eq (sym level)) (le_of_eq level))
    ∙ ap up (readback (goal.at.returns-then-self-eq0 c).After-struct_told-1)

pub returns-else-self-eq0 : goal.returns-else-self-eq0
returns-else-self-eq0 c =
    let s = c.args.self in
    let told = (goal.at.returns-else-self-eq0 c).After-struct_told-1 in
    let rise : s.rise ≡ pos 0 → of_z w64 s.rise ≡ 0 = λ e. ap (of_z w64) e in
    ne_eqb _ 0 c.if-self-eq0.false
    ∙ points-down (point (to_z w64 (of_z w64 s.run)) (to_z w64 (of_z w64 s.rise))) c.if-self-gt0.false
    (λ e. c.if-self-eq0.false (rise (sym (result-is w64 told.struct_told-1.given.1.1.1.1.1.0.1 refl) ∙ e)))
    ∙ ap up (readback told)
