-- `face_towards` meets its contract, a case each: by what the first furthest corner's neighbours have.
use mathlib.Core.Path.{◌≡◌, sym, ◌∙◌, ap}
use mathlib.Core.Bool.{Bool}
use Prim.Native.Nat.{ℕ, ◌<◌}
use native.Mathlib.Omega.{arith}
use lib.IntN.{ℤ}
use lib.ListN.{length}
use lib.Signed.{le_z}
use mir.Syntax.{w64}
use mir.Val.{to_z, of_z}
use Rattle.integer.specs.Machine.{result-is}
use Rattle.plane.specs.Point.{points, corner}
use Rattle.plane.specs.Direction.{value as direction_value, support}
use Rattle.plane.specs.Face.{is_furthest}
use Rattle.plane.proofs.theory.face.FirstFurthest.{furthest-greatest}
use Rattle.polygon.specs.Point.{at}
use Rattle.direction.specs.theory.Face.{face-over-end, face-onward, face-alone}
use Rattle.direction.proofs.face_towards.Goals as goal
use Rattle.direction.proofs.face_towards.Goals.{After-count-n, After-first_furthest-here, After-value_at-value}
use Rattle.direction.proofs.face_towards.Goals.{else-here-eq0-via-then-here-eq0+then-n-gt2+else-reaches, else-here-eq0-via-else-here-eq0}
use Rattle.direction.proofs.face_towards.Goals.{else-here-eq0-via-then-here-eq0+else-n-gt2, else-next-n-via-else-next-n}
use Rattle.direction.proofs.face_towards.Goals.{else-next-n-via-then-next-n+else-reaches-2}

-- the position that was found is one of the list
here_in : (c : After-first_furthest-here) → c.first_furthest-here.result < length (points c.args.list.now)
here_in c =
    omega (
      arith,
      c.first_furthest-here.ensures,
      (furthest-greatest (at c.args.d) (points c.args.list.now) c.requires.1.some).within,
    )

pub value_at-value-requires : goal.value_at-value-requires
value_at-value-requires c = let pre = c.requires in (here_in c, pre.0, pre.2)

-- the value there is the greatest
value-is : (c : After-value_at-value) → let args = c.args in
    to_z w64 (of_z w64 c.value_at-value.result) ≡ support (at args.d) (points args.list.now)
value-is c =
    let ps = points c.args.list.now in
    result-is w64 c.value_at-value.type_inv c.value_at-value.ensures
    ∙ ap (λ (i : ℕ). direction_value (at c.args.d) (corner ps i)) c.first_furthest-here.ensures
    ∙ sym (furthest-greatest (at c.args.d) ps c.requires.1.some).has

pub overflow_add-next : goal.overflow_add-next
overflow_add-next c = omega (arith, here_in c.before.before, c.count-n.ensures, c.count-n.type_inv)

pub reaches-requires : goal.reaches-requires
reaches-requires c =
    let pre = c.requires in
    (omega (arith, c.count-n.ensures, here_in c.before.before.before.before), pre.0, pre.2)

-- a corner that has at least that value is furthest
test-is : (c : After-count-n) {b : Bool} (i : ℕ) → let args = c.args in
    b ≡ le_z (to_z w64 (of_z w64 c.value_at-value.result)) (direction_value (at args.d) (corner (points args.list.now) i))
    → b ≡ is_furthest (at args.d) (points args.list.now) i
test-is c i e =
    let args = c.args in
    e ∙ ap (λ (z : ℤ). le_z z (direction_value (at args.d) (corner (points args.list.now) i))) (value-is c.before)

pub returns-then-reaches : goal.returns-then-reaches
returns-then-reaches c =
    let face = face-over-end c.requires.1 c.requires.3 c.first_furthest-here.ensures c.count-n.ensures
    c.if-here-eq0.true (omega arith)
    (sym (test-is (goal.at.returns-then-reaches c).After-count-n _ c.reaches.ensures) ∙ c.if-reaches.true) in
    record { first_value = face.0; last_value = face.1; value_value = value-is (goal.at.returns-then-reaches c).After-value_at-value }

pub reaches-requires-then-next-n : goal.reaches-requires-then-next-n
reaches-requires-then-next-n c =
    let pre = c.requires in
    (omega (arith, c.count-n.ensures, c.if-next-n.true), pre.0, pre.2)

pub returns-then-reaches-2 : goal.returns-then-reaches-2
returns-then-reaches-2 c =
    let face = face-onward c.requires.1 c.requires.3 c.first_furthest-here.ensures c.count-n.ensures
    c.if-next-n.true (sym (test-is (goal.at.returns-then-reaches-2 c).After-count-n _ c.reaches-then-next-n.ensures)
    ∙ c.if-reaches-2.true) in
    record { first_value = face.0; last_value = face.1; value_value = value-is (goal.at.returns-then-reaches-2 c).After-value_at-value }

pub returns-else-next-n : goal.returns-else-next-n
returns-else-next-n c =
    let at_count = (goal.at.returns-else-next-n c).After-count-n in
    let face = face-alone c.requires.1 c.requires.3 c.first_furthest-here.ensures c.count-n.ensures
    (λ e h. elim c.else-here-eq0.branch [
      | else-here-eq0-via-then-here-eq0+then-n-gt2+else-reaches w ↦ sym (test-is at_count _ w.reaches.ensures) ∙ w.if-reaches.false
      | else-here-eq0-via-then-here-eq0+else-n-gt2 w ↦ absurd (omega (arith, h, w.if-n-gt2.false))
      | else-here-eq0-via-else-here-eq0 w ↦ absurd (w.if-here-eq0.false e)
    ])
    (λ h. elim c.else-next-n.branch [
      | else-next-n-via-then-next-n+else-reaches-2 w ↦ sym (test-is at_count _ w.reaches-then-next-n.ensures) ∙ w.if-reaches-2.false
      | else-next-n-via-else-next-n w ↦ absurd (omega (arith, h, w.if-next-n.false))
    ]) in
    record { first_value = face.0; last_value = face.1; value_value = value-is (goal.at.returns-else-next-n c).After-value_at-value }
