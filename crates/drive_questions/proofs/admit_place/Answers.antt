-- `admit_place` meets its contract: either coordinate may be out of range.
use mathlib.Core.Path.{◌≡◌, refl, sym, ◌∙◌, ap, ap₂}
use mathlib.Core.Bool.{Bool, false, ◌||◌}
use mathlib.Core.List.{[], ◌∷◌}
use native.Mathlib.Omega.{arith}
use lib.IntN.{ℤ}
use mir.Syntax.{w32}
use Rattle.integer.specs.Machine.{result-is}
use Rattle.plane.specs.Reply.{here}
use Rattle.plane.specs.Refusal.{outside, some_outside}
use Rattle.admission.specs.theory.Judged.{refuses, passes, turns-away}
use Rattle.drive_questions.proofs.admit_place.Goals as goal
use Rattle.drive_questions.proofs.admit_place.Goals.{After-outside, After-outside-else-outside, then-outside-via-then-outside}
use Rattle.drive_questions.proofs.admit_place.Goals.{then-outside-via-else-outside+then-outside-2}

-- row 3, by both tests
either : (x y : ℤ) {a b : Bool} → outside x ≡ a → outside y ≡ b → some_outside (x ∷ y ∷ []) ≡ (a || (b || false))
unfolding some_outside
either x y e f = ap₂ (λ (a b : Bool). a || (b || false)) e f

x-is : (c : After-outside) {b : Bool} → c.outside.result ≡ b → outside c.args.p.x ≡ b
x-is c e = sym (c.outside.ensures ∙ ap outside (result-is w32 (omega arith) refl)) ∙ e

y-is : (c : After-outside-else-outside) {b : Bool} → c.outside-else-outside.result ≡ b → outside c.args.p.y ≡ b
y-is c e = sym (c.outside-else-outside.ensures ∙ ap outside (result-is w32 (omega arith) refl)) ∙ e

pub returns-then-outside : goal.returns-then-outside
returns-then-outside c = turns-away (refuses (here (elim c.then-outside.branch [
  | then-outside-via-then-outside w ↦ either _ _ (x-is (goal.at.returns-then-outside c).After-outside w.if-outside.true) refl
  | then-outside-via-else-outside+then-outside-2 w ↦ either _ _ (x-is (goal.at.returns-then-outside c).After-outside w.if-outside.false)
      (sym (w.outside-else-outside.ensures ∙ ap outside (result-is w32 (omega arith) refl)) ∙ w.if-outside-2.true)
])))

pub returns : goal.returns
returns c = passes (either _ _ (x-is (goal.at.returns c).After-outside c.if-outside.false)
    (y-is (goal.at.returns c).After-outside-else-outside c.if-outside-2.false))
