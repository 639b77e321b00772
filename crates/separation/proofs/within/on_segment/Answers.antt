-- `on_segment` meets its contract: the turn, and the value of the steps to the ends.
use mathlib.Core.Path.{◌≡◌, sym, ◌∙◌, ap, ap₂}
use lib.IntN.{ℤ, pos}
use lib.Signed.{le_z}
use borrow.Author.Tests.{ne_eqb}
use mir.Syntax.{w64}
use mir.Val.{to_z, of_z}
use Rattle.integer.specs.Machine.{result-is}
use Rattle.plane.specs.Point.{◌⊖◌}
use Rattle.plane.specs.Turn.{cross}
use Rattle.plane.specs.Direction.{value}
use Rattle.polygon.specs.Point.{at}
use Rattle.polygon.specs.theory.Small.{small-step}
use Rattle.separation.specs.theory.Within.{segment-off, segment-level}
use Rattle.separation.proofs.within.on_segment.Goals as goal
use Rattle.separation.proofs.within.on_segment.Goals.{After-cross}

pub cross-requires : goal.cross-requires
cross-requires c =
    (small-step c.requires.0 c.requires.1 c.step-to_first.ensures, small-step c.requires.0 c.requires.2 c.step-to_last.ensures)

-- the product of the steps to the ends
crossed : (c : After-cross) →
    c.cross.result ≡ cross (at c.args.p ⊖ at c.args.x) (at c.args.q ⊖ at c.args.x)
crossed c = c.cross.ensures ∙ ap₂ cross c.step-to_first.ensures c.step-to_last.ensures

pub returns-else-cross-eq0 : goal.returns-else-cross-eq0
returns-else-cross-eq0 c =
    ne_eqb _ _ c.if-cross-eq0.false
    ∙ sym (segment-off (at c.args.p) (at c.args.q) (at c.args.x)
    (λ e. c.if-cross-eq0.false (ap (of_z w64) (crossed c.before ∙ e))))

pub returns-then-cross-eq0 : goal.returns-then-cross-eq0
returns-then-cross-eq0 c =
    let steps = ap₂ value c.step-to_first.ensures c.step-to_last.ensures in
    ap (λ (z : ℤ). le_z z (pos 0)) (result-is w64 c.dot.type_inv (c.dot.ensures ∙ steps))
    ∙ segment-level (at c.args.p) (at c.args.q) (at c.args.x)
    (sym (result-is w64 c.cross.type_inv (crossed c.before.before)) ∙ ap (to_z w64) c.if-cross-eq0.true)
