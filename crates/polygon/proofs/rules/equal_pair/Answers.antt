-- `equal_pair` meets its contract: two corners neither of which precedes the other.
use mathlib.Core.Path.{sym, ◌∙◌, ap}
use mathlib.Core.Bool.{Bool, not, ◌&&◌}
use borrow.Author.Tests.{ne_eqb}
use Rattle.plane.specs.Point.{points, corner}
use Rattle.plane.specs.Shape.{precedes}
use Rattle.plane.proofs.theory.lists.Sought.{true-not-false}
use Rattle.plane.proofs.theory.refusals.Tests.{equal_pair-other, equal_pair-neither}
use Rattle.polygon.proofs.rules.equal_pair.Goals as goal
use Rattle.polygon.proofs.rules.equal_pair.Goals.{then-count-eq2, else-count-eq2}

pub returns-then-not-precedes_at : goal.returns-then-not-precedes_at
returns-then-not-precedes_at c =
    let ps = points c.args.list.now in
    elim c.if-count-eq2.branch [
      | then-count-eq2 w ↦
          ap not c.precedes_at-then-not-precedes_at.ensures
          ∙ sym (equal_pair-neither _ (sym c.count.ensures ∙ w.if-count-eq2.true)
          ∙ ap (λ (t : Bool). t && not (precedes (corner ps 1) (corner ps 0)))
          (ap not (sym w.precedes_at.ensures) ∙ sym w.value-is ∙ c.if-not-precedes_at.true))
      | else-count-eq2 w ↦ true-not-false c.if-not-precedes_at.true (w.value-is ∙ ne_eqb _ _ w.if-count-eq2.false)
    ]

pub returns-else-not-precedes_at : goal.returns-else-not-precedes_at
returns-else-not-precedes_at c =
    let ps = points c.args.list.now in
    elim c.if-count-eq2.branch [
      | then-count-eq2 w ↦
          c.if-not-precedes_at.false
          ∙ sym (equal_pair-neither _ (sym c.count.ensures ∙ w.if-count-eq2.true)
          ∙ ap (λ (t : Bool). t && not (precedes (corner ps 1) (corner ps 0)))
          (ap not (sym w.precedes_at.ensures) ∙ sym w.value-is ∙ c.if-not-precedes_at.false))
      | else-count-eq2 w ↦
          c.if-not-precedes_at.false ∙ sym (equal_pair-other ps (λ e. w.if-count-eq2.false (c.count.ensures ∙ e)))
    ]
