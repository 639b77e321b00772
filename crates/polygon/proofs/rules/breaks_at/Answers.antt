-- `breaks_at` meets its contract: the three parts of the rule in turn.
use mathlib.Core.Path.{◌≡◌, sym, ◌∙◌, ap, subst}
use mathlib.Core.Bool.{not}
use lib.IntN.{ℤ, pos}
use lib.ListN.{length}
use Prim.Native.Nat.{ℕ, ◌<◌}
use Rattle.std.specs.Prelude.{◌⊎◌, ◌≤ℤ◌, ◌<ℤ◌}
use Rattle.std.proofs.Common.{inl, inr}
use Rattle.plane.specs.Point.{points, corner}
use Rattle.plane.specs.Turn.{turn}
use lib.Signed.{lt_z, le_z}
use mir.Syntax.{w64}
use Rattle.integer.specs.Machine.{result-is}
use Rattle.integer.specs.Order.{lt-or-le, lt-lt_z, le-lt_z, lt-le_z, le-le_z}
use Rattle.plane.specs.Shape.{next}
use Rattle.plane.proofs.theory.refusals.Tests.{breaks-own, breaks-end, breaks-other}
use Rattle.polygon.proofs.rules.breaks_at.Goals as goal
use Rattle.polygon.proofs.rules.breaks_at.Goals.{After-next-end}

-- not above, by the other test
not-above : (z : ℤ) → le_z z (pos 0) ≡ not (lt_z (pos 0) z)
not-above z = go (lt-or-le (pos 0) z)
  where
    go : (pos 0 <ℤ z) ⊎ (z ≤ℤ pos 0) → le_z z (pos 0) ≡ not (lt_z (pos 0) z)
    go (inl h) = lt-le_z h ∙ sym (ap not (lt-lt_z h))
    go (inr h) = le-le_z h ∙ sym (ap not (le-lt_z h))

-- the edge's end, said of the corners
end_is : (c : After-next-end)
    → c.next-end.result ≡ next (length (points c.args.list.now)) c.args.edge
end_is c = c.next-end.ensures.value ∙ ap (λ (n : ℕ). next n c.args.edge) c.count.ensures

end_below : (c : After-next-end) → c.next-end.result < length (points c.args.list.now)
end_below c = subst (λ (n : ℕ). c.next-end.result < n) c.count.ensures c.next-end.ensures.upper_bound

pub returns-then-corner-end : goal.returns-then-corner-end
returns-then-corner-end c =
    let ps = points c.args.list.now in
    let end = end_is (goal.at.returns-then-corner-end c).After-next-end in
    let turned = ap (λ (e : ℕ). turn (corner ps c.args.edge) (corner ps e) (corner ps c.args.corner)) end in
    ap (λ (t : ℤ). le_z t (pos 0)) (result-is w64 c.turn_at.type_inv (c.turn_at.ensures ∙ turned))
    ∙ not-above (turn (corner ps c.args.edge) (corner ps (next (length ps) c.args.edge)) (corner ps c.args.corner))
    ∙ sym (breaks-other _ _ _ c.if-corner-end.true.0 (λ e. c.if-corner-end.true.1 (e ∙ sym end)))

pub returns-else-corner-end : goal.returns-else-corner-end
returns-else-corner-end c =
    let end = end_is (goal.at.returns-else-corner-end c).After-next-end in
    elim c.if-corner-end.either [
      | inl h ↦ let own = breaks-end (points c.args.list.now) c.args.edge c.args.corner (h.1 ∙ end) in cc
      | inr e ↦ let own = breaks-own (points c.args.list.now) c.args.edge c.args.corner e in cc
    ]
