-- What the search for the width leaves, and the answer to the question.
--     far-has, not_first  the given corner has the greatest turn; it is not corner 0
--     as-far, nearer      another corner has the greatest turn too, or it has not
--     width-opposed       the corner of the best edge has it
--     some-squared        the edge has a length; `width-found`: it is the width
use mathlib.Core.Path.{◌≡◌, sym, ◌∙◌, ap, ap₂}
use mathlib.Core.Bool.{true, false}
use mathlib.Core.List.{List}
use Prim.Native.Nat.{ℕ, zero, suc, ◌+◌, ◌*◌, ◌≤◌, ◌<◌}
use native.Mathlib.Omega.{arith}
use borrow.Author.Tests.{ltb-true}
use lib.IntN.{ℤ, pos, nat_abs}
use lib.ListN.{length}
use lib.Signed.{le_z, clash_ℤ}
use Rattle.integer.specs.Order.{lt-lt_z, le_of_eq, le_antisym, le_z-true, le_z-false}
use Rattle.plane.specs.Point.{Point, points, corner}
use Rattle.plane.specs.Refusal.{Valid}
use Rattle.plane.specs.Turn.{turn}
use Rattle.plane.specs.Cycle.{round}
use Rattle.plane.specs.Measure.{edge_turn, height, edge_squared, width_edge, root_below}
use Rattle.wide.specs.Root.{RoundedRoot}
use Rattle.measure.specs.declared.narrowest.Across.{Across}
use Rattle.measure.specs.Answer.{IsWidth}
use Rattle.measure.specs.Comparison.{Facing, Measured}
use Rattle.measure.specs.Scan.{Best, Opposed}
use Rattle.measure.specs.theory.Height.{height-above, edge_squared-positive, facing-width}
use Rattle.measure.specs.theory.Narrowest.{width-narrowest}
use Rattle.measure.specs.theory.Rounded.{rounded-unique}
use Rattle.measure.specs.theory.WidthScan.{width-done}

-- ---- the first corner

module _ {l : List ℤ} {e c far : ℕ} (o : Opposed l e c) (far-is : far ≡ round (length (points l)) c) where
  pub far-has : edge_turn (points l) e far ≡ height (points l) e
  far-has = ap (edge_turn (points l) e) far-is ∙ o.has

-- it is not the first where that has a smaller turn
pub not_first : (A : List Point) (e far : ℕ) → edge_turn A e far ≡ height A e → (edge_turn A e 0 ≡ height A e → ⊥) → 1 ≤ far
not_first A e zero has less = absurd (less has)
not_first A e (suc far) has less = omega arith

-- the numbers that the code compares: x is the turn of the given corner, y that of corner k
module _ {l : List ℤ} {e c : ℕ} (o : Opposed l e c) {end far : ℕ} (end_is : end ≡ round (length (points l)) (e + 1))
    (far-is : far ≡ round (length (points l)) c) {x y : ℤ} (k : ℕ)
    (a : x ≡ turn (corner (points l) e) (corner (points l) end) (corner (points l) far))
    (b : y ≡ turn (corner (points l) e) (corner (points l) end) (corner (points l) k)) where
  abbrev A : List Point
  A = points l

  tallest : x ≡ height A e
  unfolding edge_turn
  tallest = a ∙ ap₂ (λ (m n : ℕ). turn (corner A e) (corner A m) (corner A n)) end_is far-is ∙ o.has

  other : y ≡ edge_turn A e k
  unfolding edge_turn
  other = b ∙ ap (λ (m : ℕ). turn (corner A e) (corner A m) (corner A k)) end_is

  pub as-far : k < length A → le_z x y ≡ true → edge_turn A e k ≡ height A e
  as-far h test = le_antisym (height-above A e k h) (rw (tallest, other) at (le_z-true {x = x} {y = y} test))

  pub nearer : le_z x y ≡ false → edge_turn A e k ≡ height A e → ⊥
  nearer test has = clash_ℤ (le_z-false {x = x} {y = y} test) (le_of_eq (tallest ∙ sym has ∙ sym other))

-- ---- the answer

module _ (l : List ℤ) (v : Valid l) (three : 2 < length (points l)) (r : Across) (b : Best l r) where
  abbrev ps : List Point
  ps = points l

  found : (width_edge ps ≡ r.edge) × Measured ps r.edge r.corner r.turn r.squared
  found = width-done v.shape.some b

  edge_in : r.edge < length ps
  edge_in = omega (arith, found.0, (width-narrowest v.shape three).among)

  pub width-opposed : Opposed l r.edge r.corner
  width-opposed =
      record { valid = v; three = three; edge_in = edge_in; corner-in = found.1.corner-in; has = found.1.has }

  pub some-squared : 0 < r.squared
  some-squared = ltb-true 0 r.squared (lt-lt_z (rw found.1.long at (edge_squared-positive ps v.shape three r.edge edge_in)))

  pub width-found : (c w : ℕ) → Facing ps r.edge c → RoundedRoot r.turn r.squared w
      → IsWidth ps (record { edge = r.edge; corner = c; turn = r.turn; squared = r.squared; rounded = w })
  width-found c w facing root =
      let turns : height ps (width_edge ps) ≡ pos r.turn = ap (height ps) found.0 ∙ found.1.turns in
      let long : edge_squared ps (width_edge ps) ≡ pos r.squared = ap (edge_squared ps) found.0 ∙ found.1.long in
      record {
        edge-is = sym found.0;
        corner-is = sym (facing-width found.0 facing);
        turn_is = sym turns;
        squared-is = sym long;
        rounded-is = sym (ap₂ (λ (t q : ℤ). root_below (nat_abs t * nat_abs t) (nat_abs q)) turns long
            ∙ rounded-unique (r.turn * r.turn) r.squared some-squared w root.reached root.next-above);
      }
