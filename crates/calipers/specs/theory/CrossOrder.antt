-- The next edges of a walk compared by their cross product alone: wherever the walk is, they differ by less than half a turn.
--     Gentle E         the first edge is up, and each turns by at most half a turn to the next
--     shape-gentle     the edges of a shape are so
--     led              at a place of the walk, what is before the other has it strictly to the left
--     led-passed       so the sign of the product says what the next step passes; a product with no edge is 0, and passes both
use Rattle.std.specs.Prelude.{◌≡◌, refl, Bool, true, false, cond, List, [], ◌∷◌, ℕ, zero, suc, ◌+◌, ◌≤◌, ◌<◌, ltb, ℤ, pos, neg_ℤ, length}
use Rattle.std.specs.Prelude.{◌≤ℤ◌, ◌<ℤ◌}
use Rattle.std.proofs.Common.{sym, ◌∙◌, ap, true≢false, add-one, arith, ltb-true, ltb-false, lt-ltb, le-ltb, ne_eqb}
use Rattle.std.proofs.Math.ListN.{get_or-eq_default}
use Rattle.std.specs.Int.Signed.{lt_z}
use Rattle.integer.specs.Linear.{lia, linear, ◌&◌}
use Rattle.integer.specs.Order.{lt-lt_z, le-lt_z, le_of_eq, weaken}
use Rattle.plane.specs.Point.{Point, corner, origin}
use Rattle.plane.specs.Turn.{cross}
use Rattle.plane.specs.Shape.{next, IsShape}
use Rattle.plane.specs.Forms.{Before, Precedes, InOrder, edges}
use Rattle.plane.proofs.theory.forms.Angle.{Earlier, apart, alike, before→earlier}
use Rattle.plane.proofs.theory.forms.HalfPlane.{Up, up-clash, down-up, precedes→up, cross-trans-weak}
use Rattle.plane.proofs.theory.forms.SameWay.{same-flat}
use Rattle.plane.proofs.theory.forms.Standard.{all-at, shape→ordered}
use Rattle.plane.proofs.theory.forms.Vector.{cross-swap, cross-turned, turn-edges, cross-origin}
use Rattle.plane.proofs.theory.lists.Next.{next-below}
use Rattle.plane.proofs.theory.sum.Positions.{edge_at, edge-corners, edge-turn, in-order-non-zero}
use Rattle.calipers.specs.Places.{passed, Standing}
use Rattle.calipers.specs.theory.Standing.{Taken, taken-same, Step, ended, left, right, both, step, passed-taken}
use Rattle.calipers.specs.theory.Standing.{passed-ended, passed-waits, standing-swap}

pub record Gentle (E : List Point) : Type 0 where
  pub starts-up : 0 < length E → Up (corner E 0)
  pub bends : (k : ℕ) → k + 1 < length E → pos 0 ≤ℤ cross (corner E k) (corner E (k + 1))

-- ---- the edges of a shape

first-up : (ps : List Point) → IsShape ps → 0 < length (edges ps) → Up (corner (edges ps) 0)
first-up [] s h = absurd (omega arith)
first-up (p ∷ []) s h = absurd (omega arith)
first-up (p ∷ (q ∷ ps)) s h = precedes→up (all-at (λ r. Precedes p r) (q ∷ ps) (shape→ordered (p ∷ q ∷ ps) s).0 0 (omega arith))

-- the turn at the corner between two neighbours
pub shape-gentle : (ps : List Point) → IsShape ps → Gentle (edges ps)
shape-gentle ps s = record {
  starts-up = first-up ps s;
  bends = λ k h. bend k h (edge-corners ps (k + 1) h);
}
  where
    bend : (k : ℕ) → k + 1 < length (edges ps) → length (edges ps) ≡ length ps
        → pos 0 ≤ℤ cross (corner (edges ps) k) (corner (edges ps) (k + 1))
    bend k h all =
        let inner : next (length ps) k ≡ k + 1 = rw (ne_eqb (k + 1) (length ps) (λ e. omega arith)) in
        let c = next (length ps) (k + 1) in
        let flat = turn-edges (corner ps k) (corner ps (k + 1)) (corner ps c) in
        rw (edge_at ps k (omega arith), edge_at ps (k + 1) h, inner, ← flat)
        (rw inner at (edge-turn ps s k c (omega arith) (next-below (length ps) (k + 1) (omega arith))))

-- ---- at a place of the walk

-- f is the first of its list, or the edge before it is passed, and e lies between that and f
pub led : {E F : List Point} (i j : ℕ) → InOrder F → Gentle F → Standing E F i j → i < length E → j < length F
    → Before (corner E i) (corner F j) → pos 0 <ℤ cross (corner E i) (corner F j)
led {E} {F} i zero o g s h k b = go (before→earlier b)
  where
    go : Earlier (corner E i) (corner F 0) → pos 0 <ℤ cross (corner E i) (corner F 0)
    go (apart u d) = absurd (up-clash (g.starts-up k) d)
    go (alike a c) = c
led {E} {F} i (suc j) o g s h k b = go (before→earlier b) (before→earlier (s.right-passed j (omega arith) h))
  where
    go : Earlier (corner E i) (corner F (suc j)) → Earlier (corner F j) (corner E i) → pos 0 <ℤ cross (corner E i) (corner F (suc j))
    go (alike a c) r = c
    go (apart u d) (apart v w) = absurd (true≢false (sym u ∙ w))
    go (apart u d) (alike v w) = rw cross-turned at (cross-trans-weak
        (down-up (corner F (suc j)) (in-order-non-zero F o (suc j) k) d)
        (record { precedes-true = v ∙ u }) (record { precedes-true = u })
        (rw cross-turned (rw add-one at (g.bends j (omega (arith, k))))) w)

-- ---- what the next step passes

-- where an edge is missing, the product is 0
flat-left : (E : List Point) (i : ℕ) (f : Point) → length E ≤ i → cross (corner E i) f ≡ pos 0
flat-left E i f h = rw (get_or-eq_default E origin h) (cross-origin f).0

flat-right : (F : List Point) (j : ℕ) (e : Point) → length F ≤ j → cross e (corner F j) ≡ pos 0
flat-right F j e h = cross-swap (corner F j) e ∙ ap neg_ℤ (flat-left F j e h)

cond_same : (t : Bool) {i : ℕ} → cond t i i ≡ i
cond_same true = refl
cond_same false = refl

module _ {E F : List Point} {i j : ℕ} (o_e : InOrder E) (o_f : InOrder F) (g_e : Gentle E) (g_f : Gentle F) (s : Standing E F i j) where
  abbrev product : ℤ
  product = cross (corner E i) (corner F j)

  -- what is passed next, by the sign
  not-below : (j < length F → Before (corner E i) (corner F j)) → i < length E → pos 0 ≤ℤ product
  not-below b h = go (ltb j (length F)) refl
    where
      go : (t : Bool) → ltb j (length F) ≡ t → pos 0 ≤ℤ product
      go true q = let k = ltb-true j (length F) q in weaken (led i j o_f g_f s h k (b k))
      go false q = le_of_eq (sym (flat-right F j (corner E i) (ltb-false j (length F) q)))

  waits-below : (i < length E → Before (corner F j) (corner E i)) → j < length F
      → cond (lt_z product (pos 0)) i (cond (ltb i (length E)) (i + 1) i) ≡ i
  waits-below b k = go (ltb i (length E)) refl
    where
      go : (t : Bool) → ltb i (length E) ≡ t → cond (lt_z product (pos 0)) i (cond t (i + 1) i) ≡ i
      go true q =
          let h = ltb-true i (length E) q in
          let below : product <ℤ pos 0 = lia (product ∷ cross (corner F j) (corner E i) ∷ [])
          (led j i o_e g_e (standing-swap s) k h (b h) & cross-swap (corner E i) (corner F j)) (search linear depth 40) (omega arith) in
          rw (lt-lt_z below)
      go false q = cond_same (lt_z product (pos 0))

  pub led-passed : passed E i F j ≡ cond (lt_z product (pos 0)) i (cond (ltb i (length E)) (i + 1) i)
  led-passed = go (step E F i j)
    where
      takes : Taken E i F j → pos 0 ≤ℤ product → passed E i F j ≡ cond (lt_z product (pos 0)) i (cond (ltb i (length E)) (i + 1) i)
      takes t h = rw (passed-taken t, le-lt_z h, lt-ltb i (length E) t.there)

      go : Step E F i j → passed E i F j ≡ cond (lt_z product (pos 0)) i (cond (ltb i (length E)) (i + 1) i)
      go (ended h k) = rw (passed-ended E i F j h, le-ltb i (length E) h, cond_same (lt_z product (pos 0)))
      go (left t b) = takes t (not-below b t.there)
      go (right t b) = passed-waits E i F j t.there b ∙ sym (waits-below b t.there)
      go (both t u) = takes t (le_of_eq (sym (same-flat (taken-same o_e o_f t u))))
