-- Every corner of all sums of two shapes is at a place of the caliper walk, and at the place of its two parts.
--     corner-parts        a corner of all sums is the sum of two points in one way only
--     corner-visited      it is at some place of the walk; `place-left-in`, `place-right-in`: these are corners of the lists
--     place-of-corner     the walk comes to two corners together where their sum is a corner of all sums
use Rattle.std.specs.Prelude.{◌≡◌, ℕ, ◌<◌, length, ◌≤ℤ◌}
use Rattle.std.proofs.Common.{sym, ◌∙◌, ap, subst, arith}
use mathlib.Core.List.Memᴰ
use mathlib.Core.List.{List, [], ◌∷◌, Memᴰ}
use Rattle.integer.specs.Linear.{lia, linear, ◌&◌}
use Rattle.plane.specs.Point.{Point, corner, ◌⊕◌, ◌∈◌}
use Rattle.plane.specs.Shape.{IsShape}
use Rattle.plane.specs.Direction.{value}
use Rattle.plane.specs.Corner.{Corner, sums}
use Rattle.plane.specs.Forms.{edges}
use Rattle.plane.proofs.theory.lists.Members.{point-path, point-discrete, sums-member, position-member}
use Rattle.plane.proofs.theory.forms.Vector.{value-⊕, ⊕-comm}
use Rattle.plane.proofs.theory.support.Support.{value-le-support}
use Rattle.plane.proofs.theory.support.Corners.{corner-support}
use Rattle.plane.proofs.theory.hull.ShapeOf.{corner-shape_of}
use Rattle.plane.proofs.theory.sum.EdgeSum.{vector_sum-shape}
use Rattle.plane.specs.Cycle.{round}
use Rattle.plane.proofs.theory.sum.Positions.{round-within, edges-at-most, corner-injective}
use Rattle.calipers.specs.Places.{Place, places, Visited}
use Rattle.calipers.specs.theory.PlaceCorners.{corner_at, places-corners, places-pass}

-- ---- one way only

cancel_left : (a b c : Point) → a ⊕ b ≡ a ⊕ c → b ≡ c
cancel_left a b c e = point-path
    (lia (a.x ∷ b.x ∷ c.x ∷ []) (ap (λ (p : Point). p.x) e) (search linear depth 40) (omega arith))
    (lia (a.y ∷ b.y ∷ c.y ∷ []) (ap (λ (p : Point). p.y) e) (search linear depth 40) (omega arith))

cancel_right : (a b c : Point) → b ⊕ a ≡ c ⊕ a → b ≡ c
cancel_right a b c e = cancel_left a b c (⊕-comm a b ∙ e ∙ ⊕-comm c a)

module _ {A B : List Point} {a b c d : Point} (k : Corner (sums A B) (a ⊕ b)) (ma : a ∈ A) (mb : b ∈ B) (mc : c ∈ A) (md : d ∈ B) where
  -- were c not a, then c + b would be below the corner, and a + d above it by as much
  pub corner-parts : a ⊕ b ≡ c ⊕ d → (a ≡ c) × (b ≡ d)
  corner-parts e = go (point-discrete c a)
    where
      u : Point
      u = k.direction

      go : Dec (c ≡ a) → (a ≡ c) × (b ≡ d)
      go (yes q) = (sym q, cancel_left a b d (e ∙ ap (λ (p : Point). p ⊕ d) q))
      go (no q) =
          let low = k.strictly (c ⊕ b) (sums-member mc mb) (λ r. q (cancel_right b c a r)) in
          let high : value u (a ⊕ d) ≤ℤ value u (a ⊕ b) = rw (corner-support k) at (value-le-support u (sums-member ma md)) in
          absurd (lia (value u a ∷ value u b ∷ value u c ∷ value u d
          ∷ value u (a ⊕ b) ∷ value u (a ⊕ d) ∷ value u (c ⊕ b) ∷ value u (c ⊕ d) ∷ [])
          (low & high & ap (value u) e & value-⊕ u a b & value-⊕ u c d & value-⊕ u a d & value-⊕ u c b)
          (search linear depth 40) (omega arith))

-- ---- at a place

module _ (A B : List Point) (s_a : IsShape A) (s_b : IsShape B) where
  pub corner-visited : {z : Point} → Corner (sums A B) z → (p : Place) × Memᴰ p (places (edges A) (edges B)) × (corner_at A B p ≡ z)
  corner-visited {z} k = Memᴰ.of_map (corner_at A B) (places (edges A) (edges B))
      (subst (λ (l : List Point). z ∈ l) (sym (places-corners A B s_a.some s_b.some ∙ vector_sum-shape A B s_a s_b)) (corner-shape_of k))

  -- the corners at a place are corners of the two lists
  pub place-left-in : {p : Place} → Memᴰ p (places (edges A) (edges B)) → round (length A) p.left < length A
  place-left-in {p} m = round-within (length A) p.left s_a.some
      (omega (arith, edges-at-most A, (places-pass (edges A) (edges B) m).left-most))

  pub place-right-in : {p : Place} → Memᴰ p (places (edges A) (edges B)) → round (length B) p.right < length B
  place-right-in {p} m = round-within (length B) p.right s_b.some
      (omega (arith, edges-at-most B, (places-pass (edges A) (edges B) m).right-most))

pub place-of-corner : (A B : List Point) → IsShape A → IsShape B → (i j : ℕ) → i < length A → j < length B
    → Corner (sums A B) (corner A i ⊕ corner B j) → Visited A B i j
place-of-corner A B s_a s_b i j hi hj k =
    let v = corner-visited A B s_a s_b k in
    let l = place-left-in A B s_a s_b v.1 in
    let r = place-right-in A B s_a s_b v.1 in
    let same = corner-parts k (position-member A i hi) (position-member B j hj) (position-member A _ l) (position-member B _ r)
    (sym v.2) in
    record {
      at = v.0;
      at_in = v.1;
      at_left = corner-injective A s_a _ i l hi (sym same.0);
      at_right = corner-injective B s_b _ j r hj (sym same.1);
    }
