-- Inside, as the code decides it: in a polygon by a walk round both shapes, in a point or a segment corner by corner.
--     LeftUpTo A B j                     no corner of A is to the right of one of the first j edges of B
--     left-start, left-more              the moves of the walk: where it passes an edge, the corner of A at hand is least to its left
--     left-all, right-outside            past all edges A is inside; with a corner to the right of an edge it is not
--     cross-edge                         what the code tests is the turn
--     corners-inside, corner-outside     A is inside if all its corners are, and not if one is not
--     segment-off, segment-level         a point that is not on the line of a segment; one that is
--     ends-inside                        a point or a segment is given by its first corner and its last
use Rattle.std.specs.Prelude.{◌≡◌, refl, true, false, List, [], ◌∷◌, ℕ, ◌+◌, ◌-◌, ◌≤◌, ◌<◌, pos, length, ◌≤ℤ◌, ◌<ℤ◌}
use Rattle.std.proofs.Common.{sym, ◌∙◌, arith, below_more}
use mathlib.Core.List.Memᴰ
use Rattle.std.specs.Int.Signed.{le_z, clash_ℤ}
use Rattle.integer.specs.Ring.{ring, reify}
use Rattle.integer.specs.Linear.{linear, lia, ◌&◌}
use Rattle.integer.specs.Order.{le_trans, le_z-true, le-le_z}
use Rattle.plane.specs.Cut.{quarter, outward}
use Rattle.plane.specs.Point.{Point, corner, ◌⊖◌, ◌∈◌}
use Rattle.plane.specs.Turn.{cross, turn, turn-cross, turn-cycle}
use Rattle.plane.specs.Shape.{next, IsShape}
use Rattle.plane.specs.Direction.{value, support}
use Rattle.plane.specs.Forms.{edges}
use Rattle.plane.specs.Cycle.{corner_round}
use Rattle.plane.specs.Separation.{inside}
use Rattle.plane.proofs.theory.lists.Members.{point-path, position-member, member-position}
use Rattle.plane.proofs.theory.lists.Sought.{tests_agree, true-not-false}
use Rattle.plane.proofs.theory.sum.Positions.{round-inner, round-within, edges-at-most, edge_at}
use Rattle.plane.proofs.theory.support.Support.{value-le-support, support-same}
use Rattle.calipers.specs.Places.{Standing}
use Rattle.calipers.specs.theory.Standing.{Taken, standing-swap}
use Rattle.calipers.specs.theory.Furthest.{place-furthest}
use Rattle.separation.specs.theory.Around.{refuted}
use Rattle.separation.specs.theory.Inside.{inside→reach, reach→inside}
use Rattle.separation.specs.theory.InsideShape.{inside→each, each→inside, polygon-inside→left, polygon-left→inside}
use Rattle.separation.specs.theory.InsideShape.{segment-inside→between, segment-between→inside}
use Rattle.separation.specs.theory.Sector.{value-outward}

-- ---- corner by corner

module _ (A D : List Point) (some : 0 < length D) where
  pub corners-inside : 0 < length A → ((k : ℕ) → k < length A → inside (corner A k ∷ []) D ≡ true) → inside A D ≡ true
  corners-inside a f = each→inside A D some a (λ p m. let r = member-position m in rw r.2 at (f r.0 r.1))

  pub corner-outside : (k : ℕ) → k < length A → inside (corner A k ∷ []) D ≡ false → inside A D ≡ false
  corner-outside k h e =
      refuted (inside A D) (λ t. true-not-false (inside→each A D some t (corner A k) (position-member A k h)) e)

-- ---- a polygon

pub record LeftUpTo (A B : List Point) (j : ℕ) : Type 0 where
  pub left : (k : ℕ) → k < j → (q : Point) → q ∈ A → pos 0 ≤ℤ turn (corner B k) (corner B (next (length B) k)) q

quarter-outward : (a b : Point) → quarter (outward a b) ≡ b ⊖ a
quarter-outward a b = point-path (ring (a.x ∷ b.x ∷ []) (search reify depth 40) tt) refl

pub cross-edge : (B : List Point) (j : ℕ) (q : Point) → j < length (edges B)
    → cross (corner (edges B) j) (q ⊖ corner_round B j) ≡ turn (corner B j) (corner B (next (length B) j)) q
cross-edge B j q h =
    rw (edge_at B j h, round-inner (length B) j (omega (arith, edges-at-most B)))
    (sym (turn-cross (corner B j) (corner B (next (length B) j)) q))

pub left-start : (A B : List Point) → LeftUpTo A B 0
left-start A B = record { left = λ k h. absurd (omega arith) }

module _ (A B : List Point) (s_a : IsShape A) (s_b : IsShape B) where
  pub left-all : {j : ℕ} → LeftUpTo A B j → length B ≤ j → 2 < length B → inside A B ≡ true
  left-all l e three = each→inside A B s_b.some s_a.some
      (λ p m. polygon-left→inside B s_b p three (λ k h. l.left k (omega arith) p m))

  -- the walk passes edge j of B: in the direction out of it the corner of A at hand is furthest
  least-left : {i j : ℕ} → Standing (edges A) (edges B) i j → Taken (edges B) j (edges A) i → (q : Point) → q ∈ A
      → turn (corner B j) (corner B (next (length B) j)) (corner_round A i) ≤ℤ turn (corner B j) (corner B (next (length B) j)) q
  least-left {i} {j} s t q m =
      let a = corner B j in
      let b = corner B (next (length B) j) in
      let p = corner_round A i in
      let d = outward a b in
      lia (value d q ∷ value d p ∷ value d a ∷ support d A ∷ turn a b p ∷ turn a b q ∷ [])
      (value-outward a b q & value-outward a b p & value-le-support d m
      & place-furthest s_a (standing-swap s) t d (quarter-outward a b ∙ sym (edge_at B j t.there)))
      (search linear depth 40) (omega arith)

  pub left-more : {i j : ℕ} → LeftUpTo A B j → Standing (edges A) (edges B) i j → Taken (edges B) j (edges A) i
      → pos 0 ≤ℤ turn (corner B j) (corner B (next (length B) j)) (corner_round A i) → LeftUpTo A B (j + 1)
  left-more {j = j} l s t h = record {
    left = below_more (λ k. (q : Point) → q ∈ A → pos 0 ≤ℤ turn (corner B k) (corner B (next (length B) k)) q) j l.left
        (λ q m. le_trans h (least-left s t q m));
  }

  pub right-outside : (i j : ℕ) → i ≤ length A → j < length B → turn (corner B j) (corner B (next (length B) j)) (corner_round A i) <ℤ pos 0
      → inside A B ≡ false
  right-outside i j h k r = refuted (inside A B) (λ t. clash_ℤ r (polygon-inside→left B s_b (corner_round A i)
      (inside→each A B s_b.some t (corner_round A i) (position-member A _ (round-within (length A) i s_a.some h))) j k))

-- ---- a segment

module _ (p q x : Point) where
  -- what the code tests first is the turn
  cross-ends : turn p q x ≡ cross (p ⊖ x) (q ⊖ x)
  cross-ends = sym (turn-cycle x p q) ∙ turn-cross x p q

  pub segment-off : (cross (p ⊖ x) (q ⊖ x) ≡ pos 0 → ⊥) → inside (x ∷ []) (p ∷ q ∷ []) ≡ false
  segment-off n = refuted (inside (x ∷ []) (p ∷ q ∷ [])) (λ t. n (sym cross-ends ∙ (segment-inside→between p q x t).0))

  pub segment-level : cross (p ⊖ x) (q ⊖ x) ≡ pos 0 → le_z (value (p ⊖ x) (q ⊖ x)) (pos 0) ≡ inside (x ∷ []) (p ∷ q ∷ [])
  segment-level e = tests_agree _ _ (λ h. segment-between→inside p q x (cross-ends ∙ e) (le_z-true h))
      (λ h. le-le_z (segment-inside→between p q x h).1)

-- a point is a segment that ends where it starts
point-twice : (A : List Point) (p : Point) → 0 < length A → inside A (p ∷ p ∷ []) ≡ inside A (p ∷ [])
point-twice A p a = tests_agree (inside A (p ∷ p ∷ [])) (inside A (p ∷ []))
    (λ h. reach→inside A (p ∷ []) a (omega arith) (λ d. rw (same d) at (inside→reach A (p ∷ p ∷ []) a (omega arith) h d)))
    (λ h. reach→inside A (p ∷ p ∷ []) a (omega arith) (λ d. rw (same d) (inside→reach A (p ∷ []) a (omega arith) h d)))
  where
    once : (q : Point) → q ∈ (p ∷ p ∷ []) → q ∈ (p ∷ [])
    once q (Memᴰ.head e) = Memᴰ.head e
    once q (Memᴰ.tail m) = m

    same : (d : Point) → support d (p ∷ p ∷ []) ≡ support d (p ∷ [])
    same d = support-same d (p ∷ p ∷ []) (p ∷ []) once (λ q m. Memᴰ.tail m)

pub ends-inside : (A B : List Point) → 0 < length A → 0 < length B → length B < 3
    → inside A (corner B 0 ∷ corner B (length B - 1) ∷ []) ≡ inside A B
ends-inside A [] a b h = absurd (omega arith)
ends-inside A (p ∷ []) a b h = point-twice A p a
ends-inside A (p ∷ (q ∷ [])) a b h = refl
ends-inside A (p ∷ (q ∷ (r ∷ B))) a b h = absurd (omega arith)
