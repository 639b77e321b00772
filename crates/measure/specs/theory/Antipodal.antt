-- Corners of a shape that are furthest alone, one in a direction and the other in the opposite one, are antipodal.
--     strict-antipodal      where the direction looks right, the first is on the right-hand chain and the other on the left-hand one
use Rattle.std.specs.Prelude.{◌≡◌, refl, Bool, true, not, List, [], ◌∷◌, ℕ, ◌+◌, ◌-◌, ◌≤◌, ◌<◌, eqb, pos, length, ◌≤ℤ◌, ◌<ℤ◌}
use Rattle.std.proofs.Common.{sym, ◌∙◌, eqb-true}
use Rattle.std.proofs.Math.Bool.{false}
use native.Mathlib.Omega.{arith}
use Rattle.std.proofs.lemmas.Bool.{eqb-false, not-true, not-false}
use Rattle.std.specs.Int.Signed.{lt_z}
use Rattle.integer.specs.Linear.{lia, linear, ◌&◌}
use Rattle.integer.specs.Order.{weaken, lt_z-true, lt_z-false}
use Rattle.plane.specs.Cut.{quarter}
use Rattle.plane.specs.Point.{Point, corner, opposite}
use Rattle.plane.specs.Turn.{cross}
use Rattle.plane.specs.Search.{first}
use Rattle.plane.specs.Shape.{IsShape}
use Rattle.plane.specs.Direction.{value, support}
use Rattle.plane.specs.Forms.{up, edges}
use Rattle.plane.specs.Cycle.{round, corner_round}
use Rattle.plane.proofs.theory.lists.Members.{position-member}
use Rattle.plane.proofs.theory.lists.Sought.{first-le, first-true, first-least}
use Rattle.plane.proofs.theory.forms.Vector.{cross-turned, turned_lt}
use Rattle.plane.proofs.theory.forms.HalfPlane.{Up}
use Rattle.plane.proofs.theory.support.Support.{value-le-support}
use Rattle.plane.proofs.theory.sum.Positions.{edges-at-most, round-inner, round-within}
use Rattle.measure.specs.Half.{Chains, Antipodal}
use Rattle.measure.specs.theory.CutCorner.{Cut, cut-furthest}
use Rattle.measure.specs.theory.Chains.{chains-in, up_right, up_left, cross-facing, late-cross, cut_right, cut_left}

-- ---- corners that are furthest alone

module _ {A : List Point} (s : IsShape A) {d : Point} {j : ℕ} (c : Cut A d j) where
  -- a corner that alone is furthest is at the cut
  cut-alone : (k : ℕ) → k < length A → ((i : ℕ) → i < length A → (i ≡ k → ⊥) → value d (corner A i) <ℤ value d (corner A k))
      → round (length A) j ≡ k
  cut-alone k h alone = go (eqb (round (length A) j) k) refl
    where
      go : (b : Bool) → eqb (round (length A) j) k ≡ b → round (length A) j ≡ k
      go true e = eqb-true (round (length A) j) k e
      go false e =
          let below = alone (round (length A) j) (round-within (length A) j s.some (omega (arith, edges-at-most A, c.cut_in)))
          (eqb-false (round (length A) j) k e) in
          absurd (lia (value d (corner_round A j) ∷ value d (corner A k) ∷ support d A ∷ [])
          (below & cut-furthest s c & value-le-support d (position-member A k h)) (search linear depth 40) (omega arith))

module _ {A : List Point} {t : ℕ} (s : IsShape A) (h : Chains A t) (z : Point) (looks : up (quarter z) ≡ true) where
  -- ---- the edges of each chain up to the quarter of z, or up to its opposite

  tests-right : ℕ → Bool
  tests-right k = not (lt_z (pos 0) (cross (corner (edges A) k) (quarter z)))

  tests_left : ℕ → Bool
  tests_left k = not (lt_z (pos 0) (cross (quarter z) (corner (edges A) (t + k))))

  at_right : ℕ
  at_right = first tests-right t

  at_left : ℕ
  at_left = t + first tests_left (length (edges A) - t)

  right_le : at_right ≤ t
  unfolding at_right
  right_le = first-le tests-right t

  left_le : at_left ≤ length (edges A)
  unfolding at_left
  left_le = omega (arith, first-le tests_left (length (edges A) - t), chains-in h)

  left-ge : t ≤ at_left
  unfolding at_left
  left-ge = omega arith

  right-early : (k : ℕ) → k < at_right → pos 0 <ℤ cross (corner (edges A) k) (quarter z)
  unfolding at_right tests-right
  right-early k l = lt_z-true (not-false _ (first-least tests-right t k l))

  right-late : at_right < t → cross (corner (edges A) at_right) (quarter z) ≤ℤ pos 0
  unfolding at_right tests-right
  right-late l = lt_z-false (not-true _ (first-true tests-right t l))

  left-early : (k : ℕ) → t ≤ k → k < at_left → pos 0 <ℤ cross (quarter z) (corner (edges A) k)
  unfolding at_left tests_left
  left-early k l m =
      let e : t + (k - t) ≡ k = omega arith in
      let test : tests_left (k - t) ≡ false = first-least tests_left (length (edges A) - t) (k - t) (omega arith) in
      lt_z-true (not-false _ (rw e at test))

  left-late : at_left < length (edges A) → cross (quarter z) (corner (edges A) at_left) ≤ℤ pos 0
  unfolding at_left tests_left
  left-late l = lt_z-false (not-true _ (first-true tests_left (length (edges A) - t) (omega arith)))

  -- ---- they lead to the two furthest corners

  furthest-right : Cut A z at_right
  furthest-right = cut_right s h (quarter z) looks refl right_le right-early right-late

  furthest-left : Cut A (opposite z) at_left
  furthest-left = cut_left s h (quarter z) looks refl left-ge left_le left-early left-late

  -- ---- which are antipodal

  up-quarter : Up (quarter z)
  up-quarter = record { precedes-true = looks }

  antipodal-here : Antipodal A t at_right at_left
  antipodal-here = record {
    right-in = right_le;
    left-from = left-ge;
    left_in = left_le;
    right-passed = λ k l m. rw cross-facing at (late-cross (up_right h k (omega (arith, right_le))) (up_left h s at_left left-ge m)
        up-quarter (right-early k l) (rw cross-turned (left-late m)));
    left_passed = λ k l m n. weaken (rw cross-turned at (late-cross (up_left h s k l (omega (arith, left_le))) (up_right h at_right n)
        up-quarter (rw cross-turned (left-early k l m)) (right-late n)));
  }

  pub strict-antipodal : (k l : ℕ) → k < length A → l < length A
      → ((i : ℕ) → i < length A → (i ≡ k → ⊥) → value z (corner A i) <ℤ value z (corner A k))
      → ((i : ℕ) → i < length A → (i ≡ l → ⊥) → value z (corner A l) <ℤ value z (corner A i))
      → (a b : ℕ) × Antipodal A t a b × (a ≡ k) × (round (length A) b ≡ l)
  strict-antipodal k l hk hl most least = (
    at_right,
    at_left,
    antipodal-here,
    sym (round-inner (length A) at_right (omega (arith, right_le, h.within))) ∙ cut-alone s furthest-right k hk most,
    cut-alone s furthest-left l hl (λ i m other. turned_lt z (corner A l) (corner A i) (least i m other)),
  )
