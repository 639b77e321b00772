-- Pairs of corners that touch (`touches`), as facts about turns.
--     touches-all           a pair touches, if all of the first list is on its side or on the line, and all of the second
--     touching-one-line     of lists that are apart, a pair that touches is on the line of any other that does
use Rattle.std.specs.Prelude.{◌≡◌, Bool, true, List, ℕ, ◌<◌, pos, ◌*ℤ◌, length, ◌≤ℤ◌}
use Rattle.std.proofs.Math.Bool.{and-eq-true_iff}
use Rattle.integer.specs.Order.{le-le_z, le_z-true}
use Rattle.plane.specs.Point.{Point, corner}
use Rattle.plane.specs.Turn.{turn}
use Rattle.plane.specs.Tangent.{sign_of, on_side, all_on_side, touches}
use Rattle.plane.proofs.theory.lists.Sought.{all-every, every-all}
use Rattle.separation.specs.theory.Apart.{Separated}
use Rattle.tangents.specs.theory.Sides.{same-side}
use Rattle.tangents.specs.theory.OneLine.{one_line}
use Rattle.tangents.specs.theory.SettledExists.{rises}

module _ (s t : Bool) (A B : List Point) (i j : ℕ) where
  touches-first : touches s t A B i j ≡ true → (k : ℕ) → k < length A
      → pos 0 ≤ℤ (sign_of s *ℤ turn (corner A i) (corner B j) (corner A k))
  unfolding touches on_side
  touches-first h k l = le_z-true (every-all (λ k. on_side s (corner A i) (corner B j) (corner A k)) (length A)
      ((and-eq-true_iff _ _).0 h).0 k l)

  touches-second : touches s t A B i j ≡ true → (k : ℕ) → k < length B
      → pos 0 ≤ℤ (sign_of t *ℤ turn (corner A i) (corner B j) (corner B k))
  unfolding touches on_side
  touches-second h k l = le_z-true (every-all (λ k. on_side t (corner A i) (corner B j) (corner B k)) (length B)
      ((and-eq-true_iff (all_on_side s (corner A i) (corner B j) A) _).0 h).1 k l)

  pub touches-all : ((k : ℕ) → k < length A → pos 0 ≤ℤ (sign_of s *ℤ turn (corner A i) (corner B j) (corner A k)))
      → ((k : ℕ) → k < length B → pos 0 ≤ℤ (sign_of t *ℤ turn (corner A i) (corner B j) (corner B k))) → touches s t A B i j ≡ true
  unfolding touches on_side
  touches-all f g = (and-eq-true_iff _ _).1
      (all-every _ (length A) (λ k l. le-le_z (f k l)), all-every _ (length B) (λ k l. le-le_z (g k l)))

-- corner i and corner k are on side s of each other's line, corner j and corner l on side t
module _ (s t : Bool) {A B : List Point} (sep : Separated A B) {i j k l : ℕ} (at_i : i < length A) (at_j : j < length B)
    (at-k : k < length A) (at-l : l < length B) where
  pub touching-one-line : touches s t A B i j ≡ true → touches s t A B k l ≡ true
      → (turn (corner A i) (corner B j) (corner A k) ≡ pos 0) × (turn (corner A i) (corner B j) (corner B l) ≡ pos 0)
  touching-one-line h m = one_line (rises sep i j at_i at_j) (rises sep i l at_i at-l) (rises sep k j at-k at_j) (rises sep k l at-k at-l)
      (same-side s _ _ (touches-first s t A B i j h k at-k) (touches-first s t A B k l m i at_i))
      (same-side t _ _ (touches-second s t A B i j h l at-l) (touches-second s t A B k l m j at_j))
