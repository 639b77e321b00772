-- Which side of a line a point is on, by the side's sign. All that follows takes the sign as a number and serves every side.
--     sign-square, sign-not    the sign is 1 or -1; the other side has the other sign. Only these two tell left from right
--     sign_zero                on both sides is on the line
--     same-side                two turns to one side: their product is not below 0
--     side-back                the line turned round, the other side
--     side_left, side_right    the test for either side as code makes it
use Rattle.std.specs.Prelude.{◌≡◌, refl, Bool, true, false, not, [], ◌∷◌, ℤ, pos, neg_ℤ, ◌*ℤ◌, ◌≤ℤ◌}
use Rattle.std.proofs.Common.{ap, arith}
use Rattle.std.specs.Int.Signed.{le_z}
use Rattle.integer.specs.Laws.{one-*ℤ}
use Rattle.integer.specs.Linear.{linear, lia, ◌&◌}
use Rattle.integer.specs.Order.{◌≤×≤◌, ◌≡×◌, le_antisym, le-le_z, le_z-true}
use Rattle.plane.specs.Point.{Point}
use Rattle.plane.specs.Turn.{turn, turn-swap}
use Rattle.plane.specs.Tangent.{sign_of}
use Rattle.plane.proofs.theory.lists.Sought.{tests_agree}

-- ---- signs

-- `sign_of` is defined by the two sides, and so these two facts about it are proved by them
pub sign-square : (s : Bool) → sign_of s *ℤ sign_of s ≡ pos 1
sign-square true = refl
sign-square false = refl

pub sign-not : (s : Bool) → sign_of (not s) ≡ neg_ℤ (sign_of s)
sign-not true = refl
sign-not false = refl

pub sign_zero : (s : Bool) {z : ℤ} → pos 0 ≤ℤ (sign_of s *ℤ z) → (sign_of s *ℤ z) ≤ℤ pos 0 → z ≡ pos 0
sign_zero s {z} h k = lia (sign_of s ∷ z ∷ []) (le_antisym k h ≡× sign_of s & sign-square s ≡× z) (search linear depth 40) (omega arith)

pub same-side : (s : Bool) (y z : ℤ) → pos 0 ≤ℤ (sign_of s *ℤ y) → pos 0 ≤ℤ (sign_of s *ℤ z) → pos 0 ≤ℤ (y *ℤ z)
same-side s y z h k =
    lia (sign_of s ∷ y ∷ z ∷ []) (h ≤×≤ k & sign-square s ≡× (y *ℤ z)) (search linear depth 40) (omega arith)

pub side-back : (t : Bool) (p q y : Point) → pos 0 ≤ℤ (sign_of (not t) *ℤ turn q p y) → pos 0 ≤ℤ (sign_of t *ℤ turn p q y)
side-back t p q y h = lia (sign_of t ∷ sign_of (not t) ∷ turn p q y ∷ turn q p y ∷ [])
    (h & sign-not t ≡× turn q p y & turn-swap p q y ≡× sign_of t) (search linear depth 40) (omega arith)

-- ---- the test for either side, which code makes without the sign

pub side_left : (z : ℤ) → le_z (pos 0) (sign_of true *ℤ z) ≡ le_z (pos 0) z
side_left z = ap (le_z (pos 0)) (one-*ℤ z)

pub side_right : (z : ℤ) → le_z (pos 0) (sign_of false *ℤ z) ≡ le_z z (pos 0)
side_right z = tests_agree _ _
    (λ h. le-le_z {x = z} {y = pos 0}
    (lia (z ∷ []) (le_z-true {x = pos 0} {y = sign_of false *ℤ z} h) (search linear depth 40) (omega arith)))
    (λ h. le-le_z {x = pos 0} {y = sign_of false *ℤ z}
    (lia (z ∷ []) (le_z-true {x = z} {y = pos 0} h) (search linear depth 40) (omega arith)))
