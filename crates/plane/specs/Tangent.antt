-- Lines that just touch both of two shapes (document 02, request W1): "four directed lines from a corner of the first to a corner of the
-- second". A side is a Bool, true for the left; one definition serves all four kinds.
--     sign_of s              1 for the left, -1 for the right
--     on_side s p q x        x is on side s of the line from p to q, or on it
--     all_on_side s p q ps    so are all corners of ps
--     touches s t A B i j   the line from corner i of A to corner j of B has all of A on side s and all of B on side t
--     tangent s t A B i j   it touches, and no pair of corners that touches is nearer
--     tangent_from, tangent_to     the first such i, and its first j
--     tangent_positions A B  these of all four kinds
-- What it means: exactly one pair is meant, if A and B are apart (`Meaning.antt` of the crate `tangents`).
use Rattle.std.specs.Prelude.{Bool, true, false, not, ◌&&◌, List, [], ◌∷◌, ℕ, ℤ, pos, negsuc, ◌*ℤ◌, length}
use Rattle.std.specs.Int.Signed.{lt_z, le_z}
use Rattle.plane.specs.Point.{Point, corner}
use Rattle.plane.specs.Turn.{turn}
use Rattle.plane.specs.Search.{some, every, first}
use Rattle.plane.specs.Measure.{squared}

abbrev pub sign_of : Bool → ℤ
sign_of true = pos 1
sign_of false = negsuc 0

-- "On the line counts for either side"
unfoldable pub on_side : Bool → Point → Point → Point → Bool
on_side s p q x = le_z (pos 0) (sign_of s *ℤ turn p q x)

abbrev pub all_on_side : Bool → Point → Point → List Point → Bool
all_on_side s p q ps = every (λ k. on_side s p q (corner ps k)) (length ps)

-- "lines that just touch both"
unfoldable pub touches : Bool → Bool → List Point → List Point → ℕ → ℕ → Bool
touches s t A B i j = all_on_side s (corner A i) (corner B j) A && all_on_side t (corner A i) (corner B j) B

-- corners k and l touch as well, and are nearer to each other than i and j
unfoldable pub nearer : Bool → Bool → List Point → List Point → ℕ → ℕ → ℕ → ℕ → Bool
nearer s t A B i j k l = touches s t A B k l && lt_z (squared (corner A k) (corner B l)) (squared (corner A i) (corner B j))

-- "Among several pairs on a line, the nearest pair is meant"
unfoldable pub tangent : Bool → Bool → List Point → List Point → ℕ → ℕ → Bool
tangent s t A B i j = touches s t A B i j && not (some (λ k. some (nearer s t A B i j k) (length B)) (length A))

unfoldable pub tangent_from : Bool → Bool → List Point → List Point → ℕ
tangent_from s t A B = first (λ i. some (tangent s t A B i) (length B)) (length A)

unfoldable pub tangent_to : Bool → Bool → List Point → List Point → ℕ
tangent_to s t A B = first (tangent s t A B (tangent_from s t A B)) (length B)

-- "both shapes on the left or on the line, both on the right, first left and second right, and the reverse": of each kind the position in
-- the first shape, then in the second
abbrev pub tangent_positions : List Point → List Point → List ℤ
tangent_positions A B =
    pos (tangent_from true true A B) ∷ pos (tangent_to true true A B)
    ∷ pos (tangent_from false false A B) ∷ pos (tangent_to false false A B)
    ∷ pos (tangent_from true false A B) ∷ pos (tangent_to true false A B)
    ∷ pos (tangent_from false true A B) ∷ pos (tangent_to false true A B) ∷ []
