-- A direction offered as the reason that two shapes are apart (document 02, request W13).
--     below d A B           "every corner of the first is strictly below every corner of the second in it"
--     offer_number d A B     what is answered: 1 accepted, 0 not
-- What it means: `Meaning.antt` of witness.
use Rattle.std.specs.Prelude.{Bool, cond, List, ℤ, pos, length}
use Rattle.std.specs.Int.Signed.{lt_z}
use Rattle.plane.specs.Point.{Point, corner}
use Rattle.plane.specs.Search.{every}
use Rattle.plane.specs.Direction.{value}

unfoldable pub below : Point → List Point → List Point → Bool
below d A B = every (λ i. every (λ j. lt_z (value d (corner A i)) (value d (corner B j))) (length B)) (length A)

-- "accept exactly when .., else answer no"
abbrev pub offer_number : Point → List Point → List Point → ℤ
offer_number d A B = cond (below d A B) (pos 1) (pos 0)
