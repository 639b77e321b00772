-- How two lists of corners relate to each other, in document 01's words ("Relation"). A direction is any two whole numbers.
--     AllBelow d A B      "every corner of the first has a value strictly less than every corner of the second"
--     NoneAbove d A B     "less or equal holds"
--     IsApart A B         AllBelow in some direction
--     IsTouching A B      otherwise: NoneAbove in some direction other than (0,0)
--     IsOverlapping A B   otherwise
-- What is answered of each: `Meaning.antt`.
use Rattle.std.specs.Prelude.{◌≡◌, List, ◌≤ℤ◌, ◌<ℤ◌}
use Rattle.plane.specs.Point.{Point, origin, ◌∈◌}
use Rattle.plane.specs.Direction.{value}

abbrev pub AllBelow : Point → List Point → List Point → Type 0
AllBelow d A B = (p q : Point) → p ∈ A → q ∈ B → value d p <ℤ value d q

abbrev pub NoneAbove : Point → List Point → List Point → Type 0
NoneAbove d A B = (p q : Point) → p ∈ A → q ∈ B → value d p ≤ℤ value d q

abbrev pub IsApart : List Point → List Point → Type 0
IsApart A B = (d : Point) × AllBelow d A B

abbrev pub IsTouching : List Point → List Point → Type 0
IsTouching A B = (IsApart A B → ⊥) × (d : Point) × (d ≡ origin → ⊥) × NoneAbove d A B

abbrev pub IsOverlapping : List Point → List Point → Type 0
IsOverlapping A B = (IsApart A B → ⊥) × (IsTouching A B → ⊥)
