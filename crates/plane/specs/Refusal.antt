-- Refusals 1 to 5: what is wrong with one list (document 01, "When the map desk says no"). `which` is the shape that is blamed, 1 or 2.
--     shape_rows which l    the five rows, in number order
--     InRange l            "each coordinate from -1,000,000 to 1,000,000"
--     Valid l              l meets all that stands under "What makes a shape"
-- What it means: `valid→accepted`, `accepted→valid`.
use Rattle.std.specs.Prelude.{Bool, false, cond, ◌&&◌, ◌||◌, List, [], ◌∷◌, ◌≡◌, ℕ, ◌%◌, ◌≤◌, ◌<◌, eqb, ltb, length, get_or, ℤ, pos}
use Rattle.std.specs.Prelude.{nat_abs}
use Rattle.integer.specs.Bound.{Within}
use Rattle.plane.specs.Limits.{max_corners, max_coordinate}
use Rattle.plane.specs.Point.{Point, points, corner, same_point}
use Rattle.plane.specs.Search.{some, first}
use Rattle.plane.specs.Shape.{breaks, precedes, IsShape}
use Rattle.plane.specs.Reply.{Row, row}

-- 1: "the list is empty or holds an odd count of numbers"
unfoldable pub bad_count : List ℤ → Bool
bad_count l = eqb (length l) 0 || eqb (length l % 2) 1

-- 2: more corners than a shape may have
unfoldable pub too_many : List Point → Bool
too_many ps = ltb max_corners (length ps)

-- 3: "some coordinate outside its range"
unfoldable pub outside : ℤ → Bool
outside z = ltb max_coordinate (nat_abs z)

unfoldable pub some_outside : List ℤ → Bool
some_outside [] = false
some_outside (z ∷ l) = outside z || some_outside l

-- "two equal corners in a list of two"
unfoldable pub equal_pair : List Point → Bool
equal_pair ps = eqb (length ps) 2 && same_point (corner ps 0) (corner ps 1)

-- "the left rule broken": at some edge, by some corner
unfoldable pub left_broken : List Point → Bool
left_broken ps = some (λ e. some (breaks ps e) (length ps)) (length ps)

-- "the first edge, then the first corner, that breaks the left rule"
unfoldable pub breaking_edge : List Point → ℕ
breaking_edge ps = first (λ e. some (breaks ps e) (length ps)) (length ps)

unfoldable pub breaking_corner : List Point → ℕ
breaking_corner ps = first (breaks ps (breaking_edge ps)) (length ps)

-- 4: "two equal corners in a list of two, or the left rule broken"
unfoldable pub rule_broken : List Point → Bool
rule_broken ps = equal_pair ps || left_broken ps

-- "Number 4 also gives the first edge, then the first corner, that breaks the left rule; for a list of two it gives positions 0 and 1"
unfoldable pub broken_edge : List Point → ℕ
broken_edge ps = cond (equal_pair ps) 0 (breaking_edge ps)

unfoldable pub broken_corner : List Point → ℕ
broken_corner ps = cond (equal_pair ps) 1 (breaking_corner ps)

-- 5: "the corners pass, but the first is not the standard one"
unfoldable pub bad_start : List Point → Bool
bad_start ps = some (λ c. precedes (corner ps c) (corner ps 0)) (length ps)

abbrev pub shape_rows : ℕ → List ℤ → List Row
shape_rows which l =
    row 1 (bad_count l) (which ∷ [])
    ∷ row 2 (too_many (points l)) (which ∷ [])
    ∷ row 3 (some_outside l) (which ∷ [])
    ∷ row 4 (rule_broken (points l)) (which ∷ broken_edge (points l) ∷ broken_corner (points l) ∷ [])
    ∷ row 5 (bad_start (points l)) (which ∷ [])
    ∷ []

-- every coordinate is in its range
pub record InRange (l : List ℤ) : Type 0 where
  pub near : (i : ℕ) → i < length l → Within max_coordinate (get_or l i (pos 0))

pub record Valid (l : List ℤ) : Type 0 where
  pub paired : length l % 2 ≡ 0
  pub few : length (points l) ≤ max_corners
  pub in_range : InRange l
  pub shape : IsShape (points l)
