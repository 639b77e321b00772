-- The face of a shape in a direction (document 02, request W8): "the first and the last of the tied corners counterclockwise, equal if
-- there is one".
--     is_furthest d ps i     corner i has the greatest value
--     is_flat d ps e         both ends of the edge that leaves corner e have it
--     flat_edge d ps         the first such edge; the count of corners where there is none
--     face_first d ps        the corner that it leaves; where there is none, the one furthest corner
--     face_last d ps         the corner at which it arrives; where there is none, the same
--     Furthest, Face        that a corner is furthest, and that two are the ends of the face, as facts
-- A shape of three or more has at most one such edge. "A segment lying across the direction" has two, from 0 to 1 and back, and the first
-- of them "gives 0 and 1", whichever way the direction points. The edge of a point leads from the point to itself.
-- What it means: the section of faces in `Meaning.antt`.
use Rattle.std.specs.Prelude.{◌≡◌, Bool, cond, ◌&&◌, ◌⊎◌, List, ℕ, ◌≤◌, ◌<◌, ltb, length}
use Rattle.std.specs.Int.Signed.{le_z}
use Rattle.plane.specs.Point.{Point, corner}
use Rattle.plane.specs.Search.{first}
use Rattle.plane.specs.Shape.{next}
use Rattle.plane.specs.Direction.{value, support, furthest}

abbrev pub is_furthest : Point → List Point → ℕ → Bool
is_furthest d ps i = le_z (support d ps) (value d (corner ps i))

abbrev pub is_flat : Point → List Point → ℕ → Bool
is_flat d ps e = is_furthest d ps e && is_furthest d ps (next (length ps) e)

abbrev pub flat_edge : Point → List Point → ℕ
flat_edge d ps = first (is_flat d ps) (length ps)

unfoldable pub face_first : Point → List Point → ℕ
face_first d ps = cond (ltb (flat_edge d ps) (length ps)) (flat_edge d ps) (furthest d ps)

unfoldable pub face_last : Point → List Point → ℕ
face_last d ps = cond (ltb (flat_edge d ps) (length ps)) (next (length ps) (flat_edge d ps)) (furthest d ps)

-- ---- the same as facts

-- corner i has the greatest value
pub record Furthest (d : Point) (ps : List Point) (i : ℕ) : Type 0 where
  pub within : i < length ps
  pub has : value d (corner ps i) ≡ support d ps

-- i and j are the first and the last of the tied corners: they have the greatest value and no other corner has it, they are one corner or
-- neighbours counterclockwise, and of a segment the first comes first
pub record Face (d : Point) (ps : List Point) (i j : ℕ) : Type 0 where
  pub first-furthest : Furthest d ps i
  pub last-furthest : Furthest d ps j
  pub neighbours : (j ≡ i) ⊎ (j ≡ next (length ps) i)
  pub no_other : (k : ℕ) → Furthest d ps k → (k ≡ i) ⊎ (k ≡ j)
  pub in_order : length ps ≡ 2 → i ≤ j
