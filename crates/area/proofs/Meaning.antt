-- What the area says of shapes. Each theorem is proved in the theory; here it is only cited.
--     ground       a point and a segment have none, three corners have some; the list may be begun at any corner
--     compared     a shape inside another has no more area, and less unless it is the same: **a lost corner shows in the area**
--     moved        moving and mirroring change nothing
--     merged       a merge has at least the area of each of its shapes
--     bounded      a shape that the questions admit has less than 2^43
use Rattle.std.specs.Prelude.{◌≡◌, true, List, ◌++◌, map, ◌<◌, ◌≤◌, ◌^◌, ℤ, pos, length, ◌≤ℤ◌, ◌<ℤ◌}
use Rattle.plane.specs.Point.{Point, points, ◌⊕◌}
use Rattle.plane.specs.Shape.{IsShape}
use Rattle.plane.specs.Refusal.{Valid}
use Rattle.plane.specs.Corner.{shape_of, mirrored}
use Rattle.plane.specs.Separation.{inside}
use Rattle.area.specs.Area.{twice_area}
use Rattle.area.proofs.theory.Compared.{area-none, area-positive, area-nonneg, inside-no-more, equal-area-same, other-has-less}
use Rattle.area.proofs.theory.Compared.{area-turned, mirrored-area, moved-area, merged-first, merged-second}
use Rattle.area.proofs.theory.Bounded.{area-bounded}

-- ---- ground

pub two-corners-have-no-area : (P : List Point) → length P ≤ 2 → twice_area P ≡ pos 0
two-corners-have-no-area P few = area-none P few

pub three-corners-have-area : (P : List Point) → IsShape P → 2 < length P → pos 0 <ℤ twice_area P
three-corners-have-area P s three = area-positive P s three

pub area-is-not-below-zero : (P : List Point) → IsShape P → pos 0 ≤ℤ twice_area P
area-is-not-below-zero P s = area-nonneg P s

-- the corners once round, begun anywhere
pub area-begins-anywhere : (A B : List Point) → twice_area (A ++ B) ≡ twice_area (B ++ A)
area-begins-anywhere A B = area-turned A B

-- ---- compared

module _ (N O : List Point) (s : IsShape N) (t : IsShape O) (h : inside N O ≡ true) where
  pub inside-has-no-more-area : twice_area N ≤ℤ twice_area O
  inside-has-no-more-area = inside-no-more N O s t h

  -- a polygon, and a shape inside it with as much area
  pub as-much-area-is-the-same-shape : twice_area O ≤ℤ twice_area N → 2 < length O → N ≡ O
  as-much-area-is-the-same-shape k three = equal-area-same N O s t h k three

  -- a map that lost a corner of a polygon has less area there
  pub other-shape-inside-has-less-area : 2 < length O → (N ≡ O → ⊥) → twice_area N <ℤ twice_area O
  other-shape-inside-has-less-area three n = other-has-less N O s t h three n

-- ---- moved

pub moved-has-same-area : (P : List Point) (t : Point) → twice_area (map (λ p. p ⊕ t) P) ≡ twice_area P
moved-has-same-area P t = moved-area P t

pub mirrored-has-same-area : (P : List Point) → IsShape P → twice_area (shape_of (mirrored P)) ≡ twice_area P
mirrored-has-same-area P s = mirrored-area P s

-- ---- merged

module _ (A B : List Point) (s : IsShape A) (t : IsShape B) where
  pub merge-has-no-less-area : (twice_area A ≤ℤ twice_area (shape_of (A ++ B))) × (twice_area B ≤ℤ twice_area (shape_of (A ++ B)))
  merge-has-no-less-area = (merged-first A B s t, merged-second A B s t)

-- ---- bounded

-- twice the area of the square of all places in range is 8,000,000,000,000
pub area-is-bounded : (l : List ℤ) → Valid l → twice_area (points l) <ℤ pos (2 ^ 43)
area-is-bounded l v = area-bounded l v
