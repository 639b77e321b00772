-- How far a place is past a wall, as the code finds it.
--     near-place, small-place, small-side       places and directions of sides are small
--     side-value, side-support, side-past       the numbers at a side are bounded
--     past-edge                                 past an edge: to its right
--     past-cross                                that as a product
use Rattle.std.specs.Prelude.{◌≡◌, List, [], ◌∷◌, ℕ, ◌<◌, ◌^◌, ℤ, neg_ℤ, length}
use Rattle.std.proofs.Common.{arith, lit≤}
use Rattle.integer.specs.Ring.{ring, reify}
use Rattle.integer.specs.Linear.{linear, lia, ◌&◌}
use Rattle.integer.specs.Bound.{Within, within-widen, within-add, within-neg}
use Rattle.plane.specs.Limits.{max_coordinate, max_part}
use Rattle.plane.specs.Point.{Point, points, corner, ◌⊖◌}
use Rattle.plane.specs.Turn.{turn, cross}
use Rattle.plane.specs.Shape.{next, IsShape}
use Rattle.plane.specs.Direction.{value, support}
use Rattle.plane.specs.Refusal.{InRange}
use Rattle.plane.proofs.theory.lists.Flat.{Near}
use Rattle.plane.proofs.theory.lists.Members.{position-member}
use Rattle.plane.proofs.theory.support.Support.{support-unique}
use Rattle.plane.proofs.theory.support.Bounds.{value-size, support-size}
use Rattle.polygon.specs.Point.{Small}
use Rattle.separation.specs.theory.Sector.{value-outward, edge-outermost}
use Rattle.motion.specs.Contact.{edge_normal, past}

-- ---- places

pub near-place : {p : Point} → Small max_coordinate p → Near p
near-place s = record { near-x = s.small-x; near-y = s.small-y }

pub small-place : {p : Point} → Small max_coordinate p → Small (2 ^ 21) p
unfolding max_coordinate
small-place s = record { small-x = within-widen (lit≤ tt) s.small-x; small-y = within-widen (lit≤ tt) s.small-y }

pub small-side : {d : Point} → Small 1 d → Small (2 ^ 22) d
small-side s = record { small-x = within-widen (lit≤ tt) s.small-x; small-y = within-widen (lit≤ tt) s.small-y }

-- ---- a side of the box

module _ {d : Point} (s : Small 1 d) where
  part-x : Within max_part d.x
  unfolding max_part
  part-x = within-widen (lit≤ tt) s.small-x

  part-y : Within max_part d.y
  unfolding max_part
  part-y = within-widen (lit≤ tt) s.small-y

  pub side-value : {p : Point} → Small max_coordinate p → Within 4_000_000_000_000 (value d p)
  side-value p = value-size part-x part-y (near-place p)

  pub side-support : (l : List ℤ) → InRange l → 0 < length (points l) → Within 4_000_000_000_000 (support d (points l))
  side-support l r some = support-size l r part-x part-y some

  pub side-past : (l : List ℤ) → InRange l → 0 < length (points l) → {p : Point} → Small max_coordinate p
      → Within 8_000_000_000_000 (past (points l) d p)
  unfolding past
  side-past l r some p = within-add (side-value p) (within-neg (side-support l r some))

-- ---- edges

module _ (G : List Point) (s : IsShape G) (i : ℕ) (h : i < length G) where
  pub past-edge : (x : Point) → neg_ℤ (turn (corner G i) (corner G (next (length G) i)) x) ≡ past G (edge_normal G i) x
  unfolding past
  past-edge x = lia (turn (corner G i) (corner G (next (length G) i)) x ∷ value (edge_normal G i) x ∷ support (edge_normal G i) G
      ∷ value (edge_normal G i) (corner G i) ∷ [])
      (value-outward (corner G i) (corner G (next (length G) i)) x
      & support-unique (edge_normal G i) (position-member G i h) (edge-outermost G s i h)) (search linear depth 40) (omega arith)

pub past-cross : (a b p : Point) → cross (p ⊖ a) (b ⊖ a) ≡ neg_ℤ (turn a b p)
unfolding cross turn
past-cross a b p = ring (a.x ∷ a.y ∷ b.x ∷ b.y ∷ p.x ∷ p.y ∷ []) (search reify depth 40) tt
