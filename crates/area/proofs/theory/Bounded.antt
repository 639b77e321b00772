-- The area of a shape with coordinates in range: it is inside the square of all places in range.
--     area-bounded     twice the area is at most twice that of the square, which is below 2^43
use Rattle.std.specs.Prelude.{◌≡◌, refl, true, ◌⊎◌, List, [], ◌∷◌, ◌^◌, ℤ, pos, neg_ℤ, ◌≤ℤ◌, ◌<ℤ◌}
use Rattle.std.proofs.Common.{inl, inr, arith}
use Rattle.integer.specs.Linear.{lia, linear, ◌&◌}
use Rattle.integer.specs.Order.{◌≤×≤◌, le_trans, weaken, lt-or-le}
use Rattle.integer.specs.Bound.{within-le, within-ge}
use Rattle.plane.specs.Limits.{max_corners, max_coordinate}
use Rattle.plane.specs.Point.{Point, points, same_point, ◌∈◌}
use Rattle.plane.specs.Turn.{cross, turn}
use Rattle.plane.specs.Shape.{breaks, precedes}
use Rattle.plane.specs.Direction.{value, support}
use Rattle.plane.specs.Refusal.{Valid, bad_count, too_many, outside, some_outside, equal_pair, left_broken, rule_broken, bad_start}
use Rattle.plane.specs.Floor.{on, one_shape}
use Rattle.plane.proofs.theory.lists.Members.{position-member, member-position}
use Rattle.plane.proofs.theory.lists.Flat.{Near, points_near}
use Rattle.plane.proofs.theory.refusals.Asked.{none→admitted}
use Rattle.plane.proofs.theory.support.Support.{value-le-support, support-le}
use Rattle.plane.specs.Separation.{inside}
use Rattle.separation.specs.theory.Inside.{reach→inside}
use Rattle.area.specs.Area.{twice_area}
use Rattle.area.proofs.theory.Compared.{inside-no-more}

-- all places in range
abbrev m : ℤ
m = pos max_coordinate

abbrev square_list : List ℤ
square_list = neg_ℤ m ∷ neg_ℤ m ∷ m ∷ neg_ℤ m ∷ m ∷ m ∷ neg_ℤ m ∷ m ∷ []

abbrev square : List Point
square = points square_list

square-valid : Valid square_list
unfolding max_corners max_coordinate same_point turn breaks precedes bad_count too_many outside some_outside equal_pair left_broken
    rule_broken
    bad_start
square-valid = none→admitted (one_shape (on square_list 0)) (refl, (refl, (refl, (refl, (refl, tt)))))

-- the corner of the square on the side of each part of the direction is at least as far
reached : (d p : Point) → Near p → value d p ≤ℤ support d square
unfolding value
reached d p near = go (lt-or-le d.x (pos 0)) (lt-or-le d.y (pos 0))
  where
    right : p.x ≤ℤ m
    right = within-le near.near-x

    left : neg_ℤ m ≤ℤ p.x
    left = within-ge near.near-x

    above : p.y ≤ℤ m
    above = within-le near.near-y

    below : neg_ℤ m ≤ℤ p.y
    below = within-ge near.near-y

    ρ : List ℤ
    ρ = d.x ∷ d.y ∷ p.x ∷ p.y ∷ m ∷ []

    go : (d.x <ℤ pos 0) ⊎ (pos 0 ≤ℤ d.x) → (d.y <ℤ pos 0) ⊎ (pos 0 ≤ℤ d.y) → value d p ≤ℤ support d square
    go (inl x) (inl y) = le_trans (lia ρ (weaken x ≤×≤ left & weaken y ≤×≤ below) (search linear depth 40) (omega arith))
        (value-le-support d (position-member square 0 (omega arith)))
    go (inr x) (inl y) = le_trans (lia ρ (x ≤×≤ right & weaken y ≤×≤ below) (search linear depth 40) (omega arith))
        (value-le-support d (position-member square 1 (omega arith)))
    go (inr x) (inr y) = le_trans (lia ρ (x ≤×≤ right & y ≤×≤ above) (search linear depth 40) (omega arith))
        (value-le-support d (position-member square 2 (omega arith)))
    go (inl x) (inr y) = le_trans (lia ρ (weaken x ≤×≤ left & y ≤×≤ above) (search linear depth 40) (omega arith))
        (value-le-support d (position-member square 3 (omega arith)))

square-area : twice_area square <ℤ pos (2 ^ 43)
unfolding max_coordinate cross
square-area = record { lt = tt }

pub area-bounded : (l : List ℤ) → Valid l → twice_area (points l) <ℤ pos (2 ^ 43)
area-bounded l v = lia (twice_area (points l) ∷ twice_area square ∷ pos (2 ^ 43) ∷ [])
    (inside-no-more (points l) square v.shape square-valid.shape held & square-area) (search linear depth 40) (omega arith)
  where
    near : (d p : Point) → p ∈ points l → value d p ≤ℤ support d square
    near d p i =
        let (k, h, e) = member-position i in
        rw e at (reached d _ (points_near l v.in_range k h))

    held : inside (points l) square ≡ true
    held = reach→inside (points l) square v.shape.some square-valid.shape.some
        (λ d. support-le d (points l) v.shape.some (near d))
