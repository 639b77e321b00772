-- The faces of two shapes that are against each other, by their smaller and larger positions, and the first pair of their ends that passes
-- a test. Our own, not of document 02.
--     IsFace n ps f           corners f .first and f.last are lowest in n, in the order of their positions, and no other corner is
--     ordered_ends i j         the face with these ends, the smaller position first
--     Ends l f                both are positions of a list in range
--     is_end f i               i is one of the two
--     is_along n A B i j       the step from corner j of B to corner i of A is along n
--     is_foot g A B c e        corner c of A falls strictly inside edge e of B, whose other end is in the face g
--     AtEnds P f g             P holds at the four pairs of ends
--     picked_of, tried         of the four pairs of ends the first that passes
use Rattle.std.specs.Prelude.{◌≡◌, Bool, cond, ◌&&◌, ◌||◌, ◌⊎◌, Option, Some, None, List, ℕ, ◌≤◌, ◌<◌, eqb, ltb, ℤ, pos, length}
use Rattle.std.specs.Int.Signed.{le_z}
use Rattle.plane.specs.Point.{Point, points, corner, ◌⊖◌}
use Rattle.plane.specs.Turn.{cross}
use Rattle.plane.specs.Shape.{next}
use Rattle.plane.specs.Refusal.{InRange}
use Rattle.plane.specs.Clearance.{falls_on}
use Rattle.clearance.specs.Facing.{Lowest}
use Rattle.clearance.specs.declared.face.Face.{Face}

pub record IsFace (n : Point) (ps : List Point) (f : Face) : Type 0 where
  pub first-lowest : Lowest n ps f.first
  pub last-lowest : Lowest n ps f.last
  pub ordered : f.first ≤ f.last
  pub no_other : (k : ℕ) → Lowest n ps k → (k ≡ f.first) ⊎ (k ≡ f.last)

abbrev pub ordered_ends : ℕ → ℕ → Face
ordered_ends i j = cond (ltb j i) (record { first = j; last = i }) (record { first = i; last = j })

pub record Ends (l : List ℤ) (f : Face) : Type 0 where
  pub near : InRange l
  pub first-in : f.first < length (points l)
  pub last-in : f.last < length (points l)

abbrev pub is_end : Face → ℕ → Bool
is_end f i = eqb i f.first || eqb i f.last

unfoldable pub is_along : Point → List Point → List Point → ℕ → ℕ → Bool
is_along n A B i j =
    let beside = cross n (corner A i ⊖ corner B j) in
    le_z (pos 0) beside && le_z beside (pos 0)

unfoldable pub is_foot : Face → List Point → List Point → ℕ → ℕ → Bool
is_foot g A B c e = is_end g (next (length B) e) && falls_on B e (corner A c)

abbrev pub AtEnds : (ℕ → ℕ → Type 0) → Face → Face → Type 0
AtEnds P f g = P f.first g.first × P f.first g.last × P f.last g.first × P f.last g.last

-- in the ticket's order: by the position in the one, then in the other
abbrev pub picked_of : Face → Face → Bool → Bool → Bool → Bool → Option (ℕ × ℕ)
picked_of f g p q r s =
    cond p (Some (f.first, g.first)) (cond q (Some (f.first, g.last))
    (cond r (Some (f.last, g.first)) (cond s (Some (f.last, g.last)) None)))

abbrev pub tried : (ℕ → ℕ → Bool) → Face → Face → Option (ℕ × ℕ)
tried test f g =
    picked_of f g (test f.first g.first) (test f.first g.last) (test f.last g.first) (test f.last g.last)
