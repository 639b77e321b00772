-- What the walk means, in the words of documents 01 and 02. Each theorem is proved in the theory; here it is only cited.
--     the sum         the walk visits its corners, in its order, and no others
--     places          a different place for each count of corners; how they are told
-- The parts of a sum are in the crate `parts`. That an answered sum is valid, its laws in either order, and the origin point's, are in the
-- crate `laws`.
use Rattle.std.specs.Prelude.{◌≡◌, true, List, [], ◌∷◌, ℕ, ◌+◌, ◌≤◌, ◌<◌, ℤ, length, drop}
use Rattle.plane.specs.Point.{Point, points, corner, ◌⊕◌}
use Rattle.plane.specs.Refusal.{Valid}
use Rattle.plane.specs.Corner.{Corner, shape_of, sums}
use Rattle.plane.specs.Forms.{edges}
use Rattle.plane.specs.VectorSum.{shared}
use Rattle.plane.proofs.theory.lists.Members.{position-member}
use Rattle.calipers.specs.Places.{places, Visited}
use Rattle.calipers.specs.Walk.{Walk, here, begun, stepped, ahead, remaining}
use Rattle.sums.specs.PlaceAfter.{whole_sum, place_after, is_place}
use Rattle.sums.specs.PlaceTest.{stands_at}
use Rattle.calipers.specs.theory.Visited.{place-of-corner, corner-parts}
use Rattle.calipers.specs.theory.Steps.{ahead-begin}
use Rattle.calipers.specs.theory.Directions.{sum-directions, sum-points}
use Rattle.calipers.specs.theory.Visits.{sum-visited, visited-corner}
use Rattle.sums.specs.theory.Reached.{to-come, place-different, place_at, place-count}
use Rattle.sums.specs.theory.PlaceTest.{place-test}

-- ---- the sum

module _ (a b : List ℤ) (v : Valid a) (w : Valid b) where
  -- "the shape of all corner-plus-corner points": from the beginning the walk visits its corners, in its order, and no others
  pub walk-visits-sum : remaining (points a) (points b) begun ≡ shape_of (sums (points a) (points b))
  walk-visits-sum = sum-visited a b v w

  -- wherever it is before it is over, the two corners there make a corner of the set
  pub walk-stands-at-corner : (n : ℕ) → n < length (remaining (points a) (points b) begun)
      → Corner (sums (points a) (points b)) (here (points a) (points b) (stepped (points a) (points b) n begun))
  walk-stands-at-corner n h = visited-corner a b v w n h

  -- "equal directions make one step": a corner for each direction that an edge of one of the shapes has
  pub sum-counts-directions : 0 < length (edges (points a)) + length (edges (points b))
      → length (shape_of (sums (points a) (points b))) + shared (edges (points a)) (edges (points b))
      ≡ length (edges (points a)) + length (edges (points b))
  sum-counts-directions h = sum-directions (points a) (points b) v.shape w.shape h

  module _ (i j : ℕ) (i-in : i < length (points a)) (j-in : j < length (points b))
      (c : Corner (sums (points a) (points b)) (corner (points a) i ⊕ corner (points b) j)) where
    -- two corners that make a corner of the set are visited together
    pub walk-visits-pair : Visited (points a) (points b) i j
    walk-visits-pair = place-of-corner (points a) (points b) v.shape w.shape i j i-in j-in c

    -- and no other two make the same
    pub pair-is-only-one : (k l : ℕ) → k < length (points a) → l < length (points b)
        → corner (points a) i ⊕ corner (points b) j ≡ corner (points a) k ⊕ corner (points b) l
        → (corner (points a) i ≡ corner (points a) k) × (corner (points b) j ≡ corner (points b) l)
    pair-is-only-one k l k-in l-in e =
        corner-parts c (position-member (points a) i i-in) (position-member (points b) j j-in)
        (position-member (points a) k k-in) (position-member (points b) l l-in) e

-- the places of the walk, by which "together" is said
pub walk-comes-by-places : (A B : List Point) → ahead A B begun ≡ places (edges A) (edges B)
walk-comes-by-places A B = ahead-begin A B

-- two points make a point
pub sum-of-points : (p q : Point) → shape_of (sums (p ∷ []) (q ∷ [])) ≡ (p ⊕ q) ∷ []
sum-of-points p q = sum-points p q

-- ---- places

module _ (a b : List ℤ) (v : Valid a) (w : Valid b) where
  -- "the state that the walk of the whole sum has after some count of its corners, from none to all": these are places
  pub counts-are-places : (c : ℕ) → c ≤ length (whole_sum a b) → is_place a b (place_after a b c) ≡ true
  counts-are-places c h = place_at a b v w c h

  -- and no others
  pub places-have-counts : (u : Walk) → is_place a b u ≡ true → (c : ℕ) × (c ≤ length (whole_sum a b)) × (u ≡ place_after a b c)
  places-have-counts u h = place-count a b u h

  -- "a different one for each count"
  pub places-differ : (c d : ℕ) → c ≤ length (whole_sum a b) → d ≤ length (whole_sum a b) → place_after a b c ≡ place_after a b d → c ≡ d
  places-differ c d h k e = place-different a b v w c d h k e

  -- what remains at a place: the sum's corners but for those before it
  pub place-remains : (c : ℕ) → c ≤ length (whole_sum a b)
      → remaining (points a) (points b) (place_after a b c) ≡ drop c (whole_sum a b)
  place-remains c h = to-come a b v w c h

  -- a place is told by the edges next to it, without a walk
  pub place-told-by-edges : (u : Walk) → is_place a b u ≡ stands_at a b u
  place-told-by-edges u = place-test a b v w u
