-- What the greatest distance of two shapes says. Each theorem is proved in the theory; here it is only cited.
--     corners        no corner of one and corner of the other are further apart; the first two that are so far apart
--     points         nor are any two points: a point of a shape is a mean of its corners (`Mean.antt` of plane); two are so far apart
--     directions     in no direction does the one reach further beyond the other; in the direction of the two corners it does so far
--     compared       at least the clearance; either shape may be the first; of a shape and itself it is the length; moving both changes
--                    nothing; a shape inside another reaches no further; of two sets of points it is that of their shapes
--     the replies    to two shapes on one floor: exactly these numbers are answered
use Rattle.std.specs.Prelude.{◌≡◌, true, List, [], ◌∷◌, map, ◌↔◌, ℕ, ◌≤◌, ◌<◌, ℤ, pos, ◌+ℤ◌, ◌*ℤ◌, length, ◌≤ℤ◌, ◌<ℤ◌}
use Rattle.plane.specs.Point.{Point, corner, opposite, ◌⊕◌, ◌⊖◌}
use Rattle.plane.specs.Shape.{IsShape}
use Rattle.plane.specs.Direction.{value, support}
use Rattle.plane.specs.Measure.{squared, length_numbers}
use Rattle.plane.specs.Corner.{shape_of}
use Rattle.plane.specs.Separation.{apart, inside}
use Rattle.plane.specs.Mean.{weight, gap, share, Exactly}
use Rattle.plane.specs.Clearance.{top, bottom, nearest}
use Rattle.plane.specs.Reply.{answered}
use Rattle.plane.specs.Floor.{Floored, corners, Same}
use Rattle.plane.specs.Question.{reply}
use Rattle.reach.specs.Greatest.{greatest_squared, greatest_first, greatest_second, greatest_numbers, ask_greatest}
use Rattle.reach.specs.Extremes.{FirstFurthest}
use Rattle.reach.specs.theory.Furthest.{squared-le-greatest, greatest-furthest, first-least, second-least}
use Rattle.reach.specs.theory.Points.{points-within, points-attain, spans-within, step-spans}
use Rattle.reach.specs.theory.Points.{greatest-clearance, greatest-sym, greatest-self, greatest-inside, greatest-hulls}
use Rattle.reach.specs.theory.Replies.{greatest-reply, greatest-moved}

-- ---- corners

-- no two corners are further apart
pub no-corners-are-further : (A B : List Point) (i j : ℕ) → i < length A → j < length B
    → squared (corner A i) (corner B j) ≤ℤ greatest_squared A B
no-corners-are-further A B i j h k = squared-le-greatest A B i j h k

-- two lists with a corner each
module _ (A B : List Point) (a : 0 < length A) (b : 0 < length B) where
  -- the two positions are of corners
  pub greatest-positions : (greatest_first A B < length A) × (greatest_second A B < length B)
  greatest-positions = let far = greatest-furthest A B a b in (far.first-in, far.second-in)

  -- which are so far apart
  pub greatest-is-had : squared (corner A (greatest_first A B)) (corner B (greatest_second A B)) ≡ greatest_squared A B
  greatest-is-had = (greatest-furthest A B a b).furthest

  -- no pair that is as far apart has a smaller first position
  pub greatest-starts-first : (i j : ℕ) → i < length A → j < length B → squared (corner A i) (corner B j) ≡ greatest_squared A B
      → greatest_first A B ≤ i
  greatest-starts-first i j h k e = first-least A B (record { first-in = h; second-in = k; furthest = e })

  -- and none with that first position a smaller second
  pub greatest-ends-first : (j : ℕ) → j < length B → squared (corner A (greatest_first A B)) (corner B j) ≡ greatest_squared A B
      → greatest_second A B ≤ j
  greatest-ends-first j k e = second-least A B (record { first-in = greatest-positions.0; second-in = k; furthest = e })

  -- ---- points

  -- the squared distance of any point of A and any point of B, squared gap over squared share, is at most it
  pub no-points-are-further : (v w : ℕ → ℕ)
      → value (gap v A w B) (gap v A w B) ≤ℤ (greatest_squared A B *ℤ (share v A w B *ℤ share v A w B))
  no-points-are-further v w = points-within A B a b v w

  -- and two points are so far apart
  pub points-are-so-far : (v : ℕ → ℕ) × (w : ℕ → ℕ) × (pos 0 <ℤ weight v A) × (pos 0 <ℤ weight w B)
      × Exactly (greatest_squared A B) (pos 1) v A w B
  points-are-so-far = points-attain A B a b

  -- ---- directions: the greatest value of A less the least of B

  -- it is at most the greatest distance, measured along d
  pub no-direction-spans-more : (d : Point)
      → ((support d A +ℤ support (opposite d) B) *ℤ (support d A +ℤ support (opposite d) B)) ≤ℤ (greatest_squared A B *ℤ value d d)
  no-direction-spans-more d = spans-within A B a b d

  -- and in the direction from the second corner to the first it is that
  pub own-direction-spans-it : let n = corner A (greatest_first A B) ⊖ corner B (greatest_second A B) in
      (support n A +ℤ support (opposite n) B ≡ greatest_squared A B) × (value n n ≡ greatest_squared A B)
  own-direction-spans-it = step-spans A B a b

  -- ---- compared

  -- shapes that are apart: their clearance is at most the greatest distance
  pub greatest-is-at-least-clearance : IsShape A → IsShape B → apart A B ≡ true
      → top A B (nearest A B) ≤ℤ (greatest_squared A B *ℤ bottom A B (nearest A B))
  greatest-is-at-least-clearance s t h = greatest-clearance A B a b s t h

  -- exchanging the shapes gives the same distance
  pub greatest-either-way : greatest_squared A B ≡ greatest_squared B A
  greatest-either-way = greatest-sym A B a b

  -- moving both alike changes nothing
  pub moved-has-same-greatest : (t : Point) → greatest_numbers (map (λ p. p ⊕ t) A) (map (λ p. p ⊕ t) B) ≡ greatest_numbers A B
  moved-has-same-greatest t = greatest-moved t A B a b

-- of a shape and itself it is the length, at the same two positions
pub greatest-of-itself-is-length : (A : List Point) → 0 < length A → greatest_numbers A A ≡ length_numbers A
greatest-of-itself-is-length A a = greatest-self A a

-- a shape inside another is no further from a third than that
pub inside-is-no-further : (N O B : List Point) → 0 < length N → 0 < length O → 0 < length B → inside N O ≡ true
    → greatest_squared N B ≤ℤ greatest_squared O B
inside-is-no-further N O B n o b h = greatest-inside N O B n o b h

-- of two sets of points it is that of their shapes
pub greatest-of-points-is-of-shapes : (S T : List Point) → 0 < length S → 0 < length T
    → greatest_squared (shape_of S) (shape_of T) ≡ greatest_squared S T
greatest-of-points-is-of-shapes S T s t = greatest-hulls S T s t

-- ---- the replies

-- two valid shapes on one floor: the first pair of corners at the greatest distance is answered, and nothing else
pub greatest-is-answered-exactly : (a b : Floored) → Same a b → (d : ℤ) (i j : ℕ)
    → reply (ask_greatest a b) ≡ answered (d ∷ pos i ∷ pos j ∷ pos a.floor ∷ []) ↔ FirstFurthest (corners a) (corners b) d i j
greatest-is-answered-exactly a b s d i j = greatest-reply a b s d i j
