-- Two more ways to say that a list of corners is a shape, beside document 01's (`IsShape`): the forms that proofs work with.
--     All P ps, Pairs R ps     P of every corner; R of every two, in list order; Triples: every three turn left
--     Ordered ps               the first corner precedes all others, and any three in list order turn left
--     up e, before e f         the vector e points up, or level to the right; e comes before f by angle, from there all the way round
--     edges ps                 from each corner to the next, the last to the first; none for a point
--     From e F, InOrder F      the vectors F follow e in order; they are not zero and each is before the next
--     Sorted ps                the edges are in order
--     Precedes, Before, NonZero      the tests as facts
-- A segment has two opposite edges: the calipers pass it twice. That the three forms agree is in `Standard.antt`.
use Rattle.std.specs.Prelude.{◌≡◌, Bool, true, not, ◌&&◌, ◌||◌, List, [], ◌∷◌, pos}
use Rattle.std.specs.Int.Signed.{lt_z}
use Rattle.plane.specs.Point.{Point, origin, ◌⊖◌}
use Rattle.plane.specs.Turn.{cross, Left}
use Rattle.plane.specs.Shape.{precedes}

abbrev pub All : (Point → Type 0) → List Point → Type 0
All P [] = Unit {0}
All P (p ∷ ps) = P p × All P ps

abbrev pub Pairs : (Point → Point → Type 0) → List Point → Type 0
Pairs R [] = Unit {0}
Pairs R (p ∷ ps) = All (λ q. R p q) ps × Pairs R ps

-- ---- any three in order turn left

abbrev pub Triples : List Point → Type 0
Triples [] = Unit {0}
Triples (p ∷ ps) = Pairs (λ q r. Left p q r) ps × Triples ps

pub record Precedes (p q : Point) : Type 0 where
  pub precedes-true : precedes p q ≡ true

abbrev pub Ordered : List Point → Type 0
Ordered [] = ⊥
Ordered (p ∷ ps) = All (λ q. Precedes p q) ps × Triples (p ∷ ps)

-- ---- edges sorted by angle

abbrev pub up : Point → Bool
up e = precedes origin e

-- one test for both halves: a vector is in the upper half or in the lower
unfoldable pub before : Point → Point → Bool
before e f = (up e && not (up f)) || ((up e || not (up f)) && lt_z (pos 0) (cross e f))

pub record Before (e f : Point) : Type 0 where
  pub before-true : before e f ≡ true

pub record NonZero (e : Point) : Type 0 where
  pub non_zero : e ≡ origin → ⊥

-- the edges along p ∷ ps and back to s
abbrev pub edges_to : Point → Point → List Point → List Point
edges_to s p [] = (s ⊖ p) ∷ []
edges_to s p (q ∷ ps) = (q ⊖ p) ∷ edges_to s q ps

abbrev pub edges : List Point → List Point
edges [] = []
edges (p ∷ []) = []
edges (p ∷ (q ∷ ps)) = edges_to p p (q ∷ ps)

-- the vectors F follow e in order
abbrev pub From : Point → List Point → Type 0
From e [] = Unit {0}
From e (f ∷ F) = Before e f × NonZero f × From f F

abbrev pub InOrder : List Point → Type 0
InOrder [] = Unit {0}
InOrder (e ∷ F) = NonZero e × From e F

abbrev pub Sorted : List Point → Type 0
Sorted [] = ⊥
Sorted (p ∷ ps) = InOrder (edges (p ∷ ps))
