-- Clearance (document 02, request W3, which amends document 01): "the least distance between any point of one shape and any point of the
-- other", "either between two corners .. or at a corner and strictly inside an edge".
--     falls p q c         the foot of c on the line from p to q is strictly inside the edge; never on a point's edge
--     Candidate           two corners; a corner of the first against an edge of the second; a corner of the second against one of the first
--     top, bottom         its squared distance as a fraction: the squared distance over 1, or t·t over q
--     candidates A B      all of them in the ticket's order, an edge having the position of the corner it leaves
--     nearest A B         the first of the least
--     clearance_numbers A B     what is answered
-- What it means: no two points of the shapes are nearer, and two are so near (`Meaning.antt` of the crate `clearance`).
use Rattle.std.specs.Prelude.{Bool, cond, ◌&&◌, List, [], ◌∷◌, ◌++◌, ℕ, zero, suc, ◌*◌, ℤ, pos, nat_abs, ◌*ℤ◌, length}
use Rattle.std.specs.Int.Signed.{lt_z, le_z}
use Rattle.plane.specs.Point.{Point, corner, ◌⊖◌}
use Rattle.plane.specs.Turn.{turn}
use Rattle.plane.specs.Shape.{next}
use Rattle.plane.specs.Direction.{value}
use Rattle.plane.specs.Measure.{squared, edge_squared, root_below}
use Rattle.plane.specs.Separation.{apart}

-- "strictly inside an edge"
unfoldable pub falls : Point → Point → Point → Bool
falls p q c = lt_z (pos 0) (value (q ⊖ p) (c ⊖ p)) && lt_z (value (q ⊖ p) (c ⊖ p)) (squared p q)

-- a point falls strictly inside edge e, and its turn there
abbrev pub falls_on : List Point → ℕ → Point → Bool
falls_on ps e c = falls (corner ps e) (corner ps (next (length ps) e)) c

abbrev pub turn_on : List Point → ℕ → Point → ℤ
turn_on ps e c = turn (corner ps e) (corner ps (next (length ps) e)) c

-- "two corners", "a corner of the first shape against an edge of the second", "the reverse": a corner's position, then the other's
pub data Candidate : Type 0 where
  corners : ℕ → ℕ → Candidate
  on_second : ℕ → ℕ → Candidate
  on_first : ℕ → ℕ → Candidate

-- "their squared distance", or "t·t/q"
unfoldable pub top : List Point → List Point → Candidate → ℤ
top A B (corners i j) = squared (corner A i) (corner B j)
top A B (on_second i e) = turn_on B e (corner A i) *ℤ turn_on B e (corner A i)
top A B (on_first j e) = turn_on A e (corner B j) *ℤ turn_on A e (corner B j)

unfoldable pub bottom : List Point → List Point → Candidate → ℤ
bottom A B (corners i j) = pos 1
bottom A B (on_second i e) = edge_squared B e
bottom A B (on_first j e) = edge_squared A e

-- "distances compare as exact fractions": c is no further than d
unfoldable pub no_further : List Point → List Point → Candidate → Candidate → Bool
no_further A B c d = le_z (top A B c *ℤ bottom A B d) (top A B d *ℤ bottom A B c)

-- f 0 ++ .. ++ f (n-1)
abbrev pub each : {X : Type 0} → (ℕ → List X) → ℕ → List X
each f zero = []
each f (suc n) = each f n ++ f n

-- the edges of ps, smallest first, on which c falls
abbrev pub edges_under : List Point → Point → (ℕ → Candidate) → List Candidate
edges_under ps c put = each (λ e. cond (falls_on ps e c) (put e ∷ []) []) (length ps)

-- "two corners go first, by the smallest position in the first shape and then in the second; after them a corner of the first shape against
-- an edge of the second, then the reverse, each by the smallest corner and then the smallest edge"
abbrev pub candidates : List Point → List Point → List Candidate
candidates A B =
    each (λ i. each (λ j. corners i j ∷ []) (length B)) (length A)
    ++ (each (λ i. edges_under B (corner A i) (on_second i)) (length A)
    ++ each (λ j. edges_under A (corner B j) (on_first j)) (length B))

-- the first of the least of x and xs, by a test that compares
abbrev pub least_of : {X : Type 0} → (X → X → Bool) → X → List X → X
least_of le x [] = x
least_of le x (y ∷ ys) = let later = least_of le y ys in cond (le x later) x later

-- corners 0 and 0 are the first candidate in any case
unfoldable pub nearest : List Point → List Point → Candidate
nearest A B = least_of (no_further A B) (corners 0 0) (candidates A B)

-- a corner and an edge: "turn size t and squared edge length q", and "the distance rounded down, bounded as width is"
abbrev pub shown : ℤ → ℤ → List ℤ
shown t q = pos (nat_abs t) ∷ q ∷ pos (root_below (nat_abs t * nat_abs t) (nat_abs q)) ∷ []

-- two corners: "their squared distance" d, and its root rounded down
abbrev pub numbers_of : List Point → List Point → Candidate → List ℤ
numbers_of A B (corners i j) =
    let d = squared (corner A i) (corner B j) in
    pos 1 ∷ pos i ∷ pos j ∷ d ∷ pos (root_below (nat_abs d) 1) ∷ []
numbers_of A B (on_second i e) = pos 2 ∷ pos i ∷ pos e ∷ shown (turn_on B e (corner A i)) (edge_squared B e)
numbers_of A B (on_first j e) = pos 3 ∷ pos j ∷ pos e ∷ shown (turn_on A e (corner B j)) (edge_squared A e)

-- "Shapes not apart still answer 0, with no positions"
abbrev pub clearance_numbers : List Point → List Point → List ℤ
clearance_numbers A B = cond (apart A B) (numbers_of A B (nearest A B)) (pos 0 ∷ [])
