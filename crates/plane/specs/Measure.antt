-- Length and width (document 01, "What each question asks"), by comparing all pairs of corners and all edges.
--     greatest f n       the greatest of f 0, .., f (n-1); 0 where n is 0
--     squared p q        the squared distance of two corners
--     length_squared ps   the greatest squared distance between two corners, had at positions length_from ps ≤ length_to ps
--     height ps e        "for each edge, the greatest turn t over the corners", and edge_squared ps e "the edge's squared length q"
--     width_edge ps       the edge with the least t·t/q; width_corner ps the smallest corner position that has its greatest turn
--     root_below n q      the root of n/q rounded down; of t·t/q it is "w, the width rounded down: w·w·q ≤ t·t < (w+1)·(w+1)·q"
--     length_numbers ps, width_numbers ps     what is answered
use Rattle.std.specs.Prelude.{Bool, ◌&&◌, List, [], ◌∷◌, ℕ, zero, suc, ◌+◌, ◌*◌, leb, ltb, ℤ, pos, nat_abs, ◌+ℤ◌, ◌-ℤ◌, ◌*ℤ◌, length}
use Rattle.std.specs.Int.Signed.{le_z}
use Rattle.plane.specs.Point.{Point, corner}
use Rattle.plane.specs.Turn.{turn}
use Rattle.plane.specs.Search.{some, every, first}
use Rattle.plane.specs.Shape.{next}
use Rattle.plane.specs.Direction.{greater}

abbrev pub greatest : (ℕ → ℤ) → ℕ → ℤ
greatest f zero = pos 0
greatest f (suc zero) = f 0
greatest f (suc (suc n)) = greater (f 0) (greatest (λ i. f (suc i)) (suc n))

unfoldable pub squared : Point → Point → ℤ
squared p q = (p.x -ℤ q.x) *ℤ (p.x -ℤ q.x) +ℤ (p.y -ℤ q.y) *ℤ (p.y -ℤ q.y)

-- ---- length: "the greatest squared distance between two corners, at positions i ≤ j, smallest i and then smallest j among equals"

unfoldable pub length_squared : List Point → ℤ
length_squared ps = greatest (λ i. greatest (λ j. squared (corner ps i) (corner ps j)) (length ps)) (length ps)

-- corners i ≤ j are at the greatest distance
unfoldable pub furthest_pair : List Point → ℕ → ℕ → Bool
furthest_pair ps i j = leb i j && le_z (length_squared ps) (squared (corner ps i) (corner ps j))

unfoldable pub length_from : List Point → ℕ
length_from ps = first (λ i. some (furthest_pair ps i) (length ps)) (length ps)

unfoldable pub length_to : List Point → ℕ
length_to ps = first (furthest_pair ps (length_from ps)) (length ps)

abbrev pub length_numbers : List Point → List ℤ
length_numbers ps = length_squared ps ∷ pos (length_from ps) ∷ pos (length_to ps) ∷ []

-- ---- width

unfoldable pub edge_turn : List Point → ℕ → ℕ → ℤ
edge_turn ps e c = turn (corner ps e) (corner ps (next (length ps) e)) (corner ps c)

unfoldable pub height : List Point → ℕ → ℤ
height ps e = greatest (edge_turn ps e) (length ps)

unfoldable pub edge_squared : List Point → ℕ → ℤ
edge_squared ps e = squared (corner ps e) (corner ps (next (length ps) e))

-- "Edges compare by t·t/q as exact fractions": edge e is no wider than edge f
unfoldable pub no_wider : List Point → ℕ → ℕ → Bool
no_wider ps e f = le_z (height ps e *ℤ height ps e *ℤ edge_squared ps f) (height ps f *ℤ height ps f *ℤ edge_squared ps e)

-- "The least wins, smallest edge position on a tie": the first edge that is no wider than any
unfoldable pub width_edge : List Point → ℕ
width_edge ps = first (λ e. every (no_wider ps e) (length ps)) (length ps)

-- "then the smallest corner position that has the greatest turn"
unfoldable pub width_corner : List Point → ℕ
width_corner ps = first (λ c. le_z (height ps (width_edge ps)) (edge_turn ps (width_edge ps) c)) (length ps)

-- the root of n/q rounded down: the first w with n < (w+1)·(w+1)·q; where q is not 0 it is at most n
unfoldable pub root_below : ℕ → ℕ → ℕ
root_below n q = first (λ w. ltb n ((w + 1) * (w + 1) * q)) n

-- "Answered: edge, corner, t, q and w"
abbrev pub width_numbers : List Point → List ℤ
width_numbers ps =
    let e = width_edge ps in
    let t = height ps e in
    let q = edge_squared ps e in
    pos e ∷ pos (width_corner ps) ∷ t ∷ q ∷ pos (root_below (nat_abs t * nat_abs t) (nat_abs q)) ∷ []
