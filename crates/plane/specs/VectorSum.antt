-- The vector sum of two lists of corners by their edges (document 01, "Sum": "how neighbours follow, and that equal directions make one
-- step"). That it is the shape of all corner-plus-corner points is proved (`sum-joins-edges` of `Meaning.antt`).
--     along p E          the corners from p along the edges E, without the end of the last
--     path p E           the same, and p itself where there is no edge
--     join_edges E F      the edges of both by angle; two that point the same way are one step, their sum
--     vector_sum A B      from the sum of the first corners along the joined edges; [] where a list is empty
--     shared E F         how many edges of E point the same way as some edge of F
use Rattle.std.specs.Prelude.{Bool, true, false, not, ◌&&◌, ◌||◌, List, [], ◌∷◌, ℕ, suc}
use Rattle.plane.specs.Point.{Point, ◌⊕◌}
use Rattle.plane.specs.Forms.{before, edges}

-- a corner for each edge: where it starts
abbrev pub along : Point → List Point → List Point
along p [] = []
along p (e ∷ E) = p ∷ along (p ⊕ e) E

-- a single point has no edge, and one corner
abbrev pub path : Point → List Point → List Point
path p [] = p ∷ []
path p (e ∷ E) = along p (e ∷ E)

-- the edge e and those after it, which `rest` joins with a list, joined with a list
abbrev pub join_from : Point → (List Point → List Point) → List Point → List Point
join_from e rest [] = e ∷ rest []
join_from e rest (f ∷ F) =
    let right = f ∷ join_from e rest F in
    elim (before e f) [ true ↦ e ∷ rest (f ∷ F) | false ↦ elim (before f e) [ true ↦ right | false ↦ (e ⊕ f) ∷ rest F ] ]

-- the next of the two lists by angle, or both in one step
abbrev pub join_edges : List Point → List Point → List Point
join_edges [] F = F
join_edges (e ∷ E) F = join_from e (λ (G : List Point). join_edges E G) F

abbrev pub vector_sum : List Point → List Point → List Point
vector_sum [] B = []
vector_sum (a ∷ A) [] = []
vector_sum (a ∷ A) (b ∷ B) = path (a ⊕ b) (join_edges (edges (a ∷ A)) (edges (b ∷ B)))

-- some edge of F is neither before e nor after it
abbrev pub meets : Point → List Point → Bool
meets e [] = false
meets e (f ∷ F) = (not (before f e) && not (before e f)) || meets e F

-- the number of edges of E that meet one of F
abbrev pub shared : List Point → List Point → ℕ
shared [] F = 0
shared (e ∷ E) F = let later = shared E F in elim (meets e F) [ true ↦ suc later | false ↦ later ]
