-- The places of the caliper walk among two lists of edges in order, E and F, of which i and j are passed. Our own, not of document 01.
--     takes E i F j        whether the next step passes edge i of E: there is one, and edge j of F is not before it
--     passed E i F j       how many edges of E are passed after the step
--     finished E i F j     all edges of both are passed
--     Standing E F i j     each edge passed of the one list is before the next of the other
--     Place, place i j     i edges of the one list are passed and j of the other
--     steps i j E F        from (i, j) on, with the edges E and F to come: a place for each joined edge
--     places_from i j E F   the same, and (i, j) itself where there is no edge; `places E F` from the beginning
--     Visited A B i j      the walk round A and B comes to corner i of A together with corner j of B
use Rattle.std.specs.Prelude.{◌≡◌, Bool, true, false, not, cond, ◌&&◌, ℕ, ◌+◌, ◌≤◌, ◌<◌, eqb, ltb, length}
use mathlib.Core.List.{List, [], ◌∷◌, Memᴰ}
use Rattle.plane.specs.Point.{Point, corner}
use Rattle.plane.specs.Forms.{before, Before, edges}
use Rattle.plane.specs.Cycle.{round}

-- there is an edge i of E, and edge j of F, if there is one, is not before it
abbrev pub takes : List Point → ℕ → List Point → ℕ → Bool
takes E i F j = ltb i (length E) && not (ltb j (length F) && before (corner F j) (corner E i))

-- one more edge of E, or as many as before
abbrev pub passed : List Point → ℕ → List Point → ℕ → ℕ
passed E i F j = cond (takes E i F j) (i + 1) i

-- all edges are passed
abbrev pub finished : List Point → ℕ → List Point → ℕ → Bool
finished E i F j = eqb i (length E) && eqb j (length F)

-- each edge passed of the one list is before the next of the other
pub record Standing (E F : List Point) (i j : ℕ) : Type 0 where
  pub left_in : i ≤ length E
  pub right-in : j ≤ length F
  pub left_passed : (k : ℕ) → k < i → j < length F → Before (corner E k) (corner F j)
  pub right-passed : (k : ℕ) → k < j → i < length E → Before (corner F k) (corner E i)

-- ---- all places

pub record Place : Type 0 where
  pub left : ℕ
  pub right : ℕ

abbrev pub place : ℕ → ℕ → Place
place i j = record { left = i; right = j }

-- one list is passed to its end
abbrev pub steps_right : ℕ → ℕ → List Point → List Place
steps_right i j [] = []
steps_right i j (f ∷ F) = place i j ∷ steps_right i (j + 1) F

-- the edge e is next of its list, and `rest` gives the places after it
abbrev pub steps_from : Point → (ℕ → List Point → List Place) → ℕ → ℕ → List Point → List Place
steps_from e rest i j [] = place i j ∷ rest j []
steps_from e rest i j (f ∷ F) =
    let later = steps_from e rest i (j + 1) F in
    place i j ∷ elim (before e f) [ true ↦ rest j (f ∷ F) | false ↦ elim (before f e) [ true ↦ later | false ↦ rest (j + 1) F ] ]

-- a place for each joined edge, where it is passed
abbrev pub steps : ℕ → ℕ → List Point → List Point → List Place
steps i j [] F = steps_right i j F
steps i j (e ∷ E) F = steps_from e (λ k G. steps (i + 1) k E G) i j F

-- point plus point has no edge, and one corner
abbrev pub places_from : ℕ → ℕ → List Point → List Point → List Place
places_from i j [] [] = place i j ∷ []
places_from i j [] (f ∷ F) = steps i j [] (f ∷ F)
places_from i j (e ∷ E) F = steps i j (e ∷ E) F

abbrev pub places : List Point → List Point → List Place
places E F = places_from 0 0 E F

-- after the last corner of a shape comes its first again
pub record Visited (A B : List Point) (i j : ℕ) : Type 0 where
  pub at : Place
  pub at_in : Memᴰ at (places (edges A) (edges B))
  pub at_left : round (length A) at.left ≡ i
  pub at_right : round (length B) at.right ≡ j
