-- The places of the walk of a whole sum (document 02, request W6: "a place is the state that the walk of the whole sum has after some
-- count of its corners, from none to all, a different one for each count"). What a state holds is left free there: ours is `Walk`.
--     whole_sum a b          the corners of the sum
--     place_after a b c      the state after c corners: where the walk begins, and c steps
--     same_walk v w          the two states are the same
--     is_place a b w         w is the state after some count of corners, from none to all
--     corners_before a b w   after how many; past all of them where w is no place
-- What it means: `counts-are-places`, `places-have-counts`, `places-differ` of `Meaning.antt`.
use Rattle.std.specs.Prelude.{Bool, not, cond, ◌&&◌, List, ℕ, suc, eqb, ℤ, length}
use Rattle.plane.specs.Point.{Point, points}
use Rattle.plane.specs.Search.{some, first}
use Rattle.plane.specs.Corner.{shape_of, sums}
use Rattle.calipers.specs.Walk.{Walk, begun, stepped}

abbrev pub whole_sum : List ℤ → List ℤ → List Point
whole_sum a b = shape_of (sums (points a) (points b))

-- "the state that the walk of the whole sum has after some count of its corners"
abbrev pub place_after : List ℤ → List ℤ → ℕ → Walk
place_after a b c = stepped (points a) (points b) c begun

unfoldable pub same_walk : Walk → Walk → Bool
same_walk v w = eqb v.i w.i && (eqb v.j w.j && cond v.over w.over (not w.over))

-- "from none to all"
unfoldable pub is_place : List ℤ → List ℤ → Walk → Bool
is_place a b w = some (λ c. same_walk w (place_after a b c)) (suc (length (whole_sum a b)))

unfoldable pub corners_before : List ℤ → List ℤ → Walk → ℕ
corners_before a b w = first (λ c. same_walk w (place_after a b c)) (suc (length (whole_sum a b)))
