-- The places of a walk told without walking: by the edges next to it and the count of edges. Our own, not of document 02.
--     follows E i F j        the last edge passed of E, if there is one, is before the next of F, if there is one
--     ends left all over     with `left` edges left of `all`, the walk is over exactly if none is; two points have no edge, and two places
--     stands_at a b w         both follow, with edges that are there
-- What it means: `place-told-by-edges` of `Meaning.antt`: these are the places.
use Rattle.std.specs.Prelude.{Bool, not, cond, ◌&&◌, ◌||◌, List, ℕ, ◌+◌, ◌-◌, eqb, ltb, ℤ, length}
use Rattle.plane.specs.Point.{Point, points, corner}
use Rattle.plane.specs.Forms.{before, edges}
use Rattle.calipers.specs.Walk.{Walk}

abbrev pub follows : List Point → ℕ → List Point → ℕ → Bool
follows E i F j = eqb i 0 || (eqb j (length F) || before (corner E (i - 1)) (corner F j))

abbrev pub ends : ℕ → ℕ → Bool → Bool
ends left all over = eqb all 0 || cond over (eqb left 0) (ltb 0 left)

unfoldable pub stands_at : List ℤ → List ℤ → Walk → Bool
stands_at a b w =
    let E = edges (points a) in
    let F = edges (points b) in
    not (ltb (length E) w.i) && (not (ltb (length F) w.j)
    && (ends (length E - w.i + (length F - w.j)) (length E + length F) w.over
    && (follows E w.i F w.j && follows F w.j E w.i)))
