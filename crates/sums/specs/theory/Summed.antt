-- The whole sum, and what is to come of it from any place.
--     next-at-most   no more than k corners are next
--     next-few       what is to come has at most as many corners as both shapes together, `sum-few`: so has the whole sum
--     reckoned-count how far a count that stops past the limit tells the number of its corners
--     sum-some       the whole sum has a corner
--     next-all       all that is to come from the beginning is the whole sum
use Rattle.std.specs.Prelude.{◌≡◌, refl, Bool, true, false, cond, List, [], ◌∷◌, ℕ, ◌+◌, ◌≤◌, ◌<◌, ltb, ℤ, length, drop}
use Rattle.std.proofs.Common.{◌∙◌, ap, arith, ltb-true, ltb-false, length-take, length-drop, take_all}
use Rattle.plane.specs.Limits.{max_corners}
use Rattle.plane.specs.Point.{Point, points}
use Rattle.plane.specs.Refusal.{Valid}
use Rattle.plane.specs.Corner.{shape_of, sums}
use Rattle.plane.specs.Forms.{edges}
use Rattle.plane.specs.VectorSum.{path, join_edges}
use Rattle.plane.proofs.theory.lists.Members.{sums-some}
use Rattle.plane.proofs.theory.hull.ShapeOf.{shape_of-shape}
use Rattle.plane.proofs.theory.sum.Path.{along-length}
use Rattle.plane.proofs.theory.sum.EdgeSum.{join_edges-length}
use Rattle.plane.proofs.theory.sum.Positions.{edges-at-most}
use Rattle.sums.specs.Advance.{next_corners}
use Rattle.sums.specs.Size.{Reckoned, exact, many}
use Rattle.calipers.specs.Walk.{Walk, here, begun, remaining, At}
use Rattle.calipers.specs.theory.Steps.{at-begin}
use Rattle.calipers.specs.theory.Visits.{sum-visited}

-- a corner for each edge, and one where there is none
path-few : (p : Point) (E : List Point) {n : ℕ} → length E ≤ n → 1 ≤ n → length (path p E) ≤ n
path-few p [] h k = k
path-few p (e ∷ E) h k = omega (arith, along-length p (e ∷ E))

rest-few : (a b : List ℤ) (w : Walk) → At a b w → length (remaining (points a) (points b) w) ≤ length (points a) + length (points b)
unfolding remaining
rest-few a b w t = go w.over
  where
    E : List Point
    E = edges (points a)

    F : List Point
    F = edges (points b)

    go : (o : Bool) → length (cond o [] (path (here (points a) (points b) w) (join_edges (drop w.i E) (drop w.j F))))
        ≤ length (points a) + length (points b)
    go true = omega arith
    go false = path-few _ (join_edges (drop w.i E) (drop w.j F)) (omega (
      arith,
      join_edges-length (drop w.i E) (drop w.j F),
      length-drop w.i E,
      length-drop w.j F,
      edges-at-most (points a),
      edges-at-most (points b),
    )) (omega (arith, t.first-shape.some))

pub next-few : (a b : List ℤ) (w : Walk) (k : ℕ) → At a b w → length (next_corners a b w k) ≤ length (points a) + length (points b)
next-few a b w k t = omega (arith, length-take k (remaining (points a) (points b) w), rest-few a b w t)

pub next-at-most : (a b : List ℤ) (w : Walk) (k : ℕ) → length (next_corners a b w k) ≤ k
next-at-most a b w k = omega (arith, length-take k (remaining (points a) (points b) w))

pub next-all : (a b : List ℤ) → Valid a → Valid b → (k : ℕ) → length (shape_of (sums (points a) (points b))) ≤ k
    → next_corners a b begun k ≡ shape_of (sums (points a) (points b))
next-all a b v w k h =
    let all = sum-visited a b v w in
    take_all k _ (omega (arith, ap length all)) ∙ all

pub sum-few : (a b : List ℤ) → Valid a → Valid b → length (shape_of (sums (points a) (points b))) ≤ length (points a) + length (points b)
sum-few a b v w = omega (arith, ap length (sum-visited a b v w), rest-few a b begun (at-begin a b v w))

-- what a count of at least one corner more than the limit says
pub reckoned-count : (a b : List ℤ) → Valid a → Valid b → (k : ℕ) → max_corners < k → {room r : ℕ} → r ≡ length (next_corners a b begun k)
    → Reckoned (length (shape_of (sums (points a) (points b)))) room r
reckoned-count a b v w k h {room} {r} e = go (ltb max_corners (length S)) refl
  where
    S : List Point
    S = shape_of (sums (points a) (points b))

    go : (t : Bool) → ltb max_corners (length S) ≡ t → Reckoned (length S) room r
    go true q =
        let large = ltb-true max_corners (length S) q in
        many large (omega (
          arith,
          e,
          h,
          large,
          length-take k (remaining (points a) (points b) begun),
          ap length (sum-visited a b v w),
        ))
    go false q = exact (e ∙ ap length (next-all a b v w k (omega (arith, h, ltb-false max_corners (length S) q))))

pub sum-some : (a b : List ℤ) → Valid a → Valid b → 0 < length (shape_of (sums (points a) (points b)))
sum-some a b v w = (shape_of-shape (sums (points a) (points b)) (sums-some (points a) (points b) v.shape.some w.shape.some)).some
