-- What the search of the code comes to, for two shapes that are apart: D is the shape of their differences.
--     corners-some          no corner of D is the origin
--     stopped-facing        where the walk stopped is a direction that faces the least distance
--     nearest-measurable    the positions of the nearest candidate are in the lists, and what it is divided by is not 0
use Rattle.std.specs.Prelude.{◌≡◌, true, ◌⊎◌, List, [], ◌∷◌, ℕ, suc, ◌<◌, pos, length, ◌<ℤ◌}
use Rattle.std.proofs.Math.Path.{refl}
use Rattle.std.proofs.Common.{sym, ◌∙◌, ap, subst, inl, inr, arith}
use Rattle.std.proofs.lemmas.Bool.{false≢true}
use Rattle.std.proofs.Math.Bool.{and-eq-true_iff}
use Rattle.std.specs.Int.Signed.{<ℤ_irrefl}
use Rattle.integer.specs.Linear.{linear, lia, ◌&◌}
use Rattle.integer.specs.Order.{lt_z-true, le_z-true, lt-lt_z, le-le_z}
use Rattle.plane.specs.Point.{Point, origin, corner}
use Rattle.plane.specs.Shape.{next, IsShape}
use Rattle.plane.specs.Direction.{value}
use Rattle.plane.specs.Corner.{shape_of}
use Rattle.plane.specs.Measure.{squared, edge_squared}
use Rattle.plane.specs.Separation.{differences, apart}
use Rattle.plane.specs.Clearance.{falls_on, Candidate, corners, on_second, on_first, nearest}
use Rattle.plane.proofs.theory.lists.Members.{position-member}
use Rattle.plane.proofs.theory.lists.Next.{Following, onward, closing, following}
use Rattle.plane.proofs.theory.forms.Vector.{value-origin}
use Rattle.plane.proofs.theory.hull.ShapeOf.{shape_of-corner}
use Rattle.plane.proofs.theory.forms.Squared.{squared-positive}
use Rattle.separation.specs.theory.Apart.{value-difference, differences-some, member-difference, apart→direction}
use Rattle.clearance.specs.Facing.{Reached, Facing, StopsAtCorner, StopsOnEdge}
use Rattle.clearance.specs.Stop.{rests, crosses, after, Stopped, at-corner, at_edge, at_first}
use Rattle.clearance.specs.Sight.{NoOrigin}
use Rattle.clearance.specs.Answer.{Measurable}
use Rattle.clearance.specs.theory.First.{nearest-reached}
use Rattle.clearance.specs.theory.Stop.{stop-corner, stop-edge, place-exists}
use Rattle.clearance.specs.theory.Bound.{foot-positive}

-- ---- the tests, as the theory has them

module _ (D : List Point) (k : ℕ) where
  rests-stops : rests (corner D k) (after D k) (after D (next (length D) k)) ≡ true → StopsAtCorner D k
  unfolding rests
  rests-stops t = let r = (and-eq-true_iff _ _).0 t in record { previous = le_z-true r.0; following = le_z-true r.1 }

  stops-rests : StopsAtCorner D k → rests (corner D k) (after D k) (after D (next (length D) k)) ≡ true
  unfolding rests
  stops-rests s = rw (le-le_z s.previous, le-le_z s.following) refl

  crosses-stops : crosses (corner D k) (after D k) ≡ true → StopsOnEdge D k
  unfolding crosses
  crosses-stops t =
      let r = (and-eq-true_iff _ _).0 t in
      let q = (and-eq-true_iff _ _).0 r.1 in
      record { right = lt_z-true r.0; start = lt_z-true q.0; end = lt_z-true q.1 }

  stops-crosses : StopsOnEdge D k → crosses (corner D k) (after D k) ≡ true
  unfolding crosses
  stops-crosses s = rw (lt-lt_z s.right, lt-lt_z s.start, lt-lt_z s.end) refl

-- the same of the corner after k, by its own position
next-rests : (D : List Point) (k : ℕ) → next (length D) k ≡ suc k
    → rests (corner D k) (corner D (suc k)) (after D (suc k)) ≡ rests (corner D k) (after D k) (after D (next (length D) k))
next-rests D k e = ap (λ m. rests (corner D k) (corner D m) (after D m)) (sym e)

-- ---- two shapes that are apart

module _ (A B : List Point) (s : IsShape A) (t : IsShape B) (h : apart A B ≡ true) where
  abbrev D : List Point
  D = shape_of (differences A B)

  some : 0 < length (differences A B)
  some = differences-some A B s.some t.some

  -- a difference that is the origin would be of two equal corners
  pub corners-some : NoOrigin D
  corners-some k l = record { non_zero = clash }
    where
      clash : corner D k ≡ origin → ⊥
      clash e =
          let m = position-member D k l in
          let r = member-difference A B (shape_of-corner (differences A B) some m).member in
          let p = apart→direction A B s.some t.some h in
          let u = p.direction in
          lia (value u r.left ∷ value u r.right ∷ value u (corner D k) ∷ [])
          (p.below r.left r.right r.left_in r.right-in & ap (value u) r.is-difference
          ∙ value-difference u r.left r.right
          & ap (value u) e ∙ value-origin u) (search linear depth 40) (omega arith)

  pub stopped-facing : {n : Point} → Stopped D n → Facing A B n
  stopped-facing {n} (at-corner k l rest e) = go (following (length D) k (omega arith))
    where
      go : Following (length D) k → Facing A B n
      go (onward m q) = subst (Facing A B) (sym (e ∙ ap (corner D) (sym q)))
          (stop-corner A B s t h k (omega arith) (rests-stops D k (sym (next-rests D k q) ∙ rest)))
      go (closing m q) = absurd (omega arith)
  stopped-facing (at_edge k l c e) = subst (Facing A B) (sym e) (stop-edge A B s t h k l (crosses-stops D k c))
  stopped-facing {n} (at_first no-corner no_edge e) = go (place-exists A B s t h)
    where
      corner-place : (k : ℕ) → k < length D → StopsAtCorner D k → Following (length D) k → Facing A B n
      corner-place k l stop (onward m q) = absurd (false≢true (sym (no-corner k m) ∙ next-rests D k q ∙ stops-rests D k stop))
      corner-place k l stop (closing m q) = subst (Facing A B) (ap (corner D) q ∙ sym e) (stop-corner A B s t h k l stop)

      go : (k : ℕ) × (k < length D) × (StopsAtCorner D k ⊎ StopsOnEdge D k) → Facing A B n
      go (k, l, inl stop) = corner-place k l stop (following (length D) k l)
      go (k, l, inr stop) = absurd (false≢true (sym (no_edge k l) ∙ stops-crosses D k stop))

-- ---- the nearest candidate can be measured

foot-some : (ps : List Point) (e : ℕ) (c : Point) → falls_on ps e c ≡ true → pos 0 <ℤ edge_squared ps e
unfolding edge_squared
foot-some ps e c i = foot-positive (corner ps e) (corner ps (next (length ps) e)) c i

pair-some : (n a b : Point) → value n b <ℤ value n a → pos 0 <ℤ squared a b
pair-some n a b l = squared-positive a b (λ e. <ℤ_irrefl (rw e at l))

pub nearest-measurable : (A B : List Point) → 0 < length A → 0 < length B → (n : Point) → Facing A B n → Measurable A B (nearest A B)
nearest-measurable A B a b n f = go (nearest A B) (nearest-reached A B a b n f)
  where
    go : (c : Candidate) → Reached A B n c → Measurable A B c
    go (corners i j) r = (
      r.one.within,
      r.other.within,
      pair-some n (corner A i) (corner B j)
          (f.above (corner A i) (corner B j) (position-member A i r.one.within) (position-member B j r.other.within)),
    )
    go (on_second c e) r = (r.from.within, r.start.within, foot-some B e (corner A c) r.inside)
    go (on_first c e) r = (r.from.within, r.start.within, foot-some A e (corner B c) r.inside)
