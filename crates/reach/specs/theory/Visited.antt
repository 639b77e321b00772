-- Every pair of corners at the greatest distance is at a place of the walk round the first shape and the mirror image of the second.
--     furthest-corner     the step from the one to the other is a corner of all differences: strictly furthest in its own direction
--     place-first-in, place-second-in      the positions at a place are those of corners
--     place-step          the corner of the sum at a place is the step between its pair
--     furthest-visited    the pair has a place
use Rattle.std.specs.Prelude.{◌≡◌, refl, ℕ, ◌≤◌, ◌<◌, ℤ, length, ◌<ℤ◌}
use Rattle.std.proofs.Common.{sym, ◌∙◌, ap, subst, arith}
use mathlib.Core.List.Memᴰ
use mathlib.Core.List.{List, Memᴰ}
use Rattle.plane.specs.Point.{Point, points, corner, opposite, ◌⊕◌, ◌⊖◌, ◌∈◌}
use Rattle.plane.specs.Refusal.{Valid}
use Rattle.plane.specs.Direction.{value}
use Rattle.plane.specs.Corner.{Corner, mirrored}
use Rattle.plane.specs.Separation.{differences}
use Rattle.plane.specs.Forms.{edges}
use Rattle.plane.specs.Cycle.{round, corner_round, turned}
use Rattle.plane.proofs.theory.lists.Members.{SumOf, sums-member, member-sums, mirrored-member, member-mirrored, position-member}
use Rattle.plane.proofs.theory.lists.Turned.{Turned, ahead, round as round-again, turned-cases}
use Rattle.plane.proofs.theory.forms.Vector.{opposite-opposite}
use Rattle.plane.proofs.theory.hull.ShapeOf.{corner-shape_of}
use Rattle.plane.proofs.theory.sum.Positions.{round-within, edges-at-most, corner-injective}
use Rattle.polygon.specs.Peak.{Peak}
use Rattle.calipers.specs.Image.{image}
use Rattle.calipers.specs.Places.{Place, places}
use Rattle.calipers.specs.theory.Image.{image-count, image-valid, image-corner}
use Rattle.calipers.specs.theory.PlaceCorners.{corner_at, places-corners, places-pass}
use Rattle.calipers.specs.theory.Visited.{corner-parts}
use Rattle.separation.specs.theory.Image.{image-visited}
use Rattle.measure.specs.theory.Longest.{longest-strict}
use Rattle.reach.specs.theory.Furthest.{Furthest, members-le}

-- ---- a corner of all differences

module _ (A B : List Point) {i j : ℕ} (f : Furthest A B i j) where
  abbrev far : Point
  far = corner A i ⊖ corner B j

  strict : (q : Point) → SumOf A (mirrored B) q → (q ≡ far → ⊥) → value far q <ℤ value far far
  strict q s other =
      let (b, m, e) = member-mirrored B s.right-in in
      let is : q ≡ s.left ⊖ b = s.is_sum ∙ ap (λ (p : Point). s.left ⊕ p) (sym e) in
      rw is (longest-strict (corner A i) (corner B j) s.left b (rw f.furthest (members-le s.left_in m)) (λ h. other (is ∙ h)))

  pub furthest-corner : Corner (differences A B) far
  furthest-corner = record {
    member = sums-member (position-member A i f.first-in) (mirrored-member (position-member B j f.second-in));
    direction = far;
    strictly = λ q m other. strict q (member-sums A (mirrored B) m) other;
  }

-- ---- the pair at a place

opposite-injective : (p q : Point) → opposite p ≡ opposite q → p ≡ q
opposite-injective p q e = sym (opposite-opposite p) ∙ ap opposite e ∙ opposite-opposite q

pub turned-in : (n t k : ℕ) → t < n → k ≤ n → turned n t k < n
turned-in n t k h l = go (turned-cases n t k)
  where
    go : Turned n t k → turned n t k < n
    go (ahead m e) = omega arith
    go (round-again m e) = omega arith

module _ (a b : List ℤ) (u : Valid a) (v : Valid b) (t : ℕ) (peak : Peak (points b) t) where
  abbrev A : List Point
  A = points a

  abbrev B : List Point
  B = points b

  abbrev M : List Point
  M = points (image b)

  pub place-first-in : (i : ℕ) → i ≤ length (edges A) → round (length A) i < length A
  place-first-in i h = round-within (length A) i u.shape.some (omega (arith, edges-at-most A))

  pub place-second-in : (j : ℕ) → j ≤ length (edges M) → turned (length B) t j < length B
  place-second-in j h = turned-in (length B) t j peak.within (omega (arith, edges-at-most M, image-count b v))

  pub place-step : (i j : ℕ) → j ≤ length (edges M)
      → corner_round A i ⊕ corner_round M j ≡ corner A (round (length A) i) ⊖ corner B (turned (length B) t j)
  place-step i j h = ap (λ (p : Point). corner_round A i ⊕ p)
      (sym (image-corner b v t peak j (omega (arith, edges-at-most M, image-count b v)) refl refl))

  pub furthest-visited : {i j : ℕ} → Furthest A B i j
      → (p : Place) × Memᴰ p (places (edges A) (edges M))
      × (round (length A) p.left ≡ i) × (turned (length B) t p.right ≡ j)
  furthest-visited {i} {j} f =
      let k = furthest-corner A B f in
      let (p, m, e) = Memᴰ.of_map (corner_at A M) (places (edges A) (edges M)) (subst (λ (l : List Point). (corner A i ⊖ corner B j) ∈ l)
      (sym (places-corners A M u.shape.some (image-valid b v).shape.some ∙ image-visited a b u v)) (corner-shape_of k)) in
      let passes = places-pass (edges A) (edges M) m in
      let l = place-first-in p.left passes.left-most in
      let r = place-second-in p.right passes.right-most in
      let same = corner-parts k (position-member A i f.first-in) (mirrored-member (position-member B j f.second-in))
      (position-member A _ l) (mirrored-member (position-member B _ r)) (sym e ∙ place-step p.left p.right passes.right-most) in (
        p,
        m,
        corner-injective A u.shape _ i l f.first-in (sym same.0),
        corner-injective B v.shape _ j r f.second-in (sym (opposite-injective _ _ same.1)),
      )
