-- The edge that a step of the walk passes, of one of the two shapes: it points the same way as the edge of the sum, and is no longer than
-- a direction may be.
--     here-limits                  the corner of the walk is a vector within the limits of a direction
--     normal-left, normal-right    the normal of an edge of sums with a common part
--     passed_normal A B w v         the outer normal of the edge that a step from w to v passes: of A's if it goes on there, else of B's
--     NormalOf e d                 d is the outer normal of a vector within the limits, which points the same way as e
--     passed-normal                so is `passed_normal`, of the edge of the sum
use Rattle.std.specs.Prelude.{◌≡◌, refl, cond, List, [], ◌∷◌, ℕ, ◌+◌, ◌≤◌, ◌<◌, ltb, ℤ, pos, ◌*ℤ◌, length}
use Rattle.std.proofs.Math.Path.{sym, ap, ap₂, subst}
use Rattle.std.proofs.Common.{◌∙◌, arith, lt-ltb, le-ltb, lit≤}
use Rattle.integer.specs.Ring.{ring, reify}
use Rattle.integer.specs.Bound.{within-widen, within-add, within-neg}
use Rattle.plane.specs.Direction.{SameWay}
use Rattle.plane.specs.Point.{Point, points, corner, ◌⊕◌, ◌⊖◌}
use Rattle.plane.specs.Limits.{max_coordinate, max_part}
use Rattle.plane.specs.Search.{some}
use Rattle.plane.specs.Refusal.{InRange}
use Rattle.plane.specs.Forms.{edges}
use Rattle.plane.specs.Cycle.{corner_round}
use Rattle.plane.specs.Cut.{outward}
use Rattle.plane.proofs.theory.lists.Flat.{Near, points_near}
use Rattle.plane.proofs.theory.lists.Members.{point-path}
use Rattle.plane.proofs.theory.forms.Vector.{step_back, ⊕-comm, step-moved}
use Rattle.plane.proofs.theory.forms.SameWay.{same_sum}
use Rattle.plane.proofs.theory.sum.Positions.{round-within, round-step, edges-at-most, shape-in-order}
use Rattle.polygon.specs.Point.{Small}
use Rattle.calipers.specs.Walk.{Walk, here, passed, advanced, At}
use Rattle.calipers.specs.theory.Standing.{Taken, taken-same, Step, ended, left, right, both, step}
use Rattle.calipers.specs.theory.Standing.{passed-taken, passed-ended, passed-waits}
use Rattle.calipers.specs.theory.Steps.{at-advanced}

abbrev pub passed_normal : List Point → List Point → Walk → Walk → Point
passed_normal A B w v = cond (ltb w.i v.i) (outward (corner_round A w.i) (corner_round A v.i))
    (outward (corner_round B w.j) (corner_round B v.j))

-- ---- the size of a direction

coordinates-fit : max_coordinate + max_coordinate ≤ max_part
unfolding max_coordinate max_part
coordinates-fit = lit≤ tt

normal-small : {p q : Point} → Near p → Near q → Small max_part (outward p q)
normal-small p q = record {
  small-x = within-widen coordinates-fit (within-add q.near-y (within-neg p.near-y));
  small-y = within-widen coordinates-fit (within-add p.near-x (within-neg q.near-x));
}

sum-small : {p q : Point} → Near p → Near q → Small max_part (p ⊕ q)
sum-small p q = record {
  small-x = within-widen coordinates-fit (within-add p.near-x q.near-x);
  small-y = within-widen coordinates-fit (within-add p.near-y q.near-y);
}

corner-near : (l : List ℤ) → InRange l → 0 < length (points l) → (i : ℕ) → i ≤ length (edges (points l)) → Near (corner_round (points l) i)
corner-near l r some i h =
    points_near l r _ (round-within (length (points l)) i some (omega (arith, edges-at-most (points l))))

pub here-limits : {a b : List ℤ} {w : Walk} → At a b w → Small max_part (here (points a) (points b) w)
unfolding here
here-limits {a} {b} {w} t = sum-small (corner-near a t.first-near t.first-shape.some w.i t.standing.left_in)
    (corner-near b t.second-near t.second-shape.some w.j t.standing.right-in)

-- ---- the way of an edge

same_refl : {e f : Point} → e ≡ f → SameWay e f
same_refl {e} {f} q = record {
  m = pos 1;
  n = pos 1;
  m-above = record { lt = tt };
  n-above = record { lt = tt };
  along-x = ap (λ z. pos 1 *ℤ z.x) q;
  along-y = ap (λ z. pos 1 *ℤ z.y) q;
}

pub normal-right : (p q r : Point) → outward (p ⊕ r) (q ⊕ r) ≡ outward p q
normal-right p q r =
    point-path (ring (p.y ∷ q.y ∷ r.y ∷ []) (search reify depth 40) tt) (ring (p.x ∷ q.x ∷ r.x ∷ []) (search reify depth 40) tt)

pub normal-left : (p q r : Point) → outward (r ⊕ p) (r ⊕ q) ≡ outward p q
normal-left p q r = ap₂ outward (⊕-comm r p) (⊕-comm r q) ∙ normal-right p q r

-- two sums with a common part differ by the other
right-part : (p q r : Point) → (r ⊕ q) ⊖ (r ⊕ p) ≡ q ⊖ p
right-part p q r = ap₂ ◌⊖◌ (⊕-comm r q) (⊕-comm r p) ∙ step-moved p q r

two-parts : (p e q f : Point) → ((p ⊕ e) ⊕ (q ⊕ f)) ⊖ (p ⊕ q) ≡ e ⊕ f
two-parts p e q f = point-path (ring (p.x ∷ e.x ∷ q.x ∷ f.x ∷ []) (search reify depth 40) tt)
    (ring (p.y ∷ e.y ∷ q.y ∷ f.y ∷ []) (search reify depth 40) tt)

-- d is the outer normal of the edge from one corner to another, within the limits, which points the same way as e
pub record NormalOf (e d : Point) : Type 0 where
  pub from : Point
  pub to : Point
  pub small : Small max_part (outward from to)
  pub normal-is : d ≡ outward from to
  pub same_way : SameWay (to ⊖ from) e

-- ---- one step

module _ (a b : List ℤ) (w : Walk) (t : At a b w) where
  abbrev A : List Point
  A = points a

  abbrev B : List Point
  B = points b

  abbrev i : ℕ
  i = w.i

  abbrev j : ℕ
  j = w.j

  first-near : (k : ℕ) → k ≤ length (edges A) → Near (corner_round A k)
  first-near k h = corner-near a t.first-near t.first-shape.some k h

  second-near : (k : ℕ) → k ≤ length (edges B) → Near (corner_round B k)
  second-near k h = corner-near b t.second-near t.second-shape.some k h

  -- A waits
  waits : (v : Walk) → v.i ≡ i → v.j ≤ length (edges B) → NormalOf (here A B v ⊖ here A B w) (passed_normal A B w v)
  unfolding here
  waits v e h = record {
    from = corner_round B j;
    to = corner_round B v.j;
    small = normal-small (second-near j t.standing.right-in) (second-near v.j h);
    normal-is = rw (le-ltb i v.i (omega arith)) refl;
    same_way = same_refl (sym (right-part (corner_round B j) (corner_round B v.j) (corner_round A i))
        ∙ ap (λ k. (corner_round A k ⊕ corner_round B v.j) ⊖ (corner_round A i ⊕ corner_round B j)) (sym e));
  }

  -- A goes on
  goes : (v : Walk) → v.i ≡ i + 1 → i < length (edges A) → SameWay (corner_round A v.i ⊖ corner_round A i) (here A B v ⊖ here A B w)
      → NormalOf (here A B v ⊖ here A B w) (passed_normal A B w v)
  goes v e h s = record {
    from = corner_round A i;
    to = corner_round A v.i;
    small = normal-small (first-near i t.standing.left_in) (first-near v.i (omega arith));
    normal-is = rw (lt-ltb i v.i (omega arith)) refl;
    same_way = s;
  }

  alone : (v : Walk) → v.j ≡ j → SameWay (corner_round A v.i ⊖ corner_round A i) (here A B v ⊖ here A B w)
  unfolding here
  alone v e = same_refl (sym (step-moved (corner_round A i) (corner_round A v.i) (corner_round B j))
      ∙ ap (λ k. (corner_round A v.i ⊕ corner_round B k) ⊖ (corner_round A i ⊕ corner_round B j)) (sym e))

  -- the two edges point the same way, and so does their sum
  together : (v : Walk) → v.i ≡ i + 1 → v.j ≡ j + 1 → Taken (edges A) i (edges B) j → Taken (edges B) j (edges A) i
      → SameWay (corner_round A v.i ⊖ corner_round A i) (here A B v ⊖ here A B w)
  unfolding here
  together v e f u r =
      let along = ap (corner_round A) e ∙ round-step A i u.there in
      let beside = ap (corner_round B) f ∙ round-step B j r.there in
      let edge = corner (edges A) i in
      let other = corner (edges B) j in
      let one : edge ≡ corner_round A v.i ⊖ corner_round A i = sym (step_back (corner_round A i) edge)
      ∙ ap (λ p. p ⊖ corner_round A i) (sym along) in
      let sum = sym (two-parts (corner_round A i) edge (corner_round B j) other)
      ∙ ap₂ (λ p q. (p ⊕ q) ⊖ (corner_round A i ⊕ corner_round B j)) (sym along) (sym beside) in
      subst (λ p. SameWay p (here A B v ⊖ here A B w)) one (subst (λ p. SameWay edge p) sum
      (same_sum (taken-same (shape-in-order A t.first-shape) (shape-in-order B t.second-shape) u r)))

  pub passed-normal : NormalOf (here A B (advanced A B w) ⊖ here A B w) (passed_normal A B w (advanced A B w))
  unfolding advanced passed
  passed-normal = go (step (edges A) (edges B) i j)
    where
      v : Walk
      v = advanced A B w

      inside : v.j ≤ length (edges B)
      inside = (at-advanced a b w t).standing.right-in

      go : Step (edges A) (edges B) i j → NormalOf (here A B v ⊖ here A B w) (passed_normal A B w v)
      go (ended h k) = waits v (passed-ended (edges A) i (edges B) j h) inside
      go (right u k) = waits v (passed-waits (edges A) i (edges B) j u.there k) inside
      go (left u k) = goes v (passed-taken u) u.there (alone v (passed-waits (edges B) j (edges A) i u.there k))
      go (both u r) = goes v (passed-taken u) u.there (together v (passed-taken u) (passed-taken r) u r)
