-- A walk with carried sides goes as the walk of its definition: the recipe for the invariant of a loop that walks.
-- An invariant of the walk's place w becomes that of `walk_of s t over`, together with `Carried a s` and `Carried b t`.
--     all-passed, some_left      whether all edges are passed, by the count of those that are
--     here-near           the corner of the sum may be added
--     sides-walk          sides at a walk's positions have its place
--     sides-here          the corner of the sum is the sum of the two corners
--     first_next, second-next, corners-fit, edges_fit      what the functions on sides ask for
--     sides-advanced      after each side went on by the sign of the product, the place is one step further
--     sides-at            and the walk is there
use Rattle.std.specs.Prelude.{◌≡◌, Bool, cond, List, [], ◌∷◌, ℕ, ◌+◌, ◌^◌, ◌≤◌, ◌<◌, ℤ, pos, length, ◌<ℤ◌}
use Rattle.std.proofs.Math.Path.{refl, ap₂}
use Rattle.std.proofs.Common.{◌∙◌, sym, subst, arith}
use Rattle.std.proofs.Math.Bool.{true, false}
use borrow.Author.Tests.{eq-eqb}
use Rattle.std.specs.Int.Signed.{lt_z}
use Rattle.integer.specs.Linear.{lia, linear, ◌&◌}
use Rattle.integer.specs.Order.{lt-lt_z, lt_z-true}
use Rattle.integer.specs.Bound.{within-add, within-widen}
use Rattle.plane.specs.Point.{Point, points, corner, ◌⊕◌}
use Rattle.plane.specs.Turn.{cross}
use Rattle.plane.specs.Refusal.{InRange}
use Rattle.plane.specs.Forms.{edges}
use Rattle.plane.specs.Limits.{coordinate-small}
use Rattle.plane.proofs.theory.forms.Vector.{cross-swap}
use Rattle.plane.proofs.theory.lists.Sought.{tests_agree}
use Rattle.plane.proofs.theory.sum.Positions.{shape-in-order, round-within, edges-at-most}
use Rattle.plane.proofs.theory.lists.Flat.{points_near}
use Rattle.polygon.specs.Point.{Small}
use Rattle.calipers.specs.declared.side.Side.{Side}
use Rattle.calipers.specs.Side.{corner_of, next_of, onward, Carried, walk_of}
use Rattle.calipers.specs.Walk.{Walk, here, passed, finished, advanced, At}
use Rattle.calipers.specs.theory.Places.{finished-all}
use Rattle.calipers.specs.theory.Standing.{standing-swap}
use Rattle.calipers.specs.theory.Steps.{at-advanced}
use Rattle.calipers.specs.theory.Sides.{corner-fits, edge-fits}
use Rattle.calipers.specs.theory.CrossOrder.{shape-gentle, led-passed}

-- the sign of the product read the other way round
sign-swap : (e f : Point) → lt_z (cross f e) (pos 0) ≡ lt_z (pos 0) (cross e f)
sign-swap e f = tests_agree _ _ (λ h. lt-lt_z {x = pos 0} {y = cross e f} (above (lt_z-true h))) (λ h. lt-lt_z (below (lt_z-true h)))
  where
    above : cross f e <ℤ pos 0 → pos 0 <ℤ cross e f
    above h = lia (cross e f ∷ cross f e ∷ []) (h & cross-swap e f) (search linear depth 40) (omega arith)

    below : pos 0 <ℤ cross e f → cross f e <ℤ pos 0
    below h = lia (cross e f ∷ cross f e ∷ []) (h & cross-swap e f) (search linear depth 40) (omega arith)

module _ (A B : List Point) where
  -- whether all edges are passed, by their count
  pub all-passed : (i j : ℕ) → i ≤ length (edges A) → j ≤ length (edges B) → i + j ≡ length (edges A) + length (edges B)
      → finished A i B j ≡ true
  unfolding finished
  all-passed i j h k l = rw (eq-eqb i (length (edges A)) (omega arith), eq-eqb j (length (edges B)) (omega arith))

  pub some_left : (i j : ℕ) → (i + j ≡ length (edges A) + length (edges B) → ⊥) → finished A i B j ≡ false
  unfolding finished
  some_left i j l = go (finished A i B j) refl
    where
      go : (b : Bool) → finished A i B j ≡ b → b ≡ false
      go true e = let r = finished-all (edges A) (edges B) i j e in absurd (l (omega (arith, r.0, r.1)))
      go false e = refl

-- the corner of the sum may be added
pub here-near : {a b : List ℤ} {w : Walk} → At a b w → {p : Point} → p ≡ here (points a) (points b) w → Small (2 ^ 21) p
unfolding here
here-near {a} {b} {w} t e =
    let first = round-within (length (points a)) w.i t.first-shape.some
    (omega (arith, edges-at-most (points a), t.standing.left_in)) in
    let second = round-within (length (points b)) w.j t.second-shape.some
    (omega (arith, edges-at-most (points b), t.standing.right-in)) in
    let p = points_near a t.first-near _ first in
    let q = points_near b t.second-near _ second in
    subst (Small (2 ^ 21)) (sym e) (record {
      small-x = within-add (within-widen coordinate-small p.near-x) (within-widen coordinate-small q.near-x);
      small-y = within-add (within-widen coordinate-small p.near-y) (within-widen coordinate-small q.near-y);
    })

pub sides-walk : (w : Walk) (s t : Side) → s.at ≡ w.i → t.at ≡ w.j → walk_of s t w.over ≡ w
sides-walk w s t h k = ap₂ (λ (i j : ℕ). record { i = i; j = j; over = w.over }) h k

module _ {a b : List ℤ} {s t : Side} {over : Bool} (p : At a b (walk_of s t over)) (u : Carried a s) (v : Carried b t) where
  pub sides-here : corner_of s ⊕ corner_of t ≡ here (points a) (points b) (walk_of s t over)
  unfolding here
  sides-here = ap₂ ◌⊕◌ u.corner-is v.corner-is

  -- what the functions on sides ask for
  pub first_next : Carried a s × InRange a × (0 < length (points a))
  first_next = (u, p.first-near, p.first-shape.some)

  pub second-next : Carried b t × InRange b × (0 < length (points b))
  second-next = (v, p.second-near, p.second-shape.some)

  pub corners-fit : Small (2 ^ 21) (corner_of s) × Small (2 ^ 21) (corner_of t)
  corners-fit = (corner-fits p.first-near p.first-shape.some u, corner-fits p.second-near p.second-shape.some v)

  pub edges_fit : Small (2 ^ 22) (next_of s) × Small (2 ^ 22) (next_of t)
  edges_fit = (edge-fits p.first-near p.first-shape.some u, edge-fits p.second-near p.second-shape.some v)

  module _ {c : ℤ} (is : c ≡ cross (next_of s) (next_of t)) where
    product : c ≡ cross (corner (edges (points a)) s.at) (corner (edges (points b)) t.at)
    product = is ∙ ap₂ cross u.edge-is v.edge-is

    first-passed : passed (points a) s.at (points b) t.at ≡ cond (lt_z c (pos 0)) s.at (onward (points a) s.at)
    unfolding passed
    first-passed = rw product (led-passed (shape-in-order (points a) p.first-shape) (shape-in-order (points b) p.second-shape)
        (shape-gentle (points a) p.first-shape) (shape-gentle (points b) p.second-shape) p.standing)

    second-passed : passed (points b) t.at (points a) s.at ≡ cond (lt_z (pos 0) c) t.at (onward (points b) t.at)
    unfolding passed
    second-passed = rw (product, ← sign-swap (corner (edges (points a)) s.at) (corner (edges (points b)) t.at))
        (led-passed (shape-in-order (points b) p.second-shape) (shape-in-order (points a) p.first-shape)
        (shape-gentle (points b) p.second-shape) (shape-gentle (points a) p.first-shape) (standing-swap p.standing))

    pub sides-advanced : (m n : Side) {end : Bool} → m.at ≡ cond (lt_z c (pos 0)) s.at (onward (points a) s.at)
        → n.at ≡ cond (lt_z (pos 0) c) t.at (onward (points b) t.at) → end ≡ finished (points a) m.at (points b) n.at
        → walk_of m n end ≡ advanced (points a) (points b) (walk_of s t over)
    unfolding advanced
    sides-advanced m n i j o = cc (i, j, o, first-passed, second-passed)

    pub sides-at : (m n : Side) {end : Bool} → m.at ≡ cond (lt_z c (pos 0)) s.at (onward (points a) s.at)
        → n.at ≡ cond (lt_z (pos 0) c) t.at (onward (points b) t.at) → At a b (walk_of m n end)
    unfolding advanced
    sides-at m n i j =
        let q = at-advanced a b (walk_of s t over) p in
        record {
          first-near = p.first-near;
          second-near = p.second-near;
          first-shape = p.first-shape;
          second-shape = p.second-shape;
          standing = rw (i, j, ← first-passed, ← second-passed) q.standing;
        }
