-- Where the walk round the differences stops, and that it does: for two shapes that are apart, D the shape of their differences.
--     point-facing, foot-facing     the point of D that is closest to the origin, or the foot on an edge, gives a direction
--     stop-corner, stop-edge        so do the tests of a walk against the neighbours of a corner, or against one edge
--     place-exists                  some place passes
--     facing-exists                 so some direction faces the least distance
use Rattle.std.specs.Prelude.{◌≡◌, refl, true, ◌⊎◌, List, [], ◌∷◌, ℕ, ◌<◌, ℤ, pos, neg_ℤ, ◌+ℤ◌, length, ◌≤ℤ◌, ◌<ℤ◌}
use Rattle.std.proofs.Common.{sym, ◌∙◌, ap, inl, inr, arith}
use Rattle.std.proofs.Math.Decide.{ℕ_discrete}
use Rattle.integer.specs.Linear.{linear, lia, ◌&◌}
use Rattle.plane.specs.Cut.{quarter}
use Rattle.plane.specs.Point.{Point, corner, opposite, ◌⊕◌, ◌⊖◌, ◌∈◌}
use Rattle.plane.specs.Turn.{turn, cross, Left, turn-cycle, turn-swap}
use Rattle.plane.specs.Shape.{next, IsShape}
use Rattle.plane.specs.Direction.{value, support}
use Rattle.plane.specs.Corner.{shape_of}
use Rattle.plane.specs.Separation.{differences, apart}
use Rattle.plane.specs.Clearance.{corners}
use Rattle.plane.proofs.theory.lists.Members.{position-member, member-position}
use Rattle.plane.proofs.theory.lists.Next.{next-below, preceding}
use Rattle.plane.proofs.theory.forms.Vector.{cross-self, value-turned, square-positive}
use Rattle.plane.proofs.theory.sum.Positions.{edge-turn}
use Rattle.plane.proofs.theory.support.Support.{value-le-support, support-le}
use Rattle.plane.proofs.theory.hull.ShapeOf.{shape_of-shape, shape_of-support, shape_of-corner}
use Rattle.plane.proofs.theory.forms.Vector.{positive-non-zero, value-sym}
use Rattle.separation.specs.theory.Apart.{Separated, value-difference, differences-some, difference-member, member-difference}
use Rattle.separation.specs.theory.Apart.{apart→direction}
use Rattle.clearance.specs.Facing.{Lowest, Facing, StopsAtCorner, StopsOnEdge}
use Rattle.clearance.specs.theory.First.{Held, touched-low, touched-high}
use Rattle.clearance.specs.theory.Pairs.{Pair, pair_of, pair-value}
use Rattle.clearance.specs.theory.Lowest.{neighbours-lowest}
use Rattle.clearance.specs.theory.Segments.{inside-span}
use Rattle.clearance.specs.theory.Along.{value-end}
use Rattle.clearance.specs.theory.Closest.{Closest, at-point, at-foot, closest}
use Rattle.clearance.specs.theory.Along.{value-start, cross-end, cross-start, cross-turn}
use Rattle.clearance.specs.theory.Faces.{Level, level-reached, value-quarter}

-- ---- a shape on one side of the origin

-- w is closest in its own direction if its two neighbours are no nearer
near-neighbours : (D : List Point) → IsShape D → (k : ℕ) → k < length D → StopsAtCorner D k
    → (x : Point) → x ∈ D → value (corner D (next (length D) k)) (corner D (next (length D) k)) ≤ℤ value (corner D (next (length D) k)) x
near-neighbours D s k h stop x m =
    let (i, r, q) = member-position m in
    rw q at ((neighbours-lowest s k h stop.previous stop.following).lowest i r)

-- ---- the shape of the differences of two shapes that are apart

module _ (A B : List Point) (s : IsShape A) (t : IsShape B) (h : apart A B ≡ true) where
  abbrev D : List Point
  D = shape_of (differences A B)

  some : 0 < length (differences A B)
  some = differences-some A B s.some t.some

  shape : IsShape D
  shape = shape_of-shape (differences A B) some

  parted : Separated A B
  parted = apart→direction A B s.some t.some h

  difference : {x : Point} → x ∈ D → x ∈ differences A B
  difference m = (shape_of-corner (differences A B) some m).member

  -- all differences are on one side of the origin
  side : (x : Point) → x ∈ D → pos 0 <ℤ value (opposite parted.direction) x
  side x m =
      let r = member-difference A B (difference m) in
      let u = parted.direction in
      lia (value u r.left ∷ value u r.right ∷ value u x ∷ value (opposite u) x ∷ [])
      (parted.below r.left r.right r.left_in r.right-in & value-turned u x
      & ap (value u) r.is-difference ∙ value-difference u r.left r.right) (search linear depth 40) (omega arith)

  -- what holds of the corners of D holds of all differences
  beyond : (n : Point) (z : ℤ) → ((x : Point) → x ∈ D → z ≤ℤ value n x) → (a b : Point) → a ∈ A → b ∈ B → (value n b +ℤ z) ≤ℤ value n a
  beyond n z f a b m k = lia (value n a ∷ value n b ∷ z ∷ value n (a ⊕ opposite b) ∷ value (opposite n) (a ⊕ opposite b)
      ∷ support (opposite n) (differences A B) ∷ support (opposite n) D ∷ [])
      (value-difference n a b & value-turned n (a ⊕ opposite b) & value-le-support (opposite n) (difference-member m k)
      & shape_of-support (differences A B) some (opposite n) & support-le (opposite n) D {N = neg_ℤ z} shape.some low)
      (search linear depth 40) (omega arith)
    where
      low : (q : Point) → q ∈ D → value (opposite n) q ≤ℤ neg_ℤ z
      low q l = lia (value n q ∷ value (opposite n) q ∷ z ∷ []) (f q l & value-turned n q) (search linear depth 40) (omega arith)

  module _ (n x : Point) (m : x ∈ D) (positive : pos 0 <ℤ value n x) (low : (y : Point) → y ∈ D → value n x ≤ℤ value n y) where
    held_at : Pair A B x → Held A B n (value n x)
    held_at r = record {
      some = positive;
      held = λ i j p q. beyond n (value n x) low (corner A i) (corner B j) (position-member A i p) (position-member B j q);
      low = r.one;
      high = r.other;
      low-in = r.one_in;
      high-in = r.other-in;
      exact = touch r;
    }
      where
        touch : (r : Pair A B x) → value n (corner A r.one) ≡ value n (corner B r.other) +ℤ value n x
        touch r = lia (value n x ∷ value n (corner A r.one) ∷ value n (corner B r.other) ∷ []) (pair-value A B n r)
            (search linear depth 40) (omega arith)

    above : (a b : Point) → a ∈ A → b ∈ B → value n b <ℤ value n a
    above a b p q = lia (value n a ∷ value n b ∷ value n x ∷ []) (beyond n (value n x) low a b p q & positive) (search linear depth 40)
        (omega arith)

    -- corners whose difference is as low as x are in the faces
    faces : {y : Point} → value n y ≡ value n x → (r : Pair A B y) → Lowest n A r.one × Lowest (opposite n) B r.other
    faces {y} e r = (
      touched-low A B n (value n x) (held_at (pair_of A B (difference m))) r.one r.other r.one_in r.other-in touch,
      touched-high A B n (value n x) (held_at (pair_of A B (difference m))) r.one r.other r.one_in r.other-in touch,
    )
      where
        touch : value n (corner A r.one) ≡ value n (corner B r.other) +ℤ value n x
        touch = lia (value n x ∷ value n y ∷ value n (corner A r.one) ∷ value n (corner B r.other) ∷ []) (e & pair-value A B n r)
            (search linear depth 40) (omega arith)

  pub point-facing : (w : Point) → w ∈ D → ((x : Point) → x ∈ D → value w w ≤ℤ value w x) → Facing A B w
  point-facing w m low = record {
    above = above w w m positive low;
    some = corners r.one r.other;
    reached = record {
      one = (faces w w m positive low refl r).0;
      other = (faces w w m positive low refl r).1;
      along = ap (cross w) (sym r.is) ∙ cross-self w;
    };
  }
    where
      r : Pair A B w
      r = pair_of A B (difference m)

      positive : pos 0 <ℤ value w w
      positive = let n = opposite parted.direction in
          square-positive w (positive-non-zero w n (rw (value-sym w n) (side w m)))

  pub foot-facing : (w d : Point) → w ∈ D → d ∈ D → cross w d <ℤ pos 0 → value w d <ℤ value w w → value w d <ℤ value d d
      → ((x : Point) → x ∈ D → pos 0 ≤ℤ turn w d x) → Facing A B (quarter (d ⊖ w))
  foot-facing w d m k right before after left = record {
    above = above (quarter e) w m positive low;
    some = (level-reached A B e s t level).0;
    reached = (level-reached A B e s t level).1;
  }
    where
      e : Point
      e = d ⊖ w

      r : Pair A B w
      r = pair_of A B (difference m)

      q : Pair A B d
      q = pair_of A B (difference k)

      height : value (quarter e) w ≡ neg_ℤ (cross w d)
      height = value-quarter e w ∙ cross-start w d

      positive : pos 0 <ℤ value (quarter e) w
      positive = lia (value (quarter e) w ∷ cross w d ∷ []) (height & right) (search linear depth 40) (omega arith)

      low : (x : Point) → x ∈ D → value (quarter e) w ≤ℤ value (quarter e) x
      low x p = lia (value (quarter e) w ∷ value (quarter e) x ∷ cross e x ∷ cross w d ∷ turn w d x ∷ [])
          (height & value-quarter e x & cross-turn w d x & left x p) (search linear depth 40) (omega arith)

      same : value (quarter e) d ≡ value (quarter e) w
      same = value-quarter e d ∙ cross-end w d ∙ sym height

      start-faces : Lowest (quarter e) A r.one × Lowest (opposite (quarter e)) B r.other
      start-faces = faces (quarter e) w m positive low refl r

      end-faces : Lowest (quarter e) A q.one × Lowest (opposite (quarter e)) B q.other
      end-faces = faces (quarter e) w m positive low same q

      level : Level A B e
      level = record {
        long = inside-span w d (record { first = before; second = after });
        low-short = r.one;
        low-past = q.one;
        high-short = r.other;
        high-past = q.other;
        lows = (start-faces.0, end-faces.0);
        highs = (start-faces.1, end-faces.1);
        short = lia (value e w ∷ value w d ∷ value w w ∷ value e (corner A r.one) ∷ value e (corner B r.other) ∷ [])
            (value-start w d & before & pair-value A B e r) (search linear depth 40) (omega arith);
        past = lia (value e d ∷ value w d ∷ value d d ∷ value e (corner A q.one) ∷ value e (corner B q.other) ∷ [])
            (value-end w d & after & pair-value A B e q) (search linear depth 40) (omega arith);
      }

  -- ---- the walk

  pub stop-corner : (k : ℕ) → k < length D → StopsAtCorner D k → Facing A B (corner D (next (length D) k))
  stop-corner k l stop = point-facing (corner D (next (length D) k)) (position-member D (next (length D) k) (next-below (length D) k l))
      (near-neighbours D shape k l stop)

  pub stop-edge : (k : ℕ) → k < length D → StopsOnEdge D k → Facing A B (quarter (corner D (next (length D) k) ⊖ corner D k))
  stop-edge k l stop = foot-facing (corner D k) (corner D (next (length D) k)) (position-member D k l)
      (position-member D (next (length D) k) (next-below (length D) k l)) stop.right stop.start stop.end left
    where
      left : (x : Point) → x ∈ D → pos 0 ≤ℤ turn (corner D k) (corner D (next (length D) k)) x
      left x m = let (i, r, q) = member-position m in rw q at (edge-turn D shape k i l r)

  pub place-exists : (k : ℕ) × (k < length D) × (StopsAtCorner D k ⊎ StopsOnEdge D k)
  place-exists = go (closest D shape.some (opposite parted.direction) side)
    where
      go : Closest D → (k : ℕ) × (k < length D) × (StopsAtCorner D k ⊎ StopsOnEdge D k)
      go (at-point w m low) =
          let (i, r, q) = member-position m in
          let (k, l, f) = preceding (length D) i r in (
            k,
            l,
            inl (record {
              previous = rw (f, q) (low (corner D k) (position-member D k l));
              following = rw (f, q) (low (corner D (next (length D) i))
                  (position-member D (next (length D) i) (next-below (length D) i r)));
            }),
          )
      go (at-foot w d m k right before after left) =
          let (i, r, q) = member-position m in
          let (j, l, f) = member-position k in
          (i, r, inr (onward-edge i j r l q f (ℕ_discrete (next (length D) i) j)))
        where
          -- d is the corner after w: else it would be left of the edge that leaves w, and that edge's end right of the line to d
          onward-edge : (i j : ℕ) → i < length D → j < length D → corner D i ≡ w → corner D j ≡ d → Dec (next (length D) i ≡ j)
              → StopsOnEdge D i
          onward-edge i j r l q f (yes g) = record { right = rw (g, q, f) right; start = rw (g, q, f) before; end = rw (g, q, f) after }
          onward-edge i j r l q f (no g) = absurd (lia (turn w p d ∷ turn w d p ∷ turn d w p ∷ [])
              (strict & left p p-in & turn-cycle d w p & turn-swap w d p)
              (search linear depth 40) (omega arith))
            where
              p : Point
              p = corner D (next (length D) i)

              p-in : p ∈ D
              p-in = position-member D (next (length D) i) (next-below (length D) i r)

              different : j ≡ i → ⊥
              different z = lia (cross w d ∷ []) (right & ap (cross w) (sym f ∙ ap (corner D) z ∙ q) ∙ cross-self w)
                  (search linear depth 40) (omega arith)

              strict : Left w p d
              strict = rw (q, f) at (shape.left i j r l different (λ z. g (sym z)))

  pub facing-exists : (n : Point) × Facing A B n
  facing-exists = go place-exists
    where
      go : (k : ℕ) × (k < length D) × (StopsAtCorner D k ⊎ StopsOnEdge D k) → (n : Point) × Facing A B n
      go (k, l, inl stop) = (_, stop-corner k l stop)
      go (k, l, inr stop) = (_, stop-edge k l stop)
