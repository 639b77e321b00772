-- The direction across is one that a caller may give: where the corners of the grown obstacles are in range, refusals 11 and 12 let it
-- pass.
--     across-lowest      12: its parts have no common divisor
--     across-small       11: it is not (0,0), and its parts are in range; `widest-good`: so is that of any two shapes in range
--     lines-small        its two lines are at most 4,000,000,000,000 in size
use Rattle.std.specs.Prelude.{◌≡◌, true, false, List, [], ◌∷◌, ℕ, ◌+◌, ◌≤◌, ◌<◌, ℤ, pos, neg_ℤ, ◌-ℤ◌, length, ◌<ℤ◌}
use Rattle.std.proofs.Common.{sym, ◌∙◌, ap, arith, lit≤}
use Rattle.std.proofs.Math.Path.{subst}
use Rattle.integer.specs.Ring.{ring, reify}
use Rattle.integer.specs.Linear.{linear, lia}
use Rattle.integer.specs.Order.{◌≡×◌, Compared, is_below, is-equal, is-above, compared}
use Rattle.integer.specs.Bound.{Within, within-widen, within-add, within-neg}
use Rattle.plane.specs.Limits.{max_coordinate, max_part}
use Rattle.plane.specs.Point.{Point, origin, numbers, corner, opposite, ◌⊖◌}
use Rattle.plane.specs.Shape.{next, IsShape}
use Rattle.plane.specs.Refusal.{InRange}
use Rattle.plane.specs.Direction.{support, SameWay}
use Rattle.plane.specs.Furthest.{bad_direction, common_divisor}
use Rattle.plane.specs.Primitive.{primitive}
use Rattle.plane.specs.Mean.{times}
use Rattle.plane.specs.Separation.{apart}
use Rattle.plane.specs.Clearance.{Candidate, corners, on_second, on_first, turn_on, nearest}
use Rattle.plane.specs.Forms.{NonZero}
use Rattle.plane.proofs.theory.lists.Flat.{Near, points_near, points-numbers}
use Rattle.plane.proofs.theory.lists.Members.{point-path}
use Rattle.plane.proofs.theory.lists.Next.{next-below}
use Rattle.plane.proofs.theory.forms.SameWay.{same-sym, same-trans, same-non-zero}
use Rattle.plane.proofs.theory.support.Bounds.{support-size}
use Rattle.plane.proofs.theory.direction.Rows.{direction-near, near-direction}
use Rattle.plane.proofs.theory.direction.Primitive.{primitive-same, primitive-common, primitive-bad, primitive-only}
use Rattle.clearance.specs.Order.{Listed}
use Rattle.clearance.specs.theory.Nearest.{nearest-is-listed}
use Rattle.strips.specs.Strip.{least}
use Rattle.strips.specs.OwnDirection.{out_of, towards}
use Rattle.growth.specs.Grown.{grown}
use Rattle.growth.proofs.theory.Places.{grown-shape}
use Rattle.passage.specs.Passage.{passable, across, low_line, high_line}
use Rattle.passage.specs.Corridor.{widest_of}
use Rattle.passage.proofs.theory.Gaps.{grown-low, grown-high}
use Rattle.passage.proofs.theory.Widest.{step-some}

-- the difference of two coordinates fits a part of a direction
coordinates-fit : max_coordinate + max_coordinate ≤ max_part
unfolding max_coordinate max_part
coordinates-fit = lit≤ tt

difference-fits : {a b : ℤ} → Within max_coordinate a → Within max_coordinate b → Within max_part (a -ℤ b)
difference-fits a b = within-widen coordinates-fit (within-add a (within-neg b))

-- ---- the names of directions on one line

-- one name for all that point the same way
name-same : {d e : Point} → NonZero e → SameWay d e → bad_direction (primitive e) ≡ false → bad_direction (primitive d) ≡ false
name-same {d} {e} some s good = subst (λ p. bad_direction p ≡ false) (sym (primitive-only e (primitive d) some
    (primitive-common d nonzero) (same-trans (primitive-same d nonzero) s))) good
  where
    nonzero : NonZero d
    nonzero = same-non-zero (same-sym s) some

times-same : (k : ℤ) (v : Point) → pos 0 <ℤ k → SameWay (times k v) v
times-same k v h = record {
  m = pos 1;
  n = k;
  m-above = record { lt = tt };
  n-above = h;
  along-x = ring (k ∷ v.x ∷ []) (search reify depth 40) tt;
  along-y = ring (k ∷ v.y ∷ []) (search reify depth 40) tt;
}

times-turned : (k : ℤ) (v : Point) → times k v ≡ times (neg_ℤ k) (opposite v)
times-turned k v = point-path (ring (k ∷ v.x ∷ []) (search reify depth 40) tt) (ring (k ∷ v.y ∷ []) (search reify depth 40) tt)

times_none : (k : ℤ) (v : Point) → k ≡ pos 0 → times k v ≡ origin
times_none k v e = point-path (lia (k ∷ v.x ∷ []) (e ≡× v.x) (search linear depth 40) (omega arith))
    (lia (k ∷ v.y ∷ []) (e ≡× v.y) (search linear depth 40) (omega arith))

-- the name of a multiple of v is that of v or of its opposite
times-name : (k : ℤ) (v : Point) → NonZero (times k v) → Within max_part v.x → Within max_part v.y
    → bad_direction (primitive (times k v)) ≡ false
times-name k v some u w = go (compared (pos 0) k)
  where
    forward : (k : ℤ) (v : Point) → pos 0 <ℤ k → NonZero (times k v) → Within max_part v.x → Within max_part v.y
        → bad_direction (primitive (times k v)) ≡ false
    forward k v h some u w =
        let s = times-same k v h in
        let other = same-non-zero s some in
        name-same other s (primitive-bad v (near-direction v u w other))

    go : Compared (pos 0) k → bad_direction (primitive (times k v)) ≡ false
    go (is_below h) = forward k v h some u w
    go (is-equal e) = absurd (some.non_zero (times_none k v (sym e)))
    go (is-above h) = ap (λ p. bad_direction (primitive p)) (times-turned k v) ∙ forward (neg_ℤ k) (opposite v)
        (lia (k ∷ []) h (search linear depth 40) (omega arith)) (subst NonZero (times-turned k v) some) (within-neg u) (within-neg w)

-- ---- the step between the nearest points

corner-near : (ps : List Point) → InRange (numbers ps) → (i : ℕ) → i < length ps → Near (corner ps i)
corner-near ps r i h = subst (λ qs. i < length qs → Near (corner qs i)) (points-numbers ps) (points_near (numbers ps) r i) h

reach-size : (ps : List Point) → InRange (numbers ps) → (d : Point) → 0 < length ps → Within max_part d.x → Within max_part d.y
    → Within 4_000_000_000_000 (support d ps)
reach-size ps r d some u v = subst (λ qs. 0 < length qs → Within 4_000_000_000_000 (support d qs)) (points-numbers ps)
    (support-size (numbers ps) r u v) some

-- a multiple of the direction out of an edge
edge-name : (ps : List Point) → InRange (numbers ps) → (e : ℕ) → e < length ps → (k : ℤ) → NonZero (times k (out_of ps e))
    → bad_direction (primitive (times k (out_of ps e))) ≡ false
edge-name ps r e h k some =
    let p = corner-near ps r e h in
    let q = corner-near ps r (next (length ps) e) (next-below (length ps) e h) in
    times-name k (out_of ps e) some (difference-fits q.near-y p.near-y) (difference-fits p.near-x q.near-x)

towards-name : (A B : List Point) → InRange (numbers A) → InRange (numbers B) → (c : Candidate) → Listed A B c
    → NonZero (towards A B c) → bad_direction (primitive (towards A B c)) ≡ false
towards-name A B near also (corners i j) (h, k) some =
    let p = corner-near A near i h in
    let q = corner-near B also j k in
    let d = corner A i ⊖ corner B j in
    primitive-bad d (near-direction d (difference-fits p.near-x q.near-x) (difference-fits p.near-y q.near-y) some)
towards-name A B near also (on_second i e) (h, k, r) some = edge-name B also e k (neg_ℤ (turn_on B e (corner A i))) some
towards-name A B near also (on_first j e) (h, k, r) some = edge-name A near e k (turn_on A e (corner B j)) some

pub widest-good : (A B : List Point) → IsShape A → IsShape B → apart A B ≡ true → InRange (numbers A) → InRange (numbers B)
    → bad_direction (widest_of A B) ≡ false
widest-good A B s t h near also = towards-name A B near also (nearest A B) (nearest-is-listed A B s t h) (step-some A B s t h)

module _ (L R A : List Point) (l : 0 < length L) (r : 0 < length R) (a : 0 < length A) (h : passable L R A ≡ true) where
  abbrev G : List Point
  G = grown L A

  abbrev H : List Point
  H = grown R A

  left-shape : IsShape G
  left-shape = grown-shape L A l a

  right-shape : IsShape H
  right-shape = grown-shape R A r a

  pub across-lowest : common_divisor (across L R A) ≡ false
  unfolding across
  across-lowest = primitive-common (towards G H (nearest G H)) (step-some G H left-shape right-shape h)

  pub across-small : InRange (numbers G) → InRange (numbers H) → bad_direction (across L R A) ≡ false
  unfolding across
  across-small near also = widest-good G H left-shape right-shape h near also

  -- the lines are the greatest and the least value of lists in range
  pub lines-small : InRange (numbers G) → InRange (numbers H)
      → Within 4_000_000_000_000 (low_line (across L R A) R A) × Within 4_000_000_000_000 (high_line (across L R A) L A)
  unfolding least
  lines-small near also =
      let n = across L R A in
      let fits = direction-near n (across-small near also) in (
        subst (λ z. Within 4_000_000_000_000 z) (grown-low R A r a n) (reach-size H also n right-shape.some fits.0 fits.1),
        subst (λ z. Within 4_000_000_000_000 z) (grown-high L A l a n)
            (within-neg (reach-size G near (opposite n) left-shape.some (within-neg fits.0) (within-neg fits.1))),
      )
