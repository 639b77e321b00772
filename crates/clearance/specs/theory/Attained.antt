-- Every candidate is the distance of two points: two corners, or a corner and the foot on an edge, a mean of its ends.
--     Attained A B c, attained     weights of these points, and that c's fraction is their distance
--     gap_is                       a gap, by weights and heaps
--     opposite-square              a step and its opposite
use Rattle.std.specs.Prelude.{◌≡◌, true, List, [], ◌∷◌, ℕ, ◌<◌, ℤ, pos, nat_abs, ◌+ℤ◌, ◌-ℤ◌, ◌*ℤ◌, length, ◌<ℤ◌}
use Rattle.std.proofs.Common.{sym, ◌∙◌, ap, ap₂, arith}
use Rattle.integer.specs.Ring.{ring, reify}
use Rattle.integer.specs.Linear.{linear, lia, ◌&◌}
use Rattle.integer.specs.Order.{◌≡×◌, weaken}
use Rattle.integer.specs.Bound.{size_is}
use Rattle.plane.specs.Point.{Point, corner, ◌⊕◌, ◌⊖◌}
use Rattle.plane.specs.Turn.{turn}
use Rattle.plane.specs.Shape.{next}
use Rattle.plane.specs.Direction.{value}
use Rattle.plane.specs.Measure.{squared, edge_squared}
use Rattle.plane.specs.Mean.{times, weight, heap, gap, Exactly}
use Rattle.plane.specs.Clearance.{falls_on, Candidate, corners, on_second, on_first, top, bottom}
use Rattle.plane.proofs.theory.lists.Members.{point-path}
use Rattle.plane.proofs.theory.lists.Next.{next-below}
use Rattle.plane.specs.Cut.{quarter}
use Rattle.plane.proofs.theory.forms.Squared.{squared-value}
use Rattle.clearance.specs.Order.{Listed}
use Rattle.clearance.specs.theory.Bound.{falls-inside}
use Rattle.clearance.specs.theory.Means.{unit, two}
use Rattle.clearance.specs.theory.Means.{weight-unit, heap-unit, weight-two, heap-two}

pub record Attained (A B : List Point) (c : Candidate) : Type 0 where
  pub one : ℕ → ℕ
  pub other : ℕ → ℕ
  pub one-point : pos 0 <ℤ weight one A
  pub other-point : pos 0 <ℤ weight other B
  pub exact : Exactly (top A B c) (bottom A B c) one A other B

-- the square of a vector times k, and of that turned by a quarter
times-square : (k : ℤ) (u : Point) → value (times k (quarter u)) (times k (quarter u)) ≡ k *ℤ k *ℤ value u u
unfolding value
times-square k u = ring (k ∷ u.x ∷ u.y ∷ []) (search reify depth 40) tt

pub opposite-square : (u v : Point) → value (u ⊖ v) (u ⊖ v) ≡ value (v ⊖ u) (v ⊖ u)
unfolding value
opposite-square u v = ring (u.x ∷ u.y ∷ v.x ∷ v.y ∷ []) (search reify depth 40) tt

-- from the foot on the edge p to q to c, times the squared length of the edge
foot-step : (p q c : Point) → times (squared p q) c ⊖ (times (squared p q -ℤ value (q ⊖ p) (c ⊖ p)) p ⊕ times (value (q ⊖ p) (c ⊖ p)) q)
    ≡ times (turn p q c) (quarter (q ⊖ p))
unfolding squared value turn
foot-step p q c = point-path (ring (p.x ∷ p.y ∷ q.x ∷ q.y ∷ c.x ∷ c.y ∷ []) (search reify depth 40) tt)
    (ring (p.x ∷ p.y ∷ q.x ∷ q.y ∷ c.x ∷ c.y ∷ []) (search reify depth 40) tt)

step-square : (p q c : Point)
    → value (times (squared p q) c ⊖ (times (squared p q -ℤ value (q ⊖ p) (c ⊖ p)) p ⊕ times (value (q ⊖ p) (c ⊖ p)) q))
    (times (squared p q) c ⊖ (times (squared p q -ℤ value (q ⊖ p) (c ⊖ p)) p ⊕ times (value (q ⊖ p) (c ⊖ p)) q))
    ≡ turn p q c *ℤ turn p q c *ℤ squared p q
step-square p q c = ap (λ z. value z z) (foot-step p q c) ∙ times-square (turn p q c) (q ⊖ p)
    ∙ ap (λ z. turn p q c *ℤ turn p q c *ℤ z) (sym (squared-value p q))

falls-before : (ps : List Point) (e : ℕ) (c : Point) → falls_on ps e c ≡ true
    → value (corner ps (next (length ps) e) ⊖ corner ps e) (c ⊖ corner ps e) <ℤ edge_squared ps e
unfolding edge_squared
falls-before ps e c r = (falls-inside (corner ps e) (corner ps (next (length ps) e)) c r).1

times-one : (p : Point) → times (pos 1) p ≡ p
times-one p = point-path (ring (p.x ∷ []) (search reify depth 40) tt) (ring (p.y ∷ []) (search reify depth 40) tt)

pub gap_is : (v : ℕ → ℕ) (A : List Point) (w : ℕ → ℕ) (B : List Point) {x y : ℤ} {P Q : Point} → weight v A ≡ x → weight w B ≡ y
    → heap v A ≡ P → heap w B ≡ Q → gap v A w B ≡ times y P ⊖ times x Q
unfolding gap
gap_is v A w B e f g h = rw (e, f, g, h)

exactly-by : (n d : ℤ) (v : ℕ → ℕ) (A : List Point) (w : ℕ → ℕ) (B : List Point) {x y : ℤ} {g : Point} → weight v A ≡ x → weight w B ≡ y
    → gap v A w B ≡ g → n *ℤ (x *ℤ y *ℤ (x *ℤ y)) ≡ d *ℤ value g g → Exactly n d v A w B
exactly-by n d v A w B e f g h = rw (e, f, g) h

corner-step : (a b : Point) → value (times (pos 1) (times (pos 1) a) ⊖ times (pos 1) (times (pos 1) b))
    (times (pos 1) (times (pos 1) a) ⊖ times (pos 1) (times (pos 1) b)) ≡ squared a b
unfolding value squared
corner-step a b = ring (a.x ∷ a.y ∷ b.x ∷ b.y ∷ []) (search reify depth 40) tt

one-is : pos 0 <ℤ pos 1
one-is = record { lt = tt }

-- the foot of c on edge e, as a mean of the two ends
module _ (ps : List Point) (e : ℕ) (c : Point) (e-in : e < length ps)
    (after : pos 0 <ℤ value (corner ps (next (length ps) e) ⊖ corner ps e) (c ⊖ corner ps e))
    (before : value (corner ps (next (length ps) e) ⊖ corner ps e) (c ⊖ corner ps e) <ℤ edge_squared ps e) where
  abbrev p : Point
  p = corner ps e

  abbrev q : Point
  q = corner ps (next (length ps) e)

  abbrev along : ℤ
  along = value (q ⊖ p) (c ⊖ p)

  abbrev foot : ℕ → ℕ
  foot = two e (nat_abs (edge_squared ps e -ℤ along)) (next (length ps) e) (nat_abs along)

  rest-size : pos (nat_abs (edge_squared ps e -ℤ along)) ≡ edge_squared ps e -ℤ along
  rest-size = size_is (lia (edge_squared ps e ∷ along ∷ []) before (search linear depth 40) (omega arith))

  along-size : pos (nat_abs along) ≡ along
  along-size = size_is (weaken after)

  foot-weight : weight foot ps ≡ edge_squared ps e
  foot-weight = weight-two e (nat_abs (edge_squared ps e -ℤ along)) (next (length ps) e) (nat_abs along) ps e-in
      (next-below (length ps) e e-in)
      ∙ ap₂ (λ a b. a +ℤ b) rest-size along-size ∙ ring (edge_squared ps e ∷ along ∷ []) (search reify depth 40) tt

  abbrev mean : Point
  mean = times (edge_squared ps e -ℤ along) p ⊕ times along q

  -- from it to c
  abbrev step : Point
  step = times (edge_squared ps e) c ⊖ mean

  foot-heap : heap foot ps ≡ mean
  foot-heap = heap-two e (nat_abs (edge_squared ps e -ℤ along)) (next (length ps) e) (nat_abs along) ps e-in (next-below (length ps) e e-in)
      ∙ ap₂ (λ a b. times a p ⊕ times b q) rest-size along-size

  foot-some : pos 0 <ℤ edge_squared ps e
  foot-some = lia (edge_squared ps e ∷ along ∷ []) (after & before) (search linear depth 40) (omega arith)

  foot-square : value step step ≡ turn p q c *ℤ turn p q c *ℤ edge_squared ps e
  unfolding edge_squared
  foot-square = step-square p q c

scale-pair : (n g : ℤ) → g ≡ n → n *ℤ (pos 1 *ℤ pos 1 *ℤ (pos 1 *ℤ pos 1)) ≡ pos 1 *ℤ g
scale-pair n g e = lia (n ∷ g ∷ []) e (search linear depth 40) (omega arith)

scale-second : (n d g : ℤ) → g ≡ n *ℤ d → n *ℤ (pos 1 *ℤ d *ℤ (pos 1 *ℤ d)) ≡ d *ℤ g
scale-second n d g e = lia (n ∷ d ∷ g ∷ []) (e ≡× d) (search linear depth 40) (omega arith)

scale-first : (n d g : ℤ) → g ≡ n *ℤ d → n *ℤ (d *ℤ pos 1 *ℤ (d *ℤ pos 1)) ≡ d *ℤ g
scale-first n d g e = lia (n ∷ d ∷ g ∷ []) (e ≡× d) (search linear depth 40) (omega arith)

pub attained : (A B : List Point) (c : Candidate) → Listed A B c → Attained A B c
unfolding top bottom
attained A B (corners i j) (h, k) = record {
  one = unit i 1;
  other = unit j 1;
  one-point = rw (weight-unit i 1 A h) one-is;
  other-point = rw (weight-unit j 1 B k) one-is;
  exact = exactly-by (squared (corner A i) (corner B j)) (pos 1) (unit i 1) A (unit j 1) B (weight-unit i 1 A h) (weight-unit j 1 B k)
      (gap_is (unit i 1) A (unit j 1) B (weight-unit i 1 A h) (weight-unit j 1 B k) (heap-unit i 1 A h) (heap-unit j 1 B k))
      (scale-pair _ _ (corner-step (corner A i) (corner B j)));
}
attained A B (on_second i e) (h, k, r) = record {
  one = unit i 1;
  other = foot B e c k after before;
  one-point = rw (weight-unit i 1 A h) one-is;
  other-point = rw (foot-weight B e c k after before) (foot-some B e c k after before);
  exact = exactly-by (turn p q c *ℤ turn p q c) (edge_squared B e) (unit i 1) A (foot B e c k after before) B
      (weight-unit i 1 A h) (foot-weight B e c k after before)
      (gap_is (unit i 1) A (foot B e c k after before) B (weight-unit i 1 A h) (foot-weight B e c k after before)
      (heap-unit i 1 A h ∙ times-one c) (foot-heap B e c k after before)
      ∙ ap (λ z. times (edge_squared B e) c ⊖ z) {x = times (pos 1) m} {y = m} (times-one m))
      (scale-second (turn p q c *ℤ turn p q c) (edge_squared B e) (value (step B e c k after before) (step B e c k after before))
      (foot-square B e c k after before));
}
  where
    c : Point
    c = corner A i

    p : Point
    p = corner B e

    q : Point
    q = corner B (next (length B) e)

    after : pos 0 <ℤ value (q ⊖ p) (c ⊖ p)
    after = (falls-inside p q c r).0

    before : value (q ⊖ p) (c ⊖ p) <ℤ edge_squared B e
    before = falls-before B e c r

    m : Point
    m = mean B e c k after before
attained A B (on_first j e) (h, k, r) = record {
  one = foot A e c k after before;
  other = unit j 1;
  one-point = rw (foot-weight A e c k after before) (foot-some A e c k after before);
  other-point = rw (weight-unit j 1 B h) one-is;
  exact = exactly-by (turn p q c *ℤ turn p q c) (edge_squared A e) (foot A e c k after before) A (unit j 1) B
      (foot-weight A e c k after before) (weight-unit j 1 B h)
      (gap_is (foot A e c k after before) A (unit j 1) B (foot-weight A e c k after before) (weight-unit j 1 B h)
      (foot-heap A e c k after before) (heap-unit j 1 B h ∙ times-one c)
      ∙ ap (λ z. z ⊖ times (edge_squared A e) c) {x = times (pos 1) m} {y = m} (times-one m))
      (scale-first (turn p q c *ℤ turn p q c) (edge_squared A e) (value (m ⊖ times (edge_squared A e) c) (m ⊖ times (edge_squared A e) c))
      (opposite-square m (times (edge_squared A e) c) ∙ foot-square A e c k after before));
}
  where
    c : Point
    c = corner B j

    p : Point
    p = corner A e

    q : Point
    q = corner A (next (length A) e)

    after : pos 0 <ℤ value (q ⊖ p) (c ⊖ p)
    after = (falls-inside p q c r).0

    before : value (q ⊖ p) (c ⊖ p) <ℤ edge_squared A e
    before = falls-before A e c r

    m : Point
    m = mean A e c k after before
