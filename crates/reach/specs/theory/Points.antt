-- What the greatest distance of corners says of all points of two shapes, and of other shapes.
--     greatest-le            a number that no two corners are further apart than is at least the greatest
--     points-within          no mean of the one and mean of the other are further apart than the corners; `points-attain`: two are so far
--     spans-within           in no direction do the two reach further; `step-spans`: in the direction of the furthest corners they do
--     greatest-clearance     shapes that are apart: the clearance is at most the greatest distance
--     greatest-sym           either shape may be the first
--     greatest-self          of a list and itself it is the length, with its two positions
--     greatest-inside        a shape inside another reaches no further
--     greatest-hulls         of two sets of points it is that of their shapes
use Rattle.std.specs.Prelude.{◌≡◌, true, List, [], ◌∷◌, ℕ, ◌≤◌, ◌<◌, ℤ, pos, neg_ℤ, ◌+ℤ◌, ◌-ℤ◌, ◌*ℤ◌, length, ◌≤ℤ◌, ◌<ℤ◌}
use Rattle.std.proofs.Math.Path.{refl}
use Rattle.std.proofs.Common.{sym, ◌∙◌, ap, arith}
use Rattle.integer.specs.Ring.{ring, reify}
use Rattle.integer.specs.Linear.{linear, lia, ◌&◌}
use Rattle.integer.specs.Order.{contra≤, le_of_eq, le_trans, le_antisym, ◌≤×≤◌, ◌<×<◌, ◌<×≤◌, ◌≡×◌, square-nonneg}
use Rattle.plane.specs.Point.{Point, corner, opposite, ◌⊖◌, ◌∈◌}
use Rattle.plane.specs.Shape.{IsShape}
use Rattle.plane.specs.Turn.{cross}
use Rattle.plane.specs.Direction.{value, support}
use Rattle.plane.specs.Measure.{squared, length_squared, length_from, length_to, length_numbers}
use Rattle.plane.specs.Corner.{shape_of}
use Rattle.plane.specs.Separation.{apart, inside}
use Rattle.plane.specs.Mean.{times, weight, gap, share, Exactly}
use Rattle.plane.specs.Clearance.{corners, top, bottom, nearest}
use Rattle.plane.proofs.theory.forms.Vector.{value-⊖, value-turned, value-nonneg}
use Rattle.plane.proofs.theory.forms.Squared.{squared-sym}
use Rattle.plane.proofs.theory.lists.Members.{position-member}
use Rattle.plane.proofs.theory.support.Support.{value-le-support, support-attained}
use Rattle.plane.proofs.theory.hull.ShapeOf.{shape_of-support, shape_of-shape, shape_of-corner}
use Rattle.separation.specs.theory.Inside.{inside→reach, reach→inside}
use Rattle.clearance.specs.theory.Bound.{lagrange}
use Rattle.clearance.specs.theory.Means.{gap-value}
use Rattle.clearance.specs.theory.First.{candidate-whole}
use Rattle.clearance.specs.theory.Attained.{attained}
use Rattle.clearance.specs.theory.NearestUnique.{nearest-first-least}
use Rattle.measure.specs.theory.Longest.{Longest, length-longest, length-from-least, length-to-least}
use Rattle.reach.specs.Greatest.{greatest_squared, greatest_first, greatest_second, greatest_numbers}
use Rattle.reach.specs.theory.Furthest.{step-squared, squared-le-greatest, members-le}
use Rattle.reach.specs.theory.Furthest.{Furthest, greatest-furthest, first-least, second-least}

-- |z - k·d|² = |z|² - 2·k·(z·d) + k²·|d|²
expanded : (z d : Point) (k : ℤ)
    → value (z ⊖ times k d) (z ⊖ times k d) ≡ value z z -ℤ k *ℤ value z d -ℤ k *ℤ value z d +ℤ k *ℤ k *ℤ value d d
unfolding value
expanded z d k = ring (z.x ∷ z.y ∷ d.x ∷ d.y ∷ k ∷ []) (search reify depth 40) tt

-- and it is not below 0
doubled : (z d : Point) (k : ℤ) → (k *ℤ value z d +ℤ k *ℤ value z d) ≤ℤ (value z z +ℤ k *ℤ k *ℤ value d d)
doubled z d k = lia (value z z ∷ value z d ∷ value d d ∷ value (z ⊖ times k d) (z ⊖ times k d) ∷ k ∷ [])
    (value-nonneg (z ⊖ times k d) & expanded z d k) (search linear depth 40) (omega arith)

module _ (A B : List Point) (a : 0 < length A) (b : 0 < length B) where
  pub greatest-le : {N : ℤ} → ((i j : ℕ) → i < length A → j < length B → squared (corner A i) (corner B j) ≤ℤ N) → greatest_squared A B ≤ℤ N
  greatest-le f = let far = greatest-furthest A B a b in rw (← far.furthest) (f _ _ far.first-in far.second-in)

  -- how far the step between two furthest corners reaches in a direction, and against it
  reach : (d p q : Point) → value d p ≡ support d A → value (opposite d) q ≡ support (opposite d) B
      → value d (p ⊖ q) ≡ support d A +ℤ support (opposite d) B
  reach d p q e f = lia (value d (p ⊖ q) ∷ value d p ∷ value d q ∷ value (opposite d) q ∷ support d A ∷ support (opposite d) B ∷ [])
      (value-⊖ d p q & e & f & value-turned d q) (search linear depth 40) (omega arith)

  -- ---- all points

  module _ (v w : ℕ → ℕ) where
    abbrev g : Point
    g = gap v A w B

    -- furthest corners in the direction of the gap, and against it: the gap reaches no further than the step d between them
    step-reaches : (d : Point) → value g d ≡ support g A +ℤ support (opposite g) B → value g g ≤ℤ (share v A w B *ℤ value g d)
    step-reaches d e = lia
        (value g g ∷ value (opposite g) g ∷ value g d ∷ weight v A ∷ weight w B ∷ support g A ∷ support (opposite g) B ∷ [])
        (e ≡× share v A w B & value-turned g g & gap-value A B (opposite g) (support (opposite g) B)
        (neg_ℤ (support g A) -ℤ support (opposite g) B) above (λ q m. value-le-support (opposite g) m) v w)
        (search linear depth 40) (omega arith)
      where
        above : (p : Point) → p ∈ A → (support (opposite g) B +ℤ (neg_ℤ (support g A) -ℤ support (opposite g) B)) ≤ℤ value (opposite g) p
        above p m = lia (value g p ∷ value (opposite g) p ∷ support g A ∷ support (opposite g) B ∷ [])
            (value-turned g p & value-le-support g m) (search linear depth 40) (omega arith)

    -- |g|² ≤ S·(g·d) and 2·S·(g·d) ≤ |g|² + S²·|d|², where S is the share: together |g|² ≤ S²·|d|²
    pub points-within : value g g ≤ℤ (greatest_squared A B *ℤ (share v A w B *ℤ share v A w B))
    points-within =
        let p = support-attained g A a in
        let q = support-attained (opposite g) B b in
        let d = p.at ⊖ q.at in
        close (value g g) (value g d) (share v A w B) (value d d) (greatest_squared A B)
        (step-reaches d (reach g p.at q.at p.at_value q.at_value))
        (doubled g d (share v A w B)) (rw (step-squared p.at q.at) (members-le p.at_in q.at_in))
      where
        close : (G X S D R : ℤ) → G ≤ℤ (S *ℤ X) → (S *ℤ X +ℤ S *ℤ X) ≤ℤ (G +ℤ S *ℤ S *ℤ D) → D ≤ℤ R → G ≤ℤ (R *ℤ (S *ℤ S))
        close G X S D R h k l = lia (G ∷ X ∷ S ∷ D ∷ R ∷ []) (h & k & square-nonneg S ≤×≤ l) (search linear depth 40) (omega arith)

  pub points-attain : (v : ℕ → ℕ) × (w : ℕ → ℕ) × (pos 0 <ℤ weight v A) × (pos 0 <ℤ weight w B)
      × Exactly (greatest_squared A B) (pos 1) v A w B
  unfolding top bottom
  points-attain =
      let far = greatest-furthest A B a b in
      let r = attained A B (corners (greatest_first A B) (greatest_second A B)) (far.first-in, far.second-in) in
      (r.one, r.other, r.one-point, r.other-point, rw (← far.furthest) r.exact)

  -- ---- directions

  pub spans-within : (d : Point)
      → ((support d A +ℤ support (opposite d) B) *ℤ (support d A +ℤ support (opposite d) B)) ≤ℤ (greatest_squared A B *ℤ value d d)
  spans-within d =
      let p = support-attained d A a in
      let q = support-attained (opposite d) B b in
      let e = p.at ⊖ q.at in
      close (support d A +ℤ support (opposite d) B) (cross d e) (value d d) (value e e) (greatest_squared A B)
      (ap (λ (x : ℤ). x *ℤ x +ℤ cross d e *ℤ cross d e) (sym (reach d p.at q.at p.at_value q.at_value)) ∙ lagrange d e)
      (value-nonneg d)
      (rw (step-squared p.at q.at) (members-le p.at_in q.at_in))
    where
      close : (s c D E R : ℤ) → s *ℤ s +ℤ c *ℤ c ≡ D *ℤ E → pos 0 ≤ℤ D → E ≤ℤ R → (s *ℤ s) ≤ℤ (R *ℤ D)
      close s c D E R e h k = lia (s ∷ c ∷ D ∷ E ∷ R ∷ []) (e & square-nonneg c & h ≤×≤ k) (search linear depth 40) (omega arith)

  -- no corner of A is beyond the first, and none of B beyond the second, in the direction of the step between them
  pub step-spans : let n = corner A (greatest_first A B) ⊖ corner B (greatest_second A B) in
      (support n A +ℤ support (opposite n) B ≡ greatest_squared A B) × (value n n ≡ greatest_squared A B)
  step-spans =
      let far = greatest-furthest A B a b in
      let p = corner A (greatest_first A B) in
      let q = corner B (greatest_second A B) in
      let n = p ⊖ q in
      let own = step-squared p q ∙ far.furthest in
      let least : value n n ≤ℤ (support n A +ℤ support (opposite n) B) =
      lia (value n n ∷ value n p ∷ value n q ∷ value (opposite n) q ∷ support n A ∷ support (opposite n) B ∷ [])
      (value-⊖ n p q & value-turned n q & value-le-support n (position-member A _ far.first-in)
      & value-le-support (opposite n) (position-member B _ far.second-in)) (search linear depth 40) (omega arith) in
      (equal (support n A +ℤ support (opposite n) B) (greatest_squared A B) (value n n) own (value-nonneg n) least (spans-within n), own)
    where
      equal : (S R N : ℤ) → N ≡ R → pos 0 ≤ℤ N → N ≤ℤ S → (S *ℤ S) ≤ℤ (R *ℤ N) → S ≡ R
      equal S R N e h k l = le_antisym (contra≤ (λ (g : R <ℤ S). lia (S ∷ R ∷ N ∷ [])
          (e & e ≡× R & l & g <×< g & g <×≤ h & e ≡× S) (search linear depth 40) (omega arith)))
          (lia (S ∷ R ∷ N ∷ []) (e & k) (search linear depth 40) (omega arith))

  -- ---- the clearance

  pub greatest-clearance : IsShape A → IsShape B → apart A B ≡ true
      → top A B (nearest A B) ≤ℤ (greatest_squared A B *ℤ bottom A B (nearest A B))
  unfolding top bottom
  greatest-clearance s t h =
      let least = nearest-first-least A B s t h in
      lia (top A B (nearest A B) ∷ bottom A B (nearest A B) ∷ squared (corner A 0) (corner B 0) ∷ greatest_squared A B ∷ [])
      (least.none-nearer (corners 0 0) (a, b) & candidate-whole A B (nearest A B) least.is-listed <×≤ squared-le-greatest A B 0 0 a b)
      (search linear depth 40) (omega arith)

-- ---- the other way round, and of a list and itself

pub greatest-sym : (A B : List Point) → 0 < length A → 0 < length B → greatest_squared A B ≡ greatest_squared B A
greatest-sym A B a b = le_antisym
    (greatest-le A B a b (λ i j h k. rw (squared-sym (corner A i) (corner B j)) (squared-le-greatest B A j i k h)))
    (greatest-le B A b a (λ i j h k. rw (squared-sym (corner B i) (corner A j)) (squared-le-greatest A B j i k h)))

module _ (A : List Point) (some : 0 < length A) where
  far : Furthest A A (greatest_first A A) (greatest_second A A)
  far = greatest-furthest A A some some

  long : Longest A (length_from A) (length_to A)
  long = length-longest A some

  same-squared : greatest_squared A A ≡ length_squared A
  unfolding greatest_squared length_squared
  same-squared = refl

  -- the pair the other way round is as far apart, so that the smallest first position is not the greater one
  in_order : greatest_first A A ≤ greatest_second A A
  in_order = first-least A A (record {
    first-in = far.second-in;
    second-in = far.first-in;
    furthest = squared-sym (corner A (greatest_second A A)) (corner A (greatest_first A A)) ∙ far.furthest;
  })

  same_first : greatest_first A A ≡ length_from A
  same_first = omega (
    arith,
    first-least A A (record {
      first-in = omega (arith, long.ordered, long.within);
      second-in = long.within;
      furthest = long.longest ∙ sym same-squared;
    }),
    length-from-least A (record { ordered = in_order; within = far.second-in; longest = far.furthest ∙ same-squared }),
  )

  same_second : greatest_second A A ≡ length_to A
  same_second = let e = same_first in omega (
    arith,
    second-least A A (record {
      first-in = far.first-in;
      second-in = long.within;
      furthest = ap (λ i. squared (corner A i) (corner A (length_to A))) e ∙ long.longest ∙ sym same-squared;
    }),
    length-to-least A (record {
      ordered = rw (← e) in_order;
      within = far.second-in;
      longest = ap (λ i. squared (corner A i) (corner A (greatest_second A A))) (sym e) ∙ far.furthest ∙ same-squared;
    }),
  )

  pub greatest-self : greatest_numbers A A ≡ length_numbers A
  greatest-self = cc (same-squared, same_first, same_second)

-- ---- a shape inside another

module _ (N O B : List Point) (n : 0 < length N) (o : 0 < length O) (b : 0 < length B) (h : inside N O ≡ true) where
  -- at least as far from a point as one corner of N is some corner of O
  outer : (p q : Point) → p ∈ N → q ∈ B → squared p q ≤ℤ greatest_squared O B
  outer p q m k =
      let d = p ⊖ q in
      let r = support-attained d O o in
      let e = r.at ⊖ q in
      lia (value d d ∷ value d e ∷ value e e ∷ value d p ∷ value d q ∷ value d r.at ∷ support d N ∷ support d O ∷ squared p q
      ∷ squared r.at q ∷ greatest_squared O B ∷ [])
      (doubled d e (pos 1) & value-⊖ d p q & value-⊖ d r.at q & r.at_value & value-le-support d m & inside→reach N O n o h d
      & step-squared p q & step-squared r.at q & members-le r.at_in k) (search linear depth 40) (omega arith)

  pub greatest-inside : greatest_squared N B ≤ℤ greatest_squared O B
  greatest-inside = greatest-le N B n b (λ i j l m. outer (corner N i) (corner B j) (position-member N i l) (position-member B j m))

-- ---- sets of points

module _ (S : List Point) (some : 0 < length S) where
  hull-some : 0 < length (shape_of S)
  hull-some = (shape_of-shape S some).some

  within-hull : inside S (shape_of S) ≡ true
  within-hull = reach→inside S (shape_of S) some hull-some (λ d. le_of_eq (sym (shape_of-support S some d)))

  hull-member : (i : ℕ) → i < length (shape_of S) → corner (shape_of S) i ∈ S
  hull-member i h = (shape_of-corner S some (position-member (shape_of S) i h)).member

pub greatest-hulls : (S T : List Point) → 0 < length S → 0 < length T → greatest_squared (shape_of S) (shape_of T) ≡ greatest_squared S T
greatest-hulls S T s t =
    let p = hull-some S s in
    let q = hull-some T t in
    le_antisym (greatest-le (shape_of S) (shape_of T) p q (λ i j h k. members-le (hull-member S s i h) (hull-member T t j k)))
    (le_trans (greatest-inside S (shape_of S) T s p t (within-hull S s))
    (rw (greatest-sym (shape_of S) T p t, greatest-sym (shape_of S) (shape_of T) p q)
    (greatest-inside T (shape_of T) (shape_of S) t q p (within-hull T t))))
