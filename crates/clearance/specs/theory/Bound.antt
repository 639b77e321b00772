-- How far a direction n holds two shapes apart: where one has values at least t above the other's, no candidate's squared distance is below
-- t·t over the squared length of n, and exactly those are at it whose corners are t apart in n.
--     lagrange                                        value and cross product, squared
--     pair-bound, pair-attains, pair-attained         two corners
--     foot-bound, foot-attains, foot-attained         a corner that falls strictly inside an edge
use Rattle.std.specs.Prelude.{◌≡◌, true, [], ◌∷◌, ℤ, pos, ◌+ℤ◌, ◌-ℤ◌, ◌*ℤ◌, ◌≤ℤ◌, ◌<ℤ◌}
use Rattle.std.proofs.Common.{sym, ◌∙◌, ap, ap₂, arith}
use Rattle.std.proofs.Math.Bool.{and-eq-true_iff}
use Rattle.std.specs.Int.Signed.{lt_z}
use Rattle.integer.specs.Ring.{ring, reify}
use Rattle.integer.specs.Linear.{linear, lia, ◌&◌}
use Rattle.integer.specs.Order.{◌<×<◌, ◌<×≤◌, ◌≤×≤◌, ◌≡×◌, contra≤, lt_z-true, zero-factor}
use Rattle.integer.specs.Order.{square-nonneg, le_antisym, square-zero}
use Rattle.plane.specs.Point.{Point, ◌⊖◌}
use Rattle.plane.specs.Turn.{turn, cross, turn-cross}
use Rattle.plane.specs.Direction.{value}
use Rattle.plane.specs.Measure.{squared}
use Rattle.plane.specs.Clearance.{falls}
use Rattle.plane.proofs.theory.forms.Vector.{value-⊖, value-sym}
use Rattle.plane.proofs.theory.forms.Squared.{squared-sym, squared-value}

pub lagrange : (u v : Point) → value u v *ℤ value u v +ℤ cross u v *ℤ cross u v ≡ value u u *ℤ value v v
unfolding value cross
lagrange u v = ring (u.x ∷ u.y ∷ v.x ∷ v.y ∷ []) (search reify depth 40) tt

-- ---- two corners: x their value in n, k their cross product with it, s their squared distance

module _ (x k s nn t : ℤ) (e : x *ℤ x +ℤ k *ℤ k ≡ nn *ℤ s) (some : pos 0 <ℤ t) (far : t ≤ℤ x) where
  pair-low : (t *ℤ t) ≤ℤ (s *ℤ nn)
  pair-low = lia (x ∷ k ∷ s ∷ nn ∷ t ∷ []) (e & far ≤×≤ far & some <×≤ far & square-nonneg k) (search linear depth 40) (omega arith)

  pair-equal : s *ℤ nn ≡ t *ℤ t → (x ≡ t) × (k ≡ pos 0)
  pair-equal f = (
    le_antisym (contra≤ (λ g. lia (x ∷ k ∷ s ∷ nn ∷ t ∷ []) (e & f & g <×< g & some <×< g & square-nonneg k)
        (search linear depth 40) (omega arith))) far,
    square-zero (lia (x ∷ k ∷ s ∷ nn ∷ t ∷ [])
        (e & f & far ≤×≤ far & some <×≤ far) (search linear depth 40) (omega arith)),
  )

module _ (n a b : Point) (t : ℤ) (some : pos 0 <ℤ t) where
  product : value n (a ⊖ b) *ℤ value n (a ⊖ b) +ℤ cross n (a ⊖ b) *ℤ cross n (a ⊖ b) ≡ value n n *ℤ squared a b
  product = lagrange n (a ⊖ b) ∙ ap (λ z. value n n *ℤ z) (sym (squared-sym a b ∙ squared-value b a))

  module _ (far : (value n b +ℤ t) ≤ℤ value n a) where
    apart_by : t ≤ℤ value n (a ⊖ b)
    apart_by = lia (value n a ∷ value n b ∷ value n (a ⊖ b) ∷ t ∷ []) (far & value-⊖ n a b) (search linear depth 40) (omega arith)

    pub pair-bound : (t *ℤ t) ≤ℤ (squared a b *ℤ value n n)
    pair-bound = pair-low (value n (a ⊖ b)) (cross n (a ⊖ b)) (squared a b) (value n n) t product some apart_by

    pub pair-attained : squared a b *ℤ value n n ≡ t *ℤ t → (value n a ≡ value n b +ℤ t) × (cross n (a ⊖ b) ≡ pos 0)
    pair-attained f =
        let r = pair-equal (value n (a ⊖ b)) (cross n (a ⊖ b)) (squared a b) (value n n) t product some apart_by f in
        (lia (value n a ∷ value n b ∷ value n (a ⊖ b) ∷ t ∷ []) (r.0 & value-⊖ n a b) (search linear depth 40) (omega arith), r.1)

  pub pair-attains : value n a ≡ value n b +ℤ t → cross n (a ⊖ b) ≡ pos 0 → squared a b *ℤ value n n ≡ t *ℤ t
  pair-attains e f =
      let x : value n (a ⊖ b) ≡ t = lia (value n a ∷ value n b ∷ value n (a ⊖ b) ∷ t ∷ []) (e & value-⊖ n a b)
      (search linear depth 40) (omega arith) in
      lia (value n (a ⊖ b) ∷ cross n (a ⊖ b) ∷ squared a b ∷ value n n ∷ t ∷ [])
      (product & ap₂ (λ y z. y *ℤ z) x x & f ≡× cross n (a ⊖ b)) (search linear depth 40) (omega arith)

-- ---- a corner against an edge u, v the step to the corner: k their cross product, g that of u and n, x and z the values of v and u in n

module _ (k g x z uu uv nn t : ℤ) (e : k *ℤ g ≡ uu *ℤ x -ℤ uv *ℤ z) (f : g *ℤ g ≡ uu *ℤ nn -ℤ z *ℤ z)
    (some : pos 0 <ℤ t) (after : pos 0 <ℤ uv) (before : uv <ℤ uu) where
  long : pos 0 <ℤ uu
  long = lia (uu ∷ uv ∷ []) (after & before) (search linear depth 40) (omega arith)

  module _ (one : t ≤ℤ x) (other : t ≤ℤ (x -ℤ z)) where
    -- the step from the foot to the corner
    reach : (uu *ℤ t) ≤ℤ (k *ℤ g)
    reach = lia (k ∷ g ∷ x ∷ z ∷ uu ∷ uv ∷ t ∷ []) (e & before <×≤ one & after <×≤ other) (search linear depth 40) (omega arith)

    grown : pos 0 <ℤ (uu *ℤ t)
    grown = lia (uu ∷ t ∷ []) (long <×< some) (search linear depth 40) (omega arith)

    squares : (uu *ℤ t *ℤ (uu *ℤ t)) ≤ℤ (k *ℤ g *ℤ (k *ℤ g))
    squares = lia ((uu *ℤ t) ∷ (k *ℤ g) ∷ []) (reach ≤×≤ reach & grown <×≤ reach) (search linear depth 40) (omega arith)

    foot-low : (t *ℤ t *ℤ uu) ≤ℤ (k *ℤ k *ℤ nn)
    foot-low = contra≤ (λ h. lia (k ∷ g ∷ z ∷ uu ∷ nn ∷ t ∷ []) (long <×< h & squares & f ≡× (k *ℤ k) & square-nonneg (k *ℤ z))
        (search linear depth 40) (omega arith))

    foot-equal : k *ℤ k *ℤ nn ≡ t *ℤ t *ℤ uu → (x ≡ t) × (z ≡ pos 0)
    foot-equal h = (le_antisym (contra≤ (λ l. too_far l)) one, level)
      where
        flat : k *ℤ z ≡ pos 0
        flat = square-zero (lia (k ∷ g ∷ z ∷ uu ∷ nn ∷ t ∷ []) (h ≡× uu & squares & f ≡× (k *ℤ k)) (search linear depth 40) (omega arith))

        level : z ≡ pos 0
        level = zero-factor {t = k *ℤ g} (lia (k ∷ g ∷ uu ∷ t ∷ []) (reach & grown) (search linear depth 40) (omega arith))
            (lia (k ∷ g ∷ z ∷ []) (flat ≡× g) (search linear depth 40) (omega arith))

        straight : k *ℤ g ≡ uu *ℤ x
        straight = lia (k ∷ g ∷ x ∷ z ∷ uu ∷ uv ∷ []) (e & level ≡× uv) (search linear depth 40) (omega arith)

        too_far : t <ℤ x → ⊥
        too_far l =
            let more : (uu *ℤ t) <ℤ (uu *ℤ x) = lia (uu ∷ x ∷ t ∷ []) (long <×< l) (search linear depth 40) (omega arith) in
            let same : uu *ℤ x *ℤ (uu *ℤ x) ≡ uu *ℤ t *ℤ (uu *ℤ t) = lia (k ∷ g ∷ x ∷ z ∷ uu ∷ nn ∷ t ∷ [])
            (h ≡× uu & f ≡× (k *ℤ k) & level ≡× (z *ℤ k *ℤ k) & ap₂ (λ y w. y *ℤ w) straight straight) (search linear depth 40)
            (omega arith) in
            lia ((uu *ℤ x) ∷ (uu *ℤ t) ∷ []) (same & more <×< more & grown <×< more) (search linear depth 40) (omega arith)

  foot-level : x ≡ t → z ≡ pos 0 → k *ℤ k *ℤ nn ≡ t *ℤ t *ℤ uu
  foot-level p q = go (zero-factor {t = uu} long (lia (k ∷ g ∷ x ∷ z ∷ uu ∷ uv ∷ nn ∷ t ∷ [])
      (f ≡× (k *ℤ k) & ap₂ (λ y w. y *ℤ w) straight straight & q ≡× (z *ℤ k *ℤ k)) (search linear depth 40) (omega arith)))
    where
      straight : k *ℤ g ≡ uu *ℤ t
      straight = lia (k ∷ g ∷ x ∷ z ∷ uu ∷ uv ∷ t ∷ []) (e & q ≡× uv & p ≡× uu) (search linear depth 40) (omega arith)

      go : k *ℤ k *ℤ nn -ℤ t *ℤ t *ℤ uu ≡ pos 0 → k *ℤ k *ℤ nn ≡ t *ℤ t *ℤ uu
      go h = lia (k ∷ uu ∷ nn ∷ t ∷ []) h (search linear depth 40) (omega arith)

binet : (n u v : Point) → cross u v *ℤ cross u n ≡ value u u *ℤ value n v -ℤ value u v *ℤ value n u
unfolding value cross
binet n u v = ring (n.x ∷ n.y ∷ u.x ∷ u.y ∷ v.x ∷ v.y ∷ []) (search reify depth 40) tt

pub falls-inside : (p q c : Point) → falls p q c ≡ true → (pos 0 <ℤ value (q ⊖ p) (c ⊖ p)) × (value (q ⊖ p) (c ⊖ p) <ℤ squared p q)
unfolding falls
falls-inside p q c h = let r = (and-eq-true_iff (lt_z (pos 0) (value (q ⊖ p) (c ⊖ p))) _).0 h in (lt_z-true r.0, lt_z-true r.1)

-- such an edge has a length
pub foot-positive : (p q c : Point) → falls p q c ≡ true → pos 0 <ℤ squared p q
foot-positive p q c h = let r = falls-inside p q c h in
    lia (value (q ⊖ p) (c ⊖ p) ∷ squared p q ∷ []) (r.0 & r.1) (search linear depth 40) (omega arith)

module _ (n p q c : Point) (t : ℤ) (some : pos 0 <ℤ t) (inside : falls p q c ≡ true) where
  abbrev u : Point
  u = q ⊖ p

  abbrev v : Point
  v = c ⊖ p

  abbrev area : ℤ
  area = cross u v

  before : value u v <ℤ value u u
  before = rw (sym (squared-value p q)) (falls-inside p q c inside).1

  across : cross u n *ℤ cross u n ≡ value u u *ℤ value n n -ℤ value n u *ℤ value n u
  across = lia (cross u n ∷ value u u ∷ value n n ∷ value n u ∷ value u n ∷ [])
      (lagrange u n & ap₂ (λ y z. y *ℤ z) (value-sym u n) (value-sym u n)) (search linear depth 40) (omega arith)

  stepped : (x y : Point) → value n (x ⊖ y) ≡ value n x -ℤ value n y
  stepped x y = value-⊖ n x y

  turn-squared : turn p q c *ℤ turn p q c ≡ area *ℤ area
  turn-squared = ap₂ (λ y z. y *ℤ z) (turn-cross p q c) (turn-cross p q c)

  module _ (start : (value n p +ℤ t) ≤ℤ value n c) (end : (value n q +ℤ t) ≤ℤ value n c) where
    one : t ≤ℤ value n v
    one = lia (value n p ∷ value n c ∷ value n v ∷ t ∷ []) (start & stepped c p) (search linear depth 40) (omega arith)

    other : t ≤ℤ (value n v -ℤ value n u)
    other = lia (value n p ∷ value n q ∷ value n c ∷ value n v ∷ value n u ∷ t ∷ []) (end & stepped c p & stepped q p)
        (search linear depth 40) (omega arith)

    pub foot-bound : (t *ℤ t *ℤ squared p q) ≤ℤ (turn p q c *ℤ turn p q c *ℤ value n n)
    foot-bound = rw (turn-squared, squared-value p q) (foot-low area (cross u n) (value n v) (value n u) (value u u) (value u v)
        (value n n) t
        (binet n u v) across some (falls-inside p q c inside).0 before one other)

    pub foot-attained : turn p q c *ℤ turn p q c *ℤ value n n ≡ t *ℤ t *ℤ squared p q
        → (value n c ≡ value n p +ℤ t) × (value n c ≡ value n q +ℤ t)
    foot-attained h =
        let r = foot-equal area (cross u n) (value n v) (value n u) (value u u) (value u v) (value n n) t
        (binet n u v) across some (falls-inside p q c inside).0 before one other (rw (turn-squared, squared-value p q) at h) in (
          lia (value n p ∷ value n c ∷ value n v ∷ t ∷ []) (r.0 & stepped c p) (search linear depth 40) (omega arith),
          lia (value n p ∷ value n q ∷ value n c ∷ value n v ∷ value n u ∷ t ∷ []) (r.0 & r.1 & stepped c p & stepped q p)
              (search linear depth 40) (omega arith),
        )

  pub foot-attains : value n c ≡ value n p +ℤ t → value n c ≡ value n q +ℤ t
      → turn p q c *ℤ turn p q c *ℤ value n n ≡ t *ℤ t *ℤ squared p q
  foot-attains start end = rw (turn-squared, squared-value p q) (foot-level area (cross u n) (value n v) (value n u) (value u u) (value u v)
      (value n n) t (binet n u v) across some (falls-inside p q c inside).0 before
      (lia (value n p ∷ value n c ∷ value n v ∷ t ∷ []) (start & stepped c p) (search linear depth 40) (omega arith))
      (lia (value n p ∷ value n q ∷ value n c ∷ value n u ∷ t ∷ []) (start & end & stepped q p) (search linear depth 40) (omega arith)))
