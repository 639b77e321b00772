-- Means of corners under weights: their values, and the means of one or two corners.
--     heap-least, heap-greatest      the value of a heap, where those of all corners have a bound
--     held-means                     shapes that are held apart: no two points are nearer
--     unit i x, two i x j y          the weight x at position i alone; y at position j besides
--     weight-unit, heap-unit, weight-two, heap-two      what they give
use Rattle.std.specs.Prelude.{◌≡◌, refl, List, [], ◌∷◌, ℕ, zero, suc, ◌+◌, ◌<◌, ℤ, pos, ◌+ℤ◌, ◌-ℤ◌, ◌*ℤ◌, length, ◌≤ℤ◌, ◌<ℤ◌}
use Rattle.std.proofs.Common.{◌∙◌, ap, ap₂, zero-le, not-suc-le-zero, arith, le→leb}
use mathlib.Core.List.Memᴰ
use Rattle.std.proofs.Math.IntN.{+ℤ_idl, +ℤ_idr}
use Rattle.std.specs.Int.Signed.{≤ℤ_refl}
use Rattle.integer.specs.Ring.{ring, reify}
use Rattle.integer.specs.Linear.{linear, lia, ◌&◌}
use Rattle.integer.specs.Order.{◌<×≤◌, ◌≤×≤◌, square-nonneg}
use Rattle.integer.specs.Laws.{+ℤ-swap}
use Rattle.plane.specs.Point.{Point, origin, corner, ◌⊕◌, ◌∈◌}
use Rattle.plane.specs.Turn.{cross}
use Rattle.plane.specs.Direction.{value}
use Rattle.plane.specs.Mean.{times, weight, heap, gap, share}
use Rattle.plane.proofs.theory.lists.Members.{point-path}
use Rattle.plane.proofs.theory.forms.Vector.{value-origin, ⊕-zero}
use Rattle.clearance.specs.theory.Bound.{lagrange}

-- ---- values of heaps

pub size-nonneg : (n : ℕ) → pos 0 ≤ℤ pos n
size-nonneg n = record { le = le→leb 0 n zero-le }

pub weight-nonneg : (w : ℕ → ℕ) (ps : List Point) → pos 0 ≤ℤ weight w ps
unfolding weight
weight-nonneg w [] = ≤ℤ_refl (pos 0)
weight-nonneg w (p ∷ ps) = both (pos (w 0)) (weight (λ i. w (suc i)) ps) (size-nonneg (w 0)) (weight-nonneg (λ i. w (suc i)) ps)
  where
    both : (a b : ℤ) → pos 0 ≤ℤ a → pos 0 ≤ℤ b → pos 0 ≤ℤ (a +ℤ b)
    both a b h k = lia (a ∷ b ∷ []) (h & k) (search linear depth 40) (omega arith)

value-heap : (n p q : Point) (c : ℤ) → value n (times c p ⊕ q) ≡ c *ℤ value n p +ℤ value n q
unfolding value
value-heap n p q c = ring (n.x ∷ n.y ∷ p.x ∷ p.y ∷ q.x ∷ q.y ∷ c ∷ []) (search reify depth 40) tt

pub heap-least : (n : Point) (z : ℤ) (w : ℕ → ℕ) (ps : List Point) → ((p : Point) → p ∈ ps → z ≤ℤ value n p)
    → (z *ℤ weight w ps) ≤ℤ value n (heap w ps)
unfolding weight heap
heap-least n z w [] f = rw (value-origin n) (lia (z ∷ []) (≤ℤ_refl z) (search linear depth 40) (omega arith))
heap-least n z w (p ∷ ps) f =
    rw (value-heap n p (heap (λ i. w (suc i)) ps) (pos (w 0))) (step (pos (w 0)) (value n p) (weight (λ i. w (suc i)) ps)
    (value n (heap (λ i. w (suc i)) ps)) (size-nonneg (w 0)) (f p (Memᴰ.head refl))
    (heap-least n z (λ i. w (suc i)) ps (λ q m. f q (Memᴰ.tail m))))
  where
    step : (c y W H : ℤ) → pos 0 ≤ℤ c → z ≤ℤ y → (z *ℤ W) ≤ℤ H → (z *ℤ (c +ℤ W)) ≤ℤ (c *ℤ y +ℤ H)
    step c y W H p h k = lia (z ∷ c ∷ y ∷ W ∷ H ∷ []) (p ≤×≤ h & k) (search linear depth 40) (omega arith)

pub heap-greatest : (n : Point) (z : ℤ) (w : ℕ → ℕ) (ps : List Point) → ((p : Point) → p ∈ ps → value n p ≤ℤ z)
    → value n (heap w ps) ≤ℤ (z *ℤ weight w ps)
unfolding weight heap
heap-greatest n z w [] f = rw (value-origin n) (lia (z ∷ []) (≤ℤ_refl z) (search linear depth 40) (omega arith))
heap-greatest n z w (p ∷ ps) f =
    rw (value-heap n p (heap (λ i. w (suc i)) ps) (pos (w 0))) (step (pos (w 0)) (value n p) (weight (λ i. w (suc i)) ps)
    (value n (heap (λ i. w (suc i)) ps)) (size-nonneg (w 0)) (f p (Memᴰ.head refl))
    (heap-greatest n z (λ i. w (suc i)) ps (λ q m. f q (Memᴰ.tail m))))
  where
    step : (c y W H : ℤ) → pos 0 ≤ℤ c → y ≤ℤ z → H ≤ℤ (z *ℤ W) → (c *ℤ y +ℤ H) ≤ℤ (z *ℤ (c +ℤ W))
    step c y W H p h k = lia (z ∷ c ∷ y ∷ W ∷ H ∷ []) (p ≤×≤ h & k) (search linear depth 40) (omega arith)

-- ---- two means, where one shape is above z + t in n and the other below z

value-gap : (n : Point) (v : ℕ → ℕ) (A : List Point) (w : ℕ → ℕ) (B : List Point)
    → value n (gap v A w B) ≡ weight w B *ℤ value n (heap v A) -ℤ weight v A *ℤ value n (heap w B)
unfolding value gap
value-gap n v A w B = ring (n.x ∷ n.y ∷ (heap v A).x ∷ (heap v A).y ∷ (heap w B).x ∷ (heap w B).y ∷ weight v A ∷ weight w B ∷ [])
    (search reify depth 40) tt

module _ (A B : List Point) (n : Point) (z t : ℤ) (above : (p : Point) → p ∈ A → (z +ℤ t) ≤ℤ value n p)
    (below : (q : Point) → q ∈ B → value n q ≤ℤ z) (v w : ℕ → ℕ) where
  pub gap-value : (t *ℤ share v A w B) ≤ℤ value n (gap v A w B)
  gap-value = lia (value n (gap v A w B) ∷ weight v A ∷ weight w B ∷ value n (heap v A) ∷ value n (heap w B) ∷ z ∷ t ∷ [])
      (value-gap n v A w B & weight-nonneg w B ≤×≤ heap-least n (z +ℤ t) v A above & weight-nonneg v A ≤×≤ heap-greatest n z w B below)
      (search linear depth 40) (omega arith)

  -- no two means are nearer than t over the length of n
  pub held-means : pos 0 <ℤ t → (t *ℤ t *ℤ (share v A w B *ℤ share v A w B)) ≤ℤ (value n n *ℤ value (gap v A w B) (gap v A w B))
  held-means some = squares (t *ℤ share v A w B) (value n (gap v A w B)) (cross n (gap v A w B)) (value n n)
      (value (gap v A w B) (gap v A w B))
      t (share v A w B) refl (lagrange n (gap v A w B)) some
      (lia (weight v A ∷ weight w B ∷ []) (weight-nonneg v A ≤×≤ weight-nonneg w B) (search linear depth 40) (omega arith)) gap-value
    where
      squares : (m g k nn s t h : ℤ) → m ≡ t *ℤ h → g *ℤ g +ℤ k *ℤ k ≡ nn *ℤ s → pos 0 <ℤ t → pos 0 ≤ℤ h → m ≤ℤ g
          → (t *ℤ t *ℤ (h *ℤ h)) ≤ℤ (nn *ℤ s)
      squares m g k nn s t h e f p q r =
          let up : pos 0 ≤ℤ m = lia (m ∷ t ∷ h ∷ []) (e & p <×≤ q) (search linear depth 40) (omega arith) in
          lia (m ∷ g ∷ k ∷ nn ∷ s ∷ t ∷ h ∷ []) (f & r ≤×≤ r & up ≤×≤ r & square-nonneg k & ap₂ (λ a b. a *ℤ b) e e)
          (search linear depth 40) (omega arith)

-- ---- weights at one position or at two

abbrev pub unit : ℕ → ℕ → ℕ → ℕ
unit zero x zero = x
unit zero x (suc k) = 0
unit (suc i) x zero = 0
unit (suc i) x (suc k) = unit i x k

abbrev pub two : ℕ → ℕ → ℕ → ℕ → ℕ → ℕ
two i x j y k = unit i x k + unit j y k

weight-none : (ps : List Point) → weight (λ k. 0) ps ≡ pos 0
unfolding weight
weight-none [] = refl
weight-none (p ∷ ps) = ap (λ z. pos 0 +ℤ z) (weight-none ps)

times_none : (p q : Point) → times (pos 0) p ⊕ q ≡ q
times_none p q = point-path (ring (p.x ∷ q.x ∷ []) (search reify depth 40) tt) (ring (p.y ∷ q.y ∷ []) (search reify depth 40) tt)

heap-none : (ps : List Point) → heap (λ k. 0) ps ≡ origin
unfolding heap
heap-none [] = refl
heap-none (p ∷ ps) = ap (λ z. times (pos 0) p ⊕ z) (heap-none ps) ∙ times_none p origin

pub weight-unit : (i x : ℕ) (ps : List Point) → i < length ps → weight (unit i x) ps ≡ pos x
unfolding weight
weight-unit i x [] h = absurd (not-suc-le-zero h)
weight-unit zero x (p ∷ ps) h = ap (λ z. pos x +ℤ z) (weight-none ps) ∙ +ℤ_idr (pos x)
weight-unit (suc i) x (p ∷ ps) h = ap (λ z. pos 0 +ℤ z) (weight-unit i x ps (omega arith)) ∙ +ℤ_idl (pos x)

pub heap-unit : (i x : ℕ) (ps : List Point) → i < length ps → heap (unit i x) ps ≡ times (pos x) (corner ps i)
unfolding heap
heap-unit i x [] h = absurd (not-suc-le-zero h)
heap-unit zero x (p ∷ ps) h = ap (λ z. times (pos x) p ⊕ z) (heap-none ps) ∙ ⊕-zero (times (pos x) p)
heap-unit (suc i) x (p ∷ ps) h = ap (λ z. times (pos 0) p ⊕ z) (heap-unit i x ps (omega arith)) ∙ times_none p (times (pos x) (corner ps i))

pub weight-add : (v w : ℕ → ℕ) (ps : List Point) → weight (λ k. v k + w k) ps ≡ weight v ps +ℤ weight w ps
unfolding weight
weight-add v w [] = refl
weight-add v w (p ∷ ps) = ap (λ z. pos (v 0) +ℤ pos (w 0) +ℤ z) (weight-add (λ i. v (suc i)) (λ i. w (suc i)) ps)
    ∙ +ℤ-swap (pos (v 0)) (pos (w 0)) (weight (λ i. v (suc i)) ps) (weight (λ i. w (suc i)) ps)

pub heap-add : (v w : ℕ → ℕ) (ps : List Point) → heap (λ k. v k + w k) ps ≡ heap v ps ⊕ heap w ps
unfolding heap
heap-add v w [] = refl
heap-add v w (p ∷ ps) = ap (λ z. times (pos (v 0) +ℤ pos (w 0)) p ⊕ z) (heap-add (λ i. v (suc i)) (λ i. w (suc i)) ps)
    ∙ swap (pos (v 0)) (pos (w 0)) p (heap (λ i. v (suc i)) ps) (heap (λ i. w (suc i)) ps)
  where
    swap : (a b : ℤ) (p q r : Point) → times (a +ℤ b) p ⊕ (q ⊕ r) ≡ (times a p ⊕ q) ⊕ (times b p ⊕ r)
    swap a b p q r = point-path (ring (a ∷ b ∷ p.x ∷ q.x ∷ r.x ∷ []) (search reify depth 40) tt)
        (ring (a ∷ b ∷ p.y ∷ q.y ∷ r.y ∷ []) (search reify depth 40) tt)

pub weight-two : (i x j y : ℕ) (ps : List Point) → i < length ps → j < length ps → weight (two i x j y) ps ≡ pos x +ℤ pos y
weight-two i x j y ps h k = weight-add (unit i x) (unit j y) ps ∙ ap₂ (λ a b. a +ℤ b) (weight-unit i x ps h) (weight-unit j y ps k)

pub heap-two : (i x j y : ℕ) (ps : List Point) → i < length ps → j < length ps
    → heap (two i x j y) ps ≡ times (pos x) (corner ps i) ⊕ times (pos y) (corner ps j)
heap-two i x j y ps h k = heap-add (unit i x) (unit j y) ps ∙ ap₂ (λ a b. a ⊕ b) (heap-unit i x ps h) (heap-unit j y ps k)
