-- A point inside a shape that is taken k times, by the walls of the shape.
--     inside→held      in no direction is it past the shape
--     held→inside      it is enough that it is past no wall; `edges→inside`: of a polygon, no edge
use Rattle.std.specs.Prelude.{◌≡◌, true, ◌⊎◌, List, [], ◌∷◌, map, ℕ, suc, ◌<◌, ℤ, pos, neg_ℤ, ◌-ℤ◌, ◌*ℤ◌, length, ◌≤ℤ◌, ◌<ℤ◌}
use Rattle.std.proofs.Common.{inl, inr, not-suc-le-zero, arith}
use Rattle.std.proofs.lemmas.List.{length-map}
use Rattle.integer.specs.Ring.{ring, reify}
use Rattle.integer.specs.Linear.{linear, lia, ◌&◌}
use Rattle.integer.specs.Order.{◌<×≤◌, ◌≤×≤◌, ◌≡×◌, le_antisym}
use Rattle.plane.specs.Point.{Point, point, corner, opposite, ◌⊖◌}
use Rattle.plane.specs.Turn.{turn, turn-swap}
use Rattle.plane.specs.Shape.{next, IsShape}
use Rattle.plane.specs.Direction.{value, support, greater}
use Rattle.plane.specs.Cut.{outward}
use Rattle.plane.specs.Separation.{inside}
use Rattle.plane.specs.Mean.{times}
use Rattle.plane.proofs.theory.lists.Members.{point-path}
use Rattle.plane.proofs.theory.lists.Greater.{greater-either}
use Rattle.plane.proofs.theory.forms.Vector.{value-turned}
use Rattle.plane.proofs.theory.support.Support.{support-one, support-le}
use Rattle.separation.specs.theory.Inside.{inside→reach}
use Rattle.separation.specs.theory.InsideShape.{polygon-left→inside, segment-between→inside, point-equal→inside}
use Rattle.separation.specs.theory.Sector.{edge-outermost}
use Rattle.motion.specs.Contact.{edge_normal, wall, wall_count}
use Rattle.motion.proofs.theory.Scaled.{scaled-some, scaled-corner, scaled-support, scaled-shape}

module _ (k : ℤ) (above : pos 0 <ℤ k) where
  pub inside→held : (G : List Point) (x : Point) → 0 < length G → inside (x ∷ []) (map (times k) G) ≡ true
      → (d : Point) → value d x ≤ℤ (k *ℤ support d G)
  inside→held G x g h d = lia (value d x ∷ support d (x ∷ []) ∷ support d (map (times k) G) ∷ k ∷ support d G ∷ [])
      (support-one d x & scaled-support k above d G & inside→reach (x ∷ []) (map (times k) G) (omega arith) (scaled-some k G g) h d)
      (search linear depth 40) (omega arith)

  -- past no wall
  abbrev pub Held : List Point → Point → Type 0
  Held G x = (i : ℕ) → i < wall_count G → value (wall G i) x ≤ℤ (k *ℤ support (wall G i) G)

  -- ---- edges

  edge-turn : (a b x : Point) → turn (times k a) (times k b) x ≡ k *ℤ (k *ℤ value (outward a b) a -ℤ value (outward a b) x)
  unfolding turn value
  edge-turn a b x = ring (a.x ∷ a.y ∷ b.x ∷ b.y ∷ x.x ∷ x.y ∷ k ∷ []) (search reify depth 40) tt

  -- no corner is past the line of an edge, so a point past no wall is left of it
  pub edge-left : (G : List Point) (x : Point) → IsShape G → (i : ℕ) → i < length G
      → value (edge_normal G i) x ≤ℤ (k *ℤ support (edge_normal G i) G)
      → pos 0 ≤ℤ turn (times k (corner G i)) (times k (corner G (next (length G) i))) x
  edge-left G x s i h low = level (corner G i) (corner G (next (length G) i)) low
      (support-le (edge_normal G i) G s.some (edge-outermost G s i h))
    where
      level : (a b : Point) → value (outward a b) x ≤ℤ (k *ℤ support (outward a b) G)
          → support (outward a b) G ≤ℤ value (outward a b) a → pos 0 ≤ℤ turn (times k a) (times k b) x
      level a b p q = lia
          (turn (times k a) (times k b) x ∷ k ∷ value (outward a b) a ∷ value (outward a b) x ∷ support (outward a b) G ∷ [])
          (edge-turn a b x & above <×≤ reach) (search linear depth 40) (omega arith)
        where
          reach : value (outward a b) x ≤ℤ (k *ℤ value (outward a b) a)
          reach = lia (k ∷ value (outward a b) a ∷ value (outward a b) x ∷ support (outward a b) G ∷ [])
              (p & above <×≤ q) (search linear depth 40) (omega arith)

  -- ---- the box

  back : (a x : ℤ) → neg_ℤ x ≤ℤ neg_ℤ a → a ≤ℤ x
  back a x h = lia (a ∷ x ∷ []) h (search linear depth 40) (omega arith)

  -- between the greatest and the least of two numbers
  between : (a b x : ℤ) → x ≤ℤ greater a b → neg_ℤ x ≤ℤ greater (neg_ℤ a) (neg_ℤ b) → ((a -ℤ x) *ℤ (b -ℤ x)) ≤ℤ pos 0
  between a b x h l = go (greater-either a b) (greater-either (neg_ℤ a) (neg_ℤ b))
    where
      go : (greater a b ≡ a) ⊎ (greater a b ≡ b) → (greater (neg_ℤ a) (neg_ℤ b) ≡ neg_ℤ a) ⊎ (greater (neg_ℤ a) (neg_ℤ b) ≡ neg_ℤ b)
          → ((a -ℤ x) *ℤ (b -ℤ x)) ≤ℤ pos 0
      go (inl p) (inl q) = lia (a ∷ b ∷ x ∷ []) (le_antisym (back a x (rw q at l)) (rw p at h) ≡× (b -ℤ x))
          (search linear depth 40) (omega arith)
      go (inl p) (inr q) = lia (a ∷ b ∷ x ∷ []) ((rw p at h) ≤×≤ back b x (rw q at l)) (search linear depth 40) (omega arith)
      go (inr p) (inl q) = lia (a ∷ b ∷ x ∷ []) ((rw p at h) ≤×≤ back a x (rw q at l)) (search linear depth 40) (omega arith)
      go (inr p) (inr q) = lia (a ∷ b ∷ x ∷ []) (le_antisym (back b x (rw q at l)) (rw p at h) ≡× (a -ℤ x))
          (search linear depth 40) (omega arith)

  -- the same of a point's values in a direction
  values-between : (d p q x : Point) → value d x ≤ℤ greater (value d p) (value d q)
      → value (opposite d) x ≤ℤ greater (value (opposite d) p) (value (opposite d) q)
      → ((value d p -ℤ value d x) *ℤ (value d q -ℤ value d x)) ≤ℤ pos 0
  values-between d p q x h l =
      between (value d p) (value d q) (value d x) h (rw (value-turned d x, value-turned d p, value-turned d q) at l)

  -- a segment, by its sides and its two edges
  module _ (p q x : Point) (held : Held (p ∷ q ∷ []) x) where
    box : (i : ℕ) → i < 6 → value (wall (p ∷ q ∷ []) i) x
        ≤ℤ greater (value (wall (p ∷ q ∷ []) i) (times k p)) (value (wall (p ∷ q ∷ []) i) (times k q))
    unfolding support
    box i h = rw (← scaled-support k above (wall (p ∷ q ∷ []) i) (p ∷ q ∷ [])) at (held i h)

    along : value (times k p ⊖ x) (times k q ⊖ x) ≤ℤ pos 0
    unfolding value
    along = lia (k ∷ p.x ∷ p.y ∷ q.x ∷ q.y ∷ x.x ∷ x.y ∷ [])
        (values-between (point (pos 1) (pos 0)) (times k p) (times k q) x (box 0 (omega arith)) (box 1 (omega arith))
        & values-between (point (pos 0) (pos 1)) (times k p) (times k q) x (box 2 (omega arith)) (box 3 (omega arith)))
        (search linear depth 40) (omega arith)

    segment-held : IsShape (p ∷ q ∷ []) → inside (x ∷ []) (times k p ∷ times k q ∷ []) ≡ true
    segment-held s = segment-between→inside (times k p) (times k q) x (le_antisym right left) along
      where
        left : pos 0 ≤ℤ turn (times k p) (times k q) x
        left = edge-left (p ∷ q ∷ []) x s 0 (omega arith) (held 4 (omega arith))

        right : turn (times k p) (times k q) x ≤ℤ pos 0
        right = lia (turn (times k p) (times k q) x ∷ turn (times k q) (times k p) x ∷ [])
            (turn-swap (times k p) (times k q) x & edge-left (p ∷ q ∷ []) x s 1 (omega arith) (held 5 (omega arith)))
            (search linear depth 40) (omega arith)

  -- a point, by its sides
  point-held : (p x : Point) → Held (p ∷ []) x → times k p ≡ x
  unfolding value support
  point-held p x held = point-path
      (lia (k ∷ p.x ∷ p.y ∷ x.x ∷ x.y ∷ []) (held 0 (omega arith) & held 1 (omega arith)) (search linear depth 40) (omega arith))
      (lia (k ∷ p.x ∷ p.y ∷ x.x ∷ x.y ∷ []) (held 2 (omega arith) & held 3 (omega arith)) (search linear depth 40) (omega arith))

  -- a polygon, by its edges alone
  pub edges→inside : (G : List Point) (x : Point) → IsShape G → 2 < length G
      → ((i : ℕ) → i < length G → value (edge_normal G i) x ≤ℤ (k *ℤ support (edge_normal G i) G)) → inside (x ∷ []) (map (times k) G) ≡
      true
  edges→inside G x s three held = polygon-left→inside (map (times k) G) (scaled-shape k above G s) x (rw count three)
      (λ e h. rw (count, scaled-corner k G e, scaled-corner k G (next (length G) e)) (left e (rw count at h)))
    where
      count : length (map (times k) G) ≡ length G
      count = length-map G (times k)

      left : (e : ℕ) → e < length G → pos 0 ≤ℤ turn (times k (corner G e)) (times k (corner G (next (length G) e))) x
      left e h = edge-left G x s e h (held e h)

  pub held→inside : (G : List Point) (x : Point) → IsShape G → Held G x → inside (x ∷ []) (map (times k) G) ≡ true
  held→inside [] x s held = absurd (not-suc-le-zero s.some)
  held→inside (p ∷ []) x s held = point-equal→inside (times k p) x (point-held p x held)
  held→inside (p ∷ (q ∷ [])) x s held = segment-held p q x held s
  held→inside (p ∷ (q ∷ (r ∷ G))) x s held = edges→inside (p ∷ q ∷ r ∷ G) x s (omega arith)
      (λ i h. held (suc (suc (suc (suc i)))) (omega arith))
