-- The corridor between two shapes: in every direction at most as wide as the clearance, and in the clearance's own so wide. The search for
-- the clearance finds a direction that holds the shapes apart by it; the step between the two nearest points goes the same way.
--     corridor-no-wider       no strip between shapes that are apart is wider than their clearance
--     corridor-level          between shapes that are not apart no strip has a width
--     towards-corridor        across the step between the nearest points a strip lies between the shapes
--     towards-wide            which is as wide as the clearance
use Rattle.std.specs.Prelude.{◌≡◌, true, false, List, [], ◌∷◌, ℕ, ◌<◌, ℤ, pos, neg_ℤ, ◌+ℤ◌, ◌-ℤ◌, ◌*ℤ◌, length, ◌≤ℤ◌, ◌<ℤ◌}
use Rattle.std.proofs.Common.{sym, ◌∙◌, true≢false, arith}
use Rattle.std.proofs.Math.Path.{ap}
use Rattle.integer.specs.Ring.{ring, reify, difference-zero}
use Rattle.integer.specs.Linear.{linear, lia, ◌&◌}
use Rattle.integer.specs.Order.{◌<×<◌, ◌<×≤◌, ◌≤×≤◌, ◌≡×◌, contra≤, weaken, le_antisym, square-nonneg, zero-factor}
use Rattle.plane.specs.Point.{Point, corner, opposite, ◌⊖◌, ◌∈◌}
use Rattle.plane.specs.Turn.{turn, cross}
use Rattle.plane.specs.Shape.{next, IsShape}
use Rattle.plane.specs.Direction.{value, support}
use Rattle.plane.specs.Measure.{squared}
use Rattle.plane.specs.Separation.{apart}
use Rattle.plane.specs.Mean.{times, weight, gap, share}
use Rattle.plane.specs.Clearance.{Candidate, corners, on_second, on_first, turn_on, top, bottom, nearest}
use Rattle.plane.specs.Cut.{outward}
use Rattle.plane.proofs.theory.lists.Members.{member-some, position-member, member-position}
use Rattle.plane.proofs.theory.forms.Vector.{value-origin, value-turned, value-⊖}
use Rattle.plane.proofs.theory.support.Support.{value-le-support, support-unique}
use Rattle.separation.specs.theory.Apart.{direction→apart, apart-sym}
use Rattle.clearance.specs.Facing.{Foot, Reached, Facing}
use Rattle.clearance.specs.theory.Bound.{lagrange, foot-positive}
use Rattle.clearance.specs.theory.Means.{gap-value}
use Rattle.clearance.specs.theory.First.{Held, facing-held, held-square, nearest-at, nearest-reached}
use Rattle.clearance.specs.theory.Stop.{facing-exists}
use Rattle.clearance.specs.theory.Nearest.{nearest-attained, nearest-is-whole}
use Rattle.strips.specs.Strip.{least, gap_in, Corridor}
use Rattle.strips.specs.OwnDirection.{out_of, towards}
use Rattle.strips.proofs.theory.Spread.{least-le-value, least-attained}
use Rattle.strips.proofs.theory.Parallel.{parallel-value, parallel-square}

-- ---- no strip is wider

-- t its width in d; g and c the parts of the step between two points along d and across it, h their share; n/m the squared distance
no-wider : (t h g c N G n m : ℤ) → pos 0 ≤ℤ t → pos 0 <ℤ h → (t *ℤ h) ≤ℤ g → g *ℤ g +ℤ c *ℤ c ≡ N *ℤ G → n *ℤ (h *ℤ h) ≡ m *ℤ G
    → pos 0 <ℤ m → (t *ℤ t *ℤ m) ≤ℤ (n *ℤ N)
no-wider t h g c N G n m wide some far schwarz exact whole =
    contra≤ (λ l. lia (t ∷ h ∷ N ∷ G ∷ n ∷ m ∷ []) (square <×< l & whole <×≤ squares & exact ≡× N) (search linear depth 40) (omega arith))
  where
    square : pos 0 <ℤ (h *ℤ h)
    square = lia (h ∷ []) (some <×< some) (search linear depth 40) (omega arith)

    start : pos 0 ≤ℤ (t *ℤ h)
    start = lia (t ∷ h ∷ []) (wide ≤×≤ weaken some) (search linear depth 40) (omega arith)

    squares : (t *ℤ h *ℤ (t *ℤ h)) ≤ℤ (N *ℤ G)
    squares = lia ((t *ℤ h) ∷ g ∷ c ∷ N ∷ G ∷ []) (schwarz & far ≤×≤ far & start ≤×≤ far & square-nonneg c) (search linear depth 40)
        (omega arith)

-- the two nearest points are on its two sides
module _ (A B : List Point) (s : IsShape A) (t : IsShape B) (h : apart A B ≡ true) where
  pub corridor-no-wider : (d : Point) (low high : ℤ) → Corridor A B d low high
      → ((high -ℤ low) *ℤ (high -ℤ low) *ℤ bottom A B (nearest A B)) ≤ℤ (top A B (nearest A B) *ℤ value d d)
  corridor-no-wider d low high c =
      let r = nearest-attained A B s t h in
      let step = gap r.one A r.other B in
      no-wider (high -ℤ low) (share r.one A r.other B) (value d step) (cross d step) (value d d) (value step step)
      (top A B (nearest A B)) (bottom A B (nearest A B))
      (lia (low ∷ high ∷ []) c.wide (search linear depth 40) (omega arith))
      (lia (weight r.one A ∷ weight r.other B ∷ []) (r.one-point <×< r.other-point) (search linear depth 40) (omega arith))
      (gap-value A B d low (high -ℤ low) (λ p m. lia (low ∷ high ∷ value d p ∷ []) (c.ahead p m) (search linear depth 40) (omega arith))
      c.behind r.one r.other)
      (lagrange d step) r.exact (nearest-is-whole A B s t h)

-- a width would set them apart
pub corridor-level : (A B : List Point) → 0 < length A → 0 < length B → apart A B ≡ false → (d : Point) (low high : ℤ)
    → Corridor A B d low high → high ≡ low
corridor-level A B a b h d low high c = le_antisym (contra≤ (λ g. true≢false (sym (separated g) ∙ h))) c.wide
  where
    separated : low <ℤ high → apart A B ≡ true
    separated g = apart-sym A B a b ∙ direction→apart B A b a (record {
      direction = d;
      below = λ p q m n. lia (value d p ∷ value d q ∷ low ∷ high ∷ []) (g & c.behind p m & c.ahead q n) (search linear depth 40)
          (omega arith);
    })

-- ---- a direction that points the same way as one in which the shapes are held apart

record Along (m n : Point) : Type 0 where
  level : cross m n ≡ pos 0
  forward : pos 0 <ℤ value m n

-- values in the one go up with values in the other
along-rises : {m n : Point} → Along m n → pos 0 <ℤ value m m → (p q : Point) → value m p ≤ℤ value m q → value n p ≤ℤ value n q
along-rises {m} {n} a long p q h = contra≤ (λ g. lia (value m m ∷ value n p ∷ value n q ∷ value m n ∷ value m p ∷ value m q ∷ [])
    (parallel-value m n a.level p & parallel-value m n a.level q & long <×< g & a.forward <×≤ h)
    (search linear depth 40) (omega arith))

-- g the gap in n, t that in m; x/y the squared distance
as_wide : (M N g t x y : ℤ) → pos 0 <ℤ M → M *ℤ g *ℤ g ≡ N *ℤ t *ℤ t → x *ℤ M ≡ t *ℤ t *ℤ y → g *ℤ g *ℤ y ≡ x *ℤ N
as_wide M N g t x y long same at = difference-zero (g *ℤ g *ℤ y) (x *ℤ N) (zero-factor {t = M} long
    (lia (M ∷ N ∷ g ∷ t ∷ x ∷ y ∷ []) (same ≡× y & at ≡× N) (search linear depth 40) (omega arith)))

module _ (A B : List Point) (m n : Point) (t : ℤ) (held : Held A B m t) (a : Along m n) where
  abbrev first : Point
  first = corner A held.low

  abbrev last : Point
  last = corner B held.high

  long : pos 0 <ℤ value m m
  long = held-square A B m t held

  above : (p : Point) → p ∈ A → value m first ≤ℤ value m p
  above p k =
      let (i, l, e) = member-position k in
      lia (value m first ∷ value m last ∷ value m p ∷ t ∷ []) (held.exact & rw e at (held.held i held.high l held.high-in))
      (search linear depth 40) (omega arith)

  below : (q : Point) → q ∈ B → value m q ≤ℤ value m last
  below q k =
      let (j, l, e) = member-position k in
      lia (value m first ∷ value m last ∷ value m q ∷ t ∷ []) (held.exact & rw e at (held.held held.low j held.low-in l))
      (search linear depth 40) (omega arith)

  along-least : least n A ≡ value n first
  along-least =
      let first-in = position-member A held.low held.low-in in
      let (p, p-in, e) = least-attained n A (member-some first-in) in
      le_antisym (least-le-value n A first-in) (rw e at (along-rises a long first p (above p p-in)))

  along-greatest : support n B ≡ value n last
  along-greatest = support-unique n (position-member B held.high held.high-in) (λ q k. along-rises a long q last (below q k))

  along-gap : value m m *ℤ gap_in n A B ≡ value m n *ℤ t
  unfolding gap_in
  along-gap = lia (value m m ∷ value m n ∷ t ∷ least n A ∷ support n B ∷ value n first ∷ value n last ∷ value m first ∷ value m last ∷ [])
      (along-least ≡× value m m & along-greatest ≡× value m m
      & parallel-value m n a.level first & parallel-value m n a.level last & held.exact ≡× value m n)
      (search linear depth 40) (omega arith)

  along-corridor : Corridor A B n (support n B) (least n A)
  unfolding gap_in
  along-corridor = record {
    direction = λ e. lia (value m n ∷ []) (a.forward & ap (value m) e ∙ value-origin m) (search linear depth 40) (omega arith);
    wide = contra≤ (λ g. lia (value m m ∷ value m n ∷ t ∷ least n A ∷ support n B ∷ [])
        (along-gap & long <×< g & a.forward <×< held.some) (search linear depth 40) (omega arith));
    behind = λ p k. value-le-support n k;
    ahead = λ p k. least-le-value n A k;
  }

  along-wide : (c : Candidate) → top A B c *ℤ value m m ≡ t *ℤ t *ℤ bottom A B c
      → gap_in n A B *ℤ gap_in n A B *ℤ bottom A B c ≡ top A B c *ℤ value n n
  along-wide c at = as_wide (value m m) (value n n) (gap_in n A B) t (top A B c) (bottom A B c) long
      (parallel-square m n a.level long (gap_in n A B) t along-gap) at

-- ---- the step between the two nearest points is such a direction

foot-value : (m p q c : Point) → value m (times (neg_ℤ (turn p q c)) (outward p q))
    ≡ squared p q *ℤ (value m c -ℤ value m p) -ℤ value (q ⊖ p) (c ⊖ p) *ℤ (value m q -ℤ value m p)
unfolding value turn squared
foot-value m p q c = ring (m.x ∷ m.y ∷ p.x ∷ p.y ∷ q.x ∷ q.y ∷ c.x ∷ c.y ∷ []) (search reify depth 40) tt

foot-cross : (m p q : Point) (k : ℤ) → cross m (times k (outward p q)) ≡ neg_ℤ k *ℤ (value m q -ℤ value m p)
unfolding value cross
foot-cross m p q k = ring (m.x ∷ m.y ∷ p.x ∷ p.y ∷ q.x ∷ q.y ∷ k ∷ []) (search reify depth 40) tt

-- corner c falls on edge e, both of whose ends are highest below it
foot-along : (m : Point) (qs ps : List Point) {c e : ℕ} → Foot m qs ps c e → value m (corner ps e) <ℤ value m (corner qs c)
    → Along m (times (neg_ℤ (turn_on ps e (corner qs c))) (out_of ps e))
foot-along m qs ps {c} {e} r above = record {
  level = lia (cross m (times (neg_ℤ (turn p q z)) (outward p q)) ∷ turn p q z ∷ value m p ∷ value m q ∷ [])
      (foot-cross m p q (neg_ℤ (turn p q z)) & flat ≡× turn p q z) (search linear depth 40) (omega arith);
  forward = lia (value m (times (neg_ℤ (turn p q z)) (outward p q)) ∷ squared p q ∷ value m p ∷ value m q ∷ value m z
      ∷ value (q ⊖ p) (z ⊖ p) ∷ [])
      (foot-value m p q z & flat ≡× value (q ⊖ p) (z ⊖ p) & some <×< above) (search linear depth 40) (omega arith);
}
  where
    p : Point
    p = corner ps e

    q : Point
    q = corner ps (next (length ps) e)

    z : Point
    z = corner qs c

    flat : value m q ≡ value m p
    flat = lia (value m p ∷ value m q ∷ value (opposite m) p ∷ value (opposite m) q ∷ [])
        (r.start.lowest (next (length ps) e) r.end.within & r.end.lowest e r.start.within & value-turned m p & value-turned m q)
        (search linear depth 40) (omega arith)

    some : pos 0 <ℤ squared p q
    some = foot-positive p q z r.inside

cross-back : (m n : Point) (k : ℤ) → cross (opposite m) (times (neg_ℤ k) n) ≡ cross m (times k n)
unfolding cross
cross-back m n k = ring (m.x ∷ m.y ∷ n.x ∷ n.y ∷ k ∷ []) (search reify depth 40) tt

value-back : (m n : Point) (k : ℤ) → value (opposite m) (times (neg_ℤ k) n) ≡ value m (times k n)
unfolding value
value-back m n k = ring (m.x ∷ m.y ∷ n.x ∷ n.y ∷ k ∷ []) (search reify depth 40) tt

module _ (A B : List Point) (m : Point) (f : Facing A B m) where
  over : (i j : ℕ) → i < length A → j < length B → value m (corner B j) <ℤ value m (corner A i)
  over i j h k = f.above (corner A i) (corner B j) (position-member A i h) (position-member B j k)

  towards-along : (c : Candidate) → Reached A B m c → Along m (towards A B c)
  towards-along (corners i j) r = record {
    level = r.along;
    forward = lia (value m (corner A i) ∷ value m (corner B j) ∷ value m (corner A i ⊖ corner B j) ∷ [])
        (over i j r.one.within r.other.within & value-⊖ m (corner A i) (corner B j)) (search linear depth 40) (omega arith);
  }
  towards-along (on_second i e) r = foot-along m A B r (over i e r.from.within r.start.within)
  towards-along (on_first j e) r = record {
    level = sym (cross-back m (out_of A e) k) ∙ turned.level;
    forward = rw (value-back m (out_of A e) k) at turned.forward;
  }
    where
      k : ℤ
      k = turn_on A e (corner B j)

      turned : Along (opposite m) (times (neg_ℤ k) (out_of A e))
      turned = foot-along (opposite m) B A r (lia (value m (corner A e) ∷ value m (corner B j) ∷ value (opposite m) (corner A e)
          ∷ value (opposite m) (corner B j) ∷ [])
          (over e j r.start.within r.from.within & value-turned m (corner A e) & value-turned m (corner B j))
          (search linear depth 40) (omega arith))

module _ (A B : List Point) (s : IsShape A) (t : IsShape B) (h : apart A B ≡ true) where
  facing : (m : Point) × Facing A B m
  facing = facing-exists A B s t h

  along : Along facing.0 (towards A B (nearest A B))
  along = towards-along A B facing.0 facing.1 (nearest A B) (nearest-reached A B s.some t.some facing.0 facing.1)

  pub towards-corridor : let n = towards A B (nearest A B) in Corridor A B n (support n B) (least n A)
  towards-corridor = let r = facing-held facing.1 in along-corridor A B facing.0 (towards A B (nearest A B)) r.0 r.1 along

  pub towards-wide : let n = towards A B (nearest A B) in
      gap_in n A B *ℤ gap_in n A B *ℤ bottom A B (nearest A B) ≡ top A B (nearest A B) *ℤ value n n
  towards-wide = let r = facing-held facing.1 in
      along-wide A B facing.0 (towards A B (nearest A B)) r.0 r.1 along (nearest A B)
      (nearest-at A B s.some t.some facing.0 facing.1).at
