-- Shapes that are not apart have a point in common: the origin is a mean of their differences.
--     not-apart-common     the weights of the differences, given to their corners
use Rattle.std.specs.Prelude.{◌≡◌, refl, true, false, ◌⊎◌, List, [], ◌∷◌, ℕ, ◌+◌, ◌<◌, ℤ, pos, nat_abs, ◌+ℤ◌, length, ◌≤ℤ◌, ◌<ℤ◌}
use Rattle.std.proofs.Common.{sym, ◌∙◌, ap, ap₂, true≢false, inl, inr, arith}
use Rattle.std.specs.Int.Signed.{≤ℤ_refl}
use Rattle.integer.specs.Ring.{ring, reify}
use Rattle.integer.specs.Linear.{linear, lia, ◌&◌}
use Rattle.integer.specs.Bound.{size_is}
use Rattle.plane.specs.Cut.{quarter}
use Rattle.plane.specs.Point.{Point, origin, corner, opposite, ◌⊕◌, ◌⊖◌, ◌∈◌}
use Rattle.plane.specs.Turn.{turn, cross}
use Rattle.plane.specs.Direction.{value}
use Rattle.plane.specs.Separation.{differences, apart}
use Rattle.plane.specs.Mean.{times, weight, heap, CommonPoint}
use Rattle.plane.proofs.theory.lists.Members.{point-path, point-discrete}
use Rattle.plane.proofs.theory.forms.Vector.{value-turned, square-positive}
use Rattle.separation.specs.theory.Apart.{value-difference, differences-some, difference-member, direction→apart}
use Rattle.clearance.specs.theory.Pairs.{Pair, pair_of}
use Rattle.clearance.specs.theory.Along.{ZeroMean, cross-turn}
use Rattle.clearance.specs.theory.Closest.{Closest, at-point, at-foot, settled}
use Rattle.clearance.specs.theory.Faces.{value-quarter}
use Rattle.clearance.specs.theory.Means.{two, weight-two, heap-two, weight-add, heap-add}
use Rattle.clearance.specs.theory.Attained.{gap_is}

-- ---- weights of four differences

-- weights at four positions
module _ (ps : List Point) (i j k l : ℕ) (i-in : i < length ps) (j-in : j < length ps) (k-in : k < length ps) (l-in : l < length ps)
    {a b c d : ℤ} (p : pos 0 ≤ℤ a) (q : pos 0 ≤ℤ b) (r : pos 0 ≤ℤ c) (s : pos 0 ≤ℤ d) where
  abbrev four : ℕ → ℕ
  four m = two i (nat_abs a) j (nat_abs b) m + two k (nat_abs c) l (nat_abs d) m

  four-weight : weight four ps ≡ a +ℤ b +ℤ (c +ℤ d)
  four-weight = weight-add (two i (nat_abs a) j (nat_abs b)) (two k (nat_abs c) l (nat_abs d)) ps
      ∙ ap₂ (λ y z. y +ℤ z) (weight-two i (nat_abs a) j (nat_abs b) ps i-in j-in ∙ ap₂ (λ y z. y +ℤ z) (size_is p) (size_is q))
      (weight-two k (nat_abs c) l (nat_abs d) ps k-in l-in ∙ ap₂ (λ y z. y +ℤ z) (size_is r) (size_is s))

  four-heap : heap four ps ≡ (times a (corner ps i) ⊕ times b (corner ps j)) ⊕ (times c (corner ps k) ⊕ times d (corner ps l))
  four-heap = heap-add (two i (nat_abs a) j (nat_abs b)) (two k (nat_abs c) l (nat_abs d)) ps
      ∙ ap₂ (λ y z. y ⊕ z)
      (heap-two i (nat_abs a) j (nat_abs b) ps i-in j-in ∙ ap₂ (λ y z. times y (corner ps i) ⊕ times z (corner ps j)) (size_is p)
      (size_is q))
      (heap-two k (nat_abs c) l (nat_abs d) ps k-in l-in ∙ ap₂ (λ y z. times y (corner ps k) ⊕ times z (corner ps l)) (size_is r)
      (size_is s))

four-gap : (m a b c d : ℤ) (p q r s t u v w : Point)
    → times m ((times a p ⊕ times b q) ⊕ (times c r ⊕ times d s)) ⊖ times m ((times a t ⊕ times b u) ⊕ (times c v ⊕ times d w))
    ≡ times m ((times a (p ⊖ t) ⊕ times b (q ⊖ u)) ⊕ (times c (r ⊖ v) ⊕ times d (s ⊖ w)))
four-gap m a b c d p q r s t u v w = point-path
    (ring (m ∷ a ∷ b ∷ c ∷ d ∷ p.x ∷ q.x ∷ r.x ∷ s.x ∷ t.x ∷ u.x ∷ v.x ∷ w.x ∷ []) (search reify depth 40) tt)
    (ring (m ∷ a ∷ b ∷ c ∷ d ∷ p.y ∷ q.y ∷ r.y ∷ s.y ∷ t.y ∷ u.y ∷ v.y ∷ w.y ∷ []) (search reify depth 40) tt)

times-origin : (m : ℤ) → times m origin ≡ origin
times-origin m = point-path (ring (m ∷ []) (search reify depth 40) tt) (ring (m ∷ []) (search reify depth 40) tt)

module _ (A B : List Point) where
  mean-common : ZeroMean (differences A B) → CommonPoint A B
  mean-common z = record {
    one = four A f.one g.one h.one k.one f.one_in g.one_in h.one_in k.one_in
        z.weights.0 z.weights.1 z.weights.2 z.weights.3;
    other = four B f.other g.other h.other k.other f.other-in g.other-in h.other-in k.other-in
        z.weights.0 z.weights.1 z.weights.2 z.weights.3;
    one-point = rw one-weight z.some;
    other-point = rw other-weight z.some;
    same = gap_is _ A _ B one-weight other-weight one-heap other-heap
        ∙ four-gap (z.a +ℤ z.b +ℤ (z.c +ℤ z.d)) z.a z.b z.c z.d
        (corner A f.one) (corner A g.one) (corner A h.one) (corner A k.one)
        (corner B f.other) (corner B g.other) (corner B h.other) (corner B k.other)
        ∙ ap (times (z.a +ℤ z.b +ℤ (z.c +ℤ z.d))) level ∙ times-origin (z.a +ℤ z.b +ℤ (z.c +ℤ z.d));
  }
    where
      f : Pair A B z.first
      f = pair_of A B z.members.0

      g : Pair A B z.second
      g = pair_of A B z.members.1

      h : Pair A B z.third
      h = pair_of A B z.members.2

      k : Pair A B z.fourth
      k = pair_of A B z.members.3

      one-weight : weight (four A f.one g.one h.one k.one f.one_in g.one_in h.one_in k.one_in
          z.weights.0 z.weights.1 z.weights.2 z.weights.3) A ≡ z.a +ℤ z.b +ℤ (z.c +ℤ z.d)
      one-weight = four-weight A f.one g.one h.one k.one f.one_in g.one_in h.one_in k.one_in
          z.weights.0 z.weights.1 z.weights.2 z.weights.3

      other-weight : weight (four B f.other g.other h.other k.other f.other-in g.other-in h.other-in k.other-in
          z.weights.0 z.weights.1 z.weights.2 z.weights.3) B ≡ z.a +ℤ z.b +ℤ (z.c +ℤ z.d)
      other-weight = four-weight B f.other g.other h.other k.other f.other-in g.other-in h.other-in k.other-in
          z.weights.0 z.weights.1 z.weights.2 z.weights.3

      one-heap : heap (four A f.one g.one h.one k.one f.one_in g.one_in h.one_in k.one_in
          z.weights.0 z.weights.1 z.weights.2 z.weights.3) A
          ≡ (times z.a (corner A f.one) ⊕ times z.b (corner A g.one))
          ⊕ (times z.c (corner A h.one) ⊕ times z.d (corner A k.one))
      one-heap = four-heap A f.one g.one h.one k.one f.one_in g.one_in h.one_in k.one_in
          z.weights.0 z.weights.1 z.weights.2 z.weights.3

      other-heap : heap (four B f.other g.other h.other k.other f.other-in g.other-in h.other-in k.other-in
          z.weights.0 z.weights.1 z.weights.2 z.weights.3) B
          ≡ (times z.a (corner B f.other) ⊕ times z.b (corner B g.other))
          ⊕ (times z.c (corner B h.other) ⊕ times z.d (corner B k.other))
      other-heap = four-heap B f.other g.other h.other k.other f.other-in g.other-in h.other-in k.other-in
          z.weights.0 z.weights.1 z.weights.2 z.weights.3

      level : (times z.a (corner A f.one ⊖ corner B f.other) ⊕ times z.b (corner A g.one ⊖ corner B g.other))
          ⊕ (times z.c (corner A h.one ⊖ corner B h.other) ⊕ times z.d (corner A k.one ⊖ corner B k.other)) ≡ origin
      level = sym (ap₂ (λ y w. y ⊕ w) (ap₂ (λ y w. times z.a y ⊕ times z.b w) f.is g.is)
          (ap₂ (λ y w. times z.c y ⊕ times z.d w) h.is k.is)) ∙ z.zero

  module _ (a : 0 < length A) (b : 0 < length B) where
    -- a direction in which all differences are above 0
    parted : (n : Point) → ((x : Point) → x ∈ differences A B → pos 0 <ℤ value n x) → apart A B ≡ true
    parted n f = direction→apart A B a b (record { direction = opposite n; below = below })
      where
        below : (p q : Point) → p ∈ A → q ∈ B → value (opposite n) p <ℤ value (opposite n) q
        below p q m k = lia (value n p ∷ value n q ∷ value (opposite n) p ∷ value (opposite n) q ∷ value n (p ⊕ opposite q) ∷ [])
            (f _ (difference-member m k) & value-difference n p q & value-turned n p & value-turned n q) (search linear depth 40)
            (omega arith)

    pub not-apart-common : apart A B ≡ false → CommonPoint A B
    not-apart-common h = go (settled (differences A B) (differences-some A B a b))
      where
        clash : apart A B ≡ true → CommonPoint A B
        clash k = absurd (true≢false (sym k ∙ h))

        own : (w : Point) → w ∈ differences A B → Dec (w ≡ origin) → ((x : Point) → x ∈ differences A B → value w w ≤ℤ value w x)
            → CommonPoint A B
        own w m (yes e) low = mean-common (record {
          first = w;
          second = w;
          third = w;
          fourth = w;
          members = (m, m, m, m);
          a = pos 1;
          b = pos 0;
          c = pos 0;
          d = pos 0;
          weights = (record { le = tt }, ≤ℤ_refl (pos 0), ≤ℤ_refl (pos 0), ≤ℤ_refl (pos 0));
          some = record { lt = tt };
          zero = rw e refl;
        })
        own w m (no e) low = clash (parted w (λ x k. lia (value w w ∷ value w x ∷ [])
            (low x k & square-positive w (record { non_zero = e })) (search linear depth 40) (omega arith)))

        go : Closest (differences A B) ⊎ ZeroMean (differences A B) → CommonPoint A B
        go (inr z) = mean-common z
        go (inl (at-point w m low)) = own w m (point-discrete w origin) low
        go (inl (at-foot w d m k right before after left)) = clash (parted (quarter (d ⊖ w)) (λ x l.
            lia (value (quarter (d ⊖ w)) x ∷ cross (d ⊖ w) x ∷ cross w d ∷ turn w d x ∷ [])
            (value-quarter (d ⊖ w) x & cross-turn w d x & left x l & right) (search linear depth 40) (omega arith)))
