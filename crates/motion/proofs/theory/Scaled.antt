-- A list of points taken k times, for k above 0.
--     value-times                        the value of k times a point
--     scaled-some                        it has a point
--     scaled-corner, scaled-support      its corners, and how far it reaches
--     scaled-shape                       a shape stays a shape
use Rattle.std.specs.Prelude.{◌≡◌, ℕ, zero, suc, ◌<◌, ℤ, pos, ◌*ℤ◌, length, ◌≤ℤ◌, ◌<ℤ◌}
use Rattle.std.proofs.Math.Path.{refl, sym, ap₂}
use Rattle.std.proofs.Common.{◌∙◌, ap, arith}
use mathlib.Core.List.{List, [], ◌∷◌, map}
use Rattle.std.proofs.lemmas.List.{length-map}
use Rattle.std.specs.Int.Signed.{lt_z, le_z}
use Rattle.integer.specs.Ring.{ring, reify}
use Rattle.integer.specs.Linear.{linear, lia, ◌&◌}
use Rattle.integer.specs.Order.{◌<×<◌, ◌<×≤◌, weaken, cancel, contra<, cancel-le, lt_z-true, lt-lt_z, le_z-true, le-le_z}
use Rattle.plane.specs.Point.{Point, corner}
use Rattle.plane.specs.Turn.{turn, Left}
use Rattle.plane.specs.Shape.{next, precedes, IsShape}
use Rattle.plane.specs.Direction.{value, support, greater}
use Rattle.plane.specs.Mean.{times}
use Rattle.plane.proofs.theory.lists.Members.{point-path}
use Rattle.plane.proofs.theory.lists.Sought.{tests_agree}
use Rattle.plane.proofs.theory.lists.Greater.{times-greater}

pub value-times : (d p : Point) (k : ℤ) → value d (times k p) ≡ k *ℤ value d p
unfolding value
value-times d p k = ring (d.x ∷ d.y ∷ p.x ∷ p.y ∷ k ∷ []) (search reify depth 40) tt

turn-times : (a b c : Point) (k : ℤ) → turn (times k a) (times k b) (times k c) ≡ k *ℤ k *ℤ turn a b c
unfolding turn
turn-times a b c k = ring (a.x ∷ a.y ∷ b.x ∷ b.y ∷ c.x ∷ c.y ∷ k ∷ []) (search reify depth 40) tt

pub scaled-some : (k : ℤ) (G : List Point) → 0 < length G → 0 < length (map (times k) G)
scaled-some k G g = rw (length-map G (times k)) g

pub scaled-corner : (k : ℤ) (G : List Point) (i : ℕ) → corner (map (times k) G) i ≡ times k (corner G i)
scaled-corner k [] i = point-path (ring (k ∷ []) (search reify depth 40) tt) (ring (k ∷ []) (search reify depth 40) tt)
scaled-corner k (p ∷ G) zero = refl
scaled-corner k (p ∷ G) (suc i) = scaled-corner k G i

module _ (k : ℤ) (above : pos 0 <ℤ k) where
  pub scaled-support : (d : Point) (G : List Point) → support d (map (times k) G) ≡ k *ℤ support d G
  unfolding support
  scaled-support d [] = ring (k ∷ []) (search reify depth 40) tt
  scaled-support d (p ∷ []) = value-times d p k
  scaled-support d (p ∷ (q ∷ G)) = ap₂ greater (value-times d p k) (scaled-support d (q ∷ G))
      ∙ sym (times-greater (weaken above) (value d p) (support d (q ∷ G)))

  -- ---- tests

  times-less : (x y : ℤ) → x <ℤ y → (k *ℤ x) <ℤ (k *ℤ y)
  times-less x y h = lia (k ∷ x ∷ y ∷ []) (above <×< h) (search linear depth 40) (omega arith)

  times-le : (x y : ℤ) → x ≤ℤ y → (k *ℤ x) ≤ℤ (k *ℤ y)
  times-le x y h = lia (k ∷ x ∷ y ∷ []) (above <×≤ h) (search linear depth 40) (omega arith)

  less-times : (x y : ℤ) → (k *ℤ x) <ℤ (k *ℤ y) → x <ℤ y
  less-times x y h = contra< (λ g. lia (k ∷ x ∷ y ∷ []) (above <×≤ g & h) (search linear depth 40) (omega arith))

  same-less : (x y : ℤ) → lt_z (k *ℤ x) (k *ℤ y) ≡ lt_z x y
  same-less x y = tests_agree _ _ (λ h. lt-lt_z (less-times x y (lt_z-true {x = k *ℤ x} {y = k *ℤ y} h)))
      (λ h. lt-lt_z (times-less x y (lt_z-true {x = x} {y = y} h)))

  same-le : (x y : ℤ) → le_z (k *ℤ x) (k *ℤ y) ≡ le_z x y
  same-le x y = tests_agree _ _ (λ h. le-le_z (cancel-le {k = k} above (le_z-true {x = k *ℤ x} {y = k *ℤ y} h)))
      (λ h. le-le_z (times-le x y (le_z-true {x = x} {y = y} h)))

  same-precedes : (p q : Point) → precedes (times k p) (times k q) ≡ precedes p q
  unfolding precedes
  same-precedes p q = rw (same-less p.y q.y, same-le p.y q.y, same-less p.x q.x) refl

  times-left : (a b c : Point) → Left a b c → Left (times k a) (times k b) (times k c)
  times-left a b c h = lia (k ∷ turn a b c ∷ turn (times k a) (times k b) (times k c) ∷ [])
      (turn-times a b c k & square <×< h) (search linear depth 40) (omega arith)
    where
      square : pos 0 <ℤ (k *ℤ k)
      square = lia (k ∷ []) (above <×< above) (search linear depth 40) (omega arith)

  times-same : (p q : Point) → times k p ≡ times k q → p ≡ q
  times-same p q e = point-path (cancel above (ap (λ (z : Point). z.x) e)) (cancel above (ap (λ (z : Point). z.y) e))

  -- ---- a shape

  pub scaled-shape : (G : List Point) → IsShape G → IsShape (map (times k) G)
  scaled-shape G s = record {
    some = scaled-some k G s.some;
    different = λ two same. s.different (sym count ∙ two) (times-same _ _ (sym (scaled-corner k G 0) ∙ same ∙ scaled-corner k G 1));
    left = λ e c h i m n. rw (count, scaled-corner k G e, scaled-corner k G c, scaled-corner k G (next (length G) e))
        (times-left _ _ _ (s.left e c (rw count at h) (rw count at i) m (rw count at n)));
    start = λ c h. rw (scaled-corner k G c, scaled-corner k G 0) (same-precedes _ _ ∙ s.start c (rw count at h));
  }
    where
      count : length (map (times k) G) ≡ length G
      count = length-map G (times k)
