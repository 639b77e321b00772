-- Boxes that are apart along x or y show that shapes are as far from each other: a strip between them is no wider than their distance.
--     AtMost A B x         x is at most the distance, unless it is negative
--     gap-at-most          the gap of two boxes is; `gap-nonneg`: it is not negative
--     at-most-far          a distance that is at most such a number is at most the shapes' own
--     extends-bounded      the box about a shape may be added
--     extends-spans        the boxes about two shapes span them
--     grown-spans          the box about a shape and the cart, and that about an obstacle, span the shape and the grown obstacle
use Rattle.std.specs.Prelude.{◌≡◌, Bool, true, false, List, [], ◌∷◌, ◌⊎◌, ℕ, ◌*◌, ◌^◌, ◌<◌, ◌≤◌, ℤ, pos, ◌+ℤ◌, ◌-ℤ◌, ◌*ℤ◌, length, ◌≤ℤ◌}
use Rattle.std.specs.Prelude.{◌<ℤ◌}
use Rattle.std.proofs.Math.Path.{refl, ap, ap₂, subst}
use Rattle.std.proofs.Common.{sym, ◌∙◌, inl, inr, arith, lit≤, le→leb}
use Rattle.std.proofs.Math.IntN.{neg_ℤ}
use Rattle.integer.specs.Ring.{ring, reify}
use Rattle.integer.specs.Linear.{linear, lia, ◌&◌}
use Rattle.integer.specs.Order.{◌≤×≤◌, ◌≤×<◌, ◌≡×◌, le_trans}
use Rattle.integer.specs.Bound.{within-widen}
use Rattle.plane.specs.Point.{Point, point, points, opposite, ◌⊕◌}
use Rattle.plane.specs.Shape.{IsShape}
use Rattle.plane.specs.Direction.{value, greater, support}
use Rattle.plane.specs.Corner.{mirrored}
use Rattle.plane.specs.Refusal.{Valid}
use Rattle.plane.specs.Separation.{apart}
use Rattle.plane.specs.Clearance.{top, bottom, nearest}
use Rattle.plane.specs.Distance.{over, no_more, distance}
use Rattle.plane.proofs.theory.lists.Greater.{greater-either, left-le-greater}
use Rattle.plane.proofs.theory.forms.Vector.{value-origin, opposite-opposite}
use Rattle.plane.proofs.theory.support.Support.{value-le-support, support-mirrored}
use Rattle.clearance.specs.theory.Distance.{le-no_more, distance-apart, distance_none, distance-whole, distance-nonneg}
use Rattle.strips.specs.Strip.{least, gap_in, Corridor}
use Rattle.strips.proofs.theory.Spread.{least-le-value}
use Rattle.strips.proofs.theory.Corridors.{corridor-no-wider, corridor-level}
use Rattle.growth.specs.Grown.{grown}
use Rattle.growth.proofs.theory.Places.{grown-reach}
use Rattle.polygon.specs.declared.extent.Extent.{Extent}
use Rattle.polygon.specs.Point.{at, Small}
use Rattle.polygon.specs.Extent.{highest, Extends}
use Rattle.polygon.specs.theory.Extents.{extends-small}
use Rattle.extents.specs.Far.{past, gap_of, Bounded, Spans, Reaches}

-- the two directions
abbrev right : Point
right = point (pos 1) (pos 0)

abbrev up : Point
up = point (pos 0) (pos 1)

abbrev pub AtMost : List Point → List Point → ℤ → Type 0
AtMost A B x = pos 0 ≤ℤ x → (x *ℤ x *ℤ (distance A B).denominator) ≤ℤ (distance A B).numerator

greater-at-most : (A B : List Point) (x y : ℤ) → AtMost A B x → AtMost A B y → AtMost A B (greater x y)
greater-at-most A B x y h k = go (greater-either x y)
  where
    go : (greater x y ≡ x) ⊎ (greater x y ≡ y) → AtMost A B (greater x y)
    go (inl e) = subst (AtMost A B) (sym e) h
    go (inr e) = subst (AtMost A B) (sym e) k

past-at-most : (A B : List Point) (g : ℤ) (p : Point) → AtMost A B g → AtMost A B (neg_ℤ p.x) × AtMost A B (neg_ℤ p.y)
    → AtMost A B (past g p)
past-at-most A B g p h k =
    greater-at-most A B g (greater (neg_ℤ p.x) (neg_ℤ p.y)) h (greater-at-most A B (neg_ℤ p.x) (neg_ℤ p.y) k.0 k.1)

pub gap-nonneg : (e f : Extent) → pos 0 ≤ℤ gap_of e f
gap-nonneg e f = le_trans (left-le-greater (pos 0) _) (left-le-greater (past (pos 0) (at e.high ⊕ at f.low)) _)

-- v/q is at most w, and w at most n/d
at-most-both : (v w q n d : ℤ) → pos 0 <ℤ d → pos 0 ≤ℤ q → (v *ℤ pos 1) ≤ℤ (w *ℤ q) → (w *ℤ d) ≤ℤ n → (v *ℤ d) ≤ℤ (n *ℤ q)
at-most-both v w q n d some whole h k = lia (v ∷ w ∷ q ∷ n ∷ d ∷ []) (h ≤×< some & k ≤×≤ whole) (search linear depth 40) (omega arith)

module _ (A B : List Point) (s : IsShape A) (t : IsShape B) where
  zero_at_most : AtMost A B (pos 0)
  zero_at_most h = lia ((distance A B).numerator ∷ (distance A B).denominator ∷ []) (distance-nonneg A B s t) (search linear depth 40)
      (omega arith)

  -- across a direction of length 1 the gap is itself the width of a strip between the shapes
  strip-at-most : (d : Point) → value d d ≡ pos 1 → AtMost A B (gap_in d A B)
  unfolding gap_in
  strip-at-most d one h = go (apart A B) refl
    where
      strip : Corridor A B d (support d B) (least d A)
      strip = record {
        direction = λ e. lia (value d d ∷ []) (one & ap (value d) e ∙ value-origin d) (search linear depth 40) (omega arith);
        wide = lia (least d A ∷ support d B ∷ []) h (search linear depth 40) (omega arith);
        behind = λ p m. value-le-support d m;
        ahead = λ p m. least-le-value d A m;
      }

      width : ℤ
      width = least d A -ℤ support d B

      near : ℤ
      near = top A B (nearest A B)

      level : apart A B ≡ false → least d A ≡ support d B
      level e = corridor-level A B s.some t.some e d (support d B) (least d A) strip

      go : (x : Bool) → apart A B ≡ x → (width *ℤ width *ℤ (distance A B).denominator) ≤ℤ (distance A B).numerator
      go true e = rw (distance-apart A B e) (lia (least d A ∷ support d B ∷ bottom A B (nearest A B) ∷ near ∷ value d d ∷ [])
          (corridor-no-wider A B s t e d (support d B) (least d A) strip & one ≡× near) (search linear depth 40) (omega arith))
      go false e = rw (distance_none A B e) (lia (least d A ∷ support d B ∷ [])
          (level e ≡× least d A & level e ≡× support d B) (search linear depth 40) (omega arith))

  -- B is ahead of A in d, or A of B
  ahead-gap : (d : Point) → value (opposite d) (opposite d) ≡ pos 1 → AtMost A B (neg_ℤ (support d A +ℤ support d (mirrored B)))
  unfolding gap_in least
  ahead-gap d one = subst (AtMost A B) (sym same) (strip-at-most (opposite d) one)
    where
      same : neg_ℤ (support d A +ℤ support d (mirrored B)) ≡ neg_ℤ (support (opposite (opposite d)) A) -ℤ support (opposite d) B
      same = rw (opposite-opposite d, support-mirrored d B)
          (ring (support d A ∷ support (opposite d) B ∷ []) (search reify depth 40) tt)

  behind-gap : (d : Point) → value d d ≡ pos 1 → AtMost A B (neg_ℤ (support d (mirrored A) +ℤ support d B))
  unfolding gap_in least
  behind-gap d one = subst (AtMost A B) (sym same) (strip-at-most d one)
    where
      same : neg_ℤ (support d (mirrored A) +ℤ support d B) ≡ neg_ℤ (support (opposite d) A) -ℤ support d B
      same = rw (support-mirrored d A) (ring (support (opposite d) A ∷ support d B ∷ []) (search reify depth 40) tt)

  pub gap-at-most : {e f : Extent} → Spans A B e f → AtMost A B (gap_of e f)
  unfolding highest value
  gap-at-most {e} {f} x = past-at-most A B (past (pos 0) (at e.high ⊕ at f.low)) (at e.low ⊕ at f.high)
      (past-at-most A B (pos 0) (at e.high ⊕ at f.low) zero_at_most
      (subst Both (sym x.ahead) (ahead-gap right refl, ahead-gap up refl)))
      (subst Both (sym x.behind) (behind-gap right refl, behind-gap up refl))
    where
      Both : Point → Type 0
      Both p = AtMost A B (neg_ℤ p.x) × AtMost A B (neg_ℤ p.y)

  -- u·u/q is at most g·g, which is at most the squared distance
  pub at-most-far : (g u q : ℕ) → u * u * 1 ≤ g * g * q → AtMost A B (pos g) → no_more (over (pos (u * u)) (pos q)) (distance A B) ≡ true
  at-most-far g u q h k = le-no_more (over (pos (u * u)) (pos q)) (distance A B)
      (at-most-both (pos (u * u)) (pos (g * g)) (pos q) (distance A B).numerator (distance A B).denominator (distance-whole A B s t)
      (record { le = le→leb 0 q (omega arith) }) (record { le = le→leb (u * u * 1) (g * g * q) h })
      (k (record { le = le→leb 0 g (omega arith) })))

-- ---- boxes that span two shapes

-- the box about a shape may be added
pub extends-bounded : (l : List ℤ) → Valid l → {e : Extent} → Extends (points l) e → Bounded e
extends-bounded l v x = let small = extends-small l v.in_range v.shape.some x in
    record { high = wide small.0; low = wide small.1 }
  where
    wide : {p : Point} → Small (2 ^ 21) p → Small (2 ^ 22) p
    wide h = record { small-x = within-widen (lit≤ tt) h.small-x; small-y = within-widen (lit≤ tt) h.small-y }

pub extends-spans : {A B : List Point} {e f : Extent} → Extends A e → Extends B f → Spans A B e f
extends-spans x y = record { ahead = ap₂ ◌⊕◌ x.high_is y.low-is; behind = ap₂ ◌⊕◌ x.low-is y.high_is }

-- an obstacle grown by a cart reaches as far as the obstacle and the cart's mirror image
module _ (B C : List Point) (b : 0 < length B) (c : 0 < length C) where
  grown-highest : highest (grown B C) ≡ highest B ⊕ highest (mirrored C)
  unfolding highest
  grown-highest = ap₂ point (far right) (far up)
    where
      far : (d : Point) → support d (grown B C) ≡ support d B +ℤ support d (mirrored C)
      far d = grown-reach B C b c d ∙ ap (λ z. support d B +ℤ z) (sym (support-mirrored d C))

  grown-lowest : highest (mirrored (grown B C)) ≡ highest (mirrored B) ⊕ highest C
  unfolding highest
  grown-lowest = ap₂ point (far right) (far up)
    where
      far : (d : Point) → support d (mirrored (grown B C)) ≡ support d (mirrored B) +ℤ support d C
      far d = support-mirrored d (grown B C) ∙ grown-reach B C b c (opposite d)
          ∙ ap₂ (λ y z. y +ℤ z) (sym (support-mirrored d B)) (ap (λ (v : Point). support v C) (opposite-opposite d))

  -- the cart may as well be added to the shape as taken from the obstacle
  moved : (p q r : Point) → p ⊕ q ⊕ r ≡ p ⊕ (r ⊕ q)
  moved p q r = ap₂ point (ring (p.x ∷ q.x ∷ r.x ∷ []) (search reify depth 40) tt)
      (ring (p.y ∷ q.y ∷ r.y ∷ []) (search reify depth 40) tt)

  pub grown-spans : {A : List Point} {e f : Extent} → Reaches A C e → Extends B f → Spans A (grown B C) e f
  grown-spans {A} x y = record {
    ahead = ap₂ ◌⊕◌ x.high_is y.low-is ∙ moved (highest A) (highest C) (highest (mirrored B))
        ∙ ap (λ p. highest A ⊕ p) (sym grown-lowest);
    behind = ap₂ ◌⊕◌ x.low-is y.high_is ∙ moved (highest (mirrored A)) (highest (mirrored C)) (highest B)
        ∙ ap (λ p. highest (mirrored A) ⊕ p) (sym grown-highest);
  }
