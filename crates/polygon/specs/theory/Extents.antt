-- How far corners reach, and what it says of a sum.
--     Reached ps i p                     p is as high as the first i of the points; `reached-start`, `-more`, `-end`: its moves
--     mirrored-start, -more, -end        the same of the opposites
--     extends-small                      its points may be added
--     far-sum                            a sum is out of range exactly if one of the two sums of the highest points is
use Rattle.std.specs.Prelude.{◌≡◌, refl, Bool, true, false, ◌||◌, List, [], ◌∷◌, ◌++◌, ◌⊎◌, ℕ, ◌+◌, ◌^◌, ◌≤◌, ◌<◌, ℤ, pos, neg_ℤ, ◌+ℤ◌}
use Rattle.std.specs.Prelude.{length, take, ◌≤ℤ◌}
use Rattle.std.proofs.Math.Path.{sym, ap₂}
use Rattle.std.proofs.Common.{◌∙◌, ap, subst, inl, inr, le_trans, add-one, arith, lit≤, take-suc, take_all, length-take-le}
use Rattle.std.proofs.lemmas.List.{length-map}
use Rattle.std.proofs.Math.ListN.{get_or-map}
use Rattle.integer.specs.Ring.{ring, reify}
use Rattle.integer.specs.Linear.{lia, linear, ◌&◌}
use Rattle.integer.specs.Bound.{Within, within-widen, within-neg, within-le, within_of}
use Rattle.plane.specs.Limits.{max_coordinate, coordinate-small}
use Rattle.plane.specs.Point.{Point, point, points, numbers, corner, origin, opposite, ◌∈◌, ◌⊕◌}
use Rattle.plane.specs.Direction.{value, greater, support}
use Rattle.plane.specs.Corner.{shape_of, sums, mirrored}
use Rattle.plane.specs.Refusal.{InRange, outside, some_outside}
use Rattle.plane.proofs.theory.lists.Flat.{Near, points_near, numbers-in_range, points-numbers}
use Rattle.plane.proofs.theory.lists.Greater.{greater-either}
use Rattle.plane.proofs.theory.lists.Sought.{either-false}
use Rattle.plane.proofs.theory.lists.Members.{sums-some, mirrored-some, member-mirrored, mirrored-member, position-member, member-position}
use Rattle.plane.proofs.theory.support.Support.{support-one, value-le-support, support-attained}
use Rattle.plane.proofs.theory.support.Support.{support-append, support-sums, support-mirrored}
use Rattle.plane.proofs.theory.hull.ShapeOf.{shape_of-support, shape_of-shape}
use Rattle.plane.proofs.theory.refusals.Accept.{near→within, within→near, near→in_range, in_range→near}
use Rattle.polygon.specs.declared.extent.Extent.{Extent}
use Rattle.polygon.specs.Point.{at, Small}
use Rattle.polygon.specs.Extent.{upper_of, highest, Extends, is_out}

-- the two directions
abbrev right : Point
right = point (pos 1) (pos 0)

abbrev up : Point
up = point (pos 0) (pos 1)

value-right : (p : Point) → value right p ≡ p.x
unfolding value
value-right p = ring (p.x ∷ p.y ∷ []) (search reify depth 40) tt

value-up : (p : Point) → value up p ≡ p.y
unfolding value
value-up p = ring (p.x ∷ p.y ∷ []) (search reify depth 40) tt

-- ---- the points one after the other

pub record Reached (ps : List Point) (i : ℕ) (p : Point) : Type 0 where
  pub some : 0 < i
  pub within : i ≤ length ps
  pub is : p ≡ highest (take i ps)
  pub small : Small (2 ^ 21) p

highest-one : (p : Point) → highest (p ∷ []) ≡ p
unfolding highest
highest-one p = ap₂ point (support-one right p ∙ value-right p) (support-one up p ∙ value-up p)

highest-append : (A : List Point) (p : Point) → 0 < length A → highest (A ++ (p ∷ [])) ≡ upper_of (highest A) p
unfolding highest
highest-append A p h = ap₂ point
    (support-append right A (p ∷ []) h (omega arith) ∙ ap (greater (support right A)) (support-one right p ∙ value-right p))
    (support-append up A (p ∷ []) h (omega arith) ∙ ap (greater (support up A)) (support-one up p ∙ value-up p))

within-greater : {n : ℕ} {x y : ℤ} → Within n x → Within n y → Within n (greater x y)
within-greater {n} {x} {y} h k = go (greater-either x y)
  where
    go : (greater x y ≡ x) ⊎ (greater x y ≡ y) → Within n (greater x y)
    go (inl e) = subst (λ z. Within n z) (sym e) h
    go (inr e) = subst (λ z. Within n z) (sym e) k

pub reached-start : (ps : List Point) → 0 < length ps → {p : Point} → p ≡ corner ps 0 → Small (2 ^ 21) p → Reached ps 1 p
reached-start ps h {p} e s = record {
  some = omega arith;
  within = h;
  is = e ∙ sym (highest-one (corner ps 0)) ∙ ap highest (sym (take-suc ps 0 origin h));
  small = s;
}

pub reached-more : (ps : List Point) {i : ℕ} {p q r : Point} → Reached ps i p → i < length ps → q ≡ corner ps i → Small (2 ^ 21) q
    → r ≡ upper_of p q → Reached ps (i + 1) r
reached-more ps {i} {p} {q} {r} s h e k u = record {
  some = omega arith;
  within = omega arith;
  is = u ∙ ap₂ upper_of s.is e ∙ sym (highest-append (take i ps) (corner ps i) (omega (arith, s.some, length-take-le i ps s.within)))
      ∙ ap highest (sym (take-suc ps i origin h) ∙ ap (λ n. take n ps) (sym (add-one i)));
  small = subst (Small (2 ^ 21)) (sym u) (record {
    small-x = within-greater s.small.small-x k.small-x;
    small-y = within-greater s.small.small-y k.small-y;
  });
}

pub reached-end : (ps : List Point) {i : ℕ} {p : Point} → Reached ps i p → length ps ≤ i → p ≡ highest ps
reached-end ps {i} s h = s.is ∙ ap highest (take_all i ps h)

-- the same of the opposites
pub mirrored-start : (ps : List Point) → 0 < length ps → {p : Point} → p ≡ opposite (corner ps 0) → Small (2 ^ 21) p
    → Reached (mirrored ps) 1 p
mirrored-start ps h e s = reached-start (mirrored ps) (mirrored-some ps h) (e ∙ sym (get_or-map opposite ps 0 origin)) s

pub mirrored-more : (ps : List Point) {i : ℕ} {p q r : Point} → Reached (mirrored ps) i p → i < length ps → q ≡ opposite (corner ps i)
    → Small (2 ^ 21) q → r ≡ upper_of p q → Reached (mirrored ps) (i + 1) r
mirrored-more ps s h e k u =
    reached-more (mirrored ps) s (omega (arith, length-map ps opposite)) (e ∙ sym (get_or-map opposite ps _ origin)) k u

pub mirrored-end : (ps : List Point) {i : ℕ} {p : Point} → Reached (mirrored ps) i p → length ps ≤ i → p ≡ highest (mirrored ps)
mirrored-end ps s h = reached-end (mirrored ps) s (omega (arith, length-map ps opposite))

-- ---- in range

abbrev AllNear : List Point → Type 0
AllNear ps = (p : Point) → p ∈ ps → Near p

near-highest : (ps : List Point) → 0 < length ps → AllNear ps → Near (highest ps)
unfolding highest
near-highest ps some f =
    let a = support-attained right ps some in
    let b = support-attained up ps some in record {
      near-x = subst (λ z. Within max_coordinate z) (sym (value-right a.at) ∙ a.at_value) (f a.at a.at_in).near-x;
      near-y = subst (λ z. Within max_coordinate z) (sym (value-up b.at) ∙ b.at_value) (f b.at b.at_in).near-y;
    }

near-mirrored : (ps : List Point) → AllNear ps → AllNear (mirrored ps)
near-mirrored ps f p m =
    let r = member-mirrored ps m in
    let near = f r.0 r.1 in
    subst Near r.2 (record { near-x = within-neg near.near-x; near-y = within-neg near.near-y })

-- a coordinate between two that are in range is in range
within-between : {n : ℕ} {z h l : ℤ} → z ≤ℤ h → neg_ℤ z ≤ℤ l → Within n h → Within n l → Within n z
within-between {n} {z} {h} {l} a b u v = within_of
    (lia (z ∷ l ∷ pos n ∷ []) (b & within-le v) (search linear depth 40) (omega arith))
    (lia (z ∷ h ∷ pos n ∷ []) (a & within-le u) (search linear depth 40) (omega arith))

near-under : (ps : List Point) → Near (highest ps) → Near (highest (mirrored ps)) → AllNear ps
unfolding highest
near-under ps h l p m =
    let other = mirrored-member m in record {
      near-x = within-between (rw (← value-right p) (value-le-support right m))
          (rw (← value-right (opposite p)) (value-le-support right other)) h.near-x l.near-x;
      near-y = within-between (rw (← value-up p) (value-le-support up m))
          (rw (← value-up (opposite p)) (value-le-support up other)) h.near-y l.near-y;
    }

list-near : (l : List ℤ) → InRange l → AllNear (points l)
list-near l r p m = let k = member-position m in subst Near k.2 (points_near l r k.0 k.1)

near-small : {p : Point} → Near p → Small (2 ^ 21) p
near-small n =
    let wide = le_trans coordinate-small (lit≤ tt) in
    record { small-x = within-widen wide n.near-x; small-y = within-widen wide n.near-y }

pub extends-small : (l : List ℤ) → InRange l → 0 < length (points l) → {e : Extent} → Extends (points l) e
    → Small (2 ^ 21) (at e.high) × Small (2 ^ 21) (at e.low)
extends-small l r some x =
    let near = list-near l r in (
      subst (Small (2 ^ 21)) (sym x.high_is) (near-small (near-highest (points l) some near)),
      subst (Small (2 ^ 21)) (sym x.low-is)
          (near-small (near-highest (mirrored (points l)) (mirrored-some (points l) some) (near-mirrored (points l) near))),
    )

-- ---- the test

out→near : (p : Point) → is_out p ≡ false → Near p
out→near p h =
    let r = either-false (outside p.x) (outside p.y) h in
    record { near-x = near→within p.x r.0; near-y = near→within p.y r.1 }

near→out : {p : Point} → Near p → is_out p ≡ false
near→out {p} n = rw (within→near p.x n.near-x, within→near p.y n.near-y)

-- two tests that fail together are equal
fail-together : (s t : Bool) → (s ≡ false → t ≡ false) → (t ≡ false → s ≡ false) → s ≡ t
fail-together false t f g = sym (f refl)
fail-together true true f g = refl
fail-together true false f g = g refl

-- corners are out of range exactly if their highest point is, or that of their opposites
far-own : (ps : List Point) → 0 < length ps → some_outside (numbers ps) ≡ (is_out (highest ps) || is_out (highest (mirrored ps)))
far-own ps some = fail-together _ _
    (λ h.
    let near = subst AllNear (points-numbers ps) (list-near (numbers ps) (near→in_range (numbers ps) h)) in
    rw (near→out (near-highest ps some near), near→out (near-highest (mirrored ps) (mirrored-some ps some) (near-mirrored ps near))))
    (λ h.
    let r = either-false (is_out (highest ps)) (is_out (highest (mirrored ps))) h in
    let near = near-under ps (out→near _ r.0) (out→near _ r.1) in
    in_range→near (numbers ps) (numbers-in_range ps (λ k b. near _ (position-member ps k b))))

-- ---- sums

module _ (A B : List Point) (h : 0 < length A) (k : 0 < length B) where
  abbrev S : List Point
  S = sums A B

  shape-some : 0 < length (shape_of S)
  shape-some = (shape_of-shape S (sums-some A B h k)).some

  high_sum : (d : Point) → support d (shape_of S) ≡ support d A +ℤ support d B
  high_sum d = shape_of-support S (sums-some A B h k) d ∙ support-sums d A B h k

  low_sum : (d : Point) → support d (mirrored (shape_of S)) ≡ support d (mirrored A) +ℤ support d (mirrored B)
  low_sum d = support-mirrored d (shape_of S) ∙ high_sum (opposite d)
      ∙ ap₂ (λ x y. x +ℤ y) (sym (support-mirrored d A)) (sym (support-mirrored d B))

  pub far-sum : {e f : Extent} → Extends A e → Extends B f
      → (is_out (at e.high ⊕ at f.high) || is_out (at e.low ⊕ at f.low)) ≡ some_outside (numbers (shape_of S))
  unfolding highest
  far-sum x y = ap₂ (λ p q. is_out p || is_out q)
      (ap₂ ◌⊕◌ x.high_is y.high_is ∙ sym (ap₂ point (high_sum right) (high_sum up)))
      (ap₂ ◌⊕◌ x.low-is y.low-is ∙ sym (ap₂ point (low_sum right) (low_sum up)))
      ∙ sym (far-own (shape_of S) shape-some)
