-- A point inside a point, a segment or a polygon, as a walk round the corners decides it.
--     inside→each, each→inside                           a list is inside exactly if each of its points is
--     polygon-inside→left, polygon-left→inside           x is inside a polygon exactly if it is to the right of no edge
--     segment-inside→between, segment-between→inside     inside a segment: on its line, and not beyond an end
--     point-inside→equal, point-equal→inside             inside a point: equal to it
--     turn-origin                                        the turn of the origin is the cross product of the two corners
--     polygon-origin→crosses, polygon-crosses→origin     the origin inside a polygon
--     segment-origin→opposed, segment-opposed→origin     the origin inside a segment
use Rattle.std.specs.Prelude.{◌≡◌, refl, true, List, [], ◌∷◌, ℕ, ◌<◌, pos, ◌+ℤ◌, ◌-ℤ◌, ◌*ℤ◌, length, ◌≤ℤ◌, ◌<ℤ◌}
use Rattle.std.proofs.Common.{sym, ◌∙◌, true≢false, arith}
use mathlib.Core.List.Memᴰ
use Rattle.std.specs.Int.Signed.{≤ℤ_refl, <ℤ_irrefl}
use Rattle.integer.specs.Ring.{ring, reify}
use Rattle.integer.specs.Linear.{linear, lia, ◌&◌}
use Rattle.integer.specs.Order.{◌<×<◌, ◌<×≤◌, ◌≡×◌, contra≤, le_trans, le_antisym, square-nonneg}
use Rattle.plane.specs.Point.{Point, origin, corner, ◌⊕◌, ◌⊖◌, opposite, ◌∈◌}
use Rattle.plane.specs.Turn.{cross, turn, turn-swap}
use Rattle.plane.specs.Shape.{next, IsShape}
use Rattle.plane.specs.Direction.{value, support}
use Rattle.plane.specs.Separation.{inside}
use Rattle.plane.specs.Forms.{NonZero}
use Rattle.plane.specs.Cut.{outward}
use Rattle.plane.proofs.theory.lists.Members.{point-discrete, member-some}
use Rattle.plane.proofs.theory.forms.Vector.{⊖-zero, turn_level, square-positive}
use Rattle.plane.proofs.theory.support.Support.{value-le-support, support-le}
use Rattle.separation.specs.theory.Inside.{inside→reach, reach→inside, direction→outside, inside-refl}
use Rattle.separation.specs.theory.Sector.{value-outward, edge-outermost, left→reached}

-- ---- one point

module _ (D : List Point) (some : 0 < length D) (x : Point) where
  inside→reached : inside (x ∷ []) D ≡ true → (d : Point) → value d x ≤ℤ support d D
  inside→reached h d = le_trans (value-le-support d (Memᴰ.head refl)) (inside→reach (x ∷ []) D (omega arith) some h d)

  reached→inside : ((d : Point) → value d x ≤ℤ support d D) → inside (x ∷ []) D ≡ true
  reached→inside f = reach→inside (x ∷ []) D (omega arith) some (λ d. support-le d (x ∷ []) (omega arith)
      (λ q m. rw (Memᴰ.eq_of_singleton m) (f d)))

  -- no direction has x beyond D
  not_beyond : inside (x ∷ []) D ≡ true → (d : Point) → ((q : Point) → q ∈ D → value d q <ℤ value d x) → ⊥
  not_beyond h d f = true≢false (sym h ∙ direction→outside (x ∷ []) D (omega arith) some
      (record { direction = d; at = x; at_in = Memᴰ.head refl; beyond = f }))

  -- x is not to the right of a line that D is not to the right of
  outermost→left : inside (x ∷ []) D ≡ true → (a b : Point)
      → ((q : Point) → q ∈ D → value (outward a b) q ≤ℤ value (outward a b) a) → pos 0 ≤ℤ turn a b x
  outermost→left h a b f = lia (value (outward a b) x ∷ value (outward a b) a ∷ turn a b x ∷ [])
      (value-outward a b x & le_trans (inside→reached h (outward a b)) (support-le (outward a b) D some f))
      (search linear depth 40) (omega arith)

module _ (A B : List Point) (b : 0 < length B) where
  pub inside→each : inside A B ≡ true → (p : Point) → p ∈ A → inside (p ∷ []) B ≡ true
  inside→each h p m = reached→inside B b p (λ d. le_trans (value-le-support d m) (inside→reach A B (member-some m) b h d))

  pub each→inside : 0 < length A → ((p : Point) → p ∈ A → inside (p ∷ []) B ≡ true) → inside A B ≡ true
  each→inside a f = reach→inside A B a b (λ d. support-le d A a (λ p m. inside→reached B b p (f p m) d))

-- ---- a polygon

module _ (D : List Point) (s : IsShape D) (x : Point) where
  pub polygon-inside→left : inside (x ∷ []) D ≡ true
      → (e : ℕ) → e < length D → pos 0 ≤ℤ turn (corner D e) (corner D (next (length D) e)) x
  polygon-inside→left h e k = outermost→left D s.some x h (corner D e) (corner D (next (length D) e)) (edge-outermost D s e k)

  pub polygon-left→inside : 2 < length D
      → ((e : ℕ) → e < length D → pos 0 ≤ℤ turn (corner D e) (corner D (next (length D) e)) x) → inside (x ∷ []) D ≡ true
  polygon-left→inside three f = reached→inside D s.some x (λ d. left→reached D s three d x f)

-- ---- a segment

outward-level : (a b : Point) → value (outward a b) b ≤ℤ value (outward a b) a
outward-level a b = lia (value (outward a b) b ∷ value (outward a b) a ∷ turn a b b ∷ []) (value-outward a b b & turn_level a b)
    (search linear depth 40) (omega arith)

module _ (p q x : Point) where
  -- in the direction against both steps from x
  ends-below : pos 0 <ℤ value (p ⊖ x) (q ⊖ x)
      → (value (opposite (p ⊖ x ⊕ (q ⊖ x))) p <ℤ value (opposite (p ⊖ x ⊕ (q ⊖ x))) x)
      × (value (opposite (p ⊖ x ⊕ (q ⊖ x))) q <ℤ value (opposite (p ⊖ x ⊕ (q ⊖ x))) x)
  unfolding value
  ends-below g = lia (p.x ∷ p.y ∷ q.x ∷ q.y ∷ x.x ∷ x.y ∷ []) (g & square-nonneg (p.x -ℤ x.x) & square-nonneg (p.y -ℤ x.y)
      & square-nonneg (q.x -ℤ x.x) & square-nonneg (q.y -ℤ x.y)) (search linear depth 40) (omega arith)

  pub segment-inside→between : inside (x ∷ []) (p ∷ q ∷ []) ≡ true → (turn p q x ≡ pos 0) × (value (p ⊖ x) (q ⊖ x) ≤ℤ pos 0)
  segment-inside→between h = (le_antisym right left, contra≤ between)
    where
      both : (P : Point → Type 0) → P p → P q → (r : Point) → r ∈ (p ∷ q ∷ []) → P r
      both P a b r (Memᴰ.head e) = rw e a
      both P a b r (Memᴰ.tail m) = rw (Memᴰ.eq_of_singleton m) b

      left : pos 0 ≤ℤ turn p q x
      left = outermost→left (p ∷ q ∷ []) (omega arith) x h p q
          (both (λ r. value (outward p q) r ≤ℤ value (outward p q) p) (≤ℤ_refl (value (outward p q) p)) (outward-level p q))

      back : pos 0 ≤ℤ turn q p x
      back = outermost→left (p ∷ q ∷ []) (omega arith) x h q p
          (both (λ r. value (outward q p) r ≤ℤ value (outward q p) q) (outward-level q p) (≤ℤ_refl (value (outward q p) q)))

      right : turn p q x ≤ℤ pos 0
      right = lia (turn q p x ∷ turn p q x ∷ []) (back & turn-swap p q x) (search linear depth 40) (omega arith)

      between : pos 0 <ℤ value (p ⊖ x) (q ⊖ x) → ⊥
      between g =
          let d = opposite (p ⊖ x ⊕ (q ⊖ x)) in
          not_beyond (p ∷ q ∷ []) (omega arith) x h d (both (λ r. value d r <ℤ value d x) (ends-below g).0 (ends-below g).1)

  -- the step to q, by the step to p: on one line the step across has no part
  on_line : (d : Point) → (value d q -ℤ value d x) *ℤ value (p ⊖ x) (p ⊖ x)
      ≡ (value d p -ℤ value d x) *ℤ value (p ⊖ x) (q ⊖ x) +ℤ turn p q x *ℤ cross (p ⊖ x) d
  unfolding value turn cross
  on_line d = ring (d.x ∷ d.y ∷ p.x ∷ p.y ∷ q.x ∷ q.y ∷ x.x ∷ x.y ∷ []) (search reify depth 40) tt

  -- were x beyond both ends, the steps to them would be on the same side
  pub segment-between→inside : turn p q x ≡ pos 0 → value (p ⊖ x) (q ⊖ x) ≤ℤ pos 0 → inside (x ∷ []) (p ∷ q ∷ []) ≡ true
  segment-between→inside e w = reached→inside (p ∷ q ∷ []) (omega arith) x (λ d. contra≤ (λ g. beyond d
      (after d (Memᴰ.head refl) g) (after d (Memᴰ.tail (Memᴰ.head refl)) g)))
    where
      after : (d : Point) {r : Point} → r ∈ (p ∷ q ∷ []) → support d (p ∷ q ∷ []) <ℤ value d x → value d r <ℤ value d x
      after d {r} m g = lia (value d r ∷ value d x ∷ support d (p ∷ q ∷ []) ∷ []) (g & value-le-support d m)
          (search linear depth 40) (omega arith)

      step : (d : Point) → value d p <ℤ value d x → NonZero (p ⊖ x)
      step d h = record { non_zero = λ k. <ℤ_irrefl (rw (⊖-zero x p k) at h) }

      beyond : (d : Point) → value d p <ℤ value d x → value d q <ℤ value d x → ⊥
      beyond d h k = lia
          (value d p ∷ value d q ∷ value d x ∷ value (p ⊖ x) (p ⊖ x) ∷ value (p ⊖ x) (q ⊖ x) ∷ turn p q x ∷ cross (p ⊖ x) d ∷ [])
          (on_line d & e ≡× cross (p ⊖ x) d & h <×≤ w & k <×< square-positive (p ⊖ x) (step d h)) (search linear depth 40) (omega arith)

-- ---- a point

-- in the direction from p to x
point-below : (p x : Point) → NonZero (x ⊖ p) → value (x ⊖ p) p <ℤ value (x ⊖ p) x
unfolding value
point-below p x n = lia (p.x ∷ p.y ∷ x.x ∷ x.y ∷ []) (square-positive (x ⊖ p) n) (search linear depth 40) (omega arith)

pub point-inside→equal : (p x : Point) → inside (x ∷ []) (p ∷ []) ≡ true → p ≡ x
point-inside→equal p x h = go (point-discrete p x)
  where
    go : Dec (p ≡ x) → p ≡ x
    go (yes e) = e
    go (no n) = absurd (not_beyond (p ∷ []) (omega arith) x h (x ⊖ p)
        (λ q m. rw (Memᴰ.eq_of_singleton m) (point-below p x (record { non_zero = λ k. n (⊖-zero p x k) }))))

pub point-equal→inside : (p x : Point) → p ≡ x → inside (x ∷ []) (p ∷ []) ≡ true
point-equal→inside p x e = rw e (inside-refl (x ∷ []) (omega arith))

-- ---- the origin

pub turn-origin : (p q : Point) → turn p q origin ≡ cross p q
unfolding turn cross
turn-origin p q = ring (p.x ∷ p.y ∷ q.x ∷ q.y ∷ []) (search reify depth 40) tt

value-from-origin : (p q : Point) → value (p ⊖ origin) (q ⊖ origin) ≡ value p q
unfolding value
value-from-origin p q = ring (p.x ∷ p.y ∷ q.x ∷ q.y ∷ []) (search reify depth 40) tt

module _ (D : List Point) (s : IsShape D) where
  pub polygon-origin→crosses : inside (origin ∷ []) D ≡ true
      → (e : ℕ) → e < length D → pos 0 ≤ℤ cross (corner D e) (corner D (next (length D) e))
  polygon-origin→crosses h e k = rw turn-origin at (polygon-inside→left D s origin h e k)

  pub polygon-crosses→origin : 2 < length D
      → ((e : ℕ) → e < length D → pos 0 ≤ℤ cross (corner D e) (corner D (next (length D) e))) → inside (origin ∷ []) D ≡ true
  polygon-crosses→origin three f = polygon-left→inside D s origin three (λ e k. rw turn-origin (f e k))

pub segment-origin→opposed : (p q : Point) → inside (origin ∷ []) (p ∷ q ∷ []) ≡ true → (cross p q ≡ pos 0) × (value p q ≤ℤ pos 0)
segment-origin→opposed p q h =
    let r = segment-inside→between p q origin h in
    (sym (turn-origin p q) ∙ r.0, rw value-from-origin at r.1)

pub segment-opposed→origin : (p q : Point) → cross p q ≡ pos 0 → value p q ≤ℤ pos 0 → inside (origin ∷ []) (p ∷ q ∷ []) ≡ true
segment-opposed→origin p q e h = segment-between→inside p q origin (turn-origin p q ∙ e) (rw value-from-origin h)
