-- How two shapes relate, by the origin against the edges of their differences.
--     origin_in-inside         the numbers of `origin_in` say whether the origin is outside a shape, on its rim or inside
--     origin_in-relation        of the differences of two lists: the relation
--     refuted               a test that cannot pass
use Rattle.std.specs.Prelude.{◌≡◌, refl, Bool, true, false, not, cond, ◌||◌, ◌&&◌, List, [], ◌∷◌, ℕ, ◌<◌, ltb, ℤ, pos, nat_abs, length}
use Rattle.std.specs.Prelude.{◌≤ℤ◌}
use Rattle.std.proofs.Common.{◌∙◌, ap, arith, ltb-true, ltb-false}
use Rattle.std.specs.Int.Signed.{le_z, clash_ℤ}
use Rattle.integer.specs.Linear.{linear, lia, ◌&◌}
use Rattle.integer.specs.Order.{lt_z-true, lt_z-false, le_z-true, le_z-false, le_of_eq}
use Rattle.plane.specs.Point.{Point, origin, corner}
use Rattle.plane.specs.Turn.{cross}
use Rattle.plane.specs.Search.{some}
use Rattle.plane.specs.Shape.{next, IsShape}
use Rattle.plane.specs.Direction.{value}
use Rattle.plane.specs.Corner.{shape_of}
use Rattle.plane.specs.Separation.{inside, differences, apart, not_left, on_rim, touching, relation_number}
use Rattle.plane.proofs.theory.lists.Members.{point-discrete}
use Rattle.plane.proofs.theory.lists.Sought.{some-witness, some-none}
use Rattle.plane.proofs.theory.forms.Vector.{cross-swap, value-origin, square-positive}
use Rattle.plane.proofs.theory.hull.ShapeOf.{shape_of-shape}
use Rattle.separation.specs.theory.Apart.{differences-some, apart-shape_of}
use Rattle.separation.specs.theory.InsideShape.{polygon-origin→crosses, polygon-crosses→origin, segment-origin→opposed}
use Rattle.separation.specs.theory.InsideShape.{segment-opposed→origin, point-inside→equal, point-equal→inside}
use Rattle.separation.specs.Around.{cross_at, right_of, origin_on, origin_in}

-- ---- the origin against a shape

pub refuted : (t : Bool) → (t ≡ true → ⊥) → t ≡ false
refuted true f = absurd (f refl)
refuted false f = refl

-- the answer for a point or a segment, by the test of its value
few-number : (t : Bool) {v : ℤ} → (v ≤ℤ pos 0 → t ≡ true) → (t ≡ true → v ≤ℤ pos 0)
    → cond (le_z v (pos 0)) (pos 1) (pos 0) ≡ cond (not t) (pos 0) (pos 1)
few-number t {v} f g = go (le_z v (pos 0)) refl
  where
    go : (u : Bool) → le_z v (pos 0) ≡ u → cond u (pos 1) (pos 0) ≡ cond (not t) (pos 0) (pos 1)
    go true e = rw (f (le_z-true e))
    go false e = rw (refuted t (λ h. clash_ℤ (le_z-false e) (g h)))

point-origin : (p : Point) → value p p ≤ℤ pos 0 → p ≡ origin
point-origin p h = go (point-discrete p origin)
  where
    go : Dec (p ≡ origin) → p ≡ origin
    go (yes e) = e
    go (no n) = clash_ℤ (square-positive p (record { non_zero = n })) h

origin-point : (p : Point) → p ≡ origin → value p p ≤ℤ pos 0
origin-point p e = le_of_eq (ap (value p) e ∙ value-origin p)

module _ (D : List Point) (s : IsShape D) where
  right→outside : some (right_of D) (length D) ≡ true → inside (origin ∷ []) D ≡ false
  unfolding right_of cross_at
  right→outside h =
      let r = some-witness (right_of D) (length D) h in
      refuted (inside (origin ∷ []) D) (λ k. clash_ℤ (lt_z-true r.2) (polygon-origin→crosses D s k r.0 r.1))

  no-right : some (right_of D) (length D) ≡ false → (e : ℕ) → e < length D → pos 0 ≤ℤ cross (corner D e) (corner D (next (length D) e))
  unfolding right_of cross_at
  no-right h e l = lt_z-false (some-none (right_of D) (length D) h e l)

few-origin : (D : List Point) → IsShape D → ((e : ℕ) → e < length D → pos 0 ≤ℤ cross (corner D e) (corner D (next (length D) e)))
    → length D < 3 → cond (origin_on D) (pos 1) (pos 0) ≡ cond (not (inside (origin ∷ []) D)) (pos 0) (pos 1)
unfolding origin_on
few-origin [] s f h = absurd (omega (arith, s.some))
few-origin (p ∷ []) s f h = few-number (inside (origin ∷ []) (p ∷ []))
    (λ v. point-equal→inside p origin (point-origin p v)) (λ k. origin-point p (point-inside→equal p origin k))
few-origin (p ∷ (q ∷ [])) s f h =
    let level : cross p q ≡ pos 0 = lia (cross p q ∷ cross q p ∷ []) (f 0 (omega arith) & f 1 (omega arith) & cross-swap p q)
    (search linear depth 40) (omega arith) in
    few-number (inside (origin ∷ []) (p ∷ q ∷ [])) (segment-opposed→origin p q level) (λ k. (segment-origin→opposed p q k).1)
few-origin (p ∷ (q ∷ (r ∷ D))) s f h = absurd (omega arith)

pub origin_in-inside : (D : List Point) → IsShape D
    → origin_in D ≡ cond (not (inside (origin ∷ []) D)) (pos 0) (cond (on_rim D) (pos 1) (pos 2))
unfolding origin_in on_rim
origin_in-inside D s = go (some (right_of D) (length D)) refl (ltb (length D) 3) refl
  where
    go : (t : Bool) → some (right_of D) (length D) ≡ t → (u : Bool) → ltb (length D) 3 ≡ u
        → cond t (pos 0) (cond u (cond (origin_on D) (pos 1) (pos 0)) (cond (some (not_left D) (length D)) (pos 1) (pos 2)))
        ≡ cond (not (inside (origin ∷ []) D)) (pos 0) (cond (u || some (not_left D) (length D)) (pos 1) (pos 2))
    go true e u f = rw (right→outside D s e)
    go false e true f = few-origin D s (no-right D s e) (ltb-true (length D) 3 f)
    go false e false f =
        rw (polygon-crosses→origin D s (ltb-false (length D) 3 f) (no-right D s e))

-- ---- the relation

pub origin_in-relation : (A B : List Point) → 0 < length A → 0 < length B → origin_in (shape_of (differences A B)) ≡ relation_number A B
unfolding relation_number touching
origin_in-relation A B a b = origin_in-inside D (shape_of-shape (differences A B) (differences-some A B a b))
    ∙ rw (apart-shape_of A B a b) (go (inside (origin ∷ []) D) (on_rim D))
  where
    D : List Point
    D = shape_of (differences A B)

    go : (t r : Bool) → cond (not t) (pos 0) (cond r (pos 1) (pos 2)) ≡ cond (not t) (pos 0) (cond (not (not t) && r) (pos 1) (pos 2))
    go true r = refl
    go false r = refl

-- apart is the number 0
pub related-apart : (A B : List Point) → pos 0 ≡ relation_number A B → apart A B ≡ true
unfolding relation_number
related-apart A B h = go (apart A B) (touching A B) h
  where
    go : (t r : Bool) → pos 0 ≡ cond t (pos 0) (cond r (pos 1) (pos 2)) → t ≡ true
    go true r k = refl
    go false true k = absurd (lia [] k (search linear depth 40) (omega arith))
    go false false k = absurd (lia [] k (search linear depth 40) (omega arith))

pub related-not-apart : (A B : List Point) {n : ℕ} → 0 < n → pos n ≡ relation_number A B → apart A B ≡ false
unfolding relation_number
related-not-apart A B {n} l h = go (apart A B) (touching A B) h
  where
    go : (t r : Bool) → pos n ≡ cond t (pos 0) (cond r (pos 1) (pos 2)) → t ≡ false
    go false r k = refl
    go true r k = absurd (let e : n ≡ 0 = ap nat_abs k in omega arith)
