-- Apart: a direction in which all of the first list is strictly below all of the second.
--     value-difference, differences-some               the value of a difference; there are some
--     difference-member, member-difference             the points of differences A B are the a ⊕ opposite b (`DifferenceOf`)
--     differences-shape                                their shape is the sum of the one and of the mirror image of the other
--     Separated A B                                    such a direction
--     apart→direction, direction→apart                 A and B are apart exactly if there is one
--     apart-shape_of                                    apart, by the shape of the differences
--     apart-sym                                        it does not matter which is the first
--     inside→not-apart                                 a list inside another is not apart from it
-- Lists have a point: 0 < length.
use Rattle.std.specs.Prelude.{◌≡◌, refl, Bool, true, false, List, [], ◌∷◌, ◌<◌, ◌+ℤ◌, ◌-ℤ◌, length, ◌<ℤ◌}
use Rattle.std.proofs.Common.{sym, ◌∙◌, arith}
use Rattle.std.proofs.Math.Path.{ap}
use Rattle.std.proofs.Math.Bool.{not}
use mathlib.Core.List.Memᴰ
use Rattle.std.proofs.lemmas.Bool.{not-true}
use Rattle.integer.specs.Linear.{linear, lia, ◌&◌}
use Rattle.plane.specs.Point.{Point, origin, opposite, ◌⊕◌, ◌∈◌}
use Rattle.plane.specs.Shape.{IsShape}
use Rattle.plane.specs.Direction.{value, support}
use Rattle.plane.specs.Corner.{shape_of, sums, mirrored}
use Rattle.plane.specs.Separation.{inside, differences, apart}
use Rattle.plane.proofs.theory.lists.Sought.{tests_agree}
use Rattle.plane.proofs.theory.lists.Members.{sums-member, member-sums, mirrored-member, member-mirrored, sums-some, mirrored-some}
use Rattle.plane.proofs.theory.forms.Vector.{value-⊕, value-opposite, value-turned, value-origin, turned_lt}
use Rattle.plane.proofs.theory.support.Support.{support-attained, support-sums}
use Rattle.plane.proofs.theory.hull.ShapeOf.{shape_of-support, shape_of-shape, shape-known}
use Rattle.plane.specs.VectorSum.{vector_sum}
use Rattle.plane.proofs.theory.sum.EdgeSum.{vector_sum-shape}
use Rattle.separation.specs.theory.Inside.{inside→reach, Beyond, outside→direction, direction→outside, inside-shape_of}

-- ---- differences

pub value-difference : (d a b : Point) → value d (a ⊕ opposite b) ≡ value d a -ℤ value d b
value-difference d a b = value-⊕ d a (opposite b) ∙ ap (λ z. value d a +ℤ z) (value-opposite d b)

pub differences-some : (A B : List Point) → 0 < length A → 0 < length B → 0 < length (differences A B)
differences-some A B a b = sums-some A (mirrored B) a (mirrored-some B b)

pub difference-member : {p q : Point} {A B : List Point} → p ∈ A → q ∈ B → (p ⊕ opposite q) ∈ differences A B
difference-member m n = sums-member m (mirrored-member n)

-- p as a point of A less a point of B
pub record DifferenceOf (A B : List Point) (p : Point) : Type 0 where
  pub left : Point
  pub right : Point
  pub left_in : left ∈ A
  pub right-in : right ∈ B
  pub is-difference : p ≡ left ⊕ opposite right

pub member-difference : {p : Point} (A B : List Point) → p ∈ differences A B → DifferenceOf A B p
member-difference A B m =
    let s = member-sums A (mirrored B) m in
    let r = member-mirrored B s.right-in in
    record {
      left = s.left;
      right = r.0;
      left_in = s.left_in;
      right-in = r.1;
      is-difference = s.is_sum ∙ ap (λ z. s.left ⊕ z) (sym r.2);
    }

-- both reach as far as A and the mirrored points of B together
pub differences-shape : (A B : List Point) → IsShape A → 0 < length B → vector_sum A (shape_of (mirrored B)) ≡ shape_of (differences A B)
differences-shape A B s b = vector_sum-shape A M s t
    ∙ shape-known (shape_of (sums A M)) (differences A B) (shape_of-shape (sums A M) some) (differences-some A B s.some b) reach
  where
    M : List Point
    M = shape_of (mirrored B)

    t : IsShape M
    t = shape_of-shape (mirrored B) (mirrored-some B b)

    some : 0 < length (sums A M)
    some = sums-some A M s.some t.some

    reach : (d : Point) → support d (shape_of (sums A M)) ≡ support d (differences A B)
    reach d = shape_of-support (sums A M) some d ∙ support-sums d A M s.some t.some
        ∙ ap (λ z. support d A +ℤ z) (shape_of-support (mirrored B) (mirrored-some B b) d)
        ∙ sym (support-sums d A (mirrored B) s.some (mirrored-some B b))

-- ---- apart, by a direction

pub record Separated (A B : List Point) : Type 0 where
  pub direction : Point
  pub below : (a b : Point) → a ∈ A → b ∈ B → value direction a <ℤ value direction b

module _ (A B : List Point) (a : 0 < length A) (b : 0 < length B) where
  -- the origin is beyond all differences: they have a value below 0
  pub apart→direction : apart A B ≡ true → Separated A B
  unfolding apart
  apart→direction h = record { direction = s.direction; below = below }
    where
      s : Beyond (origin ∷ []) (differences A B)
      s = outside→direction (origin ∷ []) (differences A B) (omega arith) (differences-some A B a b)
          (not-true (inside (origin ∷ []) (differences A B)) h)

      below : (p q : Point) → p ∈ A → q ∈ B → value s.direction p <ℤ value s.direction q
      below p q m n =
          let d = s.direction in
          let zero-value = ap (value d) (Memᴰ.eq_of_singleton s.at_in) ∙ value-origin d in
          lia (value d p ∷ value d q ∷ value d (p ⊕ opposite q) ∷ value d s.at ∷ [])
          (s.beyond _ (difference-member m n) & zero-value & value-difference d p q) (search linear depth 40) (omega arith)

  pub direction→apart : Separated A B → apart A B ≡ true
  unfolding apart
  direction→apart s = ap not (direction→outside (origin ∷ []) (differences A B) (omega arith) (differences-some A B a b)
      (record { direction = s.direction; at = origin; at_in = Memᴰ.head refl; beyond = λ q m. negative q (member-difference A B m) }))
    where
      negative : (q : Point) → DifferenceOf A B q → value s.direction q <ℤ value s.direction origin
      negative q r =
          let d = s.direction in
          lia (value d r.left ∷ value d r.right ∷ value d q ∷ value d origin ∷ [])
          (s.below r.left r.right r.left_in r.right-in & value-origin d
          & ap (value d) r.is-difference ∙ value-difference d r.left r.right) (search linear depth 40) (omega arith)

  pub apart-shape_of : apart A B ≡ not (inside (origin ∷ []) (shape_of (differences A B)))
  unfolding apart
  apart-shape_of = ap not (sym (inside-shape_of (origin ∷ []) (differences A B) (omega arith) (differences-some A B a b)))

-- ---- consequences

-- the direction turned round
separated-sym : {A B : List Point} → Separated A B → Separated B A
separated-sym s = record {
  direction = opposite s.direction;
  below = λ q p m n. turned_lt s.direction p q (s.below p q n m);
}

pub apart-sym : (A B : List Point) → 0 < length A → 0 < length B → apart A B ≡ apart B A
apart-sym A B a b = tests_agree (apart A B) (apart B A)
    (λ h. direction→apart B A b a (separated-sym (apart→direction A B a b h)))
    (λ h. direction→apart A B a b (separated-sym (apart→direction B A b a h)))

-- the point of B that is lowest in the direction would be below the lowest of A
pub inside→not-apart : (A B : List Point) → 0 < length A → 0 < length B → inside A B ≡ true → apart A B ≡ false
inside→not-apart A B a b h = go (apart A B) refl
  where
    go : (t : Bool) → apart A B ≡ t → t ≡ false
    go false e = refl
    go true e =
        let s = apart→direction A B a b e in
        let d = s.direction in
        let p = support-attained (opposite d) A a in
        let q = support-attained (opposite d) B b in
        absurd (lia (value d p.at ∷ value d q.at ∷ support (opposite d) A ∷ support (opposite d) B ∷ [])
        (s.below p.at q.at p.at_in q.at_in & inside→reach A B a b h (opposite d)
        & sym (value-turned d p.at) ∙ p.at_value & sym (value-turned d q.at) ∙ q.at_value) (search linear depth 40) (omega arith))
