-- Touching: a direction other than (0,0) in which no point of the first list is above one of the second.
--     not_left-cross                            the test of an edge, by the cross product of its two corners
--     Below D, rim→below, below→rim            a shape has the origin on its rim or beyond exactly if some direction has no value above 0
--     Abutting A B                             such a direction for two lists
--     touching→direction, direction→touching   lists that are not apart touch exactly if there is one; `touching→not-apart`
--     touching-sym                             it does not matter which is the first
--     Crossed A B d, overlapping→crossed       neither apart nor touching: in each direction some point of A is above one of B
-- Lists have a point: 0 < length.
use Rattle.std.specs.Prelude.{◌≡◌, Bool, not, ◌&&◌, ◌||◌, ◌⊎◌, List, [], ◌∷◌, ℕ, ◌<◌, ltb, ℤ, pos, length, ◌≤ℤ◌, ◌<ℤ◌}
use Rattle.std.proofs.Math.Path.{refl}
use Rattle.std.proofs.Common.{sym, ◌∙◌, ap, true≢false, inl, inr, arith, ltb-true, ltb-false}
use Rattle.std.proofs.Math.Bool.{true, false}
use Rattle.std.proofs.lemmas.Bool.{false≢true}
use mathlib.Core.List.Memᴰ
use Rattle.std.specs.Int.Signed.{le_z}
use Rattle.integer.specs.Linear.{linear, lia, ◌&◌}
use Rattle.integer.specs.Order.{lt-or-le, le_trans, le_z-true, le_z-false}
use Rattle.plane.specs.Point.{Point, point, origin, corner, ◌⊕◌, opposite, ◌∈◌}
use Rattle.plane.specs.Turn.{cross, turn}
use Rattle.plane.specs.Search.{some}
use Rattle.plane.specs.Shape.{next, IsShape}
use Rattle.plane.specs.Direction.{value, support}
use Rattle.plane.specs.Corner.{shape_of}
use Rattle.plane.specs.Separation.{differences, apart, not_left, on_rim, touching}
use Rattle.plane.specs.Forms.{NonZero}
use Rattle.plane.specs.Cut.{outward}
use Rattle.plane.proofs.theory.lists.Members.{point-path}
use Rattle.plane.proofs.theory.lists.Sought.{some-witness, some-none}
use Rattle.plane.proofs.theory.forms.Vector.{value-origin, value-turned, turn_level, opposite-non-zero, turned_le}
use Rattle.plane.proofs.theory.support.Support.{value-le-support, support-attained, support-le}
use Rattle.plane.proofs.theory.hull.ShapeOf.{shape_of-support, shape_of-shape}
use Rattle.plane.proofs.theory.lists.Sought.{tests_agree}
use Rattle.separation.specs.theory.Apart.{value-difference, differences-some, difference-member, member-difference, DifferenceOf}
use Rattle.separation.specs.theory.Apart.{apart-sym}
use Rattle.separation.specs.theory.InsideShape.{turn-origin}
use Rattle.separation.specs.theory.Sector.{value-outward, edge-outermost, edge-nonzero, left→passed}

pub not_left-cross : (ps : List Point) (e : ℕ) → not_left ps e ≡ le_z (cross (corner ps e) (corner ps (next (length ps) e))) (pos 0)
unfolding not_left
not_left-cross ps e = rw turn-origin

-- ---- directions with no value above 0

pub record Below (D : List Point) : Type 0 where
  pub direction : Point
  pub non_zero : NonZero direction
  pub below : (q : Point) → q ∈ D → value direction q ≤ℤ pos 0

-- where all points have the same value, the direction or its opposite
level→below : (D : List Point) (d : Point) (v : ℤ) → NonZero d → ((q : Point) → q ∈ D → value d q ≡ v) → Below D
level→below D d v n f = go (lt-or-le v (pos 0))
  where
    go : (v <ℤ pos 0) ⊎ (pos 0 ≤ℤ v) → Below D
    go (inl h) = record {
      direction = d;
      non_zero = n;
      below = λ q m. lia (value d q ∷ v ∷ []) (f q m & h) (search linear depth 40) (omega arith);
    }
    go (inr h) = record {
      direction = opposite d;
      non_zero = opposite-non-zero n;
      below = λ q m. lia (value d q ∷ value (opposite d) q ∷ v ∷ []) (f q m & h & value-turned d q) (search linear depth 40) (omega arith);
    }

point→below : (p : Point) → Below (p ∷ [])
point→below p = level→below (p ∷ []) d (value d p) (record { non_zero = λ e. right (ap (λ (z : Point). z.x) e) })
    (λ q m. ap (value d) (Memᴰ.eq_of_singleton m))
  where
    d : Point
    d = point (pos 1) (pos 0)

    right : pos 1 ≡ pos 0 → ⊥
    right e = lia [] e (search linear depth 40) (omega arith)

-- across the segment
segment→below : (p q : Point) → (p ≡ q → ⊥) → Below (p ∷ q ∷ [])
segment→below p q n = level→below (p ∷ q ∷ []) (outward p q) (value (outward p q) p) (record { non_zero = λ e. n (same e) }) level
  where
    same : outward p q ≡ origin → p ≡ q
    same e = point-path
        (lia (p.x ∷ q.x ∷ []) (ap (λ (z : Point). z.y) e) (search linear depth 40) (omega arith))
        (lia (p.y ∷ q.y ∷ []) (ap (λ (z : Point). z.x) e) (search linear depth 40) (omega arith))

    level : (r : Point) → r ∈ (p ∷ q ∷ []) → value (outward p q) r ≡ value (outward p q) p
    level r (Memᴰ.head e) = ap (value (outward p q)) e
    level r (Memᴰ.tail m) = lia (value (outward p q) r ∷ value (outward p q) p ∷ value (outward p q) q ∷ turn p q q ∷ [])
        (ap (value (outward p q)) (Memᴰ.eq_of_singleton m) & value-outward p q q & turn_level p q)
        (search linear depth 40) (omega arith)

-- the outer normal of an edge that the origin is not to the left of
edge→below : (D : List Point) → IsShape D → 2 < length D → (e : ℕ) → e < length D → not_left D e ≡ true → Below D
unfolding not_left
edge→below D s three e h k = record { direction = outward a b; non_zero = edge-nonzero D s three e h; below = below (le_z-true k) }
  where
    a : Point
    a = corner D e

    b : Point
    b = corner D (next (length D) e)

    below : turn a b origin ≤ℤ pos 0 → (q : Point) → q ∈ D → value (outward a b) q ≤ℤ pos 0
    below t q m = lia (value (outward a b) q ∷ value (outward a b) a ∷ value (outward a b) origin ∷ turn a b origin ∷ [])
        (edge-outermost D s e h q m & value-outward a b origin & value-origin (outward a b) & t) (search linear depth 40) (omega arith)

few→below : (D : List Point) → IsShape D → length D < 3 → Below D
few→below [] s h = absurd (omega (arith, s.some))
few→below (p ∷ []) s h = point→below p
few→below (p ∷ (q ∷ [])) s h = segment→below p q (s.different refl)
few→below (p ∷ (q ∷ (r ∷ D))) s h = absurd (omega arith)

pub rim→below : (D : List Point) → IsShape D → on_rim D ≡ true → Below D
unfolding on_rim
rim→below D s h = go (ltb (length D) 3) refl (some (not_left D) (length D)) refl h
  where
    go : (t : Bool) → ltb (length D) 3 ≡ t → (u : Bool) → some (not_left D) (length D) ≡ u → (t || u) ≡ true → Below D
    go true e u f h = few→below D s (ltb-true (length D) 3 e)
    go false e false f h = absurd (false≢true h)
    go false e true f h =
        let found = some-witness (not_left D) (length D) f in
        edge→below D s (ltb-false (length D) 3 e) found.0 found.1 found.2

-- with the origin to the left of all edges, the shape would pass it in the direction
pub below→rim : (D : List Point) → IsShape D → Below D → on_rim D ≡ true
unfolding on_rim not_left
below→rim D s b = go (ltb (length D) 3) refl (some (not_left D) (length D)) refl
  where
    d : Point
    d = b.direction

    never : 2 < length D → ((e : ℕ) → e < length D → not_left D e ≡ false) → ⊥
    never three f = lia (value d origin ∷ support d D ∷ [])
        (left→passed D s three d origin b.non_zero (λ e h. le_z-false (f e h)) & support-le d D s.some b.below & value-origin d)
        (search linear depth 40) (omega arith)

    go : (t : Bool) → ltb (length D) 3 ≡ t → (u : Bool) → some (not_left D) (length D) ≡ u → (t || u) ≡ true
    go true e u f = refl
    go false e true f = refl
    go false e false f = absurd (never (ltb-false (length D) 3 e) (some-none (not_left D) (length D) f))

-- ---- touching, by a direction

pub record Abutting (A B : List Point) : Type 0 where
  pub direction : Point
  pub non_zero : NonZero direction
  pub no_above : (a b : Point) → a ∈ A → b ∈ B → value direction a ≤ℤ value direction b

-- a point of A that is above one of B in direction d
pub record Crossed (A B : List Point) (d : Point) : Type 0 where
  pub above : Point
  pub under : Point
  pub above_in : above ∈ A
  pub under-in : under ∈ B
  pub crosses : value d under <ℤ value d above

module _ (A B : List Point) (a : 0 < length A) (b : 0 < length B) where
  any : 0 < length (differences A B)
  any = differences-some A B a b

  -- the shape of the differences
  abbrev D : List Point
  D = shape_of (differences A B)

  reach→no-above : (d : Point) → support d (differences A B) ≤ℤ pos 0 → (p q : Point) → p ∈ A → q ∈ B → value d p ≤ℤ value d q
  reach→no-above d h p q m n = lia (value d p ∷ value d q ∷ value d (p ⊕ opposite q) ∷ support d (differences A B) ∷ [])
      (h & value-difference d p q & value-le-support d (difference-member m n)) (search linear depth 40) (omega arith)

  below→abutting : Below D → Abutting A B
  below→abutting r =
      let reach = support-le r.direction D (shape_of-shape (differences A B) any).some r.below in
      record {
        direction = r.direction;
        non_zero = r.non_zero;
        no_above = reach→no-above r.direction (rw (shape_of-support (differences A B) any r.direction) at reach);
      }

  abutting→below : Abutting A B → Below D
  abutting→below r = record { direction = d; non_zero = r.non_zero; below = λ q m. le_trans (value-le-support d m) reach }
    where
      d : Point
      d = r.direction

      each : (q : Point) → DifferenceOf A B q → value d q ≤ℤ pos 0
      each q s = lia (value d q ∷ value d s.left ∷ value d s.right ∷ [])
          (ap (value d) s.is-difference ∙ value-difference d s.left s.right
          & r.no_above s.left s.right s.left_in s.right-in) (search linear depth 40) (omega arith)

      reach : support d D ≤ℤ pos 0
      reach = rw (shape_of-support (differences A B) any d)
          (support-le d (differences A B) any (λ q m. each q (member-difference A B m)))

  pub touching→not-apart : touching A B ≡ true → apart A B ≡ false
  unfolding touching
  touching→not-apart h = go (apart A B) h
    where
      go : (t : Bool) → (not t && on_rim (shape_of (differences A B))) ≡ true → t ≡ false
      go true h = absurd (false≢true h)
      go false h = refl

  pub touching→direction : touching A B ≡ true → Abutting A B
  unfolding touching
  touching→direction h = below→abutting (rim→below D (shape_of-shape (differences A B) any) (go (apart A B) h))
    where
      go : (t : Bool) → (not t && on_rim (shape_of (differences A B))) ≡ true → on_rim (shape_of (differences A B)) ≡ true
      go true h = absurd (false≢true h)
      go false h = h

  pub direction→touching : apart A B ≡ false → Abutting A B → touching A B ≡ true
  unfolding touching
  direction→touching h r = rw h (below→rim D (shape_of-shape (differences A B) any) (abutting→below r))

  -- in each direction but (0,0) some difference has a value above 0
  pub overlapping→crossed : apart A B ≡ false → touching A B ≡ false → (d : Point) → NonZero d → Crossed A B d
  overlapping→crossed h k d n = go (lt-or-le (pos 0) (support d (differences A B)))
    where
      crossed : (q : Point) → DifferenceOf A B q → pos 0 <ℤ value d q → Crossed A B d
      crossed q s g = record {
        above = s.left;
        under = s.right;
        above_in = s.left_in;
        under-in = s.right-in;
        crosses = lia (value d q ∷ value d s.left ∷ value d s.right ∷ [])
            (g & ap (value d) s.is-difference ∙ value-difference d s.left s.right) (search linear depth 40) (omega arith);
      }

      go : (pos 0 <ℤ support d (differences A B)) ⊎ (support d (differences A B) ≤ℤ pos 0) → Crossed A B d
      go (inl g) =
          let top = support-attained d (differences A B) any in
          crossed top.at (member-difference A B top.at_in) (rw top.at_value g)
      go (inr g) =
          let touch = direction→touching h (record { direction = d; non_zero = n; no_above = reach→no-above d g }) in
          absurd (true≢false (sym touch ∙ k))

-- ---- either may be the first

abutting-sym : {A B : List Point} → Abutting A B → Abutting B A
abutting-sym r = record {
  direction = opposite r.direction;
  non_zero = opposite-non-zero r.non_zero;
  no_above = λ q p m n. turned_le r.direction p q (r.no_above p q n m);
}

pub touching-sym : (A B : List Point) → 0 < length A → 0 < length B → touching A B ≡ touching B A
touching-sym A B a b = tests_agree (touching A B) (touching B A) (turned A B a b) (turned B A b a)
  where
    turned : (A B : List Point) → 0 < length A → 0 < length B → touching A B ≡ true → touching B A ≡ true
    turned A B a b h = direction→touching B A b a (apart-sym B A b a ∙ touching→not-apart A B a b h)
        (abutting-sym (touching→direction A B a b h))
