-- Two pairs of shapes relate alike if the differences of the one reach as far as those of the other in every direction. Then all that is
-- asked of how the two relate to each other has the same answer.
--     Alike A B C D                     A is to B as C to D
--     differences-reach                 how far the differences reach
--     alike-apart, alike-touching       both pairs are apart, or touching, or neither
--     alike-relation                    relation answers the same number
--     alike-clearance                   of shapes apart, the clearance is the same fraction
--     alike-shape_of                     the shapes of two sets relate as the sets do
--     alike-lists                       and so do the corners that are read in the lists of their numbers
use Rattle.std.specs.Prelude.{◌≡◌, true, ◌&&◌, List, [], ◌∷◌, ◌<◌, ℤ, pos, ◌+ℤ◌, ◌*ℤ◌, length, ◌≤ℤ◌, ◌<ℤ◌}
use Rattle.std.proofs.Common.{sym, ◌∙◌, ap, subst, arith}
use Rattle.std.proofs.Math.Path.{ap₂}
use Rattle.std.proofs.Math.Bool.{not, cond}
use Rattle.integer.specs.Linear.{linear, lia, ◌&◌}
use Rattle.integer.specs.Order.{◌<×<◌, ◌<×≤◌, ◌≡×◌, contra≤, le_antisym}
use Rattle.plane.specs.Point.{Point, origin, points, numbers, opposite}
use Rattle.plane.specs.Shape.{IsShape}
use Rattle.plane.specs.Direction.{value, support}
use Rattle.plane.specs.Corner.{shape_of, mirrored}
use Rattle.plane.specs.Separation.{inside, differences, apart, on_rim, touching, relation_number}
use Rattle.plane.specs.Clearance.{top, bottom, nearest}
use Rattle.plane.proofs.theory.lists.Flat.{points-numbers}
use Rattle.plane.proofs.theory.lists.Members.{mirrored-some}
use Rattle.plane.proofs.theory.support.Support.{value-le-support, support-sums, support-mirrored}
use Rattle.plane.proofs.theory.hull.ShapeOf.{shape_of-support, shape_of-shape, shape-known}
use Rattle.plane.proofs.theory.forms.Vector.{square-positive, opposite-opposite}
use Rattle.separation.specs.theory.Apart.{differences-some, apart-shape_of}
use Rattle.clearance.specs.theory.Nearest.{nearest-is-whole}
use Rattle.strips.specs.Strip.{least, gap_in, Corridor}
use Rattle.strips.specs.OwnDirection.{towards}
use Rattle.strips.proofs.theory.Spread.{least-le-value}
use Rattle.strips.proofs.theory.Corridors.{corridor-no-wider, towards-corridor, towards-wide}

pub differences-reach : (A B : List Point) → 0 < length A → 0 < length B → (d : Point)
    → support d (differences A B) ≡ support d A +ℤ support (opposite d) B
differences-reach A B a b d =
    support-sums d A (mirrored B) a (mirrored-some B b) ∙ ap (λ z. support d A +ℤ z) (support-mirrored d B)

pub record Alike (A B C D : List Point) : Type 0 where
  pub first : 0 < length A
  pub second : 0 < length B
  pub third : 0 < length C
  pub fourth : 0 < length D
  pub reach : (d : Point) → support d A +ℤ support (opposite d) B ≡ support d C +ℤ support (opposite d) D

module _ (A B C D : List Point) (k : Alike A B C D) where
  -- ---- relation

  alike-shape : shape_of (differences A B) ≡ shape_of (differences C D)
  alike-shape = shape-known (shape_of (differences A B)) (differences C D) (shape_of-shape (differences A B) some)
      (differences-some C D k.third k.fourth) (λ d. shape_of-support (differences A B) some d
      ∙ differences-reach A B k.first k.second d ∙ k.reach d ∙ sym (differences-reach C D k.third k.fourth d))
    where
      some : 0 < length (differences A B)
      some = differences-some A B k.first k.second

  pub alike-apart : apart A B ≡ apart C D
  alike-apart = apart-shape_of A B k.first k.second ∙ ap (λ S. not (inside (origin ∷ []) S)) alike-shape
      ∙ sym (apart-shape_of C D k.third k.fourth)

  pub alike-touching : touching A B ≡ touching C D
  unfolding touching
  alike-touching = ap₂ (λ t S. not t && on_rim S) alike-apart alike-shape

  pub alike-relation : relation_number A B ≡ relation_number C D
  unfolding relation_number
  alike-relation = ap₂ (λ s t. cond s (pos 0) (cond t (pos 1) (pos 2))) alike-apart alike-touching

  -- ---- clearance

  -- in each direction the same gap lies between them
  alike-gap : (d : Point) → gap_in d A B ≡ gap_in d C D
  unfolding gap_in least
  alike-gap d =
      lia (support (opposite d) A ∷ support d B ∷ support (opposite d) C ∷ support d D ∷ [])
      (rw (opposite-opposite d) at (k.reach (opposite d))) (search linear depth 40) (omega arith)

-- g the gap and N the squared length of a direction, in which it is x/y and at most v/w
fraction-le : (g N x y v w : ℤ) → pos 0 <ℤ N → pos 0 <ℤ y → g *ℤ g *ℤ y ≡ x *ℤ N → (g *ℤ g *ℤ w) ≤ℤ (v *ℤ N)
    → (x *ℤ w) ≤ℤ (v *ℤ y)
fraction-le g N x y v w long whole at below = contra≤ (λ h. lia (g ∷ N ∷ x ∷ y ∷ v ∷ w ∷ [])
    (long <×< h & whole <×≤ below & at ≡× w) (search linear depth 40) (omega arith))

-- the strip across the step between the nearest points of A and B fits between C and D as well
module _ (A B C D : List Point) (k : Alike A B C D) (s : IsShape A) (t : IsShape B) (u : IsShape C) (v : IsShape D)
    (h : apart A B ≡ true) where
  clearance-le : (top A B (nearest A B) *ℤ bottom C D (nearest C D)) ≤ℤ (top C D (nearest C D) *ℤ bottom A B (nearest A B))
  unfolding gap_in
  clearance-le = fraction-le (gap_in m A B) (value m m) (top A B (nearest A B)) (bottom A B (nearest A B))
      (top C D (nearest C D)) (bottom C D (nearest C D))
      (square-positive m (record { non_zero = own.direction })) (nearest-is-whole A B s t h) (towards-wide A B s t h)
      (rw (alike-gap A B C D k m) (corridor-no-wider C D u v (sym (alike-apart A B C D k) ∙ h) m (support m D) (least m C) other))
    where
      m : Point
      m = towards A B (nearest A B)

      own : Corridor A B m (support m B) (least m A)
      own = towards-corridor A B s t h

      other : Corridor C D m (support m D) (least m C)
      other = record {
        direction = own.direction;
        wide = lia (support m B ∷ least m A ∷ support m D ∷ least m C ∷ []) (own.wide & alike-gap A B C D k m)
            (search linear depth 40) (omega arith);
        behind = λ p l. value-le-support m l;
        ahead = λ p l. least-le-value m C l;
      }

alike-sym : {A B C D : List Point} → Alike A B C D → Alike C D A B
alike-sym k = record { first = k.third; second = k.fourth; third = k.first; fourth = k.second; reach = λ d. sym (k.reach d) }

pub alike-clearance : (A B C D : List Point) → Alike A B C D → IsShape A → IsShape B → IsShape C → IsShape D → apart A B ≡ true
    → top A B (nearest A B) *ℤ bottom C D (nearest C D) ≡ top C D (nearest C D) *ℤ bottom A B (nearest A B)
alike-clearance A B C D k s t u v h = le_antisym (clearance-le A B C D k s t u v h)
    (clearance-le C D A B (alike-sym k) u v s t (sym (alike-apart A B C D k) ∙ h))

pub alike-shape_of : {A B C D : List Point} → Alike A B C D → Alike (shape_of A) B (shape_of C) D
alike-shape_of {A} {B} {C} {D} k = record {
  first = (shape_of-shape A k.first).some;
  second = k.second;
  third = (shape_of-shape C k.third).some;
  fourth = k.fourth;
  reach = λ d. rw (shape_of-support A k.first d, shape_of-support C k.third d) (k.reach d);
}

pub alike-lists : {A B C D : List Point} → Alike A B C D
    → Alike (points (numbers A)) (points (numbers B)) (points (numbers C)) (points (numbers D))
alike-lists {A} {B} {C} {D} k = subst (λ (T : Type 0). T)
    (λ i. Alike (sym (points-numbers A) i) (sym (points-numbers B) i) (sym (points-numbers C) i) (sym (points-numbers D) i)) k
