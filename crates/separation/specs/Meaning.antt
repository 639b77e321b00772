-- What relation and inside mean, in document 01's words. Each theorem is proved in the theory; here it is only cited.
--     inside         by the greatest values in all directions; an order of shapes; by the merge; against a point, a segment, a polygon
--     relation       apart, touching and overlapping, by directions; either shape may be the first
--     the replies    to two shapes on one floor each number is answered exactly if the paper's sentence for it holds
-- Lists of corners have a corner: 0 < length.
use Rattle.std.specs.Prelude.{◌≡◌, true, false, List, [], ◌∷◌, ◌++◌, ◌↔◌, ℕ, ◌<◌, pos, length, ◌≤ℤ◌, ◌<ℤ◌}
use Rattle.plane.specs.Point.{Point, origin, corner, ◌⊖◌, ◌∈◌}
use Rattle.plane.specs.Turn.{turn}
use Rattle.plane.specs.Shape.{next, IsShape}
use Rattle.plane.specs.Direction.{value, support}
use Rattle.plane.specs.Corner.{shape_of}
use Rattle.plane.specs.Separation.{same_corners, inside, apart, touching}
use Rattle.plane.specs.Reply.{answered}
use Rattle.plane.specs.Floor.{Floored, corners, Same}
use Rattle.plane.specs.Question.{reply, ask_relation, ask_inside}
use Rattle.separation.specs.Directions.{IsApart, IsTouching, IsOverlapping}
use Rattle.separation.specs.theory.Inside.{same_corners→equal, equal→same_corners, inside→reach, reach→inside, outside→direction}
use Rattle.separation.specs.theory.Inside.{inside-refl, inside-trans, inside-antisym, inside→merge, merge→inside}
use Rattle.separation.specs.theory.InsideShape.{inside→each, each→inside, polygon-inside→left, polygon-left→inside}
use Rattle.separation.specs.theory.InsideShape.{segment-inside→between, segment-between→inside}
use Rattle.separation.specs.theory.InsideShape.{point-inside→equal, point-equal→inside}
use Rattle.separation.specs.theory.Apart.{apart→direction, direction→apart, apart-sym, inside→not-apart}
use Rattle.separation.specs.theory.Rim.{touching→direction, touching→not-apart, direction→touching, touching-sym, overlapping→crossed}
use Rattle.separation.specs.theory.Replies.{relation-apart, relation-touching, relation-overlapping, inside-yes, inside-no}

-- ---- inside

-- "Two shapes are equal if they have as many corners and the same numbers in the same order": the test says so
pub same-corners-are-equal : (A B : List Point) → same_corners A B ≡ true → A ≡ B
same-corners-are-equal A B h = same_corners→equal A B h

-- and passes for all equal lists
pub equal-lists-have-same-corners : (A B : List Point) → A ≡ B → same_corners A B ≡ true
equal-lists-have-same-corners A B e = equal→same_corners A B e

module _ (A B : List Point) (a : 0 < length A) (b : 0 < length B) where
  -- "Inside: yes exactly if in every whole-number direction the first's greatest value is at most the second's"
  pub inside-reaches-no-further : inside A B ≡ true → (d : Point) → support d A ≤ℤ support d B
  inside-reaches-no-further h = inside→reach A B a b h

  -- "exactly if": and then it is yes
  pub reaching-no-further-is-inside : ((d : Point) → support d A ≤ℤ support d B) → inside A B ≡ true
  reaching-no-further-is-inside f = reach→inside A B a b f

  -- and no: in some direction a corner of the first is beyond all of the second
  pub outside-in-some-direction : inside A B ≡ false
      → (d : Point) × (p : Point) × p ∈ A × ((q : Point) → q ∈ B → value d q <ℤ value d p)
  outside-in-some-direction h = let r = outside→direction A B a b h in (r.direction, r.at, r.at_in, r.beyond)

  -- a list is inside if each of its corners is
  pub inside-by-corners : ((p : Point) → p ∈ A → inside (p ∷ []) B ≡ true) → inside A B ≡ true
  inside-by-corners f = each→inside A B b a f

  -- only then
  pub corners-of-inside : inside A B ≡ true → (p : Point) → p ∈ A → inside (p ∷ []) B ≡ true
  corners-of-inside h p m = inside→each A B b h p m

-- "S inside itself: yes"
pub inside-itself : (A : List Point) → 0 < length A → inside A A ≡ true
inside-itself A a = inside-refl A a

-- what is inside a shape that is inside a third is inside the third: "at most" in every direction
pub inside-of-inside : (A B C : List Point) → 0 < length A → 0 < length B → 0 < length C
    → inside A B ≡ true → inside B C ≡ true → inside A C ≡ true
inside-of-inside A B C a b c h k = inside-trans A B C a b c h k

-- both ways only for equal shapes
pub inside-both-ways : (A B : List Point) → IsShape A → IsShape B → inside A B ≡ true → inside B A ≡ true → A ≡ B
inside-both-ways A B s t h k = inside-antisym A B s t h k

-- "Merge: the shape of both corner lists taken together": inside a shape is what adds nothing to it
pub merged-with-inside : (A B : List Point) → IsShape B → inside A B ≡ true → shape_of (A ++ B) ≡ B
merged-with-inside A B s h = inside→merge A B s h

-- and what adds nothing is inside
pub inside-if-merged-alike : (A B : List Point) → IsShape B → shape_of (A ++ B) ≡ B → inside A B ≡ true
inside-if-merged-alike A B s e = merge→inside A B s e

module _ (D : List Point) (s : IsShape D) (x : Point) where
  -- in a polygon: "every other corner lies strictly to the left" of an edge, and what is inside lies to the left of it or on its line
  pub inside-polygon-is-left : inside (x ∷ []) D ≡ true
      → (e : ℕ) → e < length D → pos 0 ≤ℤ turn (corner D e) (corner D (next (length D) e)) x
  inside-polygon-is-left h = polygon-inside→left D s x h

  -- and what lies so against every edge is inside: "for every edge from a corner to the next (the last goes to the first)"
  pub left-is-inside-polygon : 2 < length D
      → ((e : ℕ) → e < length D → pos 0 ≤ℤ turn (corner D e) (corner D (next (length D) e)) x) → inside (x ∷ []) D ≡ true
  left-is-inside-polygon three f = polygon-left→inside D s x three f

module _ (p q x : Point) where
  -- in "a segment": on its line, and the steps to its ends do not point the same way
  pub inside-segment-is-between : inside (x ∷ []) (p ∷ q ∷ []) ≡ true → (turn p q x ≡ pos 0) × (value (p ⊖ x) (q ⊖ x) ≤ℤ pos 0)
  inside-segment-is-between h = segment-inside→between p q x h

  -- and all that is so is inside
  pub between-is-inside-segment : turn p q x ≡ pos 0 → value (p ⊖ x) (q ⊖ x) ≤ℤ pos 0 → inside (x ∷ []) (p ∷ q ∷ []) ≡ true
  between-is-inside-segment e h = segment-between→inside p q x e h

-- in "a point": equal to it
pub inside-point-is-equal : (p x : Point) → inside (x ∷ []) (p ∷ []) ≡ true → p ≡ x
inside-point-is-equal p x h = point-inside→equal p x h

-- and what is equal to it is inside
pub equal-is-inside-point : (p x : Point) → p ≡ x → inside (x ∷ []) (p ∷ []) ≡ true
equal-is-inside-point p x e = point-equal→inside p x e

-- ---- relation

module _ (A B : List Point) (a : 0 < length A) (b : 0 < length B) where
  -- ""apart" if in some whole-number direction every corner of the first has a value strictly less than every corner of the second"
  pub apart-in-some-direction : apart A B ≡ true → (d : Point) × ((p q : Point) → p ∈ A → q ∈ B → value d p <ℤ value d q)
  apart-in-some-direction h = let r = apart→direction A B a b h in (r.direction, r.below)

  -- one such direction is enough
  pub direction-sets-apart : (d : Point) → ((p q : Point) → p ∈ A → q ∈ B → value d p <ℤ value d q) → apart A B ≡ true
  direction-sets-apart d f = direction→apart A B a b (record { direction = d; below = f })

  -- "otherwise": what touches is not apart
  pub touching-is-not-apart : touching A B ≡ true → apart A B ≡ false
  touching-is-not-apart h = touching→not-apart A B a b h

  -- ""touching" if in some direction other than (0,0) less or equal holds"
  pub touching-in-some-direction : touching A B ≡ true
      → (d : Point) × (d ≡ origin → ⊥) × ((p q : Point) → p ∈ A → q ∈ B → value d p ≤ℤ value d q)
  touching-in-some-direction h = let r = touching→direction A B a b h in (r.direction, r.non_zero.non_zero, r.no_above)

  -- one such direction is enough, if they are not apart
  pub direction-makes-touching : apart A B ≡ false → (d : Point) → (d ≡ origin → ⊥)
      → ((p q : Point) → p ∈ A → q ∈ B → value d p ≤ℤ value d q) → touching A B ≡ true
  direction-makes-touching h d n f =
      direction→touching A B a b h (record { direction = d; non_zero = record { non_zero = n }; no_above = f })

  -- "otherwise "overlapping"": in every direction other than (0,0) some corner of the first is above one of the second
  pub overlapping-in-every-direction : apart A B ≡ false → touching A B ≡ false → (d : Point) → (d ≡ origin → ⊥)
      → (p : Point) × (q : Point) × p ∈ A × q ∈ B × (value d q <ℤ value d p)
  overlapping-in-every-direction h k d n =
      let r = overlapping→crossed A B a b h k d (record { non_zero = n }) in (r.above, r.under, r.above_in, r.under-in, r.crosses)

  -- "every corner of the first .. every corner of the second": in the opposite direction the other way round
  pub apart-either-way : apart A B ≡ apart B A
  apart-either-way = apart-sym A B a b

  -- likewise "less or equal", in the opposite direction
  pub touching-either-way : touching A B ≡ touching B A
  touching-either-way = touching-sym A B a b

  -- a shape inside another is not apart from it
  pub inside-is-not-apart : inside A B ≡ true → apart A B ≡ false
  inside-is-not-apart h = inside→not-apart A B a b h

-- ---- the replies

-- two valid shapes on one floor
module _ (a b : Floored) (s : Same a b) where
  -- "Relation": 0 is answered exactly if "in some whole-number direction every corner of the first has a value strictly less .."
  pub apart-is-answered-exactly : reply (ask_relation a b) ≡ answered (pos 0 ∷ pos a.floor ∷ []) ↔ IsApart (corners a) (corners b)
  apart-is-answered-exactly = relation-apart a b s

  -- "otherwise "touching" if in some direction other than (0,0) less or equal holds"
  pub touching-is-answered-exactly : reply (ask_relation a b) ≡ answered (pos 1 ∷ pos a.floor ∷ []) ↔ IsTouching (corners a) (corners b)
  touching-is-answered-exactly = relation-touching a b s

  -- "otherwise "overlapping""
  pub overlapping-is-answered-exactly :
      reply (ask_relation a b) ≡ answered (pos 2 ∷ pos a.floor ∷ []) ↔ IsOverlapping (corners a) (corners b)
  overlapping-is-answered-exactly = relation-overlapping a b s

  -- "Inside: yes exactly if in every whole-number direction the first's greatest value is at most the second's"
  pub inside-is-answered-exactly : reply (ask_inside a b) ≡ answered (pos 1 ∷ pos a.floor ∷ [])
      ↔ ((d : Point) → support d (corners a) ≤ℤ support d (corners b))
  inside-is-answered-exactly = inside-yes a b s

  -- no exactly if in some direction it is greater
  pub outside-is-answered-exactly : reply (ask_inside a b) ≡ answered (pos 0 ∷ pos a.floor ∷ [])
      ↔ ((d : Point) × (support d (corners b) <ℤ support d (corners a)))
  outside-is-answered-exactly = inside-no a b s
