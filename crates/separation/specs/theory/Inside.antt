-- Inside, by how far the two lists reach.
--     same_corners→equal, equal→same_corners     the test of two lists of corners is their equality
--     inside→reach, reach→inside               A is inside B exactly if in every direction B reaches as far as A
--     Beyond A B, outside→direction            A is not inside B: a direction, and a point of A that is beyond all of B in it
--     direction→outside                        and back
--     inside-refl, inside-trans, inside-antisym      a partial order of shapes
--     inside→merge, merge→inside               A is inside the shape B exactly if both together have the shape B
--     inside-shape_of                           to be inside a set is to be inside its shape
-- Lists have a point: 0 < length. The origin inside a point, a segment, a polygon is in `InsideShape.antt`.
use Rattle.std.specs.Prelude.{◌≡◌, refl, Bool, true, false, ◌&&◌, ◌⊎◌, List, [], ◌∷◌, ◌++◌, ◌<◌, length, ◌≤ℤ◌, ◌<ℤ◌}
use Rattle.std.proofs.Math.Path.{sym}
use Rattle.std.proofs.Common.{◌∙◌, ap₂, true≢false, inl, inr, arith, length-append}
use Rattle.std.proofs.lemmas.Bool.{false≢true}
use mathlib.Core.List.Memᴰ
use Rattle.std.specs.Int.Signed.{≤ℤ_refl, clash_ℤ}
use Rattle.integer.specs.Order.{le_trans, le_antisym}
use Rattle.plane.specs.Point.{Point, same_point, ◌∈◌, ◌⊆◌}
use Rattle.plane.specs.Shape.{IsShape}
use Rattle.plane.specs.Direction.{value, support}
use Rattle.plane.specs.Corner.{Corner, shape_of}
use Rattle.plane.specs.Separation.{same_corners, inside}
use Rattle.plane.proofs.theory.lists.Sought.{tests_agree}
use Rattle.plane.proofs.theory.lists.Members.{point-discrete, same_point-equal, same_point-self}
use Rattle.plane.proofs.theory.support.Support.{value-le-support, support-attained, support-le, support-subset}
use Rattle.plane.proofs.theory.hull.Hull.{shape_of-nonempty}
use Rattle.plane.proofs.theory.hull.ShapeOf.{shape_of-support, shape_of-shape, shape_of-corner, shape-known, shape-own, shape-extensional}

-- ---- tests

pub equal→same_corners : (A B : List Point) → A ≡ B → same_corners A B ≡ true
equal→same_corners A B e = rw (← e) (itself A)
  where
    itself : (ps : List Point) → same_corners ps ps ≡ true
    itself [] = refl
    itself (p ∷ ps) = rw (same_point-self p) (itself ps)

pub same_corners→equal : (A B : List Point) → same_corners A B ≡ true → A ≡ B
same_corners→equal [] [] h = refl
same_corners→equal [] (b ∷ B) h = absurd (false≢true h)
same_corners→equal (a ∷ A) [] h = absurd (false≢true h)
same_corners→equal (a ∷ A) (b ∷ B) h = go (same_point a b) refl (same_corners→equal A B) h
  where
    go : (t : Bool) → same_point a b ≡ t → (same_corners A B ≡ true → A ≡ B) → (t && same_corners A B) ≡ true → a ∷ A ≡ b ∷ B
    go true e later h = ap₂ (λ p ps. p ∷ ps) (same_point-equal a b e) (later h)
    go false e later h = absurd (false≢true h)

-- ---- inside, by reach

module _ (A B : List Point) (a : 0 < length A) (b : 0 < length B) where
  together : 0 < length (A ++ B)
  together = omega (arith, length-append A B)

  -- both together reach as far as their shape, which is that of B
  pub inside→reach : inside A B ≡ true → (d : Point) → support d A ≤ℤ support d B
  unfolding inside
  inside→reach h d =
      let same = same_corners→equal (shape_of (A ++ B)) (shape_of B) h in
      let reach : support d (A ++ B) ≡ support d B =
      sym (shape_of-support (A ++ B) together d) ∙ rw same (shape_of-support B b d) in
      rw (← reach) (support-subset d a (λ p. Memᴰ.append_left B))

  pub reach→inside : ((d : Point) → support d A ≤ℤ support d B) → inside A B ≡ true
  unfolding inside
  reach→inside f = equal→same_corners (shape_of (A ++ B)) (shape_of B)
      (sym (shape-known (shape_of B) (A ++ B) (shape_of-shape B b) together (λ d. shape_of-support B b d ∙ le_antisym (more d) (less d))))
    where
      more : (d : Point) → support d B ≤ℤ support d (A ++ B)
      more d = support-subset d b (λ p. Memᴰ.append_right A)

      below : (d q : Point) → (q ∈ A) ⊎ (q ∈ B) → value d q ≤ℤ support d B
      below d q (inl m) = le_trans (value-le-support d m) (f d)
      below d q (inr m) = value-le-support d m

      less : (d : Point) → support d (A ++ B) ≤ℤ support d B
      less d = support-le d (A ++ B) together (λ q m. below d q (Memᴰ.append_cases A m))

-- ---- outside

-- a direction in which a point of A is beyond all points of B
pub record Beyond (A B : List Point) : Type 0 where
  pub direction : Point
  pub at : Point
  pub at_in : at ∈ A
  pub beyond : (q : Point) → q ∈ B → value direction q <ℤ value direction at

member-decided : (p : Point) (ps : List Point) → Dec (p ∈ ps)
member-decided p [] = no Memᴰ.not-nil
member-decided p (q ∷ ps) = go (point-discrete p q) (member-decided p ps)
  where
    other : (p ≡ q → ⊥) → (p ∈ ps → ⊥) → (p ≡ q) ⊎ (p ∈ ps) → ⊥
    other n k (inl e) = n e
    other n k (inr m) = k m

    go : Dec (p ≡ q) → Dec (p ∈ ps) → Dec (p ∈ (q ∷ ps))
    go (yes e) d = yes (Memᴰ.head e)
    go (no n) (yes m) = yes (Memᴰ.tail m)
    go (no n) (no k) = no (λ m. other n k (Memᴰ.cases_cons m))

-- all of A are in B, or one is not
subset-decided : (A B : List Point) → (A ⊆ B) ⊎ ((p : Point) × p ∈ A × (p ∈ B → ⊥))
subset-decided [] B = inl (λ p m. absurd (Memᴰ.not-nil m))
subset-decided (a ∷ A) B = go (member-decided a B) (subset-decided A B)
  where
    all : (p : Point) → a ∈ B → A ⊆ B → (p ≡ a) ⊎ (p ∈ A) → p ∈ B
    all p m f (inl e) = Memᴰ.cast e m
    all p m f (inr n) = f p n

    go : Dec (a ∈ B) → (A ⊆ B) ⊎ ((p : Point) × p ∈ A × (p ∈ B → ⊥)) → ((a ∷ A) ⊆ B) ⊎ ((p : Point) × p ∈ (a ∷ A) × (p ∈ B → ⊥))
    go (no n) r = inr (a, Memᴰ.head refl, n)
    go (yes m) (inl f) = inl (λ p n. all p m f (Memᴰ.cases_cons n))
    go (yes m) (inr r) = inr (r.0, Memᴰ.tail r.1, r.2)

module _ (A B : List Point) (a : 0 < length A) (b : 0 < length B) where
  -- some corner of both together is not in B: it is one of A, and beyond B in its own direction
  pub outside→direction : inside A B ≡ false → Beyond A B
  outside→direction h = go (subset-decided (shape_of (A ++ B)) B)
    where
      both : 0 < length (A ++ B)
      both = together A B a b

      reach : shape_of (A ++ B) ⊆ B → (d : Point) → support d A ≤ℤ support d B
      reach f d = le_trans (support-subset d a (λ p. Memᴰ.append_left B))
          (rw (← shape_of-support (A ++ B) both d) (support-subset d (shape_of-nonempty (A ++ B) both) f))

      from_first : (p : Point) → (p ∈ B → ⊥) → (p ∈ A) ⊎ (p ∈ B) → p ∈ A
      from_first p n (inl m) = m
      from_first p n (inr m) = absurd (n m)

      own : (p : Point) → Corner (A ++ B) p → (p ∈ B → ⊥) → Beyond A B
      own p c n = record {
        direction = c.direction;
        at = p;
        at_in = from_first p n (Memᴰ.append_cases A c.member);
        beyond = λ q m. c.strictly q (Memᴰ.append_right A m) (λ e. n (Memᴰ.cast (sym e) m));
      }

      go : (shape_of (A ++ B) ⊆ B) ⊎ ((p : Point) × p ∈ shape_of (A ++ B) × (p ∈ B → ⊥)) → Beyond A B
      go (inl f) = absurd (true≢false (sym (reach→inside A B a b (reach f)) ∙ h))
      go (inr r) = own r.0 (shape_of-corner (A ++ B) both r.1) r.2

  pub direction→outside : Beyond A B → inside A B ≡ false
  direction→outside s = go (inside A B) refl
    where
      go : (t : Bool) → inside A B ≡ t → t ≡ false
      go false h = refl
      go true h =
          let top = support-attained s.direction B b in
          let over = rw (← top.at_value) at (inside→reach A B a b h s.direction) in
          absurd (clash_ℤ (s.beyond top.at top.at_in) (le_trans (value-le-support s.direction s.at_in) over))

-- ---- an order

pub inside-refl : (A : List Point) → 0 < length A → inside A A ≡ true
inside-refl A a = reach→inside A A a a (λ d. ≤ℤ_refl (support d A))

pub inside-trans : (A B C : List Point) → 0 < length A → 0 < length B → 0 < length C
    → inside A B ≡ true → inside B C ≡ true → inside A C ≡ true
inside-trans A B C a b c h k = reach→inside A C a c (λ d. le_trans (inside→reach A B a b h d) (inside→reach B C b c k d))

pub inside-antisym : (A B : List Point) → IsShape A → IsShape B → inside A B ≡ true → inside B A ≡ true → A ≡ B
inside-antisym A B s t h k = shape-extensional A B s t
    (λ d. le_antisym (inside→reach A B s.some t.some h d) (inside→reach B A t.some s.some k d))

-- ---- inside and the shape of both together

pub inside→merge : (A B : List Point) → IsShape B → inside A B ≡ true → shape_of (A ++ B) ≡ B
unfolding inside
inside→merge A B s h = same_corners→equal (shape_of (A ++ B)) (shape_of B) h ∙ shape-own B s

pub merge→inside : (A B : List Point) → IsShape B → shape_of (A ++ B) ≡ B → inside A B ≡ true
unfolding inside
merge→inside A B s e = equal→same_corners (shape_of (A ++ B)) (shape_of B) (e ∙ sym (shape-own B s))

pub inside-shape_of : (A B : List Point) → 0 < length A → 0 < length B → inside A (shape_of B) ≡ inside A B
inside-shape_of A B a b = tests_agree (inside A (shape_of B)) (inside A B)
    (λ h. reach→inside A B a b (λ d. rw (shape_of-support B b d) at (inside→reach A (shape_of B) a some h d)))
    (λ h. reach→inside A (shape_of B) a some (λ d. rw (shape_of-support B b d) (inside→reach A B a b h d)))
  where
    some : 0 < length (shape_of B)
    some = shape_of-nonempty B b
