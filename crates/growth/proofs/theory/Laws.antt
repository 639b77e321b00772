-- Larger carts, more obstacles, two carts: each is a line of arithmetic on how far the shapes reach.
--     grown-larger-cart, grown-larger-obstacle     a larger cart, or a larger obstacle, makes a larger grown obstacle
--     grown-merge                                  growing obstacles together is growing each
--     grown-twice                                  growing by one outline and then by another is growing by the shape of their sum
--     grown-cancel                                 obstacles that grow alike are equal
--     grown-shape_of                                the shapes of two sets may stand for them
-- Lists have a point: 0 < length.
use Rattle.std.specs.Prelude.{◌≡◌, true, List, [], ◌∷◌, ◌++◌, ◌<◌, ◌+ℤ◌, length}
use Rattle.std.proofs.Common.{sym, ◌∙◌, ap, ap₂, arith, length-append}
use Rattle.std.proofs.Math.IntN.{+ℤ_assoc}
use Rattle.integer.specs.Linear.{linear, lia, ◌&◌}
use Rattle.plane.specs.Point.{Point, opposite}
use Rattle.plane.specs.Shape.{IsShape}
use Rattle.plane.specs.Direction.{support, greater}
use Rattle.plane.specs.Corner.{shape_of, sums}
use Rattle.plane.specs.Separation.{inside}
use Rattle.plane.proofs.theory.lists.Members.{sums-some}
use Rattle.plane.proofs.theory.lists.Greater.{greater-plus}
use Rattle.plane.proofs.theory.support.Support.{support-append, support-sums}
use Rattle.plane.proofs.theory.hull.ShapeOf.{shape_of-support, shape_of-shape, shape-extensional}
use Rattle.separation.specs.theory.Inside.{inside→reach, reach→inside, inside-refl}
use Rattle.growth.specs.Grown.{grown}
use Rattle.growth.proofs.theory.Places.{grown-some, grown-shape, grown-reach, grown-known}

-- ---- larger

module _ (B C A D : List Point) (b : 0 < length B) (c : 0 < length C) (a : 0 < length A) (e : 0 < length D) where
  grown-larger : inside B C ≡ true → inside A D ≡ true → inside (grown B A) (grown C D) ≡ true
  grown-larger h k = reach→inside (grown B A) (grown C D) (grown-some B A b a) (grown-some C D c e)
      (λ d. lia (support d (grown B A) ∷ support d (grown C D) ∷ support d B ∷ support d C ∷ support (opposite d) A
      ∷ support (opposite d) D ∷ []) (grown-reach B A b a d & grown-reach C D c e d & inside→reach B C b c h d
      & inside→reach A D a e k (opposite d)) (search linear depth 40) (omega arith))

pub grown-larger-cart : (B A C : List Point) → 0 < length B → 0 < length A → 0 < length C → inside A C ≡ true
    → inside (grown B A) (grown B C) ≡ true
grown-larger-cart B A C b a c h = grown-larger B B A C b b a c (inside-refl B b) h

pub grown-larger-obstacle : (B C A : List Point) → 0 < length B → 0 < length C → 0 < length A → inside B C ≡ true
    → inside (grown B A) (grown C A) ≡ true
grown-larger-obstacle B C A b c a h = grown-larger B C A A b c a a h (inside-refl A a)

-- ---- obstacles together

module _ (B C A : List Point) (b : 0 < length B) (c : 0 < length C) (a : 0 < length A) where
  pub grown-merge : grown (B ++ C) A ≡ shape_of (grown B A ++ grown C A)
  grown-merge = sym (grown-known (B ++ C) A (omega (arith, length-append B C)) a (shape_of S) (shape_of-shape S some)
      (λ d. shape_of-support S some d ∙ support-append d (grown B A) (grown C A) (grown-some B A b a) (grown-some C A c a)
      ∙ ap₂ greater (grown-reach B A b a d) (grown-reach C A c a d)
      ∙ sym (greater-plus (support d B) (support d C) (support (opposite d) A))
      ∙ ap (λ z. z +ℤ support (opposite d) A) (sym (support-append d B C b c))))
    where
      S : List Point
      S = grown B A ++ grown C A

      some : 0 < length S
      some = omega (arith, length-append (grown B A) (grown C A), grown-some B A b a)

-- ---- sets and their shapes

module _ (B A : List Point) (b : 0 < length B) (a : 0 < length A) where
  outline-some : 0 < length (shape_of A)
  outline-some = (shape_of-shape A a).some

  grown-outline : grown B (shape_of A) ≡ grown B A
  grown-outline = grown-known B A b a (grown B (shape_of A)) (grown-shape B (shape_of A) b outline-some)
      (λ d. grown-reach B (shape_of A) b outline-some d ∙ ap (λ z. support d B +ℤ z) (shape_of-support A a (opposite d)))

  grown-obstacle : grown (shape_of B) A ≡ grown B A
  grown-obstacle = let some = (shape_of-shape B b).some in grown-known B A b a (grown (shape_of B) A) (grown-shape (shape_of B) A some a)
      (λ d. grown-reach (shape_of B) A some a d ∙ ap (λ z. z +ℤ support (opposite d) A) (shape_of-support B b d))

pub grown-shape_of : (B A : List Point) → 0 < length B → 0 < length A → grown (shape_of B) (shape_of A) ≡ grown B A
grown-shape_of B A b a = grown-obstacle B (shape_of A) b (outline-some B A b a) ∙ grown-outline B A b a

-- ---- two outlines

module _ (B A D : List Point) (b : 0 < length B) (a : 0 < length A) (e : 0 < length D) where
  grown-sums : grown (grown B A) D ≡ grown B (sums A D)
  grown-sums = grown-known B (sums A D) b (sums-some A D a e) (grown (grown B A) D) (grown-shape (grown B A) D (grown-some B A b a) e)
      (λ d. grown-reach (grown B A) D (grown-some B A b a) e d ∙ rw (grown-reach B A b a d, support-sums (opposite d) A D a e)
      (+ℤ_assoc (support d B) (support (opposite d) A) (support (opposite d) D)))

  pub grown-twice : grown (grown B A) D ≡ grown B (shape_of (sums A D))
  grown-twice = grown-sums ∙ sym (grown-outline B (sums A D) b (sums-some A D a e))

-- ---- back again

pub grown-cancel : (B C A : List Point) → IsShape B → IsShape C → 0 < length A → grown B A ≡ grown C A → B ≡ C
grown-cancel B C A s t a same = shape-extensional B C s t (λ d. lia (support d B ∷ support d C ∷ support (opposite d) A
    ∷ support d (grown B A) ∷ support d (grown C A) ∷ []) (grown-reach B A s.some a d & grown-reach C A t.some a d
    & ap (support d) same) (search linear depth 40) (omega arith))
