-- The cart at its places, and the obstacle grown by its outline.
--     grown-some, grown-shape, grown-reach     the grown obstacle is a shape; how far it reaches
--     grown-known                              a shape that reaches so far is the grown obstacle
--     placed-shape, placed-reach               moving a shape gives a shape; how far it reaches
--     place-alike                              the cart at t is to the obstacle as the point t to the grown obstacle
--     drive-alike                              the cart driving from t to u, as the segment from t to u
--     place-clearance, drive-clearance         of both the clearance is the same fraction
--     drive-met, met-drive                     a drive is not apart exactly if a point of its segment is one of the grown obstacle
--     driven-merge                             what it passes over is the shape of the cart at t and at u together
--     driven-passes                            and at each place on the way the cart is inside it
--     point-shape                              a point is a shape
--     point-apart, place_inside                a point is apart from a list exactly if it is not inside; so the cart at t
-- Both are one fact about all places of a list P: a + p - b is p - (b - a). Lists have a point: 0 < length.
use Rattle.std.specs.Prelude.{◌≡◌, refl, Bool, true, false, not, List, [], ◌∷◌, ◌++◌, ◌<◌, ◌+ℤ◌, ◌*ℤ◌, length, ◌<ℤ◌}
use Rattle.std.proofs.Math.Path.{sym}
use Rattle.std.proofs.Common.{◌∙◌, ap, ap₂, subst, arith, length-append}
use mathlib.Core.List.Memᴰ
use Rattle.integer.specs.Linear.{linear, lia, ◌&◌}
use Rattle.plane.specs.Point.{Point, opposite, ◌⊕◌}
use Rattle.plane.specs.Shape.{IsShape}
use Rattle.plane.specs.Direction.{value, support, greater}
use Rattle.plane.specs.Corner.{shape_of, sums}
use Rattle.plane.specs.Separation.{inside, differences, apart}
use Rattle.plane.specs.Mean.{CommonPoint}
use Rattle.plane.specs.Clearance.{top, bottom, nearest}
use Rattle.plane.specs.Forms.{edges_to, Sorted, InOrder}
use Rattle.plane.proofs.theory.lists.Members.{sums-some}
use Rattle.plane.proofs.theory.lists.Greater.{plus-greater}
use Rattle.plane.proofs.theory.forms.Standard.{shape→sorted, sorted→shape, ordered→shape}
use Rattle.plane.proofs.theory.support.Support.{support-append, support-sums, support-one}
use Rattle.plane.proofs.theory.hull.ShapeOf.{shape_of-support, shape_of-shape, shape-known}
use Rattle.plane.proofs.theory.forms.Vector.{opposite-opposite, step-moved}
use Rattle.separation.specs.theory.Inside.{inside→reach, reach→inside, outside→direction}
use Rattle.separation.specs.theory.Apart.{differences-some, direction→apart, apart-sym, inside→not-apart}
use Rattle.clearance.specs.theory.Nearest.{common-not-apart}
use Rattle.clearance.specs.theory.Common.{not-apart-common}
use Rattle.growth.specs.Grown.{grown, placed, driven}
use Rattle.growth.proofs.theory.Alike.{Alike, differences-reach, alike-apart, alike-clearance, alike-shape_of}

-- ---- the grown obstacle

module _ (B A : List Point) (b : 0 < length B) (a : 0 < length A) where
  pub grown-shape : IsShape (grown B A)
  unfolding grown
  grown-shape = shape_of-shape (differences B A) (differences-some B A b a)

  pub grown-some : 0 < length (grown B A)
  grown-some = grown-shape.some

  pub grown-reach : (d : Point) → support d (grown B A) ≡ support d B +ℤ support (opposite d) A
  unfolding grown
  grown-reach d = shape_of-support (differences B A) (differences-some B A b a) d ∙ differences-reach B A b a d

  pub grown-known : (ps : List Point) → IsShape ps → ((d : Point) → support d ps ≡ support d B +ℤ support (opposite d) A)
      → ps ≡ grown B A
  unfolding grown
  grown-known ps s reach = shape-known ps (differences B A) s (differences-some B A b a)
      (λ d. reach d ∙ sym (differences-reach B A b a d))

-- ---- the cart at a place

placed-sums : (A : List Point) (t : Point) → placed A t ≡ sums A (t ∷ [])
placed-sums [] t = refl
placed-sums (p ∷ A) t = ap (λ ps. (p ⊕ t) ∷ ps) (placed-sums A t)

placed-some : (A : List Point) (t : Point) → 0 < length A → 0 < length (placed A t)
placed-some A t a = rw (placed-sums A t) (sums-some A (t ∷ []) a (omega arith))

pub placed-reach : (A : List Point) (t : Point) → 0 < length A → (d : Point) → support d (placed A t) ≡ support d A +ℤ value d t
placed-reach A t a d = ap (support d) (placed-sums A t) ∙ support-sums d A (t ∷ []) a (omega arith)
    ∙ ap (λ z. support d A +ℤ z) (support-one d t)

-- its edges are those of the outline
edges-moved : (t s p : Point) (ps : List Point) → edges_to (s ⊕ t) (p ⊕ t) (placed ps t) ≡ edges_to s p ps
edges-moved t s p [] = ap (λ e. e ∷ []) (step-moved p s t)
edges-moved t s p (q ∷ ps) = ap₂ (λ e F. e ∷ F) (step-moved p q t) (edges-moved t s q ps)

pub placed-shape : (A : List Point) (t : Point) → IsShape A → IsShape (placed A t)
placed-shape A t s = sorted→shape (placed A t) (moved A (shape→sorted A s))
  where
    moved : (ps : List Point) → Sorted ps → Sorted (placed ps t)
    moved [] o = o
    moved (p ∷ []) o = o
    moved (p ∷ (q ∷ ps)) o = subst InOrder (sym (edges-moved t p p (q ∷ ps))) o

-- ---- places

module _ (A B : List Point) (a : 0 < length A) (b : 0 < length B) where
  places-alike : (P : List Point) → 0 < length P → Alike (sums A P) B P (grown B A)
  places-alike P p = record {
    first = sums-some A P a p;
    second = b;
    third = p;
    fourth = grown-some B A b a;
    reach = λ d. lia (support d (sums A P) ∷ support d A ∷ support d P ∷ support (opposite d) B ∷ support (opposite d) (grown B A) ∷ [])
        (support-sums d A P a p & rw (opposite-opposite d) at (grown-reach B A b a (opposite d))) (search linear depth 40) (omega arith);
  }

  pub place-alike : (t : Point) → Alike (placed A t) B (t ∷ []) (grown B A)
  place-alike t = subst (λ S. Alike S B (t ∷ []) (grown B A)) (sym (placed-sums A t)) (places-alike (t ∷ []) (omega arith))

  pub drive-alike : (t u : Point) → Alike (driven A t u) B (t ∷ u ∷ []) (grown B A)
  drive-alike t u = places-alike (t ∷ u ∷ []) (omega arith)

  pub drive-met : (t u : Point) → apart (driven A t u) B ≡ false → CommonPoint (t ∷ u ∷ []) (grown B A)
  drive-met t u h = not-apart-common (t ∷ u ∷ []) (grown B A) (omega arith) (grown-some B A b a)
      (sym (alike-apart (driven A t u) B (t ∷ u ∷ []) (grown B A) (drive-alike t u)) ∙ h)

  pub met-drive : (t u : Point) → CommonPoint (t ∷ u ∷ []) (grown B A) → apart (driven A t u) B ≡ false
  met-drive t u m = alike-apart (driven A t u) B (t ∷ u ∷ []) (grown B A) (drive-alike t u)
      ∙ common-not-apart (t ∷ u ∷ []) (grown B A) (omega arith) (grown-some B A b a) m

-- ---- clearance

pub point-shape : (t : Point) → IsShape (t ∷ [])
point-shape t = ordered→shape (t ∷ []) (tt, (tt, tt))

module _ (A B : List Point) (s : IsShape B) (t : Point) where
  abbrev G : List Point
  G = grown B A

  pub place-clearance : (r : IsShape A) → apart (placed A t) B ≡ true
      → top (placed A t) B (nearest (placed A t) B) *ℤ bottom (t ∷ []) G (nearest (t ∷ []) G)
      ≡ top (t ∷ []) G (nearest (t ∷ []) G) *ℤ bottom (placed A t) B (nearest (placed A t) B)
  place-clearance r h = alike-clearance (placed A t) B (t ∷ []) G (place-alike A B r.some s.some t)
      (placed-shape A t r) s (point-shape t) (grown-shape B A s.some r.some) h

  pub drive-clearance : 0 < length A → (u : Point) → let D = shape_of (driven A t u) in let S = shape_of (t ∷ u ∷ []) in apart D B ≡ true
      → top D B (nearest D B) *ℤ bottom S G (nearest S G) ≡ top S G (nearest S G) *ℤ bottom D B (nearest D B)
  drive-clearance a u h = alike-clearance (shape_of (driven A t u)) B (shape_of (t ∷ u ∷ [])) G
      (alike-shape_of (drive-alike A B a s.some t u)) (shape_of-shape (driven A t u) (sums-some A (t ∷ u ∷ []) a (omega arith))) s
      (shape_of-shape (t ∷ u ∷ []) (omega arith)) (grown-shape B A s.some a) h

-- ---- what a drive passes over

module _ (A : List Point) (a : 0 < length A) (t u : Point) where
  pub driven-merge : shape_of (driven A t u) ≡ shape_of (placed A t ++ placed A u)
  driven-merge = shape-known (shape_of (driven A t u)) (placed A t ++ placed A u) (shape_of-shape (driven A t u) some)
      (omega (arith, length-append (placed A t) (placed A u), placed-some A t a)) reach
    where
      some : 0 < length (driven A t u)
      some = sums-some A (t ∷ u ∷ []) a (omega arith)

      reach : (d : Point) → support d (shape_of (driven A t u)) ≡ support d (placed A t ++ placed A u)
      reach d = shape_of-support (driven A t u) some d ∙ support-sums d A (t ∷ u ∷ []) a (omega arith)
          ∙ ap (λ z. support d A +ℤ z) (support-append d (t ∷ []) (u ∷ []) (omega arith) (omega arith)
          ∙ ap₂ greater (support-one d t) (support-one d u)) ∙ plus-greater (support d A) (value d t) (value d u)
          ∙ ap₂ greater (sym (placed-reach A t a d)) (sym (placed-reach A u a d))
          ∙ sym (support-append d (placed A t) (placed A u) (placed-some A t a) (placed-some A u a))

  pub driven-passes : (w : Point) → inside (w ∷ []) (t ∷ u ∷ []) ≡ true → inside (placed A w) (driven A t u) ≡ true
  driven-passes w h = reach→inside (placed A w) (driven A t u) (placed-some A w a) (sums-some A (t ∷ u ∷ []) a (omega arith))
      (λ d. lia (support d (placed A w) ∷ support d (driven A t u) ∷ support d A ∷ value d w ∷ support d (w ∷ [])
      ∷ support d (t ∷ u ∷ []) ∷ []) (placed-reach A w a d & support-sums d A (t ∷ u ∷ []) a (omega arith) & support-one d w
      & inside→reach (w ∷ []) (t ∷ u ∷ []) (omega arith) (omega arith) h d) (search linear depth 40) (omega arith))

-- ---- a point

-- outside it is beyond the list in some direction
pub point-apart : (p : Point) (G : List Point) → 0 < length G → apart (p ∷ []) G ≡ not (inside (p ∷ []) G)
point-apart p G g = go (inside (p ∷ []) G) refl
  where
    go : (t : Bool) → inside (p ∷ []) G ≡ t → apart (p ∷ []) G ≡ not t
    go true e = inside→not-apart (p ∷ []) G (omega arith) g e
    go false e =
        let s = outside→direction (p ∷ []) G (omega arith) g e in
        apart-sym (p ∷ []) G (omega arith) g ∙ direction→apart G (p ∷ []) g (omega arith) (record {
          direction = s.direction;
          below = λ q r m n. subst (λ z. value s.direction q <ℤ value s.direction z)
              (Memᴰ.eq_of_singleton s.at_in ∙ sym (Memᴰ.eq_of_singleton n)) (s.beyond q m);
        })

pub place_inside : (A B : List Point) → 0 < length A → 0 < length B → (t : Point)
    → apart (placed A t) B ≡ not (inside (t ∷ []) (grown B A))
place_inside A B a b t = alike-apart (placed A t) B (t ∷ []) (grown B A) (place-alike A B a b t)
    ∙ point-apart t (grown B A) (grown-some B A b a)
