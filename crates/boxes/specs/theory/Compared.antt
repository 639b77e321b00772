-- The least boxes of two shapes: the one that is no longer round in any direction has no larger box.
--     box-no-larger      from the boxes in all directions
--     inside-around      a shape inside another is no longer round
--     mirrored-no-larger, no-larger-mirrored     the mirrored shape has the same box
--     moved-no-larger, no-larger-moved           and so has the moved one
use Rattle.std.specs.Prelude.{◌≡◌, true, List, [], ◌∷◌, ◌<◌, ℤ, pos, ◌+ℤ◌, ◌*ℤ◌, length, ◌≤ℤ◌}
use Rattle.std.proofs.Common.{sym, ◌∙◌, ap, ap₂, arith}
use Rattle.std.proofs.lemmas.List.{length-map}
use Rattle.integer.specs.Linear.{lia, linear, ◌&◌}
use Rattle.integer.specs.Order.{◌≤×≤◌, weaken, le_of_eq}
use Rattle.plane.specs.Point.{Point, opposite, ◌⊕◌}
use Rattle.plane.specs.Shape.{IsShape}
use Rattle.plane.specs.Direction.{value, support}
use Rattle.plane.specs.Measure.{edge_squared}
use Rattle.plane.specs.Corner.{shape_of, mirrored}
use Rattle.plane.specs.Cut.{quarter}
use Rattle.plane.specs.Separation.{inside}
use Rattle.plane.proofs.theory.lists.Members.{mirrored-some}
use Rattle.plane.proofs.theory.forms.Vector.{opposite-opposite, value-turned}
use Rattle.plane.proofs.theory.support.Support.{support-mirrored}
use Rattle.plane.proofs.theory.hull.ShapeOf.{shape_of-support, shape_of-shape}
use Rattle.plane.proofs.theory.mirror.Mirror.{mirror-count}
use Rattle.separation.specs.theory.Inside.{inside→reach}
use Rattle.separation.specs.theory.Sector.{edge-nonzero}
use Rattle.strips.specs.Strip.{least, spread}
use Rattle.strips.specs.OwnDirection.{out_of}
use Rattle.strips.proofs.theory.Spread.{spread-nonneg}
use Rattle.strips.proofs.theory.Edges.{out-squared}
use Rattle.growth.specs.Grown.{placed}
use Rattle.growth.proofs.theory.Places.{placed-reach, placed-shape}
use Rattle.boxes.specs.Box.{around, half_round, box_edge, NoLargerBox}
use Rattle.boxes.specs.theory.Least.{box-leading}
use Rattle.boxes.specs.theory.Around.{around-edge}
use Rattle.boxes.specs.theory.Across.{best-long}
use Rattle.boxes.specs.theory.Every.{box-every}

around-nonneg : (d : Point) (ps : List Point) → 0 < length ps → pos 0 ≤ℤ around d ps
unfolding around
around-nonneg d ps some = lia (spread d ps ∷ spread (quarter d) ps ∷ []) (spread-nonneg d ps some & spread-nonneg (quarter d) ps some)
    (search linear depth 40) (omega arith)

-- x ≤ y, both not below 0: X-as-X ≤ Y-as-Y, and both times what is not below 0
grown : (h x y Q R : ℤ) → pos 0 ≤ℤ x → x ≤ℤ y → pos 0 ≤ℤ Q → (h *ℤ R) ≤ℤ (x *ℤ x *ℤ Q) → (h *ℤ R) ≤ℤ (y *ℤ y *ℤ Q)
grown h x y Q R some more size low = lia (h ∷ x ∷ y ∷ Q ∷ R ∷ []) (low & size ≤×≤ squares) (search linear depth 40) (omega arith)
  where
    squares : (x *ℤ x) ≤ℤ (y *ℤ y)
    squares = lia (x ∷ y ∷ []) (more ≤×≤ more & some ≤×≤ more) (search linear depth 40) (omega arith)

-- the direction out of the best edge of B is one of all directions for A
module _ (A B : List Point) (s : IsShape A) (a : 2 < length A) (t : IsShape B) (b : 2 < length B) where
  pub box-no-larger : ((d : Point) → around d A ≤ℤ around d B) → NoLargerBox A B
  box-no-larger less =
      let e = box_edge B in
      let e-in = (box-leading B t b).among in
      let d = out_of B e in
      let half = half_round A (box_edge A) in
      grown (half *ℤ half) (around d A) (half_round B e) (edge_squared A (box_edge A)) (edge_squared B e) (around-nonneg d A s.some)
      (rw (← around-edge B t e e-in) (less d)) (weaken (best-long A s a))
      (rw (← out-squared B t e e-in) (box-every A s a d (edge-nonzero B t b e e-in)))

-- ---- what changes the box in no direction, or makes it no larger

-- by the values of both directions and of their opposites
by-support : (A B : List Point) → ((d : Point) → support d A ≤ℤ support d B) → (d : Point) → around d A ≤ℤ around d B
unfolding around spread least
by-support A B less d = lia
    (support d A ∷ support (opposite d) A ∷ support (quarter d) A ∷ support (opposite (quarter d)) A ∷ support d B
    ∷ support (opposite d) B ∷ support (quarter d) B ∷ support (opposite (quarter d)) B ∷ [])
    (less d & less (opposite d) & less (quarter d) & less (opposite (quarter d))) (search linear depth 40) (omega arith)

by-reach : (e : Point) (A M : List Point) → support e M ≡ support (opposite e) A → support (opposite e) M ≡ support e A
    → spread e M ≡ spread e A
unfolding spread least
by-reach e A M h k = lia (support e M ∷ support (opposite e) M ∷ support e A ∷ support (opposite e) A ∷ []) (h & k)
    (search linear depth 40) (omega arith)

by_move : (e t : Point) (A M : List Point) → support e M ≡ support e A +ℤ value e t
    → support (opposite e) M ≡ support (opposite e) A +ℤ value (opposite e) t → spread e M ≡ spread e A
unfolding spread least
by_move e t A M h k = lia
    (support e M ∷ support (opposite e) M ∷ support e A ∷ support (opposite e) A ∷ value e t ∷ value (opposite e) t ∷ [])
    (h & k & value-turned e t) (search linear depth 40) (omega arith)

pub inside-around : (A B : List Point) → 0 < length A → 0 < length B → inside A B ≡ true → (d : Point) → around d A ≤ℤ around d B
inside-around A B a b h = by-support A B (λ d. inside→reach A B a b h d)

mirrored-around : (A : List Point) → 0 < length A → (d : Point) → around d (shape_of (mirrored A)) ≡ around d A
unfolding around
mirrored-around A some d = ap₂ (λ s t. s +ℤ t) (turned d) (turned (quarter d))
  where
    M : List Point
    M = shape_of (mirrored A)

    reach : (e : Point) → support e M ≡ support (opposite e) A
    reach e = shape_of-support (mirrored A) (mirrored-some A some) e ∙ support-mirrored e A

    turned : (e : Point) → spread e M ≡ spread e A
    turned e = by-reach e A M (reach e) (reach (opposite e) ∙ ap (λ f. support f A) (opposite-opposite e))

moved-around : (A : List Point) (t : Point) → 0 < length A → (d : Point) → around d (placed A t) ≡ around d A
unfolding around
moved-around A t some d = ap₂ (λ s t. s +ℤ t) (moved d) (moved (quarter d))
  where
    moved : (e : Point) → spread e (placed A t) ≡ spread e A
    moved e = by_move e t A (placed A t) (placed-reach A t some e) (placed-reach A t some (opposite e))

-- ---- the mirrored and the moved shape

module _ (A : List Point) (s : IsShape A) (three : 2 < length A) where
  abbrev M : List Point
  M = shape_of (mirrored A)

  mirror : IsShape M
  mirror = shape_of-shape (mirrored A) (mirrored-some A s.some)

  mirror-three : 2 < length M
  mirror-three = rw (mirror-count A s) three

  pub mirrored-no-larger : NoLargerBox M A
  mirrored-no-larger = box-no-larger M A mirror mirror-three s three (λ d. le_of_eq (mirrored-around A s.some d))

  pub no-larger-mirrored : NoLargerBox A M
  no-larger-mirrored = box-no-larger A M s three mirror mirror-three (λ d. le_of_eq (sym (mirrored-around A s.some d)))

  module _ (t : Point) where
    moved-three : 2 < length (placed A t)
    moved-three = rw (length-map A (λ p. p ⊕ t)) three

    pub moved-no-larger : NoLargerBox (placed A t) A
    moved-no-larger = box-no-larger (placed A t) A (placed-shape A t s) moved-three s three (λ d. le_of_eq (moved-around A t s.some d))

    pub no-larger-moved : NoLargerBox A (placed A t)
    no-larger-moved = box-no-larger A (placed A t) s three (placed-shape A t s) moved-three
        (λ d. le_of_eq (sym (moved-around A t s.some d)))
