-- No direction has a smaller box than the best edge. Half of the way round the box in a direction d is the spread in d of R, the sum of the
-- shape and the shape turned by a quarter. The edge that R is narrowest across (`width-every` of strips) points along an edge of the shape
-- or across one: one of the two parts of the sum has two furthest corners there.
--     box-every      the box in every direction other than (0,0), squared and over its squared length, is at least (T+S)·(T+S)/Q
use Rattle.std.specs.Prelude.{◌≡◌, refl, Bool, true, false, List, [], ◌∷◌, map, ℕ, ◌<◌, ltb, pos, neg_ℤ, ◌+ℤ◌, ◌*ℤ◌, length, ◌≤ℤ◌}
use Rattle.std.proofs.Common.{sym, ◌∙◌, ap, ap₂, arith, ltb-true, ltb-false}
use mathlib.Core.List.Memᴰ
use Rattle.std.proofs.lemmas.List.{length-map}
use Rattle.integer.specs.Ring.{ring, reify}
use Rattle.integer.specs.Linear.{linear, lia, ◌&◌}
use Rattle.plane.specs.Point.{Point, point, corner, opposite, ◌⊕◌, ◌∈◌}
use Rattle.plane.specs.Shape.{next, IsShape}
use Rattle.plane.specs.Direction.{value, support, greater}
use Rattle.plane.specs.Measure.{edge_squared, width_edge}
use Rattle.plane.specs.Corner.{shape_of, sums}
use Rattle.plane.specs.Forms.{NonZero}
use Rattle.plane.specs.Cut.{quarter}
use Rattle.plane.proofs.theory.lists.Members.{point-discrete, position-member, member-position, sums-member, sums-some, member-sums}
use Rattle.plane.proofs.theory.lists.Next.{next-below}
use Rattle.plane.proofs.theory.forms.Vector.{square-positive, value-⊕}
use Rattle.plane.proofs.theory.support.Support.{value-le-support, support-sums}
use Rattle.plane.proofs.theory.hull.ShapeOf.{shape_of-support, shape_of-shape, shape_of-corner}
use Rattle.separation.specs.theory.Sector.{edge-nonzero}
use Rattle.measure.specs.theory.Fractions.{fraction-trans}
use Rattle.measure.specs.theory.Narrowest.{width-narrowest}
use Rattle.strips.specs.Strip.{least, spread}
use Rattle.strips.specs.OwnDirection.{out_of}
use Rattle.strips.proofs.theory.Spread.{spread-above, spread-attained, spread-nonneg}
use Rattle.strips.proofs.theory.Outermost.{spread-out, Outermost, outermost}
use Rattle.strips.proofs.theory.Edges.{out-squared, out-spread}
use Rattle.strips.proofs.theory.WidthBound.{width-every}
use Rattle.boxes.specs.Box.{around, half_round, box_edge}
use Rattle.boxes.specs.theory.Around.{quarter-squared, around-quarter}
use Rattle.boxes.specs.theory.Across.{NoSmaller, best-long, tied-no-smaller}
use Rattle.boxes.specs.theory.Level.{Level, few-level}

-- ---- the shape turned right by a quarter

abbrev turned : Point → Point
turned p = point p.y (neg_ℤ p.x)

value-turned : (n p : Point) → value n (turned p) ≡ value (quarter n) p
unfolding value
value-turned n p = ring (n.x ∷ n.y ∷ p.x ∷ p.y ∷ []) (search reify depth 40) tt

turned-support : (n : Point) (ps : List Point) → support n (map turned ps) ≡ support (quarter n) ps
unfolding support
turned-support n [] = refl
turned-support n (p ∷ []) = value-turned n p
turned-support n (p ∷ (q ∷ ps)) = ap₂ greater (value-turned n p) (turned-support n (q ∷ ps))

-- ---- the sum

module _ (ps : List Point) (s : IsShape ps) (three : 2 < length ps) where
  abbrev both : List Point
  both = sums ps (map turned ps)

  abbrev R : List Point
  R = shape_of both

  turned-some : 0 < length (map turned ps)
  turned-some = rw (length-map ps turned) s.some

  any : 0 < length both
  any = sums-some ps (map turned ps) s.some turned-some

  shape : IsShape R
  shape = shape_of-shape both any

  R-support : (n : Point) → support n R ≡ support n ps +ℤ support (quarter n) ps
  R-support n = shape_of-support both any n ∙ support-sums n ps (map turned ps) s.some turned-some
      ∙ ap (λ z. support n ps +ℤ z) (turned-support n ps)

  R-spread : (n : Point) → spread n R ≡ around n ps
  unfolding spread least around
  R-spread n = lia (support n R ∷ support (opposite n) R ∷ support n ps ∷ support (quarter n) ps ∷ support (opposite n) ps
      ∷ support (opposite (quarter n)) ps ∷ []) (R-support n & R-support (opposite n)) (search linear depth 40) (omega arith)

  -- were it a point or a segment, all corners of the shape would have the same value in some direction
  flat : Level R → ⊥
  unfolding around
  flat b = spread-out ps s three b.across b.non_zero same
    where
      n : Point
      n = b.across

      none : spread n R ≤ℤ pos 0
      none =
          let (p, q, p-in, q-in, far) = spread-attained n R shape.some in
          let (k, hk, ek) = member-position p-in in
          let (l, hl, el) = member-position q-in in
          lia (value n p ∷ value n q ∷ spread n R ∷ []) (far & rw (ek, el) at (b.same k l hk hl)) (search linear depth 40) (omega arith)

      same : (e f : ℕ) → e < length ps → f < length ps → value n (corner ps e) ≤ℤ value n (corner ps f)
      same e f h o = lia (value n (corner ps e) ∷ value n (corner ps f) ∷ spread n ps ∷ spread (quarter n) ps ∷ spread n R ∷ [])
          (spread-above n ps (position-member ps e h) (position-member ps f o) & spread-nonneg (quarter n) ps s.some & R-spread n & none)
          (search linear depth 40) (omega arith)

  R-three : 2 < length R
  R-three = go (ltb (length R) 3) refl
    where
      go : (t : Bool) → ltb (length R) 3 ≡ t → 2 < length R
      go true e = absurd (flat (few-level R shape (omega (arith, ltb-true (length R) 3 e)) (out_of ps 0)
          (edge-nonzero ps s three 0 s.some)))
      go false e = ltb-false (length R) 3 e

  -- ---- a point of the sum, and where it is furthest

  record Parts (p : Point) : Type 0 where
    left : Point
    right : Point
    left_in : left ∈ ps
    right-in : right ∈ ps
    is : p ≡ left ⊕ turned right

  parts : {p : Point} → p ∈ R → Parts p
  parts m =
      let r = member-sums ps (map turned ps) (shape_of-corner both any m).member in
      let (b, b-in, e) = Memᴰ.of_map turned ps r.right-in in
      record { left = r.left; right = b; left_in = r.left_in; right-in = b-in; is = r.is_sum ∙ ap (λ z. r.left ⊕ z) (sym e) }

  module _ (n : Point) where
    sum-value : (a b : Point) → value n (a ⊕ turned b) ≡ value n a +ℤ value (quarter n) b
    sum-value a b = value-⊕ n a (turned b) ∙ ap (λ z. value n a +ℤ z) (value-turned n b)

    reach : {a b : Point} → a ∈ ps → b ∈ ps → (value n a +ℤ value (quarter n) b) ≤ℤ support n R
    reach {a} {b} m o = rw (shape_of-support both any n, ← sum-value a b) (value-le-support n (sums-member m (Memᴰ.map turned o)))

    module _ {u : Point} (r : Parts u) (top : support n R ≤ℤ value n u) where
      parts-value : value n u ≡ value n r.left +ℤ value (quarter n) r.right
      parts-value = ap (value n) r.is ∙ sum-value r.left r.right

      left-furthest : (p : Point) → p ∈ ps → value n p ≤ℤ value n r.left
      left-furthest p m = lia (value n p ∷ value n r.left ∷ value (quarter n) r.right ∷ value n u ∷ support n R ∷ [])
          (top & reach m r.right-in & parts-value) (search linear depth 40) (omega arith)

      right-furthest : (p : Point) → p ∈ ps → value (quarter n) p ≤ℤ value (quarter n) r.right
      right-furthest p m = lia (value (quarter n) p ∷ value n r.left ∷ value (quarter n) r.right ∷ value n u ∷ support n R ∷ [])
          (top & reach r.left_in m & parts-value) (search linear depth 40) (omega arith)

  -- ---- across an edge of the sum

  module _ (e : ℕ) (h : e < length R) where
    abbrev n : Point
    n = out_of R e

    out : Outermost R e
    out = outermost R shape R-three e h

    edge-no-smaller : NoSmaller ps n
    edge-no-smaller = go (parts (position-member R e h)) (parts (position-member R (next (length R) e) (next-below (length R) e h)))
      where
        go : Parts (corner R e) → Parts (corner R (next (length R) e)) → NoSmaller ps n
        go r t = pick (point-discrete r.left t.left)
          where
            pick : Dec (r.left ≡ t.left) → NoSmaller ps n
            pick (no other) = tied-no-smaller ps s three n r.left_in t.left_in other out.size
                (left-furthest n r out.top) (left-furthest n t out.also)
            pick (yes same) = rw (around-quarter n ps, quarter-squared n) at (tied-no-smaller ps s three (quarter n)
                r.right-in t.right-in (λ q. out.different (r.is ∙ ap₂ (λ (a b : Point). a ⊕ turned b) same q ∙ sym t.is))
                (rw (quarter-squared n) out.size)
                (right-furthest n r out.top) (right-furthest n t out.also))

  pub box-every : (d : Point) → NonZero d → NoSmaller ps d
  box-every d some =
      let best = half_round ps (box_edge ps) in
      let w = width_edge R in
      let w-in = (width-narrowest shape R-three).among in
      let m = n w w-in in
      fraction-trans (best *ℤ best) (around m ps *ℤ around m ps) (around d ps *ℤ around d ps) (edge_squared ps (box_edge ps)) (value m m)
      (value d d) (best-long ps s three) (out w w-in).size (square-positive d some) (edge-no-smaller w w-in)
      (rw (← R-spread d, ← R-spread m, out-spread R shape w w-in, out-squared R shape w w-in) (width-every R shape R-three d some))
