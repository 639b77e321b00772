-- No direction is narrower than the width. Let S be the spread in d and k the squared length of d. Were S·S/k below the width, then S·d
-- would be strictly left of every edge of the differences of the corners, taken k times: across such an edge two corners are furthest, so
-- that the spread is not below the width there. But in d itself S·d is as far as the differences reach.
--     width-every      the spread in every direction other than (0,0), squared, over its squared length, is at least t·t/q
use Rattle.std.specs.Prelude.{◌≡◌, Bool, List, [], ◌∷◌, map, ℕ, ◌<◌, ℤ, pos, ◌+ℤ◌, ◌-ℤ◌, ◌*ℤ◌, ◌≤ℤ◌, ◌<ℤ◌}
use Rattle.std.proofs.Math.Path.{refl}
use Rattle.std.proofs.Common.{sym, ◌∙◌, ap, ap₂, arith}
use Rattle.std.proofs.Math.Bool.{true, false}
use mathlib.Core.List.Memᴰ
use borrow.Author.Tests.{ltb-false}
use Rattle.std.proofs.Math.Dec.{ltb}
use Rattle.std.proofs.Math.ListN.{length}
use Rattle.std.proofs.lemmas.List.{length-map}
use Rattle.integer.specs.Ring.{ring, reify}
use Rattle.integer.specs.Linear.{linear, lia, ◌&◌}
use Rattle.integer.specs.Order.{◌<×<◌, ◌<×≤◌, ◌≤×≤◌, ◌≡×◌, contra<, contra≤, weaken, square-nonneg, cancel-le}
use Rattle.plane.specs.Point.{Point, corner, opposite, ◌⊕◌, ◌∈◌}
use Rattle.plane.specs.Turn.{turn, cross, Left}
use Rattle.plane.specs.Shape.{next, IsShape}
use Rattle.plane.specs.Direction.{value, support}
use Rattle.plane.specs.Measure.{height, edge_squared, width_edge}
use Rattle.plane.specs.Corner.{shape_of}
use Rattle.plane.specs.Separation.{differences, on_rim}
use Rattle.plane.specs.Mean.{times}
use Rattle.plane.specs.Forms.{NonZero}
use Rattle.plane.specs.Cut.{outward}
use Rattle.plane.proofs.theory.lists.Members.{point-discrete, position-member}
use Rattle.plane.proofs.theory.lists.Next.{next-below}
use Rattle.plane.proofs.theory.forms.Vector.{square-positive, turned_le}
use Rattle.plane.proofs.theory.support.Support.{value-le-support, support-le}
use Rattle.plane.proofs.theory.hull.ShapeOf.{shape_of-support, shape_of-shape, shape_of-corner}
use Rattle.separation.specs.theory.Apart.{differences-some, difference-member, member-difference}
use Rattle.separation.specs.theory.Sector.{value-outward, left→passed}
use Rattle.separation.specs.theory.Rim.{Below, rim→below}
use Rattle.measure.specs.theory.Height.{edge_squared-positive}
use Rattle.measure.specs.theory.Narrowest.{width-narrowest}
use Rattle.clearance.specs.theory.Bound.{lagrange}
use Rattle.clearance.specs.theory.First.{turned-square}
use Rattle.strips.specs.Strip.{spread}
use Rattle.strips.proofs.theory.Spread.{spread-above, spread-attained, spread-nonneg, spread-turned}
use Rattle.strips.proofs.theory.Outermost.{spread-out, Outermost, outermost}
use Rattle.strips.proofs.theory.Edges.{NoNarrower, tied-no-narrower}

value-times : (n p : Point) (k : ℤ) → value n (times k p) ≡ k *ℤ value n p
unfolding value
value-times n p k = ring (n.x ∷ n.y ∷ p.x ∷ p.y ∷ k ∷ []) (search reify depth 40) tt

value-between : (n a b : Point) (k : ℤ) → value n (times k (a ⊕ opposite b)) ≡ k *ℤ (value n a -ℤ value n b)
unfolding value
value-between n a b k = ring (n.x ∷ n.y ∷ a.x ∷ a.y ∷ b.x ∷ b.y ∷ k ∷ []) (search reify depth 40) tt

-- ---- the differences of the corners, k times

module _ (ps : List Point) (s : IsShape ps) (three : 2 < length ps) (k : ℤ) (long : pos 0 <ℤ k) where
  abbrev scaled : List Point
  scaled = map (times k) (differences ps ps)

  abbrev D : List Point
  D = shape_of scaled

  any : 0 < length scaled
  any = rw (length-map (differences ps ps) (times k)) (differences-some ps ps s.some s.some)

  shape : IsShape D
  shape = shape_of-shape scaled any

  record Between (p : Point) : Type 0 where
    left : Point
    right : Point
    left_in : left ∈ ps
    right-in : right ∈ ps
    is : p ≡ times k (left ⊕ opposite right)

  between : {p : Point} → p ∈ D → Between p
  between {p} m =
      let (q, q-in, e) = Memᴰ.of_map (times k) (differences ps ps) (shape_of-corner scaled any m).member in
      let r = member-difference ps ps q-in in
      record {
        left = r.left;
        right = r.right;
        left_in = r.left_in;
        right-in = r.right-in;
        is = sym e ∙ ap (times k) r.is-difference;
      }

  between-value : (n : Point) {p : Point} (r : Between p) → value n p ≡ k *ℤ (value n r.left -ℤ value n r.right)
  between-value n r = ap (value n) r.is ∙ value-between n r.left r.right k

  reach : (n : Point) {a b : Point} → a ∈ ps → b ∈ ps → (k *ℤ (value n a -ℤ value n b)) ≤ℤ support n D
  reach n {a} {b} m o = rw (shape_of-support scaled any n, ← value-between n a b k)
      (value-le-support n (Memᴰ.map (times k) (difference-member m o)))

  -- were it a point or a segment, all corners would have the same value in some direction
  flat : Below D → ⊥
  flat b = spread-out ps s three b.direction b.non_zero same
    where
      n : Point
      n = b.direction

      same : (e f : ℕ) → e < length ps → f < length ps → value n (corner ps e) ≤ℤ value n (corner ps f)
      same e f h o = cancel-le long (lia (k ∷ value n (corner ps e) ∷ value n (corner ps f) ∷ support n D ∷ [])
          (reach n (position-member ps e h) (position-member ps f o) & support-le n D shape.some b.below)
          (search linear depth 40) (omega arith))

  D-three : 2 < length D
  unfolding on_rim
  D-three = go (ltb (length D) 3) refl
    where
      go : (t : Bool) → ltb (length D) 3 ≡ t → 2 < length D
      go true e = absurd (flat (rim→below D shape (rw e refl)))
      go false e = ltb-false (length D) 3 e

  -- ---- a point of them that is furthest in n: no corner is above the one, none below the other

  module _ (n : Point) {u : Point} (r : Between u) (top : support n D ≤ℤ value n u) where
    left-highest : (p : Point) → p ∈ ps → value n p ≤ℤ value n r.left
    left-highest p m = cancel-le long (lia (k ∷ value n p ∷ value n r.left ∷ value n r.right ∷ value n u ∷ support n D ∷ [])
        (top & reach n m r.right-in & between-value n r) (search linear depth 40) (omega arith))

    right-lowest : (p : Point) → p ∈ ps → value (opposite n) p ≤ℤ value (opposite n) r.right
    right-lowest p m =
        let low : value n r.right ≤ℤ value n p = cancel-le long
        (lia (k ∷ value n p ∷ value n r.left ∷ value n r.right ∷ value n u ∷ support n D ∷ [])
        (top & reach n r.left_in m & between-value n r) (search linear depth 40) (omega arith)) in
        turned_le n r.right p low

  -- ---- across an edge of them

  module _ (e : ℕ) (h : e < length D) where
    abbrev u : Point
    u = corner D e

    abbrev v : Point
    v = corner D (next (length D) e)

    abbrev n : Point
    n = outward u v

    out : Outermost D e
    out = outermost D shape D-three e h

    size : pos 0 <ℤ value n n
    size = out.size

    turned-back : NoNarrower ps (opposite n) → NoNarrower ps n
    turned-back f = rw (spread-turned n ps, turned-square n) at f

    edge-no-narrower : NoNarrower ps n
    edge-no-narrower = go (between (position-member D e h)) (between (position-member D (next (length D) e) (next-below (length D) e h)))
      where
        go : Between u → Between v → NoNarrower ps n
        go p q = pick (point-discrete p.left q.left) (point-discrete p.right q.right)
          where
            pick : Dec (p.left ≡ q.left) → Dec (p.right ≡ q.right) → NoNarrower ps n
            pick (no f) g = tied-no-narrower ps s three n p.left_in q.left_in f size
                (left-highest n p out.top) (left-highest n q out.also)
            pick (yes f) (no g) = turned-back (tied-no-narrower ps s three (opposite n) p.right-in q.right-in g
                (rw (turned-square n) size) (right-lowest n p out.top) (right-lowest n q out.also))
            pick (yes f) (yes g) = absurd (out.different (p.is ∙ ap₂ (λ (y z : Point). times k (y ⊕ opposite z)) f g ∙ sym q.is))

    -- all differences reach as far as the spread
    far : (k *ℤ spread n ps) ≤ℤ value n u
    far =
        let (a, b, a_in, b-in, r) = spread-attained n ps s.some in
        lia (k ∷ value n a ∷ value n b ∷ spread n ps ∷ support n D ∷ value n u ∷ []) (out.top & reach n a_in b-in & r ≡× k)
        (search linear depth 40) (omega arith)

-- ---- the numbers: of the direction k its squared length and S its spread; of the edge's normal N its squared length, X its spread and v
-- its value in the direction

squeezed : (k S N X v c t q : ℤ) → pos 0 <ℤ k → pos 0 <ℤ N → pos 0 ≤ℤ X → pos 0 ≤ℤ q → v *ℤ v +ℤ c *ℤ c ≡ N *ℤ k
    → (t *ℤ t *ℤ N) ≤ℤ (X *ℤ X *ℤ q) → (S *ℤ S *ℤ q) <ℤ (t *ℤ t *ℤ k) → (k *ℤ X) ≤ℤ (S *ℤ v) → ⊥
squeezed k S N X v c t q long size up some schwarz wide narrow past =
    lia (k ∷ S ∷ N ∷ X ∷ t ∷ q ∷ []) (size <×< narrow & long <×≤ wide & some ≤×≤ cancel-le long squares)
    (search linear depth 40) (omega arith)
  where
    start : pos 0 ≤ℤ (k *ℤ X)
    start = lia (k ∷ X ∷ []) (long <×≤ up) (search linear depth 40) (omega arith)

    grown : (k *ℤ X *ℤ (k *ℤ X)) ≤ℤ (S *ℤ v *ℤ (S *ℤ v))
    grown = lia ((k *ℤ X) ∷ (S *ℤ v) ∷ []) (past ≤×≤ past & start ≤×≤ past) (search linear depth 40) (omega arith)

    squares : (k *ℤ (k *ℤ X *ℤ X)) ≤ℤ (k *ℤ (S *ℤ S *ℤ N))
    squares = lia (k ∷ S ∷ N ∷ X ∷ v ∷ c ∷ []) (grown & schwarz ≡× (S *ℤ S) & square-nonneg (S *ℤ c)) (search linear depth 40) (omega arith)

-- ---- every direction

module _ (ps : List Point) (s : IsShape ps) (three : 2 < length ps) (d : Point) (some : NonZero d) where
  abbrev k : ℤ
  k = value d d

  abbrev S : ℤ
  S = spread d ps

  abbrev q : ℤ
  q = edge_squared ps (width_edge ps)

  long : pos 0 <ℤ k
  long = square-positive d some

  module _ (narrow : (S *ℤ S *ℤ q) <ℤ (height ps (width_edge ps) *ℤ height ps (width_edge ps) *ℤ k)) where
    abbrev E : List Point
    E = D ps s three k long

    inner : (e : ℕ) → e < length E → Left (corner E e) (corner E (next (length E) e)) (times S d)
    inner e h = contra< (λ g. squeezed k S (value m m) (spread m ps) (value m d) (cross m d) (height ps (width_edge ps)) q
        long (size ps s three k long e h) (spread-nonneg m ps s.some)
        (weaken (edge_squared-positive ps s three (width_edge ps) (width-narrowest s three).among))
        (lagrange m d) (edge-no-narrower ps s three k long e h) narrow
        (lia (k ∷ S ∷ spread m ps ∷ value m d ∷ value m (times S d) ∷ value m (corner E e)
        ∷ turn (corner E e) (corner E (next (length E) e)) (times S d) ∷ [])
        (far ps s three k long e h & value-outward (corner E e) (corner E (next (length E) e)) (times S d) & value-times m d S & g)
        (search linear depth 40) (omega arith)))
      where
        m : Point
        m = n ps s three k long e h

    reached : support d E ≤ℤ (k *ℤ S)
    reached = support-le d E (shape ps s three k long).some (λ p m. below (between ps s three k long m))
      where
        below : {p : Point} → Between ps s three k long p → value d p ≤ℤ (k *ℤ S)
        below {p} r = lia (k ∷ value d p ∷ value d r.left ∷ value d r.right ∷ S ∷ [])
            (between-value ps s three k long d r & long <×≤ spread-above d ps r.left_in r.right-in) (search linear depth 40)
            (omega arith)

    clash : ⊥
    clash = lia (k ∷ S ∷ support d E ∷ value d (times S d) ∷ [])
        (left→passed E (shape ps s three k long) (D-three ps s three k long) d (times S d) some inner & reached & value-times d d S)
        (search linear depth 40) (omega arith)

  pub width-every : NoNarrower ps d
  width-every = contra≤ (λ g. clash g)
