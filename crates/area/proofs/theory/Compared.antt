-- What the mixed area says of the areas of two shapes, one inside the other.
--     inside-no-more          a shape inside another has at most its area
--     area-positive, area-none      from three corners on there is some area; a point and a segment have none; `area-nonneg`
--     equal-area-same         a shape inside a polygon that has as much area is that polygon; `other-has-less`: another has less
--     merged-first, merged-second   a merge has at least the area of each of its shapes
--     crosses-append, area-turned   the corners may be begun anywhere
--     mirrored-area, moved-area     mirroring and moving change nothing
use Rattle.std.specs.Prelude.{◌≡◌, refl, Bool, true, false, List, [], ◌∷◌, ◌++◌, map, ℕ, ◌<◌, ◌≤◌, pos, ◌+ℤ◌, length}
use Rattle.std.specs.Prelude.{take, drop, ltb, ◌≤ℤ◌, ◌<ℤ◌}
use Rattle.std.proofs.Common.{sym, ◌∙◌, ap, ap₂, subst, append-nil, arith, length-append, take-append-drop, ltb-true, ltb-false}
use mathlib.Core.List.Memᴰ
use Rattle.std.specs.Int.Signed.{<ℤ_irrefl}
use Rattle.integer.specs.Ring.{ring, reify}
use Rattle.integer.specs.Linear.{linear, lia, ◌&◌}
use Rattle.integer.specs.Order.{contra<, weaken, le_of_eq}
use Rattle.plane.specs.Point.{Point, corner, opposite, ◌⊕◌, ◌⊖◌, ◌∈◌, ◌⊆◌}
use Rattle.plane.specs.Turn.{cross, turn, Left}
use Rattle.plane.specs.Shape.{next, IsShape}
use Rattle.plane.specs.Direction.{value, support}
use Rattle.plane.specs.Corner.{shape_of, mirrored}
use Rattle.plane.specs.Separation.{inside}
use Rattle.plane.specs.Cut.{outward}
use Rattle.plane.specs.Forms.{All, Pairs, edges}
use Rattle.plane.proofs.theory.lists.Members.{point-path}
use Rattle.plane.proofs.theory.forms.Vector.{cross-opposite, cross-self, cross-swap}
use Rattle.plane.proofs.theory.forms.Standard.{all-at, shape→ordered}
use Rattle.plane.proofs.theory.support.Support.{value-le-support, support-le, support-subset}
use Rattle.plane.proofs.theory.sum.Positions.{edges_some, edge_at}
use Rattle.plane.proofs.theory.hull.ShapeOf.{shape_of-shape}
use Rattle.plane.proofs.theory.mirror.Mirror.{topmost, mirror-known}
use Rattle.separation.specs.theory.Inside.{inside→reach, reach→inside, inside-antisym, inside-shape_of}
use Rattle.separation.specs.theory.InsideShape.{each→inside, polygon-left→inside}
use Rattle.separation.specs.theory.Sector.{value-outward, edge-outermost}
use Rattle.area.specs.Area.{crosses_to, twice_area}
use Rattle.area.proofs.theory.Sums.{sum_of-le, sum_of-tight}
use Rattle.area.proofs.theory.Mixed.{right, mixed, area-mixed, mixed-symmetric}

-- ---- a fan of triangles about the first corner

cross-fan : (s q r : Point) → cross q r +ℤ cross s q ≡ turn s q r +ℤ cross s r
unfolding cross turn
cross-fan s q r = ring (s.x ∷ s.y ∷ q.x ∷ q.y ∷ r.x ∷ r.y ∷ []) (search reify depth 40) tt

fan-nonneg : (s q : Point) (ps : List Point) → Pairs (λ a b. Left s a b) (q ∷ ps) → pos 0 ≤ℤ (crosses_to s q ps +ℤ cross s q)
fan-nonneg s q [] a = lia (cross q s ∷ cross s q ∷ []) (cross-swap s q) (search linear depth 40) (omega arith)
fan-nonneg s q (r ∷ ps) a =
    lia (cross q r ∷ cross s q ∷ cross s r ∷ turn s q r ∷ crosses_to s r ps ∷ [])
    (cross-fan s q r & a.0.0 & fan-nonneg s r ps a.1) (search linear depth 40) (omega arith)

fan-positive : (s q r : Point) (ps : List Point) → Pairs (λ a b. Left s a b) (q ∷ r ∷ ps)
    → pos 0 <ℤ (crosses_to s q (r ∷ ps) +ℤ cross s q)
fan-positive s q r ps a =
    lia (cross q r ∷ cross s q ∷ cross s r ∷ turn s q r ∷ crosses_to s r ps ∷ [])
    (cross-fan s q r & a.0.0 & fan-nonneg s r ps a.1) (search linear depth 40) (omega arith)

pub area-positive : (P : List Point) → IsShape P → 2 < length P → pos 0 <ℤ twice_area P
area-positive [] s three = absurd (omega arith)
area-positive (p ∷ []) s three = absurd (omega arith)
area-positive (p ∷ (q ∷ [])) s three = absurd (omega arith)
area-positive (p ∷ (q ∷ (r ∷ ps))) s three =
    lia (cross p q ∷ crosses_to p q (r ∷ ps) ∷ []) (fan-positive p q r ps (shape→ordered (p ∷ q ∷ r ∷ ps) s).1.0)
    (search linear depth 40) (omega arith)

pub area-none : (P : List Point) → length P ≤ 2 → twice_area P ≡ pos 0
area-none [] few = refl
area-none (p ∷ []) few = cross-self p
area-none (p ∷ (q ∷ [])) few = lia (cross p q ∷ cross q p ∷ []) (cross-swap p q) (search linear depth 40) (omega arith)
area-none (p ∷ (q ∷ (r ∷ ps))) few = absurd (omega arith)

pub area-nonneg : (P : List Point) → IsShape P → pos 0 ≤ℤ twice_area P
area-nonneg P s = go (ltb 2 (length P)) refl
  where
    go : (b : Bool) → ltb 2 (length P) ≡ b → pos 0 ≤ℤ twice_area P
    go true e = weaken (area-positive P s (ltb-true 2 (length P) e))
    go false e = le_of_eq (sym (area-none P (ltb-false 2 (length P) e)))

-- ---- one inside the other

module _ (N O : List Point) (s : IsShape N) (t : IsShape O) (h : inside N O ≡ true) where
  reaches : (d : Point) → support d N ≤ℤ support d O
  reaches = inside→reach N O s.some t.some h

  across : (f : Point) → support (right f) N ≤ℤ support (right f) O
  across f = reaches (right f)

  -- N with its own edges, then with those of O: no term is greater
  own-le : mixed N (edges N) ≤ℤ mixed O (edges N)
  own-le = sum_of-le (λ f. support (right f) N) (λ f. support (right f) O) (edges N) across

  other-le : mixed N (edges O) ≤ℤ mixed O (edges O)
  other-le = sum_of-le (λ f. support (right f) N) (λ f. support (right f) O) (edges O) across

  pub inside-no-more : twice_area N ≤ℤ twice_area O
  inside-no-more = lia (twice_area N ∷ twice_area O ∷ mixed N (edges N) ∷ mixed O (edges N) ∷ mixed N (edges O) ∷ mixed O (edges O) ∷ [])
      (area-mixed N s & area-mixed O t & mixed-symmetric O N t s & own-le & other-le) (search linear depth 40) (omega arith)

  module _ (as-much : twice_area O ≤ℤ twice_area N) where
    tight : All (λ f. support (right f) N ≡ support (right f) O) (edges N)
    tight = sum_of-tight (λ f. support (right f) N) (λ f. support (right f) O) (edges N) across
        (lia (twice_area N ∷ twice_area O ∷ mixed N (edges N) ∷ mixed O (edges N) ∷ mixed N (edges O) ∷ mixed O (edges O) ∷ [])
        (area-mixed N s & area-mixed O t & mixed-symmetric O N t s & as-much & other-le) (search linear depth 40) (omega arith))

    right-outward : (a b : Point) → right (b ⊖ a) ≡ outward a b
    right-outward a b = point-path refl (ring (a.x ∷ b.x ∷ []) (search reify depth 40) tt)

    module _ (three : 2 < length N) where
      -- no corner of O is further out of an edge of N than that edge
      left-of : (x : Point) → x ∈ O → (e : ℕ) → e < length N → pos 0 ≤ℤ turn (corner N e) (corner N (next (length N) e)) x
      left-of x m e l =
          let a = corner N e in
          let b = corner N (next (length N) e) in
          let have : e < length (edges N) = omega (arith, edges_some N (omega arith)) in
          let level : support (right (corner (edges N) e)) N ≡ support (right (corner (edges N) e)) O = all-at _ (edges N) tight e have in
          let same : right (corner (edges N) e) ≡ outward a b = ap right (edge_at N e have) ∙ right-outward a b in
          let equal : support (outward a b) N ≡ support (outward a b) O =
          subst (λ (d : Point). support d N ≡ support d O) same level in
          let most : support (outward a b) N ≤ℤ value (outward a b) a = support-le (outward a b) N s.some (edge-outermost N s e l) in
          lia (value (outward a b) x ∷ value (outward a b) a ∷ turn a b x ∷ support (outward a b) N ∷ support (outward a b) O ∷ [])
          (value-outward a b x & equal & most & value-le-support (outward a b) m) (search linear depth 40) (omega arith)

      back : inside O N ≡ true
      back = each→inside O N s.some t.some (λ x m. polygon-left→inside N s x three (left-of x m))

    pub equal-area-same : 2 < length O → N ≡ O
    equal-area-same three = inside-antisym N O s t h (back (go (ltb 2 (length N)) refl))
      where
        -- two corners have no area
        go : (b : Bool) → ltb 2 (length N) ≡ b → 2 < length N
        go true e = ltb-true 2 (length N) e
        go false e =
            let none = area-none N (ltb-false 2 (length N) e) in
            let clash : pos 0 <ℤ pos 0 = lia (twice_area N ∷ twice_area O ∷ []) (none & area-positive O t three & as-much)
            (search linear depth 40) (omega arith) in
            absurd (<ℤ_irrefl clash)

  pub other-has-less : 2 < length O → (N ≡ O → ⊥) → twice_area N <ℤ twice_area O
  other-has-less three n = contra< (λ k. n (equal-area-same k three))

-- ---- merged

module _ (A B : List Point) (s : IsShape A) (t : IsShape B) where
  some-both : 0 < length (A ++ B)
  some-both = omega (arith, length-append A B, s.some)

  merged-shape : IsShape (shape_of (A ++ B))
  merged-shape = shape_of-shape (A ++ B) some-both

  part-inside : (P : List Point) → 0 < length P → P ⊆ (A ++ B) → inside P (shape_of (A ++ B)) ≡ true
  part-inside P p m = inside-shape_of P (A ++ B) p some-both ∙ reach→inside P (A ++ B) p some-both (λ d. support-subset d p m)

  pub merged-first : twice_area A ≤ℤ twice_area (shape_of (A ++ B))
  merged-first = inside-no-more A (shape_of (A ++ B)) s merged-shape (part-inside A s.some (λ p m. Memᴰ.append_left B m))

  pub merged-second : twice_area B ≤ℤ twice_area (shape_of (A ++ B))
  merged-second = inside-no-more B (shape_of (A ++ B)) t merged-shape (part-inside B t.some (λ p m. Memᴰ.append_right A m))

-- ---- the list may be begun anywhere

pub crosses-append : (s p : Point) (ps : List Point) (q : Point) (qs : List Point)
    → crosses_to s p (ps ++ (q ∷ qs)) ≡ crosses_to q p ps +ℤ crosses_to s q qs
crosses-append s p [] q qs = refl
crosses-append s p (r ∷ ps) q qs =
    lia (cross p r ∷ crosses_to s r (ps ++ (q ∷ qs)) ∷ crosses_to q r ps ∷ crosses_to s q qs ∷ []) (crosses-append s r ps q qs)
    (search linear depth 40) (omega arith)

pub area-turned : (A B : List Point) → twice_area (A ++ B) ≡ twice_area (B ++ A)
area-turned [] B = ap twice_area (sym (append-nil B))
area-turned (p ∷ ps) [] = ap twice_area (append-nil (p ∷ ps))
area-turned (p ∷ ps) (q ∷ qs) =
    lia (crosses_to p p (ps ++ (q ∷ qs)) ∷ crosses_to q q (qs ++ (p ∷ ps)) ∷ crosses_to q p ps ∷ crosses_to p q qs ∷ [])
    (crosses-append p p ps q qs & crosses-append q q qs p ps) (search linear depth 40) (omega arith)

-- ---- mirrored and moved

opposite-crosses : (s p : Point) (ps : List Point) → crosses_to (opposite s) (opposite p) (mirrored ps) ≡ crosses_to s p ps
opposite-crosses s p [] = cross-opposite p s
opposite-crosses s p (q ∷ ps) = ap₂ (λ x y. x +ℤ y) (cross-opposite p q) (opposite-crosses s q ps)

opposite-area : (P : List Point) → twice_area (mirrored P) ≡ twice_area P
opposite-area [] = refl
opposite-area (p ∷ ps) = opposite-crosses p p ps

pub mirrored-area : (P : List Point) → IsShape P → twice_area (shape_of (mirrored P)) ≡ twice_area P
mirrored-area P s =
    let (t, top) = topmost P s in
    ap twice_area (mirror-known P s t top) ∙ opposite-area (drop t P ++ take t P) ∙ area-turned (drop t P) (take t P)
    ∙ ap twice_area (take-append-drop t P)

-- the products with the step t cancel along the way
cross-moved : (t p q : Point) → cross (p ⊕ t) (q ⊕ t) ≡ cross p q +ℤ (cross p t +ℤ cross t q)
unfolding cross
cross-moved t p q = ring (t.x ∷ t.y ∷ p.x ∷ p.y ∷ q.x ∷ q.y ∷ []) (search reify depth 40) tt

moved-crosses : (t s p : Point) (ps : List Point)
    → crosses_to (s ⊕ t) (p ⊕ t) (map (λ q. q ⊕ t) ps) ≡ crosses_to s p ps +ℤ (cross p t +ℤ cross t s)
moved-crosses t s p [] = cross-moved t p s
moved-crosses t s p (q ∷ ps) =
    lia (cross (p ⊕ t) (q ⊕ t) ∷ cross p q ∷ cross p t ∷ cross t q ∷ cross q t ∷ cross t s ∷ crosses_to s q ps
    ∷ crosses_to (s ⊕ t) (q ⊕ t) (map (λ r. r ⊕ t) ps) ∷ [])
    (cross-moved t p q & moved-crosses t s q ps & cross-swap t q) (search linear depth 40) (omega arith)

pub moved-area : (P : List Point) (t : Point) → twice_area (map (λ p. p ⊕ t) P) ≡ twice_area P
moved-area [] t = refl
moved-area (p ∷ ps) t = moved-crosses t p p ps
    ∙ lia (crosses_to p p ps ∷ cross p t ∷ cross t p ∷ []) (cross-swap p t) (search linear depth 40) (omega arith)
