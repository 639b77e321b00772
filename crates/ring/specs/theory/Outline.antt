-- What a ring is brought to, and when it is accepted.
--     ring-corners          no corner of the set of its points is lost
--     ring-points           its corners are points of the ring
--     ring-support          it reaches as far as the ring in every direction
--     ring-is-shape-of      so if it is a shape it is the shape of the set
--     quiet→shape, shape→quiet     no corner turns in exactly if it is a shape
use Rattle.std.specs.Prelude.{◌≡◌, refl, Bool, true, false, not, ◌⊎◌, ℕ, ◌+◌, ◌-◌, ◌≤◌, ◌<◌, ltb, ℤ, pos, negsuc, ◌+ℤ◌, ◌*ℤ◌, ◌≤ℤ◌}
use Rattle.std.proofs.Common.{sym, ◌∙◌, true≢false, inl, inr, arith, ltb-true, ltb-false}
use Rattle.std.proofs.Math.Path.{ap, subst}
use mathlib.Core.List.Memᴰ
use mathlib.Core.List.{List, [], ◌∷◌, ◌++◌, map, map-id}
use Rattle.std.proofs.Math.ListN.{length, get_or}
use Rattle.std.proofs.lemmas.List.{length-map}
use Rattle.integer.specs.Linear.{linear, lia, ◌&◌}
use Rattle.integer.specs.Order.{le_antisym, le_trans, le_of_eq}
use Rattle.plane.specs.Point.{Point, point, corner, same_point, ◌∈◌, ◌⊆◌}
use Rattle.plane.specs.Shape.{next, precedes, IsShape}
use Rattle.plane.specs.Search.{some as search_some}
use Rattle.plane.specs.Forms.{Precedes}
use Rattle.plane.specs.Direction.{value, support}
use Rattle.plane.specs.Corner.{Corner, shape_of}
use Rattle.plane.proofs.theory.lists.Next.{next-below}
use Rattle.plane.proofs.theory.lists.Members.{member-position, position-member, member-some, same_point-self, point-path}
use Rattle.plane.proofs.theory.lists.Sought.{some-none, none-some}
use Rattle.plane.proofs.theory.forms.Precedes.{Placed, ahead, same, behind, placed}
use Rattle.plane.proofs.theory.forms.Standard.{sorted→shape, ordered→shape}
use Rattle.plane.proofs.theory.support.Support.{value-le-support, support-le, support-subset}
use Rattle.plane.proofs.theory.hull.ShapeOf.{shape_of-support, shape_of-corner, shape_of-shape, shape-known}
use Rattle.ring.specs.Round.{optional, differing, distinct, clockwise, sensed, straight}
use Rattle.ring.specs.Round.{bends}
use Rattle.ring.specs.Ring.{previous, walked, least_place, open_ring, ring_places, ring_corners, ring_shape, turns_in, corner_of, inward_at}
use Rattle.ring.specs.theory.Steps.{map_at, walked_whole, sense-first, previous-below}
use Rattle.ring.specs.theory.Under.{Under, places-under, corners-under, start-below, walked-under, distinct-under, sense-under}
use Rattle.ring.specs.theory.Under.{bends-under}
use Rattle.ring.specs.theory.Kept.{Ringed, one, round, distinct-ringed, sense-ringed, opened-has, distinct-has, sense-has}
use Rattle.ring.specs.theory.Furthest.{bends-has}
use Rattle.ring.specs.theory.First.{walked-has, open_at, least-least, under-member, opened-first, first-kept}
use Rattle.ring.specs.theory.Turning.{turns_same, none-shape, shape-none}

-- a point or a segment
small-shape : (qs : List Point) → 0 < length qs → length qs ≤ 2 → (length qs ≡ 2 → Precedes (corner qs 0) (corner qs 1)) → IsShape qs
small-shape [] h k l = absurd (omega arith)
small-shape (p ∷ []) h k l = sorted→shape (p ∷ []) tt
small-shape (p ∷ (q ∷ [])) h k l = ordered→shape (p ∷ q ∷ []) ((l refl, tt), ((tt, tt), (tt, tt)))
small-shape (p ∷ (q ∷ (r ∷ qs))) h k l = absurd (omega arith)

-- a point that in no direction is further than another is that one
same-reach : (p q : Point) → ((d : Point) → value d q ≤ℤ value d p) → q ≡ p
unfolding value
same-reach p q h = point-path
    (lia (q.x ∷ q.y ∷ p.x ∷ p.y ∷ []) (along (pos 1) (pos 0) & along (negsuc 0) (pos 0)) (search linear depth 40) (omega arith))
    (lia (q.x ∷ q.y ∷ p.x ∷ p.y ∷ []) (along (pos 0) (pos 1) & along (pos 0) (negsuc 0)) (search linear depth 40) (omega arith))
  where
    along : (u v : ℤ) → (u *ℤ q.x +ℤ v *ℤ q.y) ≤ℤ (u *ℤ p.x +ℤ v *ℤ p.y)
    along u v = h (point u v)

module _ (ps : List Point) (some : 0 < length ps) where
  abbrev f : ℕ → Point
  f = corner ps

  abbrev n : ℕ
  n = length (open_ring ps)

  abbrev s : ℕ
  s = least_place f n

  start : s < n
  start = start-below ps some

  places-ringed : Ringed f (ring_places ps)
  unfolding ring_places
  places-ringed =
      subst (λ (w : List ℕ). Ringed f (distinct f w)) (sym (walked_whole n s (omega (arith, start))))
      (distinct-ringed f s (walked n (next n s) (n - 1)))

  -- on the way round from s every position comes
  side : (i : ℕ) → i < n → ((s ≤ i) × (i < s + n)) ⊎ (i + n < s + n)
  side i h = go (ltb i s) refl
    where
      go : (b : Bool) → ltb i s ≡ b → ((s ≤ i) × (i < s + n)) ⊎ (i + n < s + n)
      go true e = inr (omega (arith, ltb-true i s e))
      go false e = inl (ltb-false i s e, omega arith)

  places-have : (p : Point) → p ∈ ps → p ∈ map f (ring_places ps)
  unfolding ring_places
  places-have p m =
      let without = opened-has (λ (q : Point). q) ps (subst (λ (l : List Point). p ∈ l) (sym (map-id ps)) m) in
      let at = member-position (subst (λ (l : List Point). p ∈ l) (map-id (open_ring ps)) without) in
      let way = walked-has n s n at.0 start at.1 (side at.0 at.1) in
      distinct-has f (walked n s n) (Memᴰ.cast (sym at.2 ∙ open_at ps at.0 at.1) (Memᴰ.map f way))

  -- the list in its sense
  abbrev E : List ℕ
  E = sensed f (ring_places ps)

  sensed-ringed : Ringed f E
  sensed-ringed = sense-ringed f (clockwise f (ring_places ps)) (ring_places ps) places-ringed

  sensed-under : Under (length ps) E
  sensed-under = sense-under f (length ps) (clockwise f (ring_places ps)) (ring_places ps) (places-under ps some)

  -- ---- no corner is lost, and nothing is added

  pub ring-corners : (p : Point) → Corner ps p → p ∈ ring_shape ps
  unfolding ring_corners
  ring-corners p c =
      bends-has ps c E sensed-ringed sensed-under
      (sense-has f (clockwise f (ring_places ps)) (ring_places ps) (places-have p c.member))

  pub ring-points : ring_shape ps ⊆ ps
  ring-points q m =
      let at = Memᴰ.of_map f (ring_corners ps) m in
      Memᴰ.cast (sym at.2) (position-member ps at.0 (under-member (length ps) (ring_corners ps) (corners-under ps some) at.1))

  pub ring-some : 0 < length (ring_shape ps)
  ring-some =
      let shape = shape_of-shape ps some in
      member-some (ring-corners _ (shape_of-corner ps some (position-member (shape_of ps) 0 shape.some)))

  pub ring-support : (d : Point) → support d (ring_shape ps) ≡ support d ps
  ring-support d = le_antisym (support-subset d ring-some ring-points)
      (subst (λ (z : ℤ). z ≤ℤ support d (ring_shape ps)) (shape_of-support ps some d)
      (support-subset d (shape_of-shape ps some).some (λ p m. ring-corners p (shape_of-corner ps some m))))

  pub ring-is-shape-of : IsShape (ring_shape ps) → ring_shape ps ≡ shape_of ps
  ring-is-shape-of shape = shape-known (ring_shape ps) ps shape some ring-support

  -- ---- the first corner is the least

  least : (i : ℕ) → i < n → precedes (f i) (f s) ≡ false
  least i h = least-least f n i h

  places-first : get_or (ring_places ps) 0 0 ≡ s
  unfolding ring_places
  places-first =
      ap (λ (w : List ℕ). get_or (distinct f w) 0 0) (walked_whole n s (omega (arith, start)))
      ∙ opened-first f 0 s (differing f s (walked n (next n s) (n - 1)))

  sensed-first : get_or E 0 0 ≡ s
  sensed-first = sense-first (clockwise f (ring_places ps)) (ring_places ps) ∙ places-first

  places-few-under : Under n (ring_places ps)
  unfolding ring_places
  places-few-under = distinct-under f n (walked n s n) (walked-under n s n start)

  sensed-few-under : Under n E
  sensed-few-under = sense-under f n (clockwise f (ring_places ps)) (ring_places ps) places-few-under

  corners-few-under : Under n (ring_corners ps)
  unfolding ring_corners
  corners-few-under = bends-under f n E sensed-few-under

  corners-first : (zs : List ℕ) × (ring_corners ps ≡ s ∷ zs)
  unfolding ring_corners
  corners-first =
      let r = first-kept f n E sensed-ringed sensed-few-under
      (λ i h. subst (λ (x : ℕ). precedes (f i) (f x) ≡ false) (sym sensed-first) (least i h)) in
      (r.0, r.1 ∙ ap (λ (x : ℕ). x ∷ r.0) sensed-first)

  -- ---- two corners

  -- where all points are equal, there are not two corners
  all-equal : (p : Point) → ((q : Point) → q ∈ ring_shape ps → q ≡ p) → (q : Point) → q ∈ ps → q ≡ p
  all-equal p one-point q m = same-reach p q (λ d.
      le_trans (value-le-support d m) (subst (λ (z : ℤ). z ≤ℤ value d p) (ring-support d)
      (support-le d (ring_shape ps) ring-some (λ r k. le_of_eq (ap (value d) (one-point r k))))))

  not-lonely : (xs : List ℕ) → Ringed f xs → Under (length ps) xs → (p : Point) → ((q : Point) → q ∈ ps → q ≡ p) → length
      (bends f xs) ≡ 2 → ⊥
  not-lonely xs (one x) u p all e = go (straight (f x) (f x) (f x)) e
    where
      go : (t : Bool) → length (optional (not t) x ++ []) ≡ 2 → ⊥
      go true k = omega arith
      go false k = omega arith
  not-lonely xs (round x [] h) u p all e = true≢false (sym (same_point-self (f x)) ∙ h)
  not-lonely xs (round x (y ∷ ys) h) u p all e =
      let same = all (f x) (position-member ps x u.0) ∙ sym (all (f y) (position-member ps y u.1.0)) in
      true≢false (sym (same_point-self (f x)) ∙ ap (same_point (f x)) same ∙ h.0)

  pair-ahead : (zs : List ℕ) → ring_corners ps ≡ s ∷ zs → length (ring_shape ps) ≡ 2
      → Precedes (corner (ring_shape ps) 0) (corner (ring_shape ps) 1)
  unfolding ring_corners
  pair-ahead [] e two = absurd (omega (arith, ap (λ (l : List ℕ). length (map f l)) e))
  pair-ahead (y ∷ (z ∷ zs)) e two = absurd (omega (arith, ap (λ (l : List ℕ). length (map f l)) e))
  pair-ahead (y ∷ []) e two = subst (λ (l : List ℕ). Precedes (corner (map f l) 0) (corner (map f l) 1)) (sym e) (go (placed (f s) (f y)))
    where
      inside : Under n (s ∷ y ∷ [])
      inside = subst (Under n) e corners-few-under

      both : f s ≡ f y → (q : Point) → q ∈ map f (s ∷ y ∷ []) → q ≡ f s
      both k q (Memᴰ.head r) = r
      both k q (Memᴰ.tail (Memᴰ.head r)) = r ∙ sym k
      both k q (Memᴰ.tail (Memᴰ.tail m)) = absurd (Memᴰ.not-nil m)

      go : Placed (f s) (f y) → Precedes (f s) (f y)
      go (ahead p) = p
      go (behind p) = absurd (true≢false (sym p.precedes-true ∙ least y inside.1.0))
      go (same k) = absurd (not-lonely E sensed-ringed sensed-under (f s)
          (all-equal (f s) (λ q m. both k q (subst (λ (l : List ℕ). q ∈ map f l) e m))) (ap length e))

  -- ---- accepted exactly if it is a shape

  inward-points : (i : ℕ) → i < length (ring_corners ps)
      → inward_at ps (ring_corners ps) i ≡ turns_in (corner (ring_shape ps)) (length (ring_shape ps)) i
  inward-points i h =
      let is = ring_corners ps in
      turns_same (corner_of ps is) (corner (ring_shape ps)) (length is) i
      (sym (map_at f is (previous (length is) i) (previous-below (length is) i h))) (sym (map_at f is i h))
      (sym (map_at f is (next (length is) i) (next-below (length is) i h)))
      ∙ ap (λ (k : ℕ). turns_in (corner (ring_shape ps)) k i) (sym (length-map is f))

  pub quiet→shape : search_some (inward_at ps (ring_corners ps)) (length (ring_corners ps)) ≡ false → IsShape (ring_shape ps)
  quiet→shape q = go (ltb 2 (length (ring_shape ps))) refl
    where
      as_many : length (ring_shape ps) ≡ length (ring_corners ps)
      as_many = length-map (ring_corners ps) f

      go : (t : Bool) → ltb 2 (length (ring_shape ps)) ≡ t → IsShape (ring_shape ps)
      go true e = none-shape (ring_shape ps) (ltb-true 2 (length (ring_shape ps)) e) (λ i h.
          sym (inward-points i (omega (arith, as_many))) ∙ some-none (inward_at ps (ring_corners ps)) (length (ring_corners ps)) q i
          (omega (arith, as_many)))
      go false e = small-shape (ring_shape ps) ring-some (ltb-false 2 (length (ring_shape ps)) e)
          (λ two. pair-ahead corners-first.0 corners-first.1 two)

  pub shape→quiet : IsShape (ring_shape ps) → search_some (inward_at ps (ring_corners ps)) (length (ring_corners ps)) ≡ false
  shape→quiet shape = none-some (inward_at ps (ring_corners ps)) (length (ring_corners ps)) (λ i h.
      inward-points i h ∙ shape-none (ring_shape ps) shape i (omega (arith, length-map (ring_corners ps) f)))
