-- The corners of a shape that are outermost to the right, up and to the left, by where corners cease to go on in these directions.
--     lowest      the first corner is the lowest
--     highest     the corner at which they cease to go up is the highest; `rightmost`, `leftmost`: on the way up, and on the way down
--     extended    these four are how far a shape reaches
use Rattle.std.specs.Prelude.{◌≡◌, refl, Bool, true, false, List, [], ◌∷◌, ◌⊎◌, ℕ, zero, suc, ◌-◌, ◌≤◌, ◌<◌, ltb, pos, neg_ℤ, ◌≤ℤ◌, ◌<ℤ◌}
use Rattle.std.proofs.Common.{sym, ◌∙◌, ap, subst, true≢false, inl, inr, arith, ltb-true, ltb-false, eq-eqb}
use Rattle.std.proofs.Math.Path.{ap₂}
use Rattle.std.proofs.Math.ListN.{length}
use Rattle.integer.specs.Ring.{ring, reify}
use Rattle.integer.specs.Linear.{lia, linear, ◌&◌}
use Rattle.integer.specs.Order.{contra<, contra≤, le_of_eq, le_antisym, lt-or-le, weaken}
use Rattle.plane.specs.Cycle.{round}
use Rattle.plane.specs.Point.{Point, point, corner, opposite}
use Rattle.plane.specs.Shape.{next, precedes, IsShape}
use Rattle.plane.specs.Direction.{value, support}
use Rattle.plane.specs.Corner.{mirrored}
use Rattle.plane.proofs.theory.forms.Precedes.{level, lower-precedes, precedes-below}
use Rattle.plane.proofs.theory.lists.Members.{position-member, member-position}
use Rattle.plane.proofs.theory.lists.Next.{next-end, next-on, next-below}
use Rattle.plane.proofs.theory.sum.Positions.{round-inner, round-within}
use Rattle.plane.proofs.theory.support.Support.{support-unique, support-mirrored}
use Rattle.polygon.specs.declared.extent.Extent.{Extent}
use Rattle.polygon.specs.Point.{at}
use Rattle.polygon.specs.Extent.{highest as extent_highest, Extends}
use Rattle.sums.specs.Turning.{Turning, crossing}
use Rattle.sums.specs.theory.Enclosed.{between, from_start, to_end}

-- ---- the four directions

abbrev pub rightward : Point
rightward = point (pos 1) (pos 0)

abbrev pub upward : Point
upward = point (pos 0) (pos 1)

abbrev pub leftward : Point
leftward = opposite rightward

abbrev downward : Point
downward = opposite upward

module _ (p : Point) where
  value-right : value rightward p ≡ p.x
  unfolding value
  value-right = ring (p.x ∷ p.y ∷ []) (search reify depth 40) tt

  value-up : value upward p ≡ p.y
  unfolding value
  value-up = ring (p.x ∷ p.y ∷ []) (search reify depth 40) tt

  value-left : value leftward p ≡ neg_ℤ p.x
  unfolding value
  value-left = ring (p.x ∷ p.y ∷ []) (search reify depth 40) tt

  value-down : value downward p ≡ neg_ℤ p.y
  unfolding value
  value-down = ring (p.x ∷ p.y ∷ []) (search reify depth 40) tt

-- they have length 1
unit-right : value rightward rightward ≡ pos 1
unfolding value
unit-right = refl

unit-up : value upward upward ≡ pos 1
unfolding value
unit-up = refl

unit_left : value leftward leftward ≡ pos 1
unfolding value
unit_left = refl

-- what is no higher is no less low
module _ (p q : Point) where
  lower_by : value upward p ≤ℤ value upward q → value downward q ≤ℤ value downward p
  lower_by h = lia (p.y ∷ q.y ∷ value upward p ∷ value upward q ∷ value downward p ∷ value downward q ∷ [])
      (h & value-up p & value-up q & value-down p & value-down q) (search linear depth 40) (omega arith)

  lower-strict : value upward p <ℤ value upward q → value downward q <ℤ value downward p
  lower-strict h = lia (p.y ∷ q.y ∷ value upward p ∷ value upward q ∷ value downward p ∷ value downward q ∷ [])
      (h & value-up p & value-up q & value-down p & value-down q) (search linear depth 40) (omega arith)

  left-right : value leftward q <ℤ value leftward p → value rightward p <ℤ value rightward q
  left-right h = lia (p.x ∷ q.x ∷ value rightward p ∷ value rightward q ∷ value leftward p ∷ value leftward q ∷ [])
      (h & value-right p & value-right q & value-left p & value-left q) (search linear depth 40) (omega arith)

round-end : (n i : ℕ) → i ≡ n → round n i ≡ 0
round-end n i e = rw (eq-eqb i n e)

-- a corner left of the one that none precedes is higher
left-higher : {p q : Point} → precedes p q ≡ false → p.x <ℤ q.x → q.y <ℤ p.y
left-higher {p} {q} e h = contra< (λ g. go (lt-or-le p.y q.y) g)
  where
    go : (p.y <ℤ q.y) ⊎ (q.y ≤ℤ p.y) → p.y ≤ℤ q.y → ⊥
    go (inl k) g = true≢false (sym (precedes-below p q k) ∙ e)
    go (inr k) g = true≢false (sym (lower-precedes (level (le_antisym g k) h)).precedes-true ∙ e)

module _ (ps : List Point) (s : IsShape ps) where
  -- "with no corner that precedes the first"
  pub lowest : (c : ℕ) → c < length ps → value upward (corner ps 0) ≤ℤ value upward (corner ps c)
  lowest c h = contra≤ (λ g. true≢false (sym (precedes-below (corner ps c) (corner ps 0)
      (rw (← value-up (corner ps c), ← value-up (corner ps 0)) g)) ∙ s.start c h))

  higher : (c : ℕ) → c < length ps → value rightward (corner ps c) <ℤ value rightward (corner ps 0)
      → value upward (corner ps 0) <ℤ value upward (corner ps c)
  higher c h k = rw (value-up (corner ps c), value-up (corner ps 0))
      (left-higher (s.start c h) (rw (← value-right (corner ps c), ← value-right (corner ps 0)) k))

  -- the position after one that is not the last
  after_is : (k r : ℕ) → suc k ≡ r → r < length ps → next (length ps) k ≡ r
  after_is k r e h = next-on (length ps) k (λ q. omega (arith, q, e, h)) ∙ omega (arith, e)

  module _ (t : ℕ) (top : Turning ps upward 0 (length ps - 1) t) where
    top_in : t < length ps
    top_in = omega (arith, top.within, s.some)

    falls : value upward (corner ps (next (length ps) t)) ≤ℤ value upward (corner ps t)
    falls = go (ltb t (length ps - 1)) refl
      where
        go : (b : Bool) → ltb t (length ps - 1) ≡ b → value upward (corner ps (next (length ps) t)) ≤ℤ value upward (corner ps t)
        go true q = weaken (top.stops (ltb-true t (length ps - 1) q))
        go false q = rw (next-end (length ps) t (omega (arith, top_in, ltb-false t (length ps - 1) q))) (lowest t top_in)

    -- the corners go up from the first, unless there is no other
    alone : t ≡ 0 → length ps ≡ 1
    alone e = go (ltb t (length ps - 1)) refl
      where
        go : (b : Bool) → ltb t (length ps - 1) ≡ b → length ps ≡ 1
        go false q = omega (arith, e, s.some, ltb-false t (length ps - 1) q)
        go true q =
            let down = top.stops (ltb-true t (length ps - 1) q) in
            absurd (lia (value upward (corner ps 0) ∷ value upward (corner ps (next (length ps) t)) ∷ [])
            (subst (λ (i : ℕ). value upward (corner ps (next (length ps) t)) <ℤ value upward (corner ps i)) e down
            & lowest (next (length ps) t) (next-below (length ps) t top_in)) (search linear depth 40) (omega arith))

    rises : (k : ℕ) → suc k ≡ t → value upward (corner ps k) ≤ℤ value upward (corner ps t)
    rises k e = subst (λ (i : ℕ). value upward (corner ps k) ≤ℤ value upward (corner ps i)) (after_is k t e top_in)
        (top.goes k (omega arith) e)

    pub highest : (c : ℕ) → c < length ps → value upward (corner ps c) ≤ℤ value upward (corner ps t)
    highest c h = go t refl
      where
        go : (m : ℕ) → m ≡ t → value upward (corner ps c) ≤ℤ value upward (corner ps t)
        go zero e = le_of_eq (ap (λ (i : ℕ). value upward (corner ps i)) (omega (arith, alone (sym e), e, h)))
        go (suc k) e =
            between ps s upward unit-up t c top_in h k (omega (arith, e, top_in)) (after_is k t e top_in) (rises k e) falls

    module _ (r : ℕ) (way : Turning ps rightward 0 t r) where
      pub rightmost : (c : ℕ) → c < length ps → value rightward (corner ps c) ≤ℤ value rightward (corner ps r)
      rightmost c h = go r refl (ltb r t) refl
        where
          right-in : r < length ps
          right-in = omega (arith, way.within, top_in)

          goes : (k : ℕ) → suc k ≡ r → value rightward (corner ps k) ≤ℤ value rightward (corner ps r)
          goes k e = subst (λ (i : ℕ). value rightward (corner ps k) ≤ℤ value rightward (corner ps i)) (after_is k r e right-in)
              (way.goes k (omega arith) e)

          go : (m : ℕ) → m ≡ r → (b : Bool) → ltb r t ≡ b → value rightward (corner ps c) ≤ℤ value rightward (corner ps r)
          go zero e true q =
              let back = way.stops (ltb-true r t q) in
              let next-in = next-below (length ps) r right-in in
              from_start ps s rightward unit-right r c right-in h (weaken back)
              (subst (λ (i : ℕ). value upward (corner ps i) <ℤ value upward (corner ps (next (length ps) r))) e
              (higher (next (length ps) r) next-in
              (subst (λ (i : ℕ). value rightward (corner ps (next (length ps) r)) <ℤ value rightward (corner ps i)) (sym e) back)))
              (subst (λ (i : ℕ). value upward (corner ps i) ≤ℤ value upward (corner ps c)) e (lowest c h))
          go zero e false q =
              let none : t ≡ 0 = omega (arith, e, way.within, ltb-false r t q) in
              le_of_eq (ap (λ (i : ℕ). value rightward (corner ps i)) (omega (arith, alone none, e, h)))
          go (suc k) e true q =
              between ps s rightward unit-right r c right-in h k (omega (arith, e, right-in)) (after_is k r e right-in) (goes k e)
              (weaken (way.stops (ltb-true r t q)))
          go (suc k) e false q =
              let last : t ≡ r = omega (arith, way.within, ltb-false r t q) in
              to_end ps s rightward unit-right r c right-in h k (omega (arith, e, right-in)) (after_is k r e right-in) (goes k e)
              (subst (λ (i : ℕ). value upward (corner ps k) ≤ℤ value upward (corner ps i)) last (rises k (e ∙ sym last)))
              (subst (λ (i : ℕ). value upward (corner ps (next (length ps) i)) ≤ℤ value upward (corner ps i)) last falls)
              (subst (λ (i : ℕ). value upward (corner ps c) ≤ℤ value upward (corner ps i)) last (highest c h))

    module _ (l : ℕ) (way : Turning ps leftward t (length ps) l) where
      pub leftmost : (c : ℕ) → c < length ps → value leftward (corner ps c) ≤ℤ value leftward (corner ps (round (length ps) l))
      leftmost c h = go (ltb t l) refl
        where
          -- the top itself: the next corner is lower, and to its right
          here : t ≡ l → value leftward (corner ps c) ≤ℤ value leftward (corner ps t)
          here e =
              let back : value leftward (corner ps (next (length ps) t)) <ℤ value leftward (corner ps t) =
              subst (λ (i : ℕ). value leftward (corner ps (next (length ps) i)) <ℤ value leftward (corner ps i)) (sym e)
              (way.stops (omega (arith, e, top_in))) in
              from_start ps s leftward unit_left t c top_in h (weaken back)
              (lower-strict (corner ps (next (length ps) t)) (corner ps t) (below back (ltb t (length ps - 1)) refl))
              (lower_by (corner ps c) (corner ps t) (highest c h))
            where
              below : value leftward (corner ps (next (length ps) t)) <ℤ value leftward (corner ps t) → (b : Bool)
                  → ltb t (length ps - 1) ≡ b
                  → value upward (corner ps (next (length ps) t)) <ℤ value upward (corner ps t)
              below back true q = top.stops (ltb-true t (length ps - 1) q)
              below back false q =
                  let closing = next-end (length ps) t (omega (arith, top_in, ltb-false t (length ps - 1) q)) in
                  subst (λ (i : ℕ). value upward (corner ps i) <ℤ value upward (corner ps t)) (sym closing) (higher t top_in
                  (left-right (corner ps t) (corner ps 0)
                  (subst (λ (i : ℕ). value leftward (corner ps i) <ℤ value leftward (corner ps t)) closing back)))

          -- a corner after it, or the first
          further : (k : ℕ) → suc k ≡ l → t ≤ k → (b : Bool) → ltb l (length ps) ≡ b
              → value leftward (corner ps c) ≤ℤ value leftward (corner ps (next (length ps) k))
          further k e m true q =
              let inside = ltb-true l (length ps) q in
              let at_next = after_is k l e inside in
              let k-in : k < length ps = omega (arith, e, inside) in
              between ps s leftward unit_left (next (length ps) k) c (next-below (length ps) k k-in) h k k-in refl (way.goes k m e)
              (subst (λ (i : ℕ). value leftward (corner ps (next (length ps) i)) ≤ℤ value leftward (corner ps i)) (sym at_next)
              (weaken (way.stops inside)))
          further k e m false q =
              let k-in : k < length ps = omega (arith, e, way.within) in
              let closing = next-end (length ps) k (omega (arith, e, way.within, ltb-false l (length ps) q)) in
              let next-in = next-below (length ps) k k-in in
              to_end ps s leftward unit_left (next (length ps) k) c next-in h k k-in refl (way.goes k m e)
              (low closing k k-in)
              (low closing (next (length ps) (next (length ps) k)) (next-below (length ps) (next (length ps) k) next-in))
              (low closing c h)
            where
              low : next (length ps) k ≡ 0 → (i : ℕ) → i < length ps
                  → value downward (corner ps i) ≤ℤ value downward (corner ps (next (length ps) k))
              low closing i b = subst (λ (j : ℕ). value downward (corner ps i) ≤ℤ value downward (corner ps j)) (sym closing)
                  (lower_by (corner ps 0) (corner ps i) (lowest i b))

          after-round : (k : ℕ) → suc k ≡ l → (b : Bool) → ltb l (length ps) ≡ b → next (length ps) k ≡ round (length ps) l
          after-round k e true q =
              let inside = ltb-true l (length ps) q in after_is k l e inside ∙ sym (round-inner (length ps) l inside)
          after-round k e false q =
              let all : l ≡ length ps = omega (arith, way.within, ltb-false l (length ps) q) in
              next-end (length ps) k (omega (arith, e, all)) ∙ sym (round-end (length ps) l all)

          go : (b : Bool) → ltb t l ≡ b → value leftward (corner ps c) ≤ℤ value leftward (corner ps (round (length ps) l))
          go true q = later l refl
            where
              later : (m : ℕ) → m ≡ l → value leftward (corner ps c) ≤ℤ value leftward (corner ps (round (length ps) l))
              later zero e = absurd (omega (arith, e, ltb-true t l q))
              later (suc k) e = subst (λ (i : ℕ). value leftward (corner ps c) ≤ℤ value leftward (corner ps i))
                  (after-round k e (ltb l (length ps)) refl) (further k e (omega (arith, e, ltb-true t l q)) (ltb l (length ps)) refl)
          go false q =
              let same : t ≡ l = omega (arith, way.after, ltb-false t l q) in
              subst (λ (i : ℕ). value leftward (corner ps c) ≤ℤ value leftward (corner ps i))
              (same ∙ sym (round-inner (length ps) l (omega (arith, same, top_in)))) (here same)

-- ---- how far a shape reaches

module _ (ps : List Point) (s : IsShape ps) where
  support-at : (d : Point) (i : ℕ) → i < length ps → ((c : ℕ) → c < length ps → value d (corner ps c) ≤ℤ value d (corner ps i))
      → support d ps ≡ value d (corner ps i)
  support-at d i h f = support-unique d (position-member ps i h)
      (λ q m. let k = member-position m in subst (λ p. value d p ≤ℤ value d (corner ps i)) k.2 (f k.0 k.1))

  module _ {t r l : ℕ} (top : Turning ps upward 0 (length ps - 1) t) (right : Turning ps rightward 0 t r)
      (left : Turning ps leftward t (length ps) l) where
    high : extent_highest ps ≡ crossing (corner ps r) (corner ps t)
    unfolding extent_highest
    high =
        let top_in : t < length ps = omega (arith, top.within, s.some) in
        ap₂ point (support-at rightward r (omega (arith, right.within, top_in)) (rightmost ps s t top r right) ∙ value-right (corner ps r))
        (support-at upward t top_in (highest ps s t top) ∙ value-up (corner ps t))

    low : extent_highest (mirrored ps) ≡ opposite (crossing (corner ps (round (length ps) l)) (corner ps 0))
    unfolding extent_highest
    low = ap₂ point
        (support-mirrored rightward ps ∙ support-at leftward (round (length ps) l) (round-within (length ps) l s.some left.within)
        (leftmost ps s t top l left) ∙ value-left (corner ps (round (length ps) l)))
        (support-mirrored upward ps ∙ support-at downward 0 s.some
        (λ c h. lower_by (corner ps 0) (corner ps c) (lowest ps s c h)) ∙ value-down (corner ps 0))

    pub extended : {e : Extent} → at e.high ≡ crossing (corner ps r) (corner ps t)
        → at e.low ≡ opposite (crossing (corner ps (round (length ps) l)) (corner ps 0)) → Extends ps e
    extended h k = record { high_is = h ∙ sym high; low-is = k ∙ sym low }
