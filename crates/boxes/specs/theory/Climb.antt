-- The corner that is furthest in a direction, by the way up to it.
--     rises-up, rises-not      whether the next corner is further, by the value of the edge
--     rising-not-found         then this corner is not the one that `furthest` finds
--     climbed                  a corner is on the way up if the one before it is no further
--     climbs-turned            so is a corner that is furthest in a direction further to the right
--     climbs-same              of two names of a direction
--     still n i f              how many steps from i round to f; still-less: one less after a step, unless i is f
use Rattle.std.specs.Prelude.{◌≡◌, refl, Bool, true, false, cond, List, [], ◌∷◌, ℕ, suc, ◌+◌, ◌-◌, ◌≤◌, ◌<◌, leb, pos, ◌-ℤ◌, ◌*ℤ◌, length}
use Rattle.std.specs.Prelude.{◌≤ℤ◌, ◌<ℤ◌}
use Rattle.std.proofs.Common.{sym, ◌∙◌, ap, subst, arith, leb-true, leb-false, le-leb}
use Rattle.std.proofs.lemmas.Bool.{lt-leb}
use Rattle.std.specs.Int.Signed.{lt_z}
use Rattle.integer.specs.Ring.{ring, reify}
use Rattle.integer.specs.Linear.{lia, linear, ◌&◌}
use Rattle.integer.specs.Order.{◌<×<◌, ◌<×≤◌, ◌≤×≤◌, contra≤, le_antisym, lt_z-true, lt_z-false}
use Rattle.plane.specs.Point.{Point, corner, ◌∈◌, ◌⊖◌}
use Rattle.plane.specs.Turn.{cross, turn, Left}
use Rattle.plane.specs.Shape.{next, IsShape}
use Rattle.plane.specs.Direction.{value, support, furthest}
use Rattle.plane.specs.Face.{Furthest}
use Rattle.plane.proofs.theory.forms.Vector.{value-⊖}
use Rattle.plane.proofs.theory.lists.Members.{position-member, member-position}
use Rattle.plane.proofs.theory.lists.Next.{Following, onward, closing, following, next-below, preceding}
use Rattle.plane.proofs.theory.support.Support.{value-le-support, support-le}
use Rattle.plane.proofs.theory.face.FirstFurthest.{furthest-greatest}
use Rattle.plane.proofs.theory.sum.Positions.{edge-turn, next-left}
use Rattle.separation.specs.theory.Sector.{sector-weak}
use Rattle.boxes.specs.Scan.{Climbs}

module _ (d a b : Point) where
  pub rises-up : lt_z (pos 0) (value d (b ⊖ a)) ≡ true → value d a <ℤ value d b
  rises-up e = lia (value d a ∷ value d b ∷ value d (b ⊖ a) ∷ []) (lt_z-true {x = pos 0} {y = value d (b ⊖ a)} e & value-⊖ d b a)
      (search linear depth 40) (omega arith)

  pub rises-not : lt_z (pos 0) (value d (b ⊖ a)) ≡ false → value d b ≤ℤ value d a
  rises-not e = lia (value d a ∷ value d b ∷ value d (b ⊖ a) ∷ []) (lt_z-false {x = pos 0} {y = value d (b ⊖ a)} e & value-⊖ d b a)
      (search linear depth 40) (omega arith)

-- in direction e the edges at p from a and to c turn as in d, and e is left of d
turned-sector : (d e a p c : Point) → turn a p c *ℤ cross d e
    ≡ (value e c -ℤ value e p) *ℤ (value d p -ℤ value d a) -ℤ (value e p -ℤ value e a) *ℤ (value d c -ℤ value d p)
unfolding value turn cross
turned-sector d e a p c =
    ring (d.x ∷ d.y ∷ e.x ∷ e.y ∷ a.x ∷ a.y ∷ p.x ∷ p.y ∷ c.x ∷ c.y ∷ []) (search reify depth 40) tt

-- a corner p that is furthest in d, and from which the next edge does not rise in e: the edge before it does not fall there
turned-before : (d e a p c : Point) → Left a p c → pos 0 <ℤ cross d e → value d a ≤ℤ value d p → value d c ≤ℤ value d p
    → value e c ≤ℤ value e p → value e a ≤ℤ value e p
turned-before d e a p c t left before after level = contra≤ (λ g. lia
    (turn a p c ∷ cross d e ∷ value d a ∷ value d p ∷ value d c ∷ value e a ∷ value e p ∷ value e c ∷ [])
    (turned-sector d e a p c & t <×< left & level ≤×≤ before & g <×≤ after) (search linear depth 40) (omega arith))

pub climbs-same : {d e : Point} {ps : List Point} {i : ℕ} → d ≡ e → Climbs e ps i → Climbs d ps i
climbs-same {ps = ps} {i = i} h c = subst (λ (d : Point). Climbs d ps i) (sym h) c

module _ (ps : List Point) (d : Point) where
  pub rising-not-found : 0 < length ps → (i j : ℕ) → j < length ps → value d (corner ps i) <ℤ value d (corner ps j)
      → i ≡ furthest d ps → ⊥
  rising-not-found some i j h less e = lia (value d (corner ps i) ∷ value d (corner ps j) ∷ support d ps ∷ [])
      (less & value-le-support d (position-member ps j h) & ap (λ k. value d (corner ps k)) e ∙ sym (furthest-greatest d ps some).has)
      (search linear depth 40) (omega arith)

  module _ (s : IsShape ps) (three : 2 < length ps) where
    -- no corner is beyond the sector between the two edges
    pub climbed : (j : ℕ) → j < length ps → value d (corner ps j) ≤ℤ value d (corner ps (next (length ps) j))
        → Climbs d ps (next (length ps) j)
    climbed j h before = record {
      within = i-in;
      reached = λ after. record {
        within = i-in;
        has = le_antisym (value-le-support d (position-member ps i i-in)) (support-le d ps s.some (top after));
      };
    }
      where
        i : ℕ
        i = next (length ps) j

        i-in : i < length ps
        i-in = next-below (length ps) j h

        top : value d (corner ps (next (length ps) i)) ≤ℤ value d (corner ps i) → (p : Point) → p ∈ ps → value d p ≤ℤ value d (corner ps i)
        top after p m =
            let (k, hk, ek) = member-position m in
            sector-weak d (corner ps j) (corner ps i) (corner ps (next (length ps) i)) p (next-left ps s three j h) before after
            (rw ek at (edge-turn ps s j k h hk)) (rw ek at (edge-turn ps s i k i-in hk))

module _ {ps : List Point} (s : IsShape ps) (three : 2 < length ps) {d e : Point} (left : pos 0 <ℤ cross d e) where
  pub climbs-turned : {i : ℕ} → Furthest d ps i → Climbs e ps i
  climbs-turned {i} f = record { within = f.within; reached = go (preceding (length ps) i f.within) }
    where
      no-further : (k : ℕ) → k < length ps → value d (corner ps k) ≤ℤ value d (corner ps i)
      no-further k h = rw f.has (value-le-support d (position-member ps k h))

      go : (j : ℕ) × (j < length ps) × (next (length ps) j ≡ i) → value e (corner ps (next (length ps) i)) ≤ℤ value e (corner ps i)
          → Furthest e ps i
      go (j, h, q) level = rw q at (climbed ps e s three j h (rw q (turned-before d e (corner ps j) (corner ps i)
          (corner ps (next (length ps) i)) (rw q at (next-left ps s three j h)) left (no-further j h)
          (no-further (next (length ps) i) (next-below (length ps) i f.within)) level))).reached level

-- ---- the way round

abbrev pub still : ℕ → ℕ → ℕ → ℕ
still n i f = cond (leb i f) (f - i) (f + n - i)

still-here : (n i f : ℕ) → i ≤ f → still n i f ≡ f - i
still-here n i f h = rw (le-leb i f h)

still-round : (n i f : ℕ) → f < i → still n i f ≡ f + n - i
still-round n i f h = rw (lt-leb i f h)

pub still-less : (n i f : ℕ) → i < n → f < n → (i ≡ f → ⊥) → still n (next n i) f < still n i f
still-less n i f h k other = go (leb i f) refl (following n i h)
  where
    go : (b : Bool) → leb i f ≡ b → Following n i → still n (next n i) f < still n i f
    go true q (onward l e) = let near = leb-true i f q in
        rw (e, still-here n i f near, still-here n (suc i) f (omega arith)) (omega arith)
    go true q (closing l e) = let near = leb-true i f q in absurd (omega arith)
    go false q (onward l e) = let far = leb-false i f q in
        rw (e, still-round n i f far, still-round n (suc i) f (omega arith)) (omega arith)
    go false q (closing l e) = let far = leb-false i f q in
        rw (e, still-round n i f far, still-here n 0 f (omega arith)) (omega arith)
