-- A shape's corners rise to its peak, and fall from there.
--     least                 the first corner precedes all others; `left`: any three in order turn left; `different`: no two are equal
--     rise, fall            up to the peak a later corner is higher, and from it on lower; `behind-peak`: than the peak
--     peak-last             no corner follows the peak
use Rattle.std.specs.Prelude.{◌≡◌, refl, Bool, true, false, List, [], ◌∷◌, ℕ, zero, suc, ◌+◌, ◌-◌, ◌≤◌, ◌<◌, ltb, length}
use Rattle.std.proofs.Common.{sym, ◌∙◌, subst, true≢false, arith, ltb-true, ltb-false}
use Rattle.std.proofs.Math.Decide.{ℕ_discrete}
use Rattle.plane.specs.Point.{Point, corner}
use Rattle.plane.specs.Turn.{Left}
use Rattle.plane.specs.Shape.{precedes, IsShape}
use Rattle.plane.specs.Forms.{Precedes, Ordered}
use Rattle.plane.proofs.theory.forms.Precedes.{Placed, ahead, same, behind, placed, precedes-trans, precedes-asym}
use Rattle.plane.proofs.theory.forms.Precedes.{precedes-irrefl, precedes-reversed, not-precedes}
use Rattle.plane.proofs.theory.forms.Round.{turn-bottom}
use Rattle.plane.proofs.theory.forms.Standard.{all-at, triples-at, shape→ordered}
use Rattle.plane.proofs.theory.sum.Positions.{corner-injective}
use Rattle.polygon.specs.Peak.{Peak}

-- ---- up to the peak, and down from it

module _ (ps : List Point) (shape : IsShape ps) where
  pub least : (j : ℕ) → 0 < j → j < length ps → Precedes (corner ps 0) (corner ps j)
  least j h l = go ps (shape→ordered ps shape) j h l
    where
      go : (l : List Point) → Ordered l → (j : ℕ) → 0 < j → j < length l → Precedes (corner l 0) (corner l j)
      go [] o j h k = absurd o
      go (p ∷ l) o zero h k = absurd (omega arith)
      go (p ∷ l) o (suc j) h k = all-at (λ q. Precedes p q) l o.0 j (omega arith)

  pub left : (i j k : ℕ) → i < j → j < k → k < length ps → Left (corner ps i) (corner ps j) (corner ps k)
  left = go ps (shape→ordered ps shape)
    where
      go : (l : List Point) → Ordered l → (i j k : ℕ) → i < j → j < k → k < length l → Left (corner l i) (corner l j) (corner l k)
      go [] o i j k a b c = absurd o
      go (p ∷ l) o i j k a b c = triples-at (p ∷ l) o.1 i j k a b c

  pub different : (i j : ℕ) → i < j → j < length ps → corner ps i ≡ corner ps j → ⊥
  different i j h l e = omega (arith, corner-injective ps shape i j (omega arith) l e)

  -- a corner is not below one before it and one after it
  no-bottom : (i k j : ℕ) → i < k → k < j → j < length ps → Precedes (corner ps k) (corner ps i) → Precedes (corner ps k) (corner ps j) → ⊥
  no-bottom zero k j a b l u v = precedes-asym (least k a (omega arith)) u
  no-bottom (suc i) k j a b l u v =
      turn-bottom (least k (omega arith) (omega arith)) u v (left 0 (suc i) k (omega arith) a (omega arith)) (left 0 k j (omega arith) b l)
      (left (suc i) k j a b l)

  module _ (t : ℕ) (peak : Peak ps t) where
    climb : (j m : ℕ) → suc (j + m) ≤ t → Precedes (corner ps j) (corner ps (suc (j + m)))
    climb j zero h =
        let e : suc (j + 0) ≡ suc j = omega arith in
        subst (λ k. Precedes (corner ps j) (corner ps k)) (sym e) (record { precedes-true = peak.rises j (omega arith) })
    climb j (suc m) h =
        let e : suc (j + suc m) ≡ suc (suc (j + m)) = omega arith in
        subst (λ k. Precedes (corner ps j) (corner ps k)) (sym e)
        (precedes-trans (climb j m (omega arith)) (record { precedes-true = peak.rises (suc (j + m)) (omega arith) }))

    pub rise : (j k : ℕ) → j < k → k ≤ t → Precedes (corner ps j) (corner ps k)
    rise j k h l = let e : k ≡ suc (j + (k - suc j)) = omega arith in
        subst (λ i. Precedes (corner ps j) (corner ps i)) (sym e) (climb j (k - suc j) (omega arith))

    -- the peak's next corner, and so every later one, is below it
    pub behind-peak : (k : ℕ) → t < k → k < length ps → Precedes (corner ps k) (corner ps t)
    behind-peak k h l = go (placed (corner ps t) (corner ps k))
      where
        next : Placed (corner ps t) (corner ps (suc t)) → Precedes (corner ps (suc t)) (corner ps t)
        next (ahead u) = absurd (true≢false (sym u.precedes-true ∙ peak.falls (omega arith)))
        next (same e) = absurd (different t (suc t) (omega arith) (omega arith) e)
        next (behind u) = u

        down : Precedes (corner ps (suc t)) (corner ps t)
        down = next (placed (corner ps t) (corner ps (suc t)))

        go : Placed (corner ps t) (corner ps k) → Precedes (corner ps k) (corner ps t)
        go (ahead u) = split (ℕ_discrete k (suc t))
          where
            split : Dec (k ≡ suc t) → Precedes (corner ps k) (corner ps t)
            split (yes e) = subst (λ i. Precedes (corner ps i) (corner ps t)) (sym e) down
            split (no f) = absurd (no-bottom t (suc t) k (omega arith) (omega (arith, f)) l down (precedes-trans down u))
        go (same e) = absurd (different t k h l e)
        go (behind u) = u

    pub fall : (j k : ℕ) → t ≤ j → j < k → k < length ps → Precedes (corner ps k) (corner ps j)
    fall j k h i l = split (ℕ_discrete j t)
      where
        go : t < j → Placed (corner ps j) (corner ps k) → Precedes (corner ps k) (corner ps j)
        go m (ahead u) = absurd (no-bottom t j k m i l (behind-peak j m (omega arith)) u)
        go m (same e) = absurd (different j k i l e)
        go m (behind u) = u

        split : Dec (j ≡ t) → Precedes (corner ps k) (corner ps j)
        split (yes e) = subst (λ x. Precedes (corner ps k) (corner ps x)) (sym e) (behind-peak k (omega arith) l)
        split (no f) = go (omega (arith, f)) (placed (corner ps j) (corner ps k))

    pub peak-last : (k : ℕ) → k < length ps → precedes (corner ps t) (corner ps k) ≡ false
    peak-last k h = go (ltb k t) refl (ltb t k) refl
      where
        go : (a : Bool) → ltb k t ≡ a → (b : Bool) → ltb t k ≡ b → precedes (corner ps t) (corner ps k) ≡ false
        go true p b q = precedes-reversed (rise k t (ltb-true k t p) (omega arith))
        go false p true q = precedes-reversed (behind-peak k (ltb-true t k q) h)
        go false p false q = let e : k ≡ t = omega (arith, ltb-false k t p, ltb-false t k q) in
            rw e (not-precedes (corner ps t) (corner ps t) (λ u. precedes-irrefl u))
