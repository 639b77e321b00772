-- Lowest corners are the furthest ones in the opposite direction, so that what is known of the plane's faces is known of them.
--     lowest-neighbours            two lowest corners of a shape are neighbours
--     neighbours-lowest            a corner of a shape is lowest if neither of its neighbours is lower; `between-lowest`: corner i
--     level-lowest                 so is a corner that is as low
--     edge-face, corner-face       two neighbours that are lowest are the face, or one corner if both its neighbours are higher
--     face-ends                    the first and the last of a face in the opposite direction, by position
use Rattle.std.specs.Prelude.{◌≡◌, refl, Bool, true, false, cond, ◌⊎◌, List, [], ◌∷◌, ℕ, ◌≤◌, ◌<◌, ltb, pos, length, ◌≤ℤ◌, ◌<ℤ◌}
use Rattle.std.proofs.Common.{sym, ◌∙◌, subst, inl, inr, arith, ltb-true, ltb-false}
use Rattle.std.proofs.Math.Decide.{ℕ_discrete}
use Rattle.std.specs.Int.Signed.{≤ℤ_refl, clash_ℤ}
use Rattle.integer.specs.Linear.{linear, lia, ◌&◌}
use Rattle.plane.specs.Point.{Point, corner, opposite}
use Rattle.plane.specs.Shape.{next, IsShape}
use Rattle.plane.specs.Direction.{value}
use Rattle.plane.specs.Forms.{NonZero}
use Rattle.plane.specs.Face.{face_first, face_last, Furthest, Face}
use Rattle.plane.proofs.theory.lists.Members.{position-member, member-position}
use Rattle.plane.proofs.theory.lists.Next.{Following, onward, closing, following, next-below, one-or-next}
use Rattle.plane.proofs.theory.forms.Vector.{opposite-non-zero, turned_le, turned-back, positive-non-zero}
use Rattle.plane.proofs.theory.support.Support.{value-le-support, support-unique}
use Rattle.plane.proofs.theory.face.Tied.{tied-alone}
use Rattle.plane.proofs.theory.face.Face.{furthest-neighbours, face-is}
use Rattle.plane.proofs.theory.sum.Positions.{edge-turn, next-left}
use Rattle.separation.specs.theory.Sector.{sector-weak}
use Rattle.clearance.specs.Facing.{Lowest}
use Rattle.clearance.specs.Faces.{IsFace, ordered_ends}

three-or-few : (n : ℕ) → (2 < n) ⊎ (n ≤ 2)
three-or-few n = go (ltb 2 n) refl
  where
    go : (b : Bool) → ltb 2 n ≡ b → (2 < n) ⊎ (n ≤ 2)
    go true e = inl (ltb-true 2 n e)
    go false e = inr (ltb-false 2 n e)

-- only one position is before another
next-same : (n k b : ℕ) → k < n → b < n → next n k ≡ next n b → k ≡ b
next-same n k b h l e = go (following n k h) (following n b l)
  where
    go : Following n k → Following n b → k ≡ b
    go (onward m p) (onward q r) = omega (arith, e, p, r)
    go (onward m p) (closing q r) = absurd (omega (arith, e, p, r))
    go (closing m p) (onward q r) = absurd (omega (arith, e, p, r))
    go (closing m p) (closing q r) = omega (arith, m, q)

-- ---- lowest corners

module _ {n : Point} {ps : List Point} where
  lowest-furthest : {i : ℕ} → Lowest n ps i → Furthest (opposite n) ps i
  lowest-furthest {i} l = record {
    within = l.within;
    has = sym (support-unique (opposite n) (position-member ps i l.within) (λ q m. below q (member-position m)));
  }
    where
      below : (q : Point) → (k : ℕ) × (k < length ps) × (corner ps k ≡ q) → value (opposite n) q ≤ℤ value (opposite n) (corner ps i)
      below q k = rw (← k.2) (turned_le n (corner ps i) (corner ps k.0) (l.lowest k.0 k.1))

  furthest-lowest : {i : ℕ} → Furthest (opposite n) ps i → Lowest n ps i
  furthest-lowest {i} f = record {
    within = f.within;
    lowest = λ k h. turned-back n (corner ps i) (corner ps k)
        (subst (λ z. value (opposite n) (corner ps k) ≤ℤ z) (sym f.has) (value-le-support (opposite n) (position-member ps k h)));
  }

  pub lowest-neighbours : IsShape ps → pos 0 <ℤ value n n → (i j : ℕ) → Lowest n ps i → Lowest n ps j → (i ≡ j → ⊥)
      → (j ≡ next (length ps) i) ⊎ (i ≡ next (length ps) j)
  lowest-neighbours s some i j l m other = furthest-neighbours s (opposite-non-zero (positive-non-zero n n some)) i j (lowest-furthest l)
      (lowest-furthest m) (λ e. other (sym e))

  -- nothing is outside of the sector between the two edges at a corner
  pub neighbours-lowest : IsShape ps → (k : ℕ) → k < length ps → let at = next (length ps) k in
      value n (corner ps at) ≤ℤ value n (corner ps k) → value n (corner ps at) ≤ℤ value n (corner ps (next (length ps) at)) → Lowest n ps at
  neighbours-lowest s k h one other = record { within = next-below (length ps) k h; lowest = λ i r. go i r (three-or-few (length ps)) }
    where
      at : ℕ
      at = next (length ps) k

      go : (i : ℕ) → i < length ps → (2 < length ps) ⊎ (length ps ≤ 2) → value n (corner ps at) ≤ℤ value n (corner ps i)
      go i r (inl three) = turned-back n (corner ps at) (corner ps i)
          (sector-weak (opposite n) (corner ps k) (corner ps at) (corner ps (next (length ps) at)) (corner ps i) (next-left ps s three k h)
          (turned_le n (corner ps at) (corner ps k) one) (turned_le n (corner ps at) (corner ps (next (length ps) at)) other)
          (edge-turn ps s k i h r) (edge-turn ps s at i (next-below (length ps) k h) r))
      go i r (inr l) = pick (one-or-next (length ps) k i l h r)
        where
          pick : (i ≡ k) ⊎ (i ≡ at) → value n (corner ps at) ≤ℤ value n (corner ps i)
          pick (inl e) = rw e one
          pick (inr e) = rw e (≤ℤ_refl (value n (corner ps at)))

  -- the same of corner i, after b and before o
  pub between-lowest : IsShape ps → (b i o : ℕ) → b < length ps → next (length ps) b ≡ i → next (length ps) i ≡ o
      → value n (corner ps i) ≤ℤ value n (corner ps b) → value n (corner ps i) ≤ℤ value n (corner ps o) → Lowest n ps i
  between-lowest s b i o h p q one other = subst (Lowest n ps) p (neighbours-lowest s b h (rw p one) (rw (p, q) other))

  pub level-lowest : {i : ℕ} → Lowest n ps i → (j : ℕ) → j < length ps → value n (corner ps j) ≤ℤ value n (corner ps i) → Lowest n ps j
  level-lowest {i} l j h e = record { within = h; lowest = below }
    where
      below : (k : ℕ) → k < length ps → value n (corner ps j) ≤ℤ value n (corner ps k)
      below k r = lia (value n (corner ps j) ∷ value n (corner ps i) ∷ value n (corner ps k) ∷ []) (e & l.lowest k r)
          (search linear depth 40) (omega arith)

  -- ---- a face by its ends

  ends-face : {i j : ℕ} → Lowest n ps i → Lowest n ps j → ((k : ℕ) → Lowest n ps k → (k ≡ i) ⊎ (k ≡ j)) → IsFace n ps (ordered_ends i j)
  ends-face {i} {j} l m only = go (ltb j i) refl
    where
      go : (b : Bool) → ltb j i ≡ b → IsFace n ps (cond b (record { first = j; last = i }) (record { first = i; last = j }))
      go true e = record {
        first-lowest = m;
        last-lowest = l;
        ordered = omega (arith, ltb-true j i e);
        no_other = λ k o. elim (only k o) [ inl q ↦ inr q | inr q ↦ inl q ];
      }
      go false e = record { first-lowest = l; last-lowest = m; ordered = ltb-false j i e; no_other = only }

  module _ (s : IsShape ps) (some : NonZero n) where
    -- two neighbours are the face
    pub edge-face : (e o : ℕ) → next (length ps) e ≡ o → Lowest n ps e → Lowest n ps o → IsFace n ps (ordered_ends e o)
    edge-face e o q l m = ends-face l m (λ k h. go k h (ℕ_discrete k e) (ℕ_discrete k o))
      where
        go : (k : ℕ) → Lowest n ps k → Dec (k ≡ e) → Dec (k ≡ o) → (k ≡ e) ⊎ (k ≡ o)
        go k h (yes p) r = inl p
        go k h (no p) (yes r) = inr r
        go k h (no p) (no r) = absurd (tied-alone ps s (opposite n) e k (opposite-non-zero some) l.within h.within p
            (λ z. r (z ∙ q)) (lowest-furthest l).has (lowest-furthest (subst (Lowest n ps) (sym q) m)).has (lowest-furthest h).has)

    -- a corner is the face by itself if both its neighbours are higher
    pub corner-face : (b i o : ℕ) → b < length ps → next (length ps) b ≡ i → next (length ps) i ≡ o → Lowest n ps i
        → value n (corner ps i) <ℤ value n (corner ps b) → value n (corner ps i) <ℤ value n (corner ps o) → IsFace n ps (ordered_ends i i)
    corner-face b i o h p q l one other = ends-face l l (λ k m. go k m (ℕ_discrete k i))
      where
        go : (k : ℕ) → Lowest n ps k → Dec (k ≡ i) → (k ≡ i) ⊎ (k ≡ i)
        go k m (yes e) = inl e
        go k m (no e) = elim (furthest-neighbours s (opposite-non-zero some) i k (lowest-furthest l) (lowest-furthest m) e) [
          | inl z ↦ clash_ℤ other (subst (λ j. value n (corner ps j) ≤ℤ value n (corner ps i)) (z ∙ q) (m.lowest i l.within))
          | inr z ↦ clash_ℤ one (subst (λ j. value n (corner ps j) ≤ℤ value n (corner ps i))
              (next-same (length ps) k b m.within h (sym z ∙ sym p)) (m.lowest i l.within))
        ]

  -- ---- the face that the code is given, its ends put in order

  module _ (s : IsShape ps) (some : NonZero n) {i j : ℕ} (p : i ≡ face_first (opposite n) ps) (q : j ≡ face_last (opposite n) ps) where
    given : Face (opposite n) ps i j
    given = rw (p, q) (face-is s (opposite-non-zero some))

    pub face-ends : IsFace n ps (ordered_ends i j)
    face-ends = ends-face (furthest-lowest given.first-furthest) (furthest-lowest given.last-furthest)
        (λ k l. given.no_other k (lowest-furthest l))
