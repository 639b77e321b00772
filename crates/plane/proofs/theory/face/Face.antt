-- The face of a shape in a direction other than (0,0): all its furthest corners.
--     furthest-true, true-furthest     a corner is furthest exactly if the test says so
--     face-edge, face-corner    an edge with both ends furthest is the face; so is a corner with no furthest neighbour
--     face-is                   the definition is a face, and `face-unique` the only one
--     face-left                 the shape lies to the left of the step from the first to the last
--     segment-face              of a segment across the direction the face is 0 and 1
use Rattle.std.specs.Prelude.{◌≡◌, Bool, true, false, cond, List, ◌⊎◌, ltb}
use Rattle.std.proofs.Math.Path.{refl}
use Rattle.std.proofs.Common.{sym, ◌∙◌, ap, subst, inl, inr, arith, ltb-true, ltb-false}
use Rattle.std.proofs.Math.Bool.{and-eq-true_iff}
use Prim.Native.Nat.{ℕ, ◌≤◌, ◌<◌}
use Rattle.std.proofs.Math.Decide.{ℕ_discrete}
use Rattle.std.proofs.Math.ListN.{length}
use Rattle.integer.specs.Order.{le_of_eq, le_antisym, le-le_z, le_z-true}
use Rattle.plane.specs.Point.{Point, corner}
use Rattle.plane.specs.Turn.{Left}
use Rattle.plane.specs.Shape.{next, IsShape}
use Rattle.plane.specs.Forms.{NonZero}
use Rattle.plane.specs.Direction.{value, furthest}
use Rattle.plane.specs.Face.{is_furthest, is_flat, flat_edge, face_first, face_last, Furthest, Face}
use Rattle.plane.proofs.theory.lists.Members.{position-member}
use Rattle.plane.proofs.theory.lists.Next.{Following, onward, closing, following, next-below, two_steps}
use Rattle.plane.proofs.theory.lists.Sought.{first-true, first-least, true-not-false}
use Rattle.plane.proofs.theory.support.Support.{value-le-support}
use Rattle.plane.proofs.theory.face.Tied.{Tied, after, behind, tied, tied-alone}
use Rattle.plane.proofs.theory.face.FirstFurthest.{furthest-greatest}

-- ---- the test

pub true-furthest : {d : Point} {ps : List Point} {i : ℕ} → i < length ps → is_furthest d ps i ≡ true → Furthest d ps i
true-furthest {d} {ps} {i} h e = record { within = h; has = le_antisym (value-le-support d (position-member ps i h)) (le_z-true e) }

pub furthest-true : {d : Point} {ps : List Point} {i : ℕ} → Furthest d ps i → is_furthest d ps i ≡ true
furthest-true f = le-le_z (le_of_eq (sym f.has))

module _ {d : Point} {ps : List Point} (s : IsShape ps) (some : NonZero d) where
  -- two furthest corners are neighbours
  pub furthest-neighbours : (i j : ℕ) → Furthest d ps i → Furthest d ps j → (j ≡ i → ⊥)
      → (j ≡ next (length ps) i) ⊎ (i ≡ next (length ps) j)
  furthest-neighbours i j f g other = go (tied ps s d i j some f.within g.within other f.has g.has)
    where
      go : Tied ps d i j → (j ≡ next (length ps) i) ⊎ (i ≡ next (length ps) j)
      go (after e w) = inl e
      go (behind e w) = inr e

  -- ---- what is a face

  pub face-edge : (e : ℕ) → Furthest d ps e → Furthest d ps (next (length ps) e) → (length ps ≡ 2 → e ≤ next (length ps) e)
      → Face d ps e (next (length ps) e)
  face-edge e f g order = record {
    first-furthest = f;
    last-furthest = g;
    neighbours = inr refl;
    no_other = λ k h. other k h (ℕ_discrete k e) (ℕ_discrete k (next (length ps) e));
    in_order = order;
  }
    where
      other : (k : ℕ) → Furthest d ps k → Dec (k ≡ e) → Dec (k ≡ next (length ps) e) → (k ≡ e) ⊎ (k ≡ next (length ps) e)
      other k h (yes p) q = inl p
      other k h (no p) (yes q) = inr q
      other k h (no p) (no q) = absurd (tied-alone ps s d e k some f.within h.within p q f.has g.has h.has)

  pub face-corner : (i : ℕ) → Furthest d ps i → ((k : ℕ) → Furthest d ps k → (k ≡ i → ⊥) → k ≡ next (length ps) i → ⊥)
      → ((k : ℕ) → Furthest d ps k → (k ≡ i → ⊥) → i ≡ next (length ps) k → ⊥) → Face d ps i i
  face-corner i f not-next not-before = record {
    first-furthest = f;
    last-furthest = f;
    neighbours = inl refl;
    no_other = λ k h. other k h (ℕ_discrete k i);
    in_order = λ e. omega arith;
  }
    where
      other : (k : ℕ) → Furthest d ps k → Dec (k ≡ i) → (k ≡ i) ⊎ (k ≡ i)
      other k h (yes p) = inl p
      other k h (no p) = elim (furthest-neighbours i k f h p) [ inl e ↦ absurd (not-next k h p e) | inr e ↦ absurd (not-before k h p e) ]

  -- ---- there is only one

  module _ {i j k l : ℕ} (f : Face d ps i j) (g : Face d ps k l) where
    -- the same two corners the other way round: only a segment goes there and back
    crossed : k ≡ j → l ≡ i → i ≡ j
    crossed p q = go f.neighbours g.neighbours
      where
        go : (j ≡ i) ⊎ (j ≡ next (length ps) i) → (l ≡ k) ⊎ (l ≡ next (length ps) k) → i ≡ j
        go (inl u) v = sym u
        go (inr u) (inl v) = sym q ∙ v ∙ p
        go (inr u) (inr v) = there_and_back (ltb 2 (length ps)) refl
          where
            there_and_back : (b : Bool) → ltb 2 (length ps) ≡ b → i ≡ j
            there_and_back true e = absurd ((two_steps (length ps) i (ltb-true 2 (length ps) e) f.first-furthest.within).0
                (ap (next (length ps)) (sym (p ∙ u)) ∙ sym v ∙ q))
            there_and_back false e = few (ltb-false 2 (length ps) e) (ℕ_discrete (length ps) 2)
              where
                few : length ps ≤ 2 → Dec (length ps ≡ 2) → i ≡ j
                few h (yes r) = omega (arith, f.in_order r, g.in_order r)
                few h (no r) = omega (arith, f.first-furthest.within, f.last-furthest.within)

    pub face-unique : (k ≡ i) × (l ≡ j)
    face-unique = go (f.no_other k g.first-furthest) (f.no_other l g.last-furthest)
      where
        go : (k ≡ i) ⊎ (k ≡ j) → (l ≡ i) ⊎ (l ≡ j) → (k ≡ i) × (l ≡ j)
        go (inl p) (inr q) = (p, q)
        go (inl p) (inl q) = elim (g.no_other j f.last-furthest) [ inl r ↦ (p, omega arith) | inr r ↦ (p, omega arith) ]
        go (inr p) (inr q) = elim (g.no_other i f.first-furthest) [ inl r ↦ (omega arith, q) | inr r ↦ (omega arith, q) ]
        go (inr p) (inl q) = let r = crossed p q in (omega arith, omega arith)

  -- ---- the definition

  top : Furthest d ps (furthest d ps)
  top = let r = furthest-greatest d ps s.some in record { within = r.within; has = sym r.has }

  pub face-is : Face d ps (face_first d ps) (face_last d ps)
  unfolding face_first face_last
  face-is = go (ltb (flat_edge d ps) (length ps)) refl
    where
      n : ℕ
      n = length ps

      flat : (e : ℕ) → Furthest d ps e → Furthest d ps (next n e) → is_flat d ps e ≡ true
      flat e f g = rw (furthest-true f) (furthest-true g)

      both : (e : ℕ) → e < n → is_flat d ps e ≡ true → Furthest d ps e × Furthest d ps (next n e)
      both e h t =
          let r = (and-eq-true_iff (is_furthest d ps e) (is_furthest d ps (next n e))).0 t in
          (true-furthest h r.0, true-furthest (next-below n e h) r.1)

      -- a segment across is furthest at both corners, so its first edge is flat
      in_order : (e : ℕ) → e < n → e ≡ flat_edge d ps → is_flat d ps e ≡ true → n ≡ 2 → e ≤ next n e
      in_order e h first-is t two = onwards (following n e h) (following n 0 (omega arith))
        where
          onwards : Following n e → Following n 0 → e ≤ next n e
          onwards (onward k p) q = omega arith
          onwards (closing k p) (closing l q) = absurd (omega arith)
          onwards (closing k p) (onward l q) =
              let one : next n 0 ≡ e = omega arith in
              let r = both e h t in
              true-not-false (flat 0 (subst (Furthest d ps) p r.1) (subst (Furthest d ps) (sym one) r.0))
              (first-least (is_flat d ps) n 0 (omega arith))

      go : (b : Bool) → ltb (flat_edge d ps) n ≡ b
          → Face d ps (cond b (flat_edge d ps) (furthest d ps)) (cond b (next n (flat_edge d ps)) (furthest d ps))
      go true e =
          let h = ltb-true (flat_edge d ps) n e in
          let t = first-true (is_flat d ps) n h in
          face-edge (flat_edge d ps) (both (flat_edge d ps) h t).0 (both (flat_edge d ps) h t).1 (in_order (flat_edge d ps) h refl t)
      go false e = face-corner (furthest d ps) top
          (λ k h other q. none (furthest d ps) top.within (flat (furthest d ps) top (subst (Furthest d ps) q h)))
          (λ k h other q. none k h.within (flat k h (subst (Furthest d ps) q top)))
        where
          none : (k : ℕ) → k < n → is_flat d ps k ≡ true → ⊥
          none k h t = true-not-false t (first-least (is_flat d ps) n k (omega (arith, ltb-false (flat_edge d ps) n e)))

  -- ---- which way it goes

  pub face-left : {i j : ℕ} → Face d ps i j → (j ≡ i → ⊥) → (k : ℕ) → k < length ps → (k ≡ i → ⊥) → (k ≡ j → ⊥)
      → Left (corner ps i) (corner ps j) (corner ps k)
  face-left {i} {j} f two k h p q = go f.neighbours
    where
      go : (j ≡ i) ⊎ (j ≡ next (length ps) i) → Left (corner ps i) (corner ps j) (corner ps k)
      go (inl e) = absurd (two e)
      go (inr e) = rw e (s.left i k f.first-furthest.within h p (λ r. q (r ∙ sym e)))

  -- where both corners have one value, both are furthest
  pub segment-face : length ps ≡ 2 → value d (corner ps 0) ≡ value d (corner ps 1) → (face_first d ps ≡ 0) × (face_last d ps ≡ 1)
  segment-face two level = go (following (length ps) 0 (omega arith))
    where
      at : (i : ℕ) → i < 2 → value d (corner ps i) ≡ value d (corner ps 0)
      at i h = go (ℕ_discrete i 0)
        where
          go : Dec (i ≡ 0) → value d (corner ps i) ≡ value d (corner ps 0)
          go (yes e) = ap (λ k. value d (corner ps k)) e
          go (no e) = ap (λ k. value d (corner ps k)) (omega arith) ∙ sym level

      all : (i : ℕ) → i < 2 → Furthest d ps i
      all i h = record { within = omega arith; has = at i h ∙ sym (at (furthest d ps) (omega (arith, top.within))) ∙ top.has }

      go : Following (length ps) 0 → (face_first d ps ≡ 0) × (face_last d ps ≡ 1)
      go (closing k q) = absurd (omega arith)
      go (onward k q) =
          let edge = face-edge 0 (all 0 (omega arith)) (subst (Furthest d ps) (sym q) (all 1 (omega arith))) (λ e. omega arith) in
          let r = face-unique edge face-is in
          (r.0, r.1 ∙ q)
