-- The face of a shape, from the smallest position that has the greatest value: three cases, by which corner beside it has that value too.
--     face-over-end     the last of the list, where it is the first, and the two are no segment
--     face-onward       the one after it
--     face-alone        neither
use Rattle.std.specs.Prelude.{◌≡◌, refl, Bool, true, false, List, ℕ, ◌+◌, ◌-◌, ◌<◌, ltb, length, ◌<ℤ◌}
use Rattle.std.proofs.Common.{sym, ◌∙◌, subst, arith, ltb-true, ltb-false}
use Rattle.std.specs.Int.Signed.{<ℤ_irrefl}
use Rattle.plane.specs.Point.{Point}
use Rattle.plane.specs.Shape.{next, IsShape}
use Rattle.plane.specs.Forms.{NonZero}
use Rattle.plane.specs.Direction.{support, furthest}
use Rattle.plane.specs.Face.{is_furthest, face_first, face_last, Furthest, Face}
use Rattle.plane.proofs.theory.lists.Next.{Following, onward, closing, following}
use Rattle.plane.proofs.theory.lists.Sought.{true-not-false}
use Rattle.plane.proofs.theory.face.FirstFurthest.{furthest-greatest}
use Rattle.plane.proofs.theory.face.Face.{true-furthest, furthest-true, face-edge, face-corner}
use Rattle.plane.proofs.theory.face.Face.{face-is, face-unique}

module _ {d : Point} {ps : List Point} (s : IsShape ps) (some : NonZero d) where
  abbrev n : ℕ
  n = length ps

  abbrev f : ℕ
  f = furthest d ps

  top : Furthest d ps f
  top = let r = furthest-greatest d ps s.some in record { within = r.within; has = sym r.has }

  none-earlier : (k : ℕ) → Furthest d ps k → k < f → ⊥
  none-earlier k h l = <ℤ_irrefl (subst (λ z. z <ℤ support d ps) h.has ((furthest-greatest d ps s.some).earliest k l))

  over-end : f ≡ 0 → 2 < n → is_furthest d ps (n - 1) ≡ true → Face d ps (n - 1) f
  over-end e h t = go (following n (n - 1) (omega arith))
    where
      go : Following n (n - 1) → Face d ps (n - 1) f
      go (onward k q) = absurd (omega arith)
      go (closing k q) =
          let is : next n (n - 1) ≡ f = q ∙ sym e in
          subst (Face d ps (n - 1)) is (face-edge s some (n - 1) (true-furthest (omega arith) t) (subst (Furthest d ps) (sym is) top)
          (λ two. omega arith))

  onward-face : f + 1 < n → is_furthest d ps (f + 1) ≡ true → Face d ps f (f + 1)
  onward-face h t = go (following n f top.within)
    where
      go : Following n f → Face d ps f (f + 1)
      go (closing k q) = absurd (omega arith)
      go (onward k q) =
          let is : next n f ≡ f + 1 = omega arith in
          subst (Face d ps f) is (face-edge s some f top (subst (Furthest d ps) (sym is) (true-furthest h t)) (λ two. omega arith))

  alone : (f ≡ 0 → 2 < n → is_furthest d ps (n - 1) ≡ false) → (f + 1 < n → is_furthest d ps (f + 1) ≡ false) → Face d ps f f
  alone not_last not-next = face-corner s some f top (λ k h other e. behind k h other e (following n f top.within))
      (λ k h other e. before k h other e (following n k h.within) (ltb 2 n) refl)
    where
      behind : (k : ℕ) → Furthest d ps k → (k ≡ f → ⊥) → k ≡ next n f → Following n f → ⊥
      behind k h other e (onward l q) =
          true-not-false (furthest-true (subst (Furthest d ps) (omega arith) h)) (not-next (omega arith))
      behind k h other e (closing l q) = none-earlier k h (omega arith)

      before : (k : ℕ) → Furthest d ps k → (k ≡ f → ⊥) → f ≡ next n k → Following n k → (b : Bool) → ltb 2 n ≡ b → ⊥
      before k h other e (onward l q) b t = none-earlier k h (omega arith)
      before k h other e (closing l q) true t =
          true-not-false (furthest-true (subst (Furthest d ps) (omega arith) h)) (not_last (e ∙ q) (ltb-true 2 n t))
      before k h other e (closing l q) false t =
          let few = ltb-false 2 n t in
          true-not-false (furthest-true (subst (Furthest d ps) (omega arith) h)) (not-next (omega arith))

  only : {i j : ℕ} → Face d ps i j → (i ≡ face_first d ps) × (j ≡ face_last d ps)
  only g = face-unique s some (face-is s some) g

  -- ---- for a walk that has found the position and counted the corners

  module _ {here count : ℕ} (here-is : here ≡ furthest d ps) (count-is : count ≡ length ps) where
    pub face-over-end : here ≡ 0 → 2 < count → is_furthest d ps (count - 1) ≡ true → (count - 1 ≡ face_first d ps) × (here ≡ face_last d ps)
    face-over-end = rw (here-is, count-is) (λ e h t. only (over-end e h t))

    pub face-onward : here + 1 < count → is_furthest d ps (here + 1) ≡ true → (here ≡ face_first d ps) × (here + 1 ≡ face_last d ps)
    face-onward = rw (here-is, count-is) (λ h t. only (onward-face h t))

    pub face-alone : (here ≡ 0 → 2 < count → is_furthest d ps (count - 1) ≡ false) →
        (here + 1 < count → is_furthest d ps (here + 1) ≡ false)
        → (here ≡ face_first d ps) × (here ≡ face_last d ps)
    face-alone = rw (here-is, count-is) (λ p q. only (alone p q))
