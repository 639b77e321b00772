-- Directions that point the same way: the values of the one are those of the other, scaled, so that the same corners are furthest.
--     same-value, same-support      a value in the one direction and in the other, each times its number
--     same-face-first, same-face-last     the same corners are furthest
use Rattle.std.specs.Prelude.{◌≡◌, ℕ, ℤ, ◌*ℤ◌, length, ◌≤ℤ◌}
use Rattle.std.proofs.Math.Path.{sym, ap₂}
use Rattle.std.proofs.Common.{◌∙◌, arith}
use mathlib.Core.List.{List, [], ◌∷◌}
use Rattle.integer.specs.Ring.{ring, reify}
use Rattle.integer.specs.Linear.{linear, lia, ◌&◌}
use Rattle.integer.specs.Order.{◌<×<◌, ◌<×≤◌, ◌≡×◌, weaken, contra≤, le_z-true, le-le_z}
use Rattle.plane.specs.Point.{Point, corner}
use Rattle.plane.specs.Shape.{next}
use Rattle.plane.specs.Direction.{value, greater, support, furthest, SameWay}
use Rattle.plane.specs.Face.{is_furthest, is_flat, flat_edge, face_first, face_last}
use Rattle.plane.proofs.theory.lists.Sought.{first-agree, tests_agree}
use Rattle.plane.proofs.theory.lists.Greater.{times-greater}
use Rattle.plane.proofs.theory.forms.SameWay.{same-sym}

module _ {d e : Point} (s : SameWay d e) where
  pub same-value : (p : Point) → s.m *ℤ value d p ≡ s.n *ℤ value e p
  unfolding value
  same-value p = lia (s.m ∷ s.n ∷ d.x ∷ d.y ∷ e.x ∷ e.y ∷ p.x ∷ p.y ∷ []) (s.along-x ≡× p.x & s.along-y ≡× p.y)
      (search linear depth 40) (omega arith)

  pub same-support : (ps : List Point) → s.m *ℤ support d ps ≡ s.n *ℤ support e ps
  unfolding support
  same-support [] = ring (s.m ∷ s.n ∷ []) (search reify depth 40) tt
  same-support (p ∷ []) = same-value p
  same-support (p ∷ (q ∷ ps)) =
      times-greater (weaken s.m-above) (value d p) (support d (q ∷ ps))
      ∙ ap₂ greater (same-value p) (same-support (q ∷ ps))
      ∙ sym (times-greater (weaken s.n-above) (value e p) (support e (q ∷ ps)))

-- what is no greater stays so
module _ {d e : Point} (s : SameWay d e) {a b a' b' : ℤ} (p : s.m *ℤ a ≡ s.n *ℤ a') (q : s.m *ℤ b ≡ s.n *ℤ b') where
  scaled-order : a ≤ℤ b → a' ≤ℤ b'
  scaled-order h = contra≤ (λ g.
      lia (s.m ∷ s.n ∷ a ∷ b ∷ a' ∷ b' ∷ []) (p & q & s.m-above <×≤ h & s.n-above <×< g) (search linear depth 40) (omega arith))

module _ {d e : Point} (s : SameWay d e) (ps : List Point) where
  same-furthest-test : (i : ℕ) → is_furthest d ps i ≡ is_furthest e ps i
  same-furthest-test i = tests_agree _ _
      (λ h. le-le_z (scaled-order s top here (le_z-true {x = support d ps} {y = value d (corner ps i)} h)))
      (λ h. le-le_z (scaled-order (same-sym s) (sym top) (sym here) (le_z-true {x = support e ps} {y = value e (corner ps i)} h)))
    where
      top : s.m *ℤ support d ps ≡ s.n *ℤ support e ps
      top = same-support s ps

      here : s.m *ℤ value d (corner ps i) ≡ s.n *ℤ value e (corner ps i)
      here = same-value s (corner ps i)

  same-furthest : furthest d ps ≡ furthest e ps
  unfolding furthest
  same-furthest = first-agree (is_furthest d ps) (is_furthest e ps) (length ps) same-furthest-test

  same-flat-edge : flat_edge d ps ≡ flat_edge e ps
  same-flat-edge = first-agree (is_flat d ps) (is_flat e ps) (length ps)
      (λ i. rw (same-furthest-test i, same-furthest-test (next (length ps) i)))

  pub same-face-first : face_first d ps ≡ face_first e ps
  unfolding face_first
  same-face-first = rw (same-flat-edge, same-furthest)

  pub same-face-last : face_last d ps ≡ face_last e ps
  unfolding face_last
  same-face-last = rw (same-flat-edge, same-furthest)
