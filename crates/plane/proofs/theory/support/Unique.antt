-- An ordered list is known by its points, and so by its support.
--     pairs-same          two lists in an asymmetric order with the same points are equal
--     ordered_same        two ordered lists with the same points are equal
--     ordered-some        an ordered list has a point
--     extensionality      two ordered lists with the same support in every direction are equal
use Rattle.std.specs.Prelude.{◌≡◌, refl, ◌⊎◌, List, [], ◌∷◌, ◌<◌, length}
use Rattle.std.proofs.Common.{sym, ap₂, inl, inr, arith}
use mathlib.Core.List.Memᴰ
use Rattle.integer.specs.Linear.{lia, linear, ◌&◌}
use Rattle.plane.specs.Point.{Point, ◌∈◌, ◌⊆◌}
use Rattle.plane.specs.Turn.{turn, Left}
use Rattle.plane.specs.Direction.{support}
use Rattle.plane.specs.Forms.{All, Pairs, Ordered, Precedes}
use Rattle.plane.proofs.theory.lists.Members.{all-member}
use Rattle.plane.proofs.theory.forms.Precedes.{precedes-asym}
use Rattle.plane.proofs.theory.support.Corners.{corner-transfer, ordered→corners}

-- ---- lists in an asymmetric order

module _ (R : Point → Point → Type 0) (asym : (p q : Point) → R p q → R q p → ⊥) where
  -- a point that is before all others of its list, in two lists with the same points
  first-same : {a b : Point} {A B : List Point} → All (λ q. R a q) A → All (λ q. R b q) B → a ∈ (b ∷ B) → b ∈ (a ∷ A) → a ≡ b
  first-same {a} {b} {A} {B} h k m n = go (Memᴰ.cases_cons m) (Memᴰ.cases_cons n)
    where
      go : (a ≡ b) ⊎ (a ∈ B) → (b ≡ a) ⊎ (b ∈ A) → a ≡ b
      go (inl e) s = e
      go (inr i) (inl e) = sym e
      go (inr i) (inr j) = absurd (asym a b (all-member (λ q. R a q) h j) (all-member (λ q. R b q) k i))

  rest-subset : {a b : Point} {A B : List Point} → a ≡ b → All (λ q. R a q) A → (a ∷ A) ⊆ (b ∷ B) → A ⊆ B
  rest-subset {a} {b} {A} {B} e h f p m = go (Memᴰ.cases_cons (f p (Memᴰ.tail m)))
    where
      go : (p ≡ b) ⊎ (p ∈ B) → p ∈ B
      go (inl i) = let r = rw (i, ← e) at (all-member (λ q. R a q) h m) in absurd (asym a a r r)
      go (inr i) = i

  pub pairs-same : (A B : List Point) → Pairs R A → Pairs R B → A ⊆ B → B ⊆ A → A ≡ B
  pairs-same [] [] h k f g = refl
  pairs-same [] (b ∷ B) h k f g = absurd (Memᴰ.not-nil (g b (Memᴰ.head refl)))
  pairs-same (a ∷ A) [] h k f g = absurd (Memᴰ.not-nil (f a (Memᴰ.head refl)))
  pairs-same (a ∷ A) (b ∷ B) h k f g =
      let e = first-same h.0 k.0 (f a (Memᴰ.head refl)) (g b (Memᴰ.head refl)) in
      ap₂ (λ x y. x ∷ y) e (pairs-same A B h.1 k.1 (rest-subset e h.0 f) (rest-subset (sym e) k.0 g))

-- ---- ordered lists

left-asym : (s p q : Point) → Left s p q → Left s q p → ⊥
unfolding turn
left-asym s p q h k = lia (s.x ∷ s.y ∷ p.x ∷ p.y ∷ q.x ∷ q.y ∷ []) (h & k) (search linear depth 40) (omega arith)

pub ordered-some : (A : List Point) → Ordered A → 0 < length A
ordered-some [] o = absurd o
ordered-some (a ∷ A) o = omega arith

-- both start at the point that precedes all others; about it the rest are in the order of their turns
pub ordered_same : (A B : List Point) → Ordered A → Ordered B → A ⊆ B → B ⊆ A → A ≡ B
ordered_same [] B o k f g = absurd o
ordered_same (a ∷ A) [] o k f g = absurd k
ordered_same (a ∷ A) (b ∷ B) o k f g =
    let e = first-same Precedes (λ p q. precedes-asym) o.0 k.0 (f a (Memᴰ.head refl)) (g b (Memᴰ.head refl)) in
    ap₂ (λ x y. x ∷ y) e (pairs-same (λ p q. Left b p q) (left-asym b) A B (rw e at o.1.0) k.1.0
    (rest-subset Precedes (λ p q. precedes-asym) e o.0 f) (rest-subset Precedes (λ p q. precedes-asym) (sym e) k.0 g))

pub extensionality : (A B : List Point) → Ordered A → Ordered B → ((d : Point) → support d A ≡ support d B) → A ≡ B
extensionality A B o k same = ordered_same A B o k
    (λ p m. (corner-transfer (ordered→corners A o m) same (ordered-some B k)).member)
    (λ p m. (corner-transfer (ordered→corners B k m) (λ d. sym (same d)) (ordered-some A o)).member)
