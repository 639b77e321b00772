-- The support value of a list of points, and the facts by which everything else uses it. A list with a point is one with 0 < length.
--     support-one          that of one point is its value
--     value-le-support     no point is above it
--     support-attained     some point has it (`Attained`)
--     support-unique       the value of a point that none is above is the support value
--     support-le           a number that no point is above is at least the support value
--     support-subset       more points, no smaller support; support-same: the same points, the same support
--     support-append, support-sums, support-mirrored     the support of a union, of all sums, of the mirror image
-- The laws of the greater of two numbers are in `Greater.antt`, how a value goes through points and directions in `Vector.antt`.
use Rattle.std.specs.Prelude.{◌≡◌, refl, ◌⊎◌, List, [], ◌∷◌, ◌++◌, ◌<◌, ℤ, ◌+ℤ◌, length, ◌≤ℤ◌}
use Rattle.std.proofs.Common.{sym, ◌∙◌, ap, ap₂, inl, inr, not-suc-le-zero, arith, length-append}
use mathlib.Core.List.Memᴰ
use Rattle.integer.specs.Linear.{lia, linear, ◌&◌}
use Rattle.integer.specs.Order.{le_of_eq, le_trans, le_antisym}
use Rattle.plane.specs.Point.{Point, opposite, ◌∈◌, ◌⊆◌}
use Rattle.plane.specs.Direction.{value, support, greater}
use Rattle.plane.specs.Corner.{sums, mirrored}
use Rattle.plane.proofs.theory.lists.Members.{sums-member, member-sums, SumOf, member-some}
use Rattle.plane.proofs.theory.lists.Greater.{left-le-greater, right-le-greater, greater-either, greater-least}
use Rattle.plane.proofs.theory.forms.Vector.{value-⊕, value-opposite, value-turned}

-- ---- how it computes

support-cons : (d p q : Point) (ps : List Point) → support d (p ∷ q ∷ ps) ≡ greater (value d p) (support d (q ∷ ps))
unfolding support
support-cons d p q ps = refl

pub support-one : (d p : Point) → support d (p ∷ []) ≡ value d p
unfolding support
support-one d p = refl

-- ---- interface

pub value-le-support : (d : Point) {p : Point} {ps : List Point} → p ∈ ps → value d p ≤ℤ support d ps
value-le-support d (Memᴰ.head {xs = []} e) = le_of_eq (ap (value d) e ∙ sym (support-one d _))
value-le-support d (Memᴰ.head {x = a} {xs = b ∷ ps} e) = rw (support-cons, e) (left-le-greater (value d a) (support d (b ∷ ps)))
value-le-support d (Memᴰ.tail {xs = []} m) = absurd (Memᴰ.not-nil m)
value-le-support d (Memᴰ.tail {x = a} {xs = b ∷ ps} m) =
    rw support-cons (le_trans (value-le-support d m) (right-le-greater (value d a) (support d (b ∷ ps))))

-- the point that has the support value
pub record Attained (d : Point) (ps : List Point) : Type 0 where
  pub at : Point
  pub at_in : at ∈ ps
  pub at_value : value d at ≡ support d ps

pub support-attained : (d : Point) (ps : List Point) → 0 < length ps → Attained d ps
support-attained d [] h = absurd (not-suc-le-zero h)
support-attained d (p ∷ []) h = record { at = p; at_in = Memᴰ.head refl; at_value = sym (support-one d p) }
support-attained d (p ∷ (q ∷ ps)) h = go (support-attained d (q ∷ ps) (omega arith)) (greater-either (value d p) (support d (q ∷ ps)))
  where
    M : ℤ
    M = greater (value d p) (support d (q ∷ ps))

    go : Attained d (q ∷ ps) → (M ≡ value d p) ⊎ (M ≡ support d (q ∷ ps)) → Attained d (p ∷ q ∷ ps)
    go r (inl e) = record { at = p; at_in = Memᴰ.head refl; at_value = sym e ∙ sym (support-cons d p q ps) }
    go r (inr e) = record { at = r.at; at_in = Memᴰ.tail r.at_in; at_value = r.at_value ∙ sym e ∙ sym (support-cons d p q ps) }

pub support-le : (d : Point) (ps : List Point) {N : ℤ} → 0 < length ps → ((q : Point) → q ∈ ps → value d q ≤ℤ N) → support d ps ≤ℤ N
support-le d ps h f = let r = support-attained d ps h in rw (← r.at_value) (f r.at r.at_in)

pub support-unique : (d : Point) {p : Point} {ps : List Point} → p ∈ ps → ((q : Point) → q ∈ ps → value d q ≤ℤ value d p)
    → support d ps ≡ value d p
support-unique d {ps = ps} m f = le_antisym (support-le d ps (member-some m) f) (value-le-support d m)

pub support-subset : (d : Point) {A B : List Point} → 0 < length A → A ⊆ B → support d A ≤ℤ support d B
support-subset d {A} h f = support-le d A h (λ q m. value-le-support d (f q m))

pub support-same : (d : Point) (A B : List Point) → A ⊆ B → B ⊆ A → support d A ≡ support d B
support-same d [] [] f g = refl
support-same d [] (b ∷ B) f g = absurd (Memᴰ.not-nil (g b (Memᴰ.head refl)))
support-same d (a ∷ A) [] f g = absurd (Memᴰ.not-nil (f a (Memᴰ.head refl)))
support-same d (a ∷ A) (b ∷ B) f g = le_antisym (support-subset d (omega arith) f) (support-subset d (omega arith) g)

-- ---- union, sums, mirror image

pub support-append : (d : Point) (A B : List Point) → 0 < length A → 0 < length B → support d (A ++ B) ≡ greater (support d A) (support d B)
support-append d A B h k = le_antisym
    (support-le d (A ++ B) (omega (arith, length-append A B)) (λ q m. below q (Memᴰ.append_cases A m)))
    (greater-least (support-subset d h (λ p. Memᴰ.append_left B)) (support-subset d k (λ p. Memᴰ.append_right A)))
  where
    below : (q : Point) → (q ∈ A) ⊎ (q ∈ B) → value d q ≤ℤ greater (support d A) (support d B)
    below q (inl m) = le_trans (value-le-support d m) (left-le-greater (support d A) (support d B))
    below q (inr m) = le_trans (value-le-support d m) (right-le-greater (support d A) (support d B))

pub support-sums : (d : Point) (A B : List Point) → 0 < length A → 0 < length B → support d (sums A B) ≡ support d A +ℤ support d B
support-sums d A B h k =
    let a = support-attained d A h in
    let b = support-attained d B k in
    let both = value-⊕ d a.at b.at ∙ ap₂ (λ x y. x +ℤ y) a.at_value b.at_value in
    support-unique d (sums-member a.at_in b.at_in) (λ q m. rw both (below q (member-sums A B m))) ∙ both
  where
    below : (q : Point) → SumOf A B q → value d q ≤ℤ (support d A +ℤ support d B)
    below q s = lia (value d q ∷ value d s.left ∷ value d s.right ∷ support d A ∷ support d B ∷ [])
        (ap (value d) s.is_sum ∙ value-⊕ d s.left s.right & value-le-support d s.left_in & value-le-support d s.right-in)
        (search linear depth 40) (omega arith)

pub support-mirrored : (d : Point) (A : List Point) → support d (mirrored A) ≡ support (opposite d) A
unfolding support
support-mirrored d [] = refl
support-mirrored d (p ∷ []) = value-opposite d p ∙ sym (value-turned d p)
support-mirrored d (p ∷ (q ∷ A)) = ap₂ greater (value-opposite d p ∙ sym (value-turned d p)) (support-mirrored d (q ∷ A))
