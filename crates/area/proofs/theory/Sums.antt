-- Sums over lists of vectors.
--     sum_of g E                the sum of g over E
--     sum_of-add, sum_of-zero    of a sum of two; of zeros
--     sum_of-same, sum_of-le     of equal terms, of terms that are no greater; `sum_of-tight`: equal sums of such terms have equal terms
--     sum_of-swap               two sums may be exchanged
--     sum_of-cross              cross products with one vector sum to that of the total
use Rattle.std.specs.Prelude.{◌≡◌, refl, List, [], ◌∷◌, ℤ, pos, ◌+ℤ◌, ◌≤ℤ◌}
use Rattle.std.proofs.Common.{sym, ◌∙◌, ap, ap₂, arith}
use Rattle.std.specs.Int.Signed.{≤ℤ_refl}
use Rattle.integer.specs.Ring.{ring, reify}
use Rattle.integer.specs.Linear.{linear, lia, ◌&◌}
use Rattle.plane.specs.Point.{Point, ◌⊕◌}
use Rattle.plane.specs.Turn.{cross}
use Rattle.plane.specs.Forms.{All}
use Rattle.plane.proofs.theory.forms.Vector.{total, cross-origin}

abbrev pub sum_of : (Point → ℤ) → List Point → ℤ
sum_of g [] = pos 0
sum_of g (e ∷ E) = g e +ℤ sum_of g E

pub sum_of-add : (g h : Point → ℤ) (E : List Point) → sum_of (λ e. g e +ℤ h e) E ≡ sum_of g E +ℤ sum_of h E
sum_of-add g h [] = refl
sum_of-add g h (e ∷ E) =
    let later = sum_of-add g h E in
    lia (g e ∷ h e ∷ sum_of g E ∷ sum_of h E ∷ sum_of (λ f. g f +ℤ h f) E ∷ []) later (search linear depth 40) (omega arith)

pub sum_of-zero : (E : List Point) → sum_of (λ e. pos 0) E ≡ pos 0
sum_of-zero [] = refl
sum_of-zero (e ∷ E) =
    let later = sum_of-zero E in
    lia (sum_of (λ f. pos 0) E ∷ []) later (search linear depth 40) (omega arith)

pub sum_of-same : (g h : Point → ℤ) (E : List Point) → All (λ e. g e ≡ h e) E → sum_of g E ≡ sum_of h E
sum_of-same g h [] a = refl
sum_of-same g h (e ∷ E) a = ap₂ (λ x y. x +ℤ y) a.0 (sum_of-same g h E a.1)

pub sum_of-each : (g h : Point → ℤ) (E : List Point) → ((e : Point) → g e ≡ h e) → sum_of g E ≡ sum_of h E
sum_of-each g h [] a = refl
sum_of-each g h (e ∷ E) a = ap₂ (λ x y. x +ℤ y) (a e) (sum_of-each g h E a)

pub sum_of-le : (g h : Point → ℤ) (E : List Point) → ((e : Point) → g e ≤ℤ h e) → sum_of g E ≤ℤ sum_of h E
sum_of-le g h [] a = ≤ℤ_refl (pos 0)
sum_of-le g h (e ∷ E) a =
    let later = sum_of-le g h E a in
    lia (g e ∷ h e ∷ sum_of g E ∷ sum_of h E ∷ []) (a e & later) (search linear depth 40) (omega arith)

-- no term is greater, so none is less if the sums are equal
pub sum_of-tight : (g h : Point → ℤ) (E : List Point) → ((e : Point) → g e ≤ℤ h e) → sum_of h E ≤ℤ sum_of g E → All (λ e. g e ≡ h e) E
sum_of-tight g h [] a k = tt
sum_of-tight g h (e ∷ E) a k =
    let later = sum_of-le g h E a in (
      lia (g e ∷ h e ∷ sum_of g E ∷ sum_of h E ∷ []) (a e & later & k) (search linear depth 40) (omega arith),
      sum_of-tight g h E a (lia (g e ∷ h e ∷ sum_of g E ∷ sum_of h E ∷ []) (a e & k) (search linear depth 40) (omega arith)),
    )

pub sum_of-swap : (g : Point → Point → ℤ) (E F : List Point)
    → sum_of (λ f. sum_of (λ e. g e f) E) F ≡ sum_of (λ e. sum_of (λ f. g e f) F) E
sum_of-swap g E [] = sym (sum_of-zero E)
sum_of-swap g E (f ∷ F) = ap (λ z. sum_of (λ e. g e f) E +ℤ z) (sum_of-swap g E F)
    ∙ sym (sum_of-add (λ e. g e f) (λ e. sum_of (λ k. g e k) F) E)

-- cross products are linear in either vector
cross-⊕ : (p e f : Point) → cross p (e ⊕ f) ≡ cross p e +ℤ cross p f
unfolding cross
cross-⊕ p e f = ring (p.x ∷ p.y ∷ e.x ∷ e.y ∷ f.x ∷ f.y ∷ []) (search reify depth 40) tt

⊕-cross : (p e f : Point) → cross (p ⊕ e) f ≡ cross p f +ℤ cross e f
unfolding cross
⊕-cross p e f = ring (p.x ∷ p.y ∷ e.x ∷ e.y ∷ f.x ∷ f.y ∷ []) (search reify depth 40) tt

pub sum_of-cross : (p : Point) (E : List Point) → sum_of (λ e. cross p e) E ≡ cross p (total E)
sum_of-cross p [] = sym (cross-origin p).1
sum_of-cross p (e ∷ E) = ap (λ z. cross p e +ℤ z) (sum_of-cross p E) ∙ sym (cross-⊕ p e (total E))

pub cross-sum_of : (E : List Point) (f : Point) → sum_of (λ e. cross e f) E ≡ cross (total E) f
cross-sum_of [] f = sym (cross-origin f).0
cross-sum_of (e ∷ E) f = ap (λ z. cross e f +ℤ z) (cross-sum_of E f) ∙ sym (⊕-cross e (total E) f)
