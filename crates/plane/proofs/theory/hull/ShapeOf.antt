-- The shape of a set is what document 01 says: the standard list of its corners.
--     shape_of-support                   in every direction it reaches as far as the set
--     shape_of-ordered, shape_of-shape    it is ordered, and a shape
--     shape_of-corner, corner-shape_of    its points are the corners of the set
--     shape_of-unique                    it is the only shape of which that holds
--     shape_of-same                      it depends on the points of the set alone
--     shape-known                       a shape that reaches as far as a set in every direction is the shape of the set
--     shape-own                         a shape is the shape of its own corners
--     shape-extensional                 two shapes that reach as far in every direction are equal
use Rattle.std.specs.Prelude.{◌≡◌, refl, List, [], ◌∷◌, ◌<◌, length}
use Rattle.std.proofs.Common.{sym, ◌∙◌, arith}
use mathlib.Core.List.Memᴰ
use Rattle.integer.specs.Order.{le_antisym}
use Rattle.plane.specs.Point.{Point, ◌∈◌, ◌⊆◌}
use Rattle.plane.specs.Shape.{IsShape}
use Rattle.plane.specs.Direction.{support}
use Rattle.plane.specs.Corner.{Corner, shape_of}
use Rattle.plane.specs.Forms.{Ordered}
use Rattle.plane.proofs.theory.lists.Members.{member-some}
use Rattle.plane.proofs.theory.forms.Standard.{sorted→ordered, sorted→shape, shape→ordered}
use Rattle.plane.proofs.theory.support.Support.{value-le-support, support-le, support-subset}
use Rattle.plane.proofs.theory.support.Corners.{corner-same, corner-transfer, ordered→corners}
use Rattle.plane.proofs.theory.support.Unique.{ordered_same, extensionality}
use Rattle.plane.proofs.theory.hull.Hull.{shape_of-sorted, shape_of-nonempty, shape_of-member, shape_of-above}

module _ (S : List Point) (some : 0 < length S) where
  pub shape_of-support : (d : Point) → support d (shape_of S) ≡ support d S
  shape_of-support d = le_antisym
      (support-subset d (shape_of-nonempty S some) (λ p. shape_of-member S))
      (support-le d S some (λ q m. shape_of-above S d q m (support d (shape_of S)) (λ p n. value-le-support d n)))

  pub shape_of-ordered : Ordered (shape_of S)
  shape_of-ordered = sorted→ordered (shape_of S) (shape_of-sorted S some)

  pub shape_of-shape : IsShape (shape_of S)
  shape_of-shape = sorted→shape (shape_of S) (shape_of-sorted S some)

  pub shape_of-corner : {p : Point} → p ∈ shape_of S → Corner S p
  shape_of-corner m = corner-transfer (ordered→corners (shape_of S) shape_of-ordered m) shape_of-support some

pub corner-shape_of : {S : List Point} {p : Point} → Corner S p → p ∈ shape_of S
corner-shape_of {S} c =
    let some = member-some c.member in
    (corner-transfer c (λ d. sym (shape_of-support S some d)) (shape_of-nonempty S some)).member

pub shape_of-unique : (S ps : List Point) → 0 < length S → IsShape ps → ((p : Point) → p ∈ ps → Corner S p)
    → ((p : Point) → Corner S p → p ∈ ps) → ps ≡ shape_of S
shape_of-unique S ps some s f g = ordered_same ps (shape_of S) (shape→ordered ps s) (shape_of-ordered S some)
    (λ p m. corner-shape_of (f p m)) (λ p m. g p (shape_of-corner S some m))

pub shape_of-same : (S T : List Point) → S ⊆ T → T ⊆ S → shape_of S ≡ shape_of T
shape_of-same [] [] f g = refl
shape_of-same [] (q ∷ T) f g = absurd (Memᴰ.not-nil (g q (Memᴰ.head refl)))
shape_of-same (p ∷ S) T f g =
    let some = member-some (f p (Memᴰ.head refl)) in
    shape_of-unique T (shape_of (p ∷ S)) some (shape_of-shape (p ∷ S) (omega arith))
    (λ q m. corner-same f g (shape_of-corner (p ∷ S) (omega arith) m)) (λ q c. corner-shape_of (corner-same g f c))

-- ---- a shape is known by how far it reaches

pub shape-extensional : (A B : List Point) → IsShape A → IsShape B → ((d : Point) → support d A ≡ support d B) → A ≡ B
shape-extensional A B s t same = extensionality A B (shape→ordered A s) (shape→ordered B t) same

pub shape-known : (ps S : List Point) → IsShape ps → 0 < length S → ((d : Point) → support d ps ≡ support d S) → ps ≡ shape_of S
shape-known ps S s some same =
    shape-extensional ps (shape_of S) s (shape_of-shape S some) (λ d. same d ∙ sym (shape_of-support S some d))

pub shape-own : (ps : List Point) → IsShape ps → shape_of ps ≡ ps
shape-own ps s = sym (shape-known ps ps s s.some (λ d. refl))
