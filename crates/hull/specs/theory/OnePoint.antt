-- Two shapes whose least corner does not precede their greatest: they are one point.
--     same_shape       and the point is the shape of both
use Rattle.std.specs.Prelude.{◌≡◌, true, false, List, [], ◌∷◌, ◌++◌, ◌⊎◌, ℕ}
use Rattle.std.proofs.Common.{sym, ◌∙◌, subst, true≢false, inl, inr, ⊎_elim}
use mathlib.Core.List.Memᴰ
use Rattle.plane.specs.Point.{Point, corner, ◌∈◌}
use Rattle.plane.specs.Shape.{precedes, IsShape}
use Rattle.plane.specs.Corner.{shape_of}
use Rattle.plane.proofs.theory.lists.Members.{position-member}
use Rattle.plane.proofs.theory.forms.Standard.{sorted→shape}
use Rattle.plane.proofs.theory.hull.ShapeOf.{shape_of-same, shape-own}
use Rattle.sorting.specs.Order.{Ahead, foremost}
use Rattle.polygon.specs.Peak.{Peak}
use Rattle.sorting.specs.theory.Ahead.{NotBehind, reaches-on, reaches-to, turned_up, foremost-le}
use Rattle.hull.specs.theory.Peak.{peak-between}

module _ {A B : List Point} {a b : ℕ} {s t : Point} (shape : IsShape A) (other : IsShape B)
    (start : s ≡ foremost true (corner A 0) (corner B 0))
    (end : t ≡ foremost false (corner A a) (corner B b)) (peak : Peak A a) (second-peak : Peak B b) (same : precedes s t ≡ false) where
  between-same : {p q r : Point} → NotBehind true s p → NotBehind true p q → NotBehind true q r → NotBehind true r t → q ≡ s
  between-same {p} {q} {r} i j k l = go i j k l
    where
      never : Ahead true s t → q ≡ s
      never u = absurd (true≢false (sym u.ahead-true ∙ same))

      last : Ahead true s q → NotBehind true q r → NotBehind true r t → Ahead true s t
      last u k l = reaches-to (reaches-to u k) l

      go : NotBehind true s p → NotBehind true p q → NotBehind true q r → NotBehind true r t → q ≡ s
      go (inl e) (inl f) k l = sym (e ∙ f)
      go (inr u) (inl f) k l = never (last (subst (λ z. Ahead true s z) f u) k l)
      go i (inr v) k l = never (last (reaches-on i v) k l)

  all_same : (q : Point) → q ∈ (A ++ B) → q ≡ s
  all_same q m = ⊎_elim
      (λ (n : q ∈ A). let i = peak-between A shape a peak n in between-same low.0 i.0 i.1 (turned_up high.0))
      (λ (n : q ∈ B). let i = peak-between B other b second-peak n in between-same low.1 i.0 i.1 (turned_up high.1))
      (Memᴰ.append_cases A m)
    where
      low : NotBehind true s (corner A 0) × NotBehind true s (corner B 0)
      low = rw start (foremost-le true (corner A 0) (corner B 0))

      high : NotBehind false t (corner A a) × NotBehind false t (corner B b)
      high = rw end (foremost-le false (corner A a) (corner B b))

  pub same_shape : s ∷ [] ≡ shape_of (A ++ B)
  same_shape =
      sym (shape_of-same (A ++ B) (s ∷ []) (λ q m. Memᴰ.head (all_same q m)) back ∙ shape-own (s ∷ []) (sorted→shape (s ∷ []) tt))
    where
      first : corner A 0 ∈ (A ++ B)
      first = Memᴰ.append_left B (position-member A 0 shape.some)

      back : (q : Point) → q ∈ (s ∷ []) → q ∈ (A ++ B)
      back q m = go (Memᴰ.cases_cons m)
        where
          go : (q ≡ s) ⊎ (q ∈ []) → q ∈ (A ++ B)
          go (inl e) = subst (λ p. p ∈ (A ++ B)) (all_same (corner A 0) first ∙ sym e) first
          go (inr n) = absurd (Memᴰ.not-nil n)
