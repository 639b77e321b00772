-- Points and segments: in some direction all their corners have the same value.
--     Level D        such a direction
--     few-level      a shape of at most two corners has one
use Rattle.std.specs.Prelude.{◌≡◌, refl, List, [], ◌∷◌, ℕ, zero, suc, ◌≤◌, ◌<◌, length, ◌≤ℤ◌}
use Rattle.std.proofs.Common.{sym, ap, arith}
use Rattle.integer.specs.Ring.{ring, reify}
use Rattle.integer.specs.Linear.{linear, lia}
use Rattle.integer.specs.Order.{le_of_eq}
use Rattle.plane.specs.Point.{Point, origin, corner, ◌⊖◌}
use Rattle.plane.specs.Shape.{IsShape}
use Rattle.plane.specs.Direction.{value}
use Rattle.plane.specs.Forms.{NonZero}
use Rattle.plane.specs.Cut.{outward}
use Rattle.plane.proofs.theory.lists.Members.{point-path}
use Rattle.plane.proofs.theory.forms.Vector.{⊖-zero}

pub record Level (D : List Point) : Type 0 where
  pub across : Point
  pub non_zero : NonZero across
  pub same : (i j : ℕ) → i < length D → j < length D → value across (corner D i) ≤ℤ value across (corner D j)

outward-level : (p q : Point) → value (outward p q) q ≡ value (outward p q) p
unfolding value
outward-level p q = ring (p.x ∷ p.y ∷ q.x ∷ q.y ∷ []) (search reify depth 40) tt

-- v is any direction, for a point
pub few-level : (D : List Point) → IsShape D → length D ≤ 2 → (v : Point) → NonZero v → Level D
few-level [] s few v n = absurd (omega (arith, s.some))
few-level (p ∷ []) s few v n = record { across = v; non_zero = n; same = same }
  where
    same : (i j : ℕ) → i < 1 → j < 1 → value v (corner (p ∷ []) i) ≤ℤ value v (corner (p ∷ []) j)
    same zero zero h k = le_of_eq refl
    same zero (suc j) h k = absurd (omega arith)
    same (suc i) j h k = absurd (omega arith)
few-level (p ∷ (q ∷ [])) s few v n = record {
  across = outward p q;
  non_zero = record { non_zero = λ e. s.different refl (⊖-zero p q (still e)) };
  same = same;
}
  where
    still : outward p q ≡ origin → q ⊖ p ≡ origin
    still e = point-path
        (lia (p.x ∷ q.x ∷ []) (ap (λ (z : Point). z.y) e) (search linear depth 40) (omega arith))
        (ap (λ (z : Point). z.x) e)

    same : (i j : ℕ) → i < 2 → j < 2 → value (outward p q) (corner (p ∷ q ∷ []) i) ≤ℤ value (outward p q) (corner (p ∷ q ∷ []) j)
    same zero zero h k = le_of_eq refl
    same zero (suc zero) h k = le_of_eq (sym (outward-level p q))
    same (suc zero) zero h k = le_of_eq (outward-level p q)
    same (suc zero) (suc zero) h k = le_of_eq refl
    same zero (suc (suc j)) h k = absurd (omega arith)
    same (suc zero) (suc (suc j)) h k = absurd (omega arith)
    same (suc (suc i)) j h k = absurd (omega arith)
few-level (p ∷ (q ∷ (r ∷ D))) s few v n = absurd (omega arith)
