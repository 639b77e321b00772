-- The one name of a direction (document 02, request W12).
--     primitive-multiple       a direction is its divisor times its name; `primitive-support`: so is its greatest value
--     primitive-same           they point the same way
--     primitive-bad, primitive-common     11 and 12 let the name pass
--     primitive-unique         two directions of divisor 1 that point the same way are equal
--     primitive-only           so that no other name passes
use Rattle.std.specs.Prelude.{◌≡◌, refl, false, List, [], ◌∷◌, ℕ, suc, ◌*◌, ◌/◌, ◌<◌, ℤ, pos, negsuc, neg_ℤ, nat_abs, ◌*ℤ◌, ◌<ℤ◌}
use Rattle.std.proofs.Common.{sym, ◌∙◌, ap, ap₂, le_refl, mul-one, mul-le-mul, arith, lt-ltb}
use Rattle.std.specs.Int.{◌∣◌}
use Rattle.std.proofs.Math.Nat.{mul-div_cancel', eq_of_mul-eq-mul_left}
use Rattle.std.specs.Int.Signed.{quot_z}
use Rattle.integer.specs.Ring.{ring, reify}
use Rattle.integer.specs.Order.{lt_z-true, weaken, cancel}
use Rattle.integer.specs.Bound.{Within, nat_abs-*, positive-size, size_is}
use Rattle.integer.specs.Laws.{one-*ℤ}
use Rattle.divisor.specs.Divisor.{gcd}
use Rattle.divisor.specs.Euclid.{gcd-is, gcd-scale}
use Rattle.plane.specs.Limits.{max_part}
use Rattle.plane.specs.Point.{Point}
use Rattle.plane.specs.Forms.{NonZero}
use Rattle.plane.specs.Direction.{support, SameWay}
use Rattle.plane.specs.Furthest.{bad_direction, parts_divisor, common_divisor}
use Rattle.plane.specs.Primitive.{primitive}
use Rattle.plane.proofs.theory.lists.Members.{point-path}
use Rattle.plane.proofs.theory.forms.SameWay.{same-sym, same-trans, same-non-zero}
use Rattle.plane.proofs.theory.direction.Rows.{direction-near, direction-some, near-direction, some-divisor, one-divisor, divisor-one}
use Rattle.plane.proofs.theory.direction.Scaled.{same-support}

-- ---- the direction is a multiple of its name

times-neg : (x y : ℤ) → x *ℤ neg_ℤ y ≡ neg_ℤ (x *ℤ y)
times-neg x y = ring (x ∷ y ∷ []) (search reify depth 40) tt

quotient-times : (z : ℤ) (g : ℕ) → g ∣ nat_abs z → pos g *ℤ quot_z z (pos g) ≡ z
quotient-times (pos a) g h = ap pos (mul-div_cancel' g h)
quotient-times (negsuc a) g h = times-neg (pos g) (pos (suc a / g)) ∙ ap (λ (n : ℕ). neg_ℤ (pos n)) (mul-div_cancel' g h)

pub primitive-multiple : (d : Point) → (pos (parts_divisor d) *ℤ (primitive d).x ≡ d.x) × (pos (parts_divisor d) *ℤ (primitive d).y ≡ d.y)
unfolding primitive
primitive-multiple d =
    let divides = gcd-is (nat_abs d.x) (nat_abs d.y) in
    (quotient-times d.x (parts_divisor d) divides.divides-left, quotient-times d.y (parts_divisor d) divides.divides-right)

module _ (d : Point) (some : NonZero d) where
  divisor-above : pos 0 <ℤ pos (parts_divisor d)
  divisor-above = lt_z-true (lt-ltb 0 (parts_divisor d) (some-divisor some))

  pub primitive-same : SameWay (primitive d) d
  primitive-same = record {
    m = pos (parts_divisor d);
    n = pos 1;
    m-above = divisor-above;
    n-above = lt_z-true refl;
    along-x = (primitive-multiple d).0 ∙ sym (one-*ℤ d.x);
    along-y = (primitive-multiple d).1 ∙ sym (one-*ℤ d.y);
  }

  pub primitive-support : (ps : List Point) → pos (parts_divisor d) *ℤ support (primitive d) ps ≡ support d ps
  unfolding primitive-same
  primitive-support ps = same-support primitive-same ps ∙ one-*ℤ (support d ps)

-- ---- the divisor of a multiple

scaled-divisor : (m : ℤ) → pos 0 <ℤ m → (e : Point) → gcd (nat_abs (m *ℤ e.x)) (nat_abs (m *ℤ e.y)) ≡ nat_abs m * parts_divisor e
scaled-divisor m h e = ap₂ gcd (nat_abs-* m e.x) (nat_abs-* m e.y) ∙ gcd-scale _ _ _ (positive-size h)

-- ---- 11 and 12 let the name pass

module _ (d : Point) (some : NonZero d) where
  primitive-divisor : parts_divisor (primitive d) ≡ 1
  primitive-divisor = eq_of_mul-eq-mul_left _ (some-divisor some) _ _
      (sym (scaled-divisor (pos (parts_divisor d)) (divisor-above d some) (primitive d))
      ∙ ap₂ (λ (a b : ℤ). gcd (nat_abs a) (nat_abs b)) (primitive-multiple d).0 (primitive-multiple d).1 ∙ sym (mul-one (parts_divisor d)))

  pub primitive-common : common_divisor (primitive d) ≡ false
  primitive-common = one-divisor (primitive d) primitive-divisor

-- a part is at least that of the name
part-size : (m n : ℕ) (a b : ℤ) → 0 < m → pos m *ℤ a ≡ b → Within n b → Within n a
part-size m n a b some e w =
    let is : nat_abs b ≡ m * nat_abs a = ap nat_abs (sym e) ∙ nat_abs-* (pos m) a in
    record { size = omega (arith, is, mul-le-mul some (le_refl (nat_abs a)), w.size) }

pub primitive-bad : (d : Point) → bad_direction d ≡ false → bad_direction (primitive d) ≡ false
primitive-bad d good =
    let some = direction-some d good in
    let near = direction-near d good in
    near-direction (primitive d)
    (part-size _ max_part _ _ (some-divisor some) (primitive-multiple d).0 near.0)
    (part-size _ max_part _ _ (some-divisor some) (primitive-multiple d).1 near.1)
    (same-non-zero (same-sym (primitive-same d some)) some)

-- ---- and no other

-- m·e and n·f are equal, and so are their divisors: m times that of e, which is 1, and n times that of f
pub primitive-unique : {e f : Point} → parts_divisor e ≡ 1 → parts_divisor f ≡ 1 → SameWay e f → e ≡ f
primitive-unique {e} {f} p q s = point-path (cancel {k = s.m} s.m-above (s.along-x ∙ ap (λ (k : ℤ). k *ℤ f.x) (sym same)))
    (cancel {k = s.m} s.m-above (s.along-y ∙ ap (λ (k : ℤ). k *ℤ f.y) (sym same)))
  where
    sizes : nat_abs s.m ≡ nat_abs s.n
    sizes = sym (scaled-divisor s.m s.m-above e ∙ ap (λ (k : ℕ). nat_abs s.m * k) p ∙ mul-one _)
        ∙ ap₂ (λ (a b : ℤ). gcd (nat_abs a) (nat_abs b)) s.along-x s.along-y
        ∙ (scaled-divisor s.n s.n-above f ∙ ap (λ (k : ℕ). nat_abs s.n * k) q ∙ mul-one _)

    same : s.m ≡ s.n
    same = sym (size_is (weaken s.m-above)) ∙ ap pos sizes ∙ size_is (weaken s.n-above)

pub primitive-only : (d e : Point) → NonZero d → common_divisor e ≡ false → SameWay e d → e ≡ primitive d
primitive-only d e some passes s = primitive-unique
    (divisor-one (same-non-zero (same-sym s) some) passes) (primitive-divisor d some) (same-trans s (same-sym (primitive-same d some)))
