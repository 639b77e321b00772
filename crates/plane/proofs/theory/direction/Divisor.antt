-- Refusal 12 as number theory says it: some number above 1 divides both parts.
--     common→divides     a direction that 12 refuses is such a multiple of another
--     divides→common     and 12 refuses every such multiple other than (0,0)
use Rattle.std.specs.Prelude.{◌≡◌, true, ℕ, ◌<◌, ℤ, pos, nat_abs, ◌*ℤ◌}
use Rattle.std.proofs.Math.Path.{sym}
use Rattle.std.proofs.Common.{◌∙◌, ap, subst, lt_of_lt_of_le}
use Rattle.std.specs.Int.{◌∣◌}
use Rattle.std.proofs.Math.Nat.{dvd-mul_right, le_of_dvd}
use borrow.Author.Tests.{ltb-true, lt-ltb}
use Rattle.integer.specs.Bound.{nat_abs-*}
use Rattle.divisor.specs.Euclid.{gcd-is}
use Rattle.plane.specs.Point.{Point}
use Rattle.plane.specs.Forms.{NonZero}
use Rattle.plane.specs.Furthest.{parts_divisor, common_divisor}
use Rattle.plane.specs.Primitive.{primitive}
use Rattle.plane.proofs.theory.direction.Rows.{some-divisor}
use Rattle.plane.proofs.theory.direction.Primitive.{primitive-multiple}

module _ (d : Point) where
  pub common→divides : common_divisor d ≡ true
      → (k : ℕ) × (1 < k) × (u : ℤ) × (v : ℤ) × (d.x ≡ pos k *ℤ u) × (d.y ≡ pos k *ℤ v)
  unfolding common_divisor
  common→divides h =
      let (x, y) = primitive-multiple d in
      (parts_divisor d, ltb-true 1 (parts_divisor d) h, (primitive d).x, (primitive d).y, sym x, sym y)

  -- a divisor of a part divides its size
  divides-size : (k : ℕ) (z u : ℤ) → z ≡ pos k *ℤ u → k ∣ nat_abs z
  divides-size k z u e = subst (λ n. k ∣ n) (sym (ap nat_abs e ∙ nat_abs-* (pos k) u)) (dvd-mul_right k (nat_abs u))

  -- k divides the greatest common divisor, which is not 0
  pub divides→common : NonZero d → (k : ℕ) → 1 < k → (u v : ℤ) → d.x ≡ pos k *ℤ u → d.y ≡ pos k *ℤ v → common_divisor d ≡ true
  unfolding common_divisor
  divides→common some k above u v x y = lt-ltb 1 (parts_divisor d) (lt_of_lt_of_le above (le_of_dvd (some-divisor some)
      ((gcd-is (nat_abs d.x) (nat_abs d.y)).greatest k (divides-size k d.x u x) (divides-size k d.y v y))))
