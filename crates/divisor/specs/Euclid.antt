-- The greatest common divisor: Euclid's steps find it, and its laws.
--     gcd-is, gcd-unique      `gcd` is a greatest common divisor, and there is only one
--     gcd-swap, gcd-comm      the numbers change places
--     gcd-own, gcd-zero       of a number and itself; of a number and 0
--     gcd-scale               of m·a and m·b
--     gcd-positive            it is positive if one of the numbers is
--     gcd-divided             of two numbers divided by theirs it is 1
use Rattle.std.specs.Prelude.{◌≡◌, ◌⊎◌, ℕ, zero, suc, ◌*◌, ◌/◌, ◌%◌, ◌≤◌, ◌<◌}
use Rattle.std.proofs.Common.{sym, ◌∙◌, ap₂, subst, inl, inr, le_refl, le_trans, le_of_suc-le-suc, not-suc-le-zero, zero-lt-suc, mod-lt}
use Rattle.std.proofs.Common.{mul-one}
use Rattle.std.specs.Int.{◌∣◌}
use Rattle.std.proofs.Math.Nat.{eq_of_mul-eq-mul_left, dvd_refl, dvd-zero, dvd-mul_right, dvd_antisymm, dvd-mod_iff, pos_of_dvd_of_pos}
use Rattle.std.proofs.Math.Nat.{mul-div_cancel', mul-dvd-mul_left, dvd_of_mul-dvd-mul_left}
use Rattle.divisor.specs.Divisor.{gcd, euclid, Gcd}

pub gcd-unique : {a b g h : ℕ} → Gcd a b g → Gcd a b h → g ≡ h
gcd-unique {a} {b} {g} {h} p q =
    dvd_antisymm (q.greatest g p.divides-left p.divides-right) (p.greatest h q.divides-left q.divides-right)

pub gcd-swap : {a b g : ℕ} → Gcd a b g → Gcd b a g
gcd-swap p = record { divides-left = p.divides-right; divides-right = p.divides-left; greatest = λ k h l. p.greatest k l h }

pub gcd-own : (a : ℕ) → Gcd a a a
gcd-own a = record { divides-left = dvd_refl a; divides-right = dvd_refl a; greatest = λ k h l. h }

-- ---- Euclid's steps

none_left : (a : ℕ) → Gcd a 0 a
none_left a = record { divides-left = dvd_refl a; divides-right = dvd-zero a; greatest = λ k h l. h }

remainder : {a b g : ℕ} → Gcd b (a % b) g → Gcd a b g
remainder {a} {b} {g} p = record {
  divides-left = (dvd-mod_iff g p.divides-left).0 p.divides-right;
  divides-right = p.divides-left;
  greatest = λ k h l. p.greatest k l ((dvd-mod_iff k l).1 h);
}

euclid-is : (steps a b : ℕ) → b ≤ steps → Gcd a b (euclid steps a b)
unfolding euclid
euclid-is zero a zero h = none_left a
euclid-is zero a (suc b) h = absurd (not-suc-le-zero h)
euclid-is (suc steps) a zero h = none_left a
euclid-is (suc steps) a (suc b) h =
    remainder (euclid-is steps (suc b) (a % suc b) (le_of_suc-le-suc (le_trans (mod-lt a (zero-lt-suc b)) h)))

pub gcd-is : (a b : ℕ) → Gcd a b (gcd a b)
unfolding gcd
gcd-is a b = euclid-is b a b (le_refl b)

-- ---- its laws

pub gcd-comm : (a b : ℕ) → gcd a b ≡ gcd b a
gcd-comm a b = gcd-unique (gcd-is a b) (gcd-swap (gcd-is b a))

pub gcd-zero : (a : ℕ) → gcd a 0 ≡ a
gcd-zero a = gcd-unique (gcd-is a 0) (none_left a)

-- m divides the divisor of m·a and m·b; what is left of that divides a and b
pub gcd-scale : (m a b : ℕ) → 0 < m → gcd (m * a) (m * b) ≡ m * gcd a b
gcd-scale m a b some = dvd_antisymm (subst (λ z. z ∣ m * gcd a b) rest (mul-dvd-mul_left _ m divides)) (whole.greatest _
    (mul-dvd-mul_left _ m (gcd-is a b).divides-left) (mul-dvd-mul_left _ m (gcd-is a b).divides-right))
  where
    whole : Gcd (m * a) (m * b) (gcd (m * a) (m * b))
    whole = gcd-is (m * a) (m * b)

    rest : m * (gcd (m * a) (m * b) / m) ≡ gcd (m * a) (m * b)
    rest = mul-div_cancel' m (whole.greatest m (dvd-mul_right m a) (dvd-mul_right m b))

    divides : gcd (m * a) (m * b) / m ∣ gcd a b
    divides = (gcd-is a b).greatest _
        (dvd_of_mul-dvd-mul_left _ some (subst (λ z. z ∣ m * a) (sym rest) whole.divides-left))
        (dvd_of_mul-dvd-mul_left _ some (subst (λ z. z ∣ m * b) (sym rest) whole.divides-right))

pub gcd-positive : (a b : ℕ) → (0 < a) ⊎ (0 < b) → 0 < gcd a b
gcd-positive a b (inl h) = pos_of_dvd_of_pos (gcd-is a b).divides-left h
gcd-positive a b (inr h) = pos_of_dvd_of_pos (gcd-is a b).divides-right h

pub gcd-divided : (a b : ℕ) → 0 < gcd a b → gcd (a / gcd a b) (b / gcd a b) ≡ 1
gcd-divided a b some = eq_of_mul-eq-mul_left _ some _ _ (sym (gcd-scale (gcd a b) (a / gcd a b) (b / gcd a b) some)
    ∙ ap₂ gcd (mul-div_cancel' _ (gcd-is a b).divides-left) (mul-div_cancel' _ (gcd-is a b).divides-right) ∙ sym (mul-one (gcd a b)))
