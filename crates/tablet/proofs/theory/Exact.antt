-- The operations of the code that are exact, by the size of their result: `HasValue x s a c` says that x is a / c, with the sign s.
--     fits-parts          what a double's digits and exponent are bounded by
--     eighth-exact        a multiplication by 0.125, from magnitude 1 upward
--     zero-exact          a double equals 0 exactly if its size is 0
use Rattle.std.specs.Prelude.{◌≡◌, ℕ, zero, suc, ◌+◌, ◌-◌, ◌*◌, ◌%◌, ◌^◌, ◌<◌, ◌≤◌, Bool, true, false, ◌&&◌, ◌||◌, T, ℤ, pos, negsuc, ◌==◌}
use Rattle.std.specs.Prelude.{nat_eq, nat_le, nat_lt, refl, Float}
use Rattle.std.proofs.Common.{sym, ap, ◌∙◌, subst, mul-one, zero-mul, mul_assoc, lt_of_le_of_lt, lt_of_lt_of_le, le_trans, not-le_of_lt}
use Rattle.std.proofs.Common.{lt_of_not-le, le_of_suc-le-suc, le_refl, le_of_eq, mul-pos, arith, ltb→lt, leb→le, lit<, lit≤, pow-add}
use Rattle.std.proofs.Common.{pow_pos, pow_mono, shl_lt}
use Rattle.std.specs.Bool.{beq}
use Rattle.std.proofs.Math.Pow.{pow-lt}
use Rattle.std.specs.Float.{nan, inf, fin, binary64}
use Rattle.std.specs.Float.Ieee.{emax, low, up, down, round, mul, eq, fits}
use Rattle.std.specs.Float.Ieee.Exact.{HasValue, round_exact}
use Rattle.std.specs.Float.Ieee.Fits.{down_pos, up_pos}
use Rattle.tablet.proofs.theory.Fraction.{zero_same}

-- ---- 0

level-zero : (a : ℕ) (b : Bool) → (a == 0 && (b || a == 0)) ≡ (a == 0)
level-zero a true = go (a == 0)
  where
    go : (x : Bool) → (x && true) ≡ x
    go true = refl
    go false = refl
level-zero a false = go (a == 0)
  where
    go : (x : Bool) → (x && x) ≡ x
    go true = refl
    go false = refl

pub zero-exact : (x : Float) (s : Bool) (a c : ℕ) → 0 < c → HasValue x s a c → eq x (fin false 0 (pos 0)) ≡ (a == 0)
unfolding eq
zero-exact nan s a c C v = absurd v
zero-exact (inf t) s a c C v = absurd v
zero-exact (fin t m e) s a c C v =
    ap (λ (z : ℕ). (m * up e * 1 == z) && (beq t false || m * up e * 1 == 0)) (zero-mul (down e))
    ∙ level-zero (m * up e * 1) (beq t false)
    ∙ ap (λ (z : ℕ). nat_eq z 0) (mul-one (m * up e))
    ∙ zero_same (m * up e) a c (down e) C (down_pos e) v.1

round-zero : (s : Bool) (den : ℕ) → 0 < den → HasValue (round binary64 s 0 den) s 0 den
round-zero s den D = round_exact binary64 s 0 den 0 0 D (lit< tt) (lit< tt) (sym (zero-mul den))

-- ---- a double's digits

pub record Digits (m : ℕ) (e : ℤ) : Type 0 where
  pub few : m < 2 ^ 53
  pub fine : down e ≤ 2 ^ 1074
  pub finite : m * up e < 2 ^ 1024 * down e

parted : (a b c d : Bool) → T (a && b && c && d) → T b × T c × T d
parted true true true true t = (tt, tt, tt)
parted false b c d t = elim t [ ]
parted true false c d t = elim t [ ]
parted true true false d t = elim t [ ]
parted true true true false t = elim t [ ]

pub fits-digits : (s : Bool) (m : ℕ) (e : ℤ) → T (fits binary64 (fin s (suc m) e)) → Digits (suc m) e
unfolding fits
fits-digits s m e t =
    let p = parted (suc m % 2 == 1) (nat_lt (suc m) (2 ^ 53)) (nat_le (down e) (2 ^ 1074)) (nat_lt (suc m * up e) (2 ^ 1024 * down e)) t in
    record {
      few = ltb→lt (suc m) (2 ^ 53) p.0;
      fine = leb→le (down e) (2 ^ 1074) p.1;
      finite = ltb→lt (suc m * up e) (2 ^ 1024 * down e) p.2;
    }

-- an exponent by its power of two
exponent-le : (i j : ℕ) → 2 ^ i ≤ 2 ^ j → i ≤ j
exponent-le i j h = le_of_suc-le-suc (lt_of_not-le (λ (k : suc j ≤ i). not-le_of_lt (pow-lt k) h))

exponent_lt : (i j m : ℕ) → 2 ^ i ≤ m → m < 2 ^ j → i < j
exponent_lt i j m h k = lt_of_not-le (λ (g : j ≤ i). not-le_of_lt (lt_of_lt_of_le k (le_trans (pow_mono g) h)) (le_refl m))

-- ---- digits moved up

-- in units of the format's smallest value
shifted : (r k l : ℕ) → k ≤ l → r * 2 ^ l ≡ r * 2 ^ (l - k) * 2 ^ k
shifted r k l h =
    ap (λ (z : ℕ). r * 2 ^ z) (let d : l ≡ l - k + k = omega arith in d)
    ∙ ap (λ (z : ℕ). r * z) (pow-add 2 (l - k) k) ∙ sym (mul_assoc r (2 ^ (l - k)) (2 ^ k))

-- fewer digits than a double has, moved up by no more than there is room for, stay below its end
under-end : (r j : ℕ) → r < 2 ^ 53 → j ≤ 1074 → r * 2 ^ j < 2 ^ (low binary64 + suc (emax binary64))
under-end r j h k = lt_of_lt_of_le (shl_lt 53 j h) (pow_mono (let d : 53 + j ≤ 2098 = omega arith in d))

-- ---- a multiplication by 0.125

wide : (m k : ℕ) → m * 2 ^ k * 2 ^ 1074 ≡ m * 2 ^ (k + 1071) * (1 * 8)
wide m k =
    mul_assoc m (2 ^ k) (2 ^ 1074)
    ∙ ap (λ (z : ℕ). m * z) (sym (pow-add 2 k 1074)
    ∙ ap (λ (z : ℕ). 2 ^ z) (let d : k + 1074 ≡ k + 1071 + 3 = omega arith in d) ∙ pow-add 2 (k + 1071) 3)
    ∙ sym (mul_assoc m (2 ^ (k + 1071)) 8)

wide-under : (m k : ℕ) → m * 2 ^ k < 2 ^ 1024 → m * 2 ^ (k + 1071) < 2 ^ (low binary64 + suc (emax binary64))
wide-under m k h =
    lt_of_le_of_lt (le_of_eq (ap (λ (z : ℕ). m * z) (pow-add 2 k 1071) ∙ sym (mul_assoc m (2 ^ k) (2 ^ 1071))))
    (lt_of_lt_of_le (shl_lt 1024 1071 h) (pow_mono {i = 1024 + 1071} {j = low binary64 + suc (emax binary64)} (lit≤ tt)))

narrow : (m k : ℕ) → k + 3 ≤ 1074 → m * 2 ^ 1074 ≡ m * 2 ^ (1074 - (k + 3)) * (2 ^ k * 8)
narrow m k h = shifted m (k + 3) 1074 h ∙ ap (λ (z : ℕ). m * 2 ^ (1074 - (k + 3)) * z) (pow-add 2 k 3)

scaled : (s : Bool) (m : ℕ) (e : ℤ) → Digits m e → down e ≤ m * up e
    → HasValue (round binary64 s (m * up e) (down e * 8)) s (m * up e) (down e * 8)
scaled s m (pos k) d h =
    round_exact binary64 s (m * 2 ^ k) (1 * 8) m (k + 1071) (lit< tt) d.few
    (wide-under m k (subst (λ (z : ℕ). m * 2 ^ k < z) (mul-one (2 ^ 1024)) d.finite)) (wide m k)
scaled s m (negsuc k) d h =
    let few : suc k < 53 = exponent_lt (suc k) 53 m (subst (λ (z : ℕ). 2 ^ suc k ≤ z) (mul-one m) h) d.few in
    round_exact binary64 s (m * 1) (2 ^ suc k * 8) m (1074 - (suc k + 3)) (mul-pos (pow_pos (suc k)) (lit< tt)) d.few
    (under-end m (1074 - (suc k + 3)) d.few (let q : 1074 - (suc k + 3) ≤ 1074 = omega arith in q))
    (ap (λ (z : ℕ). z * 2 ^ 1074) (mul-one m) ∙ narrow m (suc k) (let q : suc k + 3 ≤ 1074 = omega arith in q))

-- from magnitude 1 upward, and of 0
pub eighth-exact : (s : Bool) (m : ℕ) (e : ℤ) → T (fits binary64 (fin s m e)) → (0 < m * up e → down e ≤ m * up e)
    → HasValue (mul binary64 (fin s m e) (fin false 1 (negsuc 2))) s (m * up e) (down e * 8)
unfolding mul
eighth-exact s m e t h = subst (λ (x : Float). HasValue x s (m * up e) (down e * 8)) (sym (same s)) (go m t h)
  where
    same : (s : Bool) → mul binary64 (fin s m e) (fin false 1 (negsuc 2)) ≡ round binary64 s (m * up e) (down e * 8)
    same true = ap (λ (z : ℕ). round binary64 true z (down e * 8)) (mul-one (m * up e))
    same false = ap (λ (z : ℕ). round binary64 false z (down e * 8)) (mul-one (m * up e))

    go : (n : ℕ) → T (fits binary64 (fin s n e)) → (0 < n * up e → down e ≤ n * up e)
        → HasValue (round binary64 s (n * up e) (down e * 8)) s (n * up e) (down e * 8)
    go zero f h =
        subst (λ (r : ℕ). HasValue (round binary64 s r (down e * 8)) s r (down e * 8)) (sym (zero-mul (up e)))
        (round-zero s (down e * 8) (mul-pos (down_pos e) (lit< tt)))
    go (suc n) f h = scaled s (suc n) e (fits-digits s n e f) (h (mul-pos (let p : 0 < suc n = omega arith in p) (up_pos e)))
