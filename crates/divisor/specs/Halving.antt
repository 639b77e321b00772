-- The greatest common divisor by halving: a factor of two that only one of two numbers has changes nothing.
--     Factors n t r       n is r times t factors of two, and r is odd
--     trailing-factors    the zeros at the end of a number other than 0 count its factors of two, and a shift by them strips it;
--                         `trailing-fits`: of a number of k digits it is less than k
--     gcd-shifted         the divisor of two numbers below 2 ^ w by that of their odd parts
--     Halved w a b x y    the search among numbers below 2 ^ w: x and y are odd, and their divisor is that of a and b;
--                         `halved-swap`, `halved-next`, `halved-end` are its moves; `shift_fits`, and `next-less`: it comes to an end
use Rattle.std.specs.Prelude.{◌≡◌, refl, ℕ, zero, suc, ◌+◌, ◌-◌, ◌*◌, ◌/◌, ◌%◌, ◌^◌, ◌≤◌, ◌<◌}
use Rattle.std.proofs.Common.{sym, ◌∙◌, ap, ap₂, subst, suc-le-suc, pow-suc, mul_comm, mul-div_cancel, div-le_self, mod-eq_of_lt}
use Rattle.std.proofs.Common.{lt_of_le_of_lt, arith, pow_pos, pow-add}
use Rattle.std.specs.Int.{◌∣◌}
use Rattle.std.proofs.Math.Nat.{mod-eq-zero_of_dvd, dvd_of_mod-eq-zero, dvd_trans, dvd-mul_right, dvd-mul_right_of_dvd, dvd-add_iff_right}
use Rattle.std.proofs.Math.Nat.{dvd-sub_iff_left, le_of_dvd}
use Rattle.std.specs.Int.Count.{under, count_trailing_zeros}
use Rattle.divisor.specs.Divisor.{gcd, Gcd}
use Rattle.divisor.specs.Euclid.{gcd-is, gcd-unique, gcd-swap, gcd-own, gcd-scale}

pub record Factors (n t r : ℕ) : Type 0 where
  pub whole : n ≡ r * 2 ^ t
  pub odd : r % 2 ≡ 1

some-factors : (k n : ℕ) → 0 < n → n < 2 ^ k → (count_trailing_zeros k n < k) × (r : ℕ) × Factors n (count_trailing_zeros k n) r
unfolding count_trailing_zeros
some-factors zero n some h = absurd (omega arith)
some-factors (suc k) n some h = go (λ p. some-factors k (n / 2) p (omega (arith, pow-suc 2 k))) (n % 2) refl
  where
    go : (0 < n / 2 → (count_trailing_zeros k (n / 2) < k) × (r : ℕ) × Factors (n / 2) (count_trailing_zeros k (n / 2)) r) → (d : ℕ) → n % 2
        ≡ d
        → (under d (count_trailing_zeros k (n / 2)) < suc k) × (r : ℕ) × Factors n (under d (count_trailing_zeros k (n / 2))) r
    go rest zero e =
        let (fits, r, f) = rest (omega arith) in
        let more = ap (λ z. r * z) (pow-suc 2 (count_trailing_zeros k (n / 2))) in
        (suc-le-suc fits, r, record { whole = omega (arith, f.whole, more); odd = f.odd })
    go rest (suc d) e = (omega arith, n, record { whole = omega arith; odd = omega arith })

module _ (k n : ℕ) (some : 0 < n) (h : n < 2 ^ k) where
  pub trailing-fits : count_trailing_zeros k n < k
  trailing-fits = (some-factors k n some h).0

  pub trailing-factors : {r : ℕ} → r ≡ n / 2 ^ count_trailing_zeros k n → Factors n (count_trailing_zeros k n) r
  trailing-factors is =
      let (fits, r, f) = some-factors k n some h in
      let rest = is ∙ ap (λ z. z / 2 ^ count_trailing_zeros k n) f.whole ∙ mul-div_cancel r (pow_pos _) in
      subst (λ z. Factors n (count_trailing_zeros k n) z) (sym rest) f

-- ---- a common divisor stays one

subtracted : {x y g : ℕ} → x ≤ y → Gcd x (y - x) g → Gcd x y g
subtracted {x} {y} {g} le p = record {
  divides-left = p.divides-left;
  divides-right = (dvd-sub_iff_left g le p.divides-left).0 p.divides-right;
  greatest = λ k h l. p.greatest k h ((dvd-sub_iff_left k le h).1 l);
}

odd-divisor : (k : ℕ) {x : ℕ} → x % 2 ≡ 1 → k ∣ x → k % 2 ≡ 1
odd-divisor k {x} odd h = go (k % 2) refl
  where
    go : (r : ℕ) → k % 2 ≡ r → k % 2 ≡ 1
    go zero e = let even = mod-eq-zero_of_dvd 2 (dvd_trans 2 (dvd_of_mod-eq-zero 2 e) h) in absurd (omega arith)
    go (suc r) e = omega arith

-- k·r is r and a multiple of 2·r
one_less : (k r : ℕ) → k % 2 ≡ 1 → k ∣ r * 2 → k ∣ r
one_less k r odd h = (dvd-add_iff_right k (dvd-mul_right_of_dvd k h (k / 2))).1 (subst (λ z. k ∣ z) whole (dvd-mul_right k r))
  where
    whole : k * r ≡ r * 2 * (k / 2) + r
    whole = let halves : k ≡ 2 * (k / 2) + 1 = omega arith in ap (λ z. z * r) halves ∙ omega arith

none-less : (t k r : ℕ) → k % 2 ≡ 1 → k ∣ r * 2 ^ t → k ∣ r
none-less zero k r odd h = subst (λ z. k ∣ z) (omega arith) h
none-less (suc t) k r odd h = none-less t k r odd (one_less k (r * 2 ^ t) odd (subst (λ z. k ∣ z) again h))
  where
    again : r * 2 ^ suc t ≡ r * 2 ^ t * 2
    again = ap (λ z. r * z) (pow-suc 2 t) ∙ omega arith

stripped : {x n t r g : ℕ} → x % 2 ≡ 1 → Factors n t r → Gcd x r g → Gcd x n g
stripped {x} {n} {t} {r} {g} odd f p = rw f.whole record {
  divides-left = p.divides-left;
  divides-right = dvd-mul_right_of_dvd g p.divides-right (2 ^ t);
  greatest = λ k h l. p.greatest k h (none-less t k r (odd-divisor k odd h) l);
}

-- ---- the factors of two that both numbers have are factors of their divisor, and no others are

gcd-factors : {a b s t x y : ℕ} → Factors a s x → Factors b t y → s ≤ t → gcd a b ≡ gcd x y * 2 ^ s
gcd-factors {a} {b} {s} {t} {x} {y} f g le =
    ap₂ gcd (f.whole ∙ mul_comm x (2 ^ s)) common ∙ gcd-scale (2 ^ s) x more (pow_pos s)
    ∙ ap (λ z. 2 ^ s * z) (gcd-unique (gcd-is x more) (stripped f.odd (record { whole = refl; odd = g.odd }) (gcd-is x y)))
    ∙ mul_comm (2 ^ s) (gcd x y)
  where
    more : ℕ
    more = y * 2 ^ (t - s)

    common : b ≡ 2 ^ s * more
    common = g.whole ∙ ap (λ z. y * 2 ^ z) (omega arith) ∙ ap (λ z. y * z) (pow-add 2 s (t - s)) ∙ omega arith

pub gcd-shifted : {a b s t x y : ℕ} (w : ℕ) → Factors a s x → Factors b t y → s ≤ t → 0 < a → a < 2 ^ w
    → gcd x y * 2 ^ s % 2 ^ w ≡ gcd a b
gcd-shifted {a} {b} w f g le some fits =
    ap (λ z. z % 2 ^ w) (sym (gcd-factors f g le)) ∙ mod-eq_of_lt (lt_of_le_of_lt (le_of_dvd some (gcd-is a b).divides-left) fits)

-- ---- the search

pub record Halved (w a b x y : ℕ) : Type 0 where
  pub left-odd : x % 2 ≡ 1
  pub right-odd : y % 2 ≡ 1
  pub left-fits : x < 2 ^ w
  pub right-fits : y < 2 ^ w
  pub same : (g : ℕ) → Gcd x y g → Gcd a b g

pub halved-swap : {w a b x y : ℕ} → Halved w a b x y → Halved w b a y x
halved-swap h = record {
  left-odd = h.right-odd;
  right-odd = h.left-odd;
  left-fits = h.right-fits;
  right-fits = h.left-fits;
  same = λ g p. gcd-swap (h.same g (gcd-swap p));
}

module _ {w a b x y : ℕ} (h : Halved w a b x y) (less : x < y) where
  pub shift_fits : count_trailing_zeros w (y - x) < w
  shift_fits = trailing-fits w (y - x) (omega arith) (omega (arith, h.right-fits))

  module _ (r : ℕ) (is : r ≡ (y - x) / 2 ^ count_trailing_zeros w (y - x)) where
    pub next-less : r < y
    next-less = omega (arith, is, div-le_self (y - x) (2 ^ count_trailing_zeros w (y - x)), h.left-odd)

    pub halved-next : Halved w a b x r
    halved-next = record {
      left-odd = h.left-odd;
      right-odd = f.odd;
      left-fits = h.left-fits;
      right-fits = omega (arith, next-less, h.right-fits);
      same = λ g p. h.same g (subtracted (omega arith) (stripped h.left-odd f p));
    }
      where
        f : Factors (y - x) (count_trailing_zeros w (y - x)) r
        f = trailing-factors w (y - x) (omega arith) (omega (arith, h.right-fits)) is

pub halved-end : {w a b x y : ℕ} → Halved w a b x y → x ≡ y → x ≡ gcd a b
halved-end {w} {a} {b} {x} {y} h e = gcd-unique (h.same x (subst (λ z. Gcd x z x) e (gcd-own x))) (gcd-is a b)
