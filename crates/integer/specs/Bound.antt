-- Bounds on the size of an integer.
--     Within n x      x is from -n to n
-- `beyond-size`: a bound as two tests. `within-le`, `within-ge` read it as two orders, `within_of` makes it of them; `within-widen` takes
-- a larger bound. `nat_abs-*`: the size of a product; `size-square`: a number and its size have one square. `size_is`: a number that is not
-- below 0 is its size; `positive-size`: above 0 that is not 0.
use Rattle.std.specs.Prelude.{◌≡◌, refl, Bool, true, false, ◌||◌, ◌⊎◌, ℕ, zero, suc, ◌+◌, ◌*◌, ◌≤◌, ◌<◌, ltb, ℤ, pos, negsuc, neg_ℤ}
use Rattle.std.specs.Prelude.{nat_abs, ◌+ℤ◌, ◌*ℤ◌, ◌≤ℤ◌, ◌<ℤ◌}
use Rattle.std.proofs.Common.{sym, subst, inl, inr, arith, mul-le-mul, le_trans, lt-ltb, le-ltb, ltb-true}
use Rattle.std.specs.Int.Signed.{lt_z}
use Rattle.integer.specs.Order.{lt_z-true, lt_z-false, lt-lt_z}
use Rattle.integer.specs.Parts.{above, below, le_parts, parts-le, lt-parts, differs-own, differs-add, differs-neg}

pub record Within (n : ℕ) (x : ℤ) : Type 0 where
  pub size : nat_abs x ≤ n

size-parts : (x : ℤ) → nat_abs x ≡ above x + below x
size-parts (pos n) = omega arith
size-parts (negsuc n) = omega arith

neg-size : (k : ℕ) → nat_abs (neg_ℤ (pos k)) ≡ k
neg-size zero = refl
neg-size (suc k) = refl

pub within-widen : {m n : ℕ} {x : ℤ} → m ≤ n → Within m x → Within n x
within-widen h w = record { size = le_trans w.size h }

pub within-neg : {n : ℕ} {x : ℤ} → Within n x → Within n (neg_ℤ x)
within-neg {n} {x} w = record { size = go x w.size }
  where
    go : (x : ℤ) → nat_abs x ≤ n → nat_abs (neg_ℤ x) ≤ n
    go (pos zero) h = h
    go (pos (suc m)) h = h
    go (negsuc m) h = h

-- of a sum's two parts one is 0
one-part : (x : ℤ) → (above x ≡ 0) ⊎ (below x ≡ 0)
one-part (pos n) = inr refl
one-part (negsuc n) = inl refl

pub within-add : {m n : ℕ} {x y : ℤ} → Within m x → Within n y → Within (m + n) (x +ℤ y)
within-add {m} {n} {x} {y} v w = record { size = go (one-part (x +ℤ y)) (one-part x) (one-part y) }
  where
    same : above (x +ℤ y) + (below x + below y) ≡ below (x +ℤ y) + (above x + above y)
    same = (differs-add (differs-own x) (differs-own y)).same

    go : (above (x +ℤ y) ≡ 0) ⊎ (below (x +ℤ y) ≡ 0) → (above x ≡ 0) ⊎ (below x ≡ 0) → (above y ≡ 0) ⊎ (below y ≡ 0)
        → nat_abs (x +ℤ y) ≤ m + n
    go (inl h) p q = omega (arith, size-parts x, size-parts y, size-parts (x +ℤ y), same, v.size, w.size)
    go (inr h) p q = omega (arith, size-parts x, size-parts y, size-parts (x +ℤ y), same, v.size, w.size)

pub nat_abs-* : (x y : ℤ) → nat_abs (x *ℤ y) ≡ nat_abs x * nat_abs y
nat_abs-* (pos a) (pos b) = refl
nat_abs-* (pos a) (negsuc b) = neg-size (a * suc b)
nat_abs-* (negsuc a) (pos b) = neg-size (suc a * b)
nat_abs-* (negsuc a) (negsuc b) = refl

pub size-square : (z : ℤ) → pos (nat_abs z) *ℤ pos (nat_abs z) ≡ z *ℤ z
size-square (pos n) = refl
size-square (negsuc n) = refl

pub size_is : {z : ℤ} → pos 0 ≤ℤ z → pos (nat_abs z) ≡ z
size_is {z} h = go z h
  where
    go : (z : ℤ) → pos 0 ≤ℤ z → pos (nat_abs z) ≡ z
    go (pos n) h = refl
    go (negsuc n) h = absurd h.le

pub positive-size : {z : ℤ} → pos 0 <ℤ z → 0 < nat_abs z
positive-size {z} h = go z h
  where
    go : (z : ℤ) → pos 0 <ℤ z → 0 < nat_abs z
    go (pos n) h = ltb-true 0 n (lt-lt_z h)
    go (negsuc n) h = absurd h.lt

pub within-mul : {m n : ℕ} {x y : ℤ} → Within m x → Within n y → Within (m * n) (x *ℤ y)
within-mul {m} {n} {x} {y} v w = record { size = subst (λ k. k ≤ m * n) (sym (nat_abs-* x y)) (mul-le-mul v.size w.size) }

pub within-le : {n : ℕ} {x : ℤ} → Within n x → x ≤ℤ pos n
within-le {n} {x} w = parts-le (differs-own x) (differs-own (pos n)) (omega (arith, size-parts x, w.size))

pub within-ge : {n : ℕ} {x : ℤ} → Within n x → neg_ℤ (pos n) ≤ℤ x
within-ge {n} {x} w = parts-le (differs-neg (differs-own (pos n))) (differs-own x) (omega (arith, size-parts x, w.size))

pub within_of : {n : ℕ} {x : ℤ} → neg_ℤ (pos n) ≤ℤ x → x ≤ℤ pos n → Within n x
within_of {n} {x} h k = record { size = go (one-part x) }
  where
    go : (above x ≡ 0) ⊎ (below x ≡ 0) → nat_abs x ≤ n
    go (inl e) = omega (
      arith,
      size-parts x,
      le_parts (differs-neg (differs-own (pos n))) (differs-own x) h,
      le_parts (differs-own x) (differs-own (pos n)) k,
    )
    go (inr e) = omega (
      arith,
      size-parts x,
      le_parts (differs-neg (differs-own (pos n))) (differs-own x) h,
      le_parts (differs-own x) (differs-own (pos n)) k,
    )

-- ---- a bound as two tests, as code makes them

beyond-low : (m : ℕ) (z : ℤ) → z <ℤ neg_ℤ (pos m) → ltb m (nat_abs z) ≡ true
beyond-low m z h = lt-ltb m (nat_abs z) (omega (arith, size-parts z, lt-parts (differs-own z) (differs-neg (differs-own (pos m))) h))

beyond-high : (m : ℕ) (z : ℤ) → neg_ℤ (pos m) ≤ℤ z → lt_z (pos m) z ≡ ltb m (nat_abs z)
beyond-high m (pos n) h = refl
beyond-high m (negsuc n) h = sym (le-ltb m (suc n) (omega (arith, le_parts (differs-neg (differs-own (pos m))) (differs-own (negsuc n)) h)))

pub beyond-size : (m : ℕ) (z : ℤ) → (lt_z z (neg_ℤ (pos m)) || lt_z (pos m) z) ≡ ltb m (nat_abs z)
beyond-size m z = go (lt_z z (neg_ℤ (pos m))) refl
  where
    go : (b : Bool) → lt_z z (neg_ℤ (pos m)) ≡ b → (b || lt_z (pos m) z) ≡ ltb m (nat_abs z)
    go true e = sym (beyond-low m z (lt_z-true e))
    go false e = beyond-high m z (lt_z-false e)
