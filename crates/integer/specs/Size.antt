-- The size of a signed number as code finds it, for any width. Below 0, -1 less the number is one less than the size, and fits; the size of
-- the least number itself would not.
--     Below w z, below-zero      what is known of that difference
--     from_zero                  a number that is not below 0 is its own size
use Rattle.std.specs.Prelude.{◌≡◌, true, false, ℕ, suc, ◌+◌, ◌-◌, ◌<◌, T, ltb, ℤ, pos, negsuc, nat_abs, ◌-ℤ◌}
use Rattle.std.proofs.Common.{◌∙◌, ap, true≢false, arith, ltb-true, le-ltb, to_z-of_z, Fits-le}
use Rattle.std.specs.Int.Signed.{lt_z, non_neg}
use Rattle.std.specs.Int.{Width}
use mir.Val.{Fits, SFits, bits, hbits, to_z, of_z}
use Rattle.std.proofs.Math.Facts.{Fits-nat_abs}

pub record Below (w : Width) (z : ℤ) : Type 0 where
  pub fits : SFits w (negsuc 0 -ℤ to_z w (of_z w z))
  pub value : to_z w (of_z w (negsuc 0 -ℤ to_z w (of_z w z))) ≡ pos (nat_abs z - 1)
  pub value-fits : Fits w (nat_abs z - 1)
  pub more-fits : Fits w (nat_abs z - 1 + 1)
  pub more-is : nat_abs z - 1 + 1 ≡ nat_abs z

less : (n : ℕ) → negsuc 0 -ℤ negsuc n ≡ pos n
less n = rw (le-ltb (suc n) 1 (omega arith)) (ap pos (omega arith))

pub below-zero : {w : Width} (z : ℤ) → T (ltb (hbits w) (bits w)) → SFits w z → lt_z z (pos 0) ≡ true → Below w z
below-zero {w} (pos n) room f t = let h : n < 0 = ltb-true n 0 t in absurd (omega arith)
below-zero {w} (negsuc n) room f t =
    let all : Fits w (suc n) = Fits-nat_abs room f in
    let difference : SFits w (negsuc 0 -ℤ negsuc n) = rw (less n) (record { sfits = f.sfits }) in
    record {
      fits = rw (to_z-of_z f) difference;
      value = rw (to_z-of_z f) (to_z-of_z difference ∙ less n ∙ ap pos (omega arith));
      value-fits = Fits-le (omega arith) all;
      more-fits = Fits-le (omega arith) all;
      more-is = omega arith;
    }

pub from_zero : {w : Width} (z : ℤ) → T (ltb (hbits w) (bits w)) → SFits w z → lt_z z (pos 0) ≡ false
    → T (non_neg z) × Fits w (nat_abs z)
from_zero {w} (pos n) room f t = (tt, Fits-nat_abs room f)
from_zero {w} (negsuc n) room f t = absurd (true≢false t)
