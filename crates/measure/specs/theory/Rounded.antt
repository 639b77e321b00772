-- The root of n/q rounded down (document 01, "Width": w·w·q ≤ t·t < (w+1)·(w+1)·q).
--     rounded-low, rounded-high     root_below n q meets it, where q is not 0
--     rounded-unique                and nothing else does
--     root-square-over              the root of d·d/d is that of d
use Rattle.std.specs.Prelude.{◌≡◌, Bool, true, false}
use Rattle.std.proofs.Math.Path.{refl}
use Prim.Native.Nat.{ℕ, zero, suc, ◌+◌, ◌*◌, ◌≤◌, ◌<◌, zero-le}
use Rattle.std.proofs.Common.{mul-le-mul, mul-lt-mul_of_pos_right, le-mul_of_pos_right, mul-one, zero-lt-suc}
use Rattle.std.proofs.Math.Nat.{mul-le-mul_right, zero-mul}
use Rattle.std.proofs.Math.Numerals.{add-one}
use native.Mathlib.Omega.{arith}
use borrow.Author.Tests.{ltb-true, ltb-false, lt-ltb, le-ltb}
use Rattle.std.proofs.Math.Dec.{ltb}
use Rattle.plane.specs.Search.{first}
use Rattle.plane.specs.Measure.{root_below}
use Rattle.plane.proofs.theory.lists.Sought.{first-true, first-least, first-unique}

module _ (n q : ℕ) (some : 0 < q) where
  -- a root is at most its square, times q
  root-le : (w : ℕ) → w ≤ w * w * q
  root-le zero = zero-le
  root-le (suc w) = omega (arith, le-mul_of_pos_right (suc w) (zero-lt-suc w), le-mul_of_pos_right (suc w * suc w) some)

  pub rounded-unique : (w : ℕ) → w * w * q ≤ n → n < (w + 1) * (w + 1) * q → root_below n q ≡ w
  unfolding root_below
  rounded-unique w low high = first-unique (λ v. ltb n ((v + 1) * (v + 1) * q)) n w (omega (arith, root-le w))
      (λ h. lt-ltb n ((w + 1) * (w + 1) * q) high)
      (λ v h. let l : v + 1 ≤ w = omega arith in
      le-ltb n ((v + 1) * (v + 1) * q) (omega (arith, mul-le-mul_right q (mul-le-mul l l))))

  pub rounded-low : root_below n q * root_below n q * q ≤ n
  unfolding root_below
  rounded-low = go (first (λ v. ltb n ((v + 1) * (v + 1) * q)) n) (first-least (λ v. ltb n ((v + 1) * (v + 1) * q)) n)
    where
      go : (w : ℕ) → ((v : ℕ) → v < w → ltb n ((v + 1) * (v + 1) * q) ≡ false) → w * w * q ≤ n
      go zero f = simp zero-mul zero-le
      go (suc w) f = rw add-one at (ltb-false n ((w + 1) * (w + 1) * q) (f w (omega arith)))

  pub rounded-high : n < (root_below n q + 1) * (root_below n q + 1) * q
  unfolding root_below
  rounded-high = go (ltb w n) refl
    where
      w : ℕ
      w = first (λ v. ltb n ((v + 1) * (v + 1) * q)) n

      go : (b : Bool) → ltb w n ≡ b → n < (w + 1) * (w + 1) * q
      go true e = ltb-true n ((w + 1) * (w + 1) * q) (first-true (λ v. ltb n ((v + 1) * (v + 1) * q)) n (ltb-true w n e))
      go false e = omega (arith, ltb-false w n e, root-le (w + 1))

pub root-square-over : (d : ℕ) → 0 < d → root_below (d * d) d ≡ root_below d 1
root-square-over d some =
    let w = root_below d 1 in
    let low : w * w ≤ d = rw mul-one at (rounded-low d 1 (omega arith)) in
    let high : d < (w + 1) * (w + 1) = rw mul-one at (rounded-high d 1 (omega arith)) in
    rounded-unique (d * d) d some w (mul-le-mul_right d low) (mul-lt-mul_of_pos_right high some)
