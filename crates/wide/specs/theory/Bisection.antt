-- The rounded root of a fraction: there is one at most, and a search that tries any number between finds it.
--     root-unique                two rounded roots are equal
--     Between t q low high       low is reached, and high + 1 is not
--     between_start, -down, -up, -end   the moves of the loop; a test asks whether t·t < m·m·q
use Rattle.std.specs.Prelude.{◌≡◌, ℕ, ◌+◌, ◌-◌, ◌*◌, ◌<◌, ◌≤◌, Bool, true, false, nat_lt, refl}
use Rattle.std.proofs.Common.{le-mul_of_pos_right, mul-le-mul, mul-le-mul_right, arith, ltb-true, ltb-false}
use Rattle.wide.specs.Root.{RoundedRoot}

-- ---- one root

-- what is reached is below the next above
reached-le : (t q v w : ℕ) → w * w * q ≤ t * t → t * t < (v + 1) * (v + 1) * q → w ≤ v
reached-le t q v w r n = go (nat_lt v w) refl
  where
    go : (b : Bool) → nat_lt v w ≡ b → w ≤ v
    go true e =
        let l : v + 1 ≤ w = omega (arith, ltb-true v w e) in
        let f : ⊥ = omega (arith, mul-le-mul_right q (mul-le-mul l l)) in absurd f
    go false e = ltb-false v w e

pub root-unique : {t q v w : ℕ} → RoundedRoot t q v → RoundedRoot t q w → v ≡ w
root-unique {t} {q} {v} {w} a b =
    omega (arith, reached-le t q w v a.reached b.next-above, reached-le t q v w b.reached a.next-above)

-- ---- the loop

pub record Between (t q low high : ℕ) : Type 0 where
  pub ordered : low ≤ high
  pub reached : low * low * q ≤ t * t
  pub next-above : t * t < (high + 1) * (high + 1) * q

module _ {t q : ℕ} where
  pub between_start : 0 < q → Between t q 0 t
  between_start h =
      record { ordered = omega arith; reached = omega arith; next-above = omega (arith, le-mul_of_pos_right ((t + 1) * (t + 1)) h) }

  pub between-down : {low high : ℕ} (m : ℕ) → Between t q low high → low < m → nat_lt (t * t * 1) (m * m * q) ≡ true → Between t q low
      (m - 1)
  between-down m b l e =
      let back : m - 1 + 1 ≡ m = omega arith in
      record { ordered = omega arith; reached = b.reached; next-above = rw back (omega (arith, ltb-true (t * t * 1) (m * m * q) e)) }

  pub between-up : {low high : ℕ} (m : ℕ) → Between t q low high → m ≤ high → nat_lt (t * t * 1) (m * m * q) ≡ false → Between t q m high
  between-up m b l e = record { ordered = l; reached = omega (arith, ltb-false (t * t * 1) (m * m * q) e); next-above = b.next-above }

  pub between-end : {low high : ℕ} → Between t q low high → high ≤ low → RoundedRoot t q low
  between-end {low} {high} b h =
      let same : low ≡ high = omega (arith, b.ordered) in record { reached = b.reached; next-above = rw same b.next-above }
