-- What refusals 11 and 12 let pass.
--     direction-near, direction-some     a direction that 11 lets pass has its parts in range, and is not (0,0)
--     near-direction                     and every such direction passes
--     some-divisor                       its divisor is positive
--     one-divisor, divisor-one           then 12 lets it pass exactly if the divisor is 1
use Rattle.std.specs.Prelude.{◌≡◌, refl, Bool, true, false, ◌&&◌, ◌||◌, ℕ, zero, suc, ◌<◌, eqb, ltb, ℤ, pos, negsuc, nat_abs}
use Rattle.std.proofs.Common.{ap, true≢false, inl, inr, arith, ltb-false, le-ltb, eqb-true}
use Rattle.integer.specs.Bound.{Within}
use Rattle.divisor.specs.Euclid.{gcd-positive}
use Rattle.plane.specs.Limits.{max_part}
use Rattle.plane.specs.Point.{Point}
use Rattle.plane.specs.Forms.{NonZero}
use Rattle.plane.specs.Furthest.{bad_direction, parts_divisor, common_divisor}
use Rattle.plane.proofs.theory.lists.Members.{point-path}
use Rattle.plane.proofs.theory.lists.Sought.{true-not-false}

-- ---- 11

pub direction-near : (d : Point) → bad_direction d ≡ false → Within max_part d.x × Within max_part d.y
unfolding bad_direction
direction-near d h = go (eqb (nat_abs d.x) 0 && eqb (nat_abs d.y) 0)
    (ltb max_part (nat_abs d.x)) refl (ltb max_part (nat_abs d.y)) refl h
  where
    go : (z s : Bool) → ltb max_part (nat_abs d.x) ≡ s → (t : Bool) → ltb max_part (nat_abs d.y) ≡ t → (z || (s || t)) ≡ false
        → Within max_part d.x × Within max_part d.y
    go true s p t q h = absurd (true≢false h)
    go false true p t q h = absurd (true≢false h)
    go false false p true q h = absurd (true≢false h)
    go false false p false q h = (record { size = ltb-false _ _ p }, record { size = ltb-false _ _ q })

pub direction-some : (d : Point) → bad_direction d ≡ false → NonZero d
unfolding bad_direction
direction-some d h = record { non_zero = λ e. true-not-false (ap bad_direction e) h }

no_size : (z : ℤ) → nat_abs z ≡ 0 → z ≡ pos 0
no_size (pos n) h = ap pos h
no_size (negsuc n) h = absurd (omega arith)

pub near-direction : (d : Point) → Within max_part d.x → Within max_part d.y → NonZero d → bad_direction d ≡ false
unfolding bad_direction
near-direction d u v some =
    rw (le-ltb max_part (nat_abs d.x) u.size, le-ltb max_part (nat_abs d.y) v.size)
    (go (eqb (nat_abs d.x) 0) refl (eqb (nat_abs d.y) 0) refl)
  where
    go : (s : Bool) → eqb (nat_abs d.x) 0 ≡ s → (t : Bool) → eqb (nat_abs d.y) 0 ≡ t → ((s && t) || false) ≡ false
    go true p true q = absurd (some.non_zero (point-path (no_size _ (eqb-true _ _ p)) (no_size _ (eqb-true _ _ q))))
    go true p false q = refl
    go false p t q = refl

-- ---- 12

pub some-divisor : {d : Point} → NonZero d → 0 < parts_divisor d
some-divisor {d} some = go (nat_abs d.x) refl (nat_abs d.y) refl
  where
    go : (a : ℕ) → nat_abs d.x ≡ a → (b : ℕ) → nat_abs d.y ≡ b → 0 < parts_divisor d
    go zero p zero q = absurd (some.non_zero (point-path (no_size _ p) (no_size _ q)))
    go zero p (suc b) q = gcd-positive _ _ (inr (omega arith))
    go (suc a) p b q = gcd-positive _ _ (inl (omega arith))

pub one-divisor : (d : Point) → parts_divisor d ≡ 1 → common_divisor d ≡ false
unfolding common_divisor
one-divisor d h = le-ltb 1 (parts_divisor d) (omega (arith, h))

pub divisor-one : {d : Point} → NonZero d → common_divisor d ≡ false → parts_divisor d ≡ 1
unfolding common_divisor
divisor-one {d} some h = omega (arith, some-divisor some, ltb-false 1 (parts_divisor d) h)
