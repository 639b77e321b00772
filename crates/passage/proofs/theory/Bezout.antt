-- Every whole number is the value of some point in a direction in lowest terms.
--     combined          the greatest common divisor of two numbers is a sum of multiples of them
--     value-had         so a direction whose parts have no common divisor has every value
use Rattle.std.specs.Prelude.{◌≡◌, false, [], ◌∷◌, ℕ, zero, suc, ◌/◌, ◌%◌, ◌≤◌, ℤ, pos, negsuc, nat_abs, ◌+ℤ◌, ◌-ℤ◌, ◌*ℤ◌}
use Rattle.std.proofs.Common.{◌∙◌, ap, le_refl, le_trans, le_of_suc-le-suc, not-suc-le-zero, zero-lt-suc, mod-lt, mul-one, arith}
use Rattle.std.proofs.Math.Nat.{div-add-mod}
use Rattle.integer.specs.Ring.{ring, reify}
use Rattle.integer.specs.Linear.{linear, lia, ◌&◌}
use Rattle.integer.specs.Order.{◌≡×◌}
use Rattle.divisor.specs.Divisor.{euclid, gcd}
use Rattle.plane.specs.Point.{Point, point}
use Rattle.plane.specs.Direction.{value}
use Rattle.plane.specs.Furthest.{common_divisor}
use Rattle.plane.specs.Forms.{NonZero}
use Rattle.plane.proofs.theory.direction.Rows.{divisor-one}

-- ---- Euclid's steps, backwards

record Combined (a b g : ℕ) : Type 0 where
  first : ℤ
  second : ℤ
  is : pos a *ℤ first +ℤ pos b *ℤ second ≡ pos g

alone : (a : ℤ) → a *ℤ pos 1 +ℤ pos 0 *ℤ pos 0 ≡ a
alone a = ring (a ∷ []) (search reify depth 40) tt

-- a is b·q + r
back : (a b q r x y g : ℤ) → b *ℤ q +ℤ r ≡ a → b *ℤ x +ℤ r *ℤ y ≡ g → a *ℤ y +ℤ b *ℤ (x -ℤ q *ℤ y) ≡ g
back a b q r x y g e f = lia (a ∷ b ∷ q ∷ r ∷ x ∷ y ∷ g ∷ []) (e ≡× y & f) (search linear depth 40) (omega arith)

euclid-combined : (steps a b : ℕ) → b ≤ steps → Combined a b (euclid steps a b)
unfolding euclid
euclid-combined zero a zero h = record { first = pos 1; second = pos 0; is = alone (pos a) }
euclid-combined zero a (suc b) h = absurd (not-suc-le-zero h)
euclid-combined (suc steps) a zero h = record { first = pos 1; second = pos 0; is = alone (pos a) }
euclid-combined (suc steps) a (suc b) h =
    let c = euclid-combined steps (suc b) (a % suc b) (le_of_suc-le-suc (le_trans (mod-lt a (zero-lt-suc b)) h)) in
    record {
      first = c.second;
      second = c.first -ℤ pos (a / suc b) *ℤ c.second;
      is = back (pos a) (pos (suc b)) (pos (a / suc b)) (pos (a % suc b)) c.first c.second (pos (euclid steps (suc b) (a % suc b)))
          (ap pos (div-add-mod a (suc b))) c.is;
    }

combined : (a b : ℕ) → Combined a b (gcd a b)
unfolding gcd
combined a b = euclid-combined b a b (le_refl b)

-- ---- values

-- the size of a number is a multiple of it
size-multiple : (z : ℤ) → (s : ℤ) × (z *ℤ s ≡ pos (nat_abs z))
size-multiple (pos a) = (pos 1, ap pos (mul-one a))
size-multiple (negsuc a) = (negsuc 0, ap pos (mul-one (suc a)))

-- u·s and v·t are the sizes of u and v
scaled : (u v s t a b x y z : ℤ) → u *ℤ s ≡ a → v *ℤ t ≡ b → a *ℤ x +ℤ b *ℤ y ≡ pos 1 → u *ℤ (z *ℤ (s *ℤ x)) +ℤ v *ℤ (z *ℤ (t *ℤ y)) ≡ z
scaled u v s t a b x y z e f g = lia (u ∷ v ∷ s ∷ t ∷ a ∷ b ∷ x ∷ y ∷ z ∷ []) (e ≡× (z *ℤ x) & f ≡× (z *ℤ y) & g ≡× z)
    (search linear depth 40) (omega arith)

pub value-had : (d : Point) → NonZero d → common_divisor d ≡ false → (z : ℤ) → (t : Point) × (value d t ≡ z)
unfolding value
value-had d some lowest z =
    let c = combined (nat_abs d.x) (nat_abs d.y) in
    let one : pos (nat_abs d.x) *ℤ c.first +ℤ pos (nat_abs d.y) *ℤ c.second ≡ pos 1 = c.is ∙ ap pos (divisor-one some lowest) in
    let (s, u) = size-multiple d.x in
    let (t, v) = size-multiple d.y in (
      point (z *ℤ (s *ℤ c.first)) (z *ℤ (t *ℤ c.second)),
      scaled d.x d.y s t (pos (nat_abs d.x)) (pos (nat_abs d.y)) c.first c.second z u v one,
    )
