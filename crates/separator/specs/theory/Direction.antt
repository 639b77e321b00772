-- Directions that 11 lets pass, and their names.
--     good-small          the parts of such a direction may be added
--     opposite-good       its opposite passes
--     divisor-limit       what the parts of a direction are divided by is no more than a part may be
--     primitive-small     and what is left is in the limits as well
--     same-below          of directions that point the same way, a list is below another in both or in none
use Rattle.std.specs.Prelude.{◌≡◌, refl, true, false, List, [], ◌∷◌, ℕ, zero, suc, ◌*◌, ◌^◌, ◌≤◌, ◌<◌, ℤ, pos, nat_abs, ◌*ℤ◌, ◌<ℤ◌}
use Rattle.std.proofs.Common.{sym, ◌∙◌, ap, ap₂, le_refl, le_trans, mul-le-mul, arith}
use Rattle.std.proofs.Math.Nat.{le_of_dvd}
use Rattle.integer.specs.Linear.{linear, lia, ◌&◌}
use Rattle.integer.specs.Order.{◌<×<◌, ◌<×≤◌, contra<}
use Rattle.integer.specs.Bound.{Within, within-widen, within-neg, nat_abs-*}
use Rattle.divisor.specs.Divisor.{gcd, Gcd}
use Rattle.divisor.specs.Euclid.{gcd-is, gcd-zero}
use Rattle.plane.specs.Direction.{SameWay}
use Rattle.plane.specs.Point.{Point, opposite}
use Rattle.plane.specs.Limits.{part_small}
use Rattle.plane.specs.Furthest.{bad_direction, parts_divisor}
use Rattle.plane.specs.Primitive.{primitive}
use Rattle.plane.specs.Forms.{NonZero}
use Rattle.plane.specs.Offer.{below}
use Rattle.plane.proofs.theory.lists.Sought.{tests_agree}
use Rattle.plane.proofs.theory.forms.SameWay.{same-sym}
use Rattle.plane.proofs.theory.direction.Rows.{direction-near, direction-some, near-direction, some-divisor}
use Rattle.plane.proofs.theory.direction.Scaled.{same-value}
use Rattle.plane.proofs.theory.direction.Primitive.{primitive-multiple}
use Rattle.plane.proofs.theory.forms.Vector.{opposite-non-zero}
use Rattle.polygon.specs.Point.{Small}
use Rattle.separator.specs.theory.Below.{below→all, all→below}

-- ---- 11

module _ (d : Point) (good : bad_direction d ≡ false) where
  pub good-small : Small (2 ^ 21) d
  good-small = let near = direction-near d good in
      record { small-x = within-widen part_small near.0; small-y = within-widen part_small near.1 }

  pub opposite-good : bad_direction (opposite d) ≡ false
  opposite-good =
      let near = direction-near d good in
      near-direction (opposite d) (within-neg near.0) (within-neg near.1) (opposite-non-zero (direction-some d good))

-- ---- names

-- a part is at least that of the name
part-size : (m n : ℕ) (a b : ℤ) → 0 < m → pos m *ℤ a ≡ b → Within n b → Within n a
part-size m n a b some e w =
    let is : nat_abs b ≡ m * nat_abs a = ap nat_abs (sym e) ∙ nat_abs-* (pos m) a in
    record { size = omega (arith, is, mul-le-mul some (le_refl (nat_abs a)), w.size) }

module _ (n : ℕ) (d : Point) (small : Small n d) (some : NonZero d) where
  -- a divisor is no more than a number that it divides, unless that is 0; if both parts were, it would be 0 itself
  pub divisor-limit : parts_divisor d ≤ n
  divisor-limit = go (nat_abs d.x) refl (nat_abs d.y) refl
    where
      both : Gcd (nat_abs d.x) (nat_abs d.y) (parts_divisor d)
      both = gcd-is (nat_abs d.x) (nat_abs d.y)

      go : (a : ℕ) → nat_abs d.x ≡ a → (b : ℕ) → nat_abs d.y ≡ b → parts_divisor d ≤ n
      go (suc a) p b q = le_trans (le_of_dvd (omega (arith, p)) both.divides-left) small.small-x.size
      go zero p (suc b) q = le_trans (le_of_dvd (omega (arith, q)) both.divides-right) small.small-y.size
      go zero p zero q = absurd (omega (arith, ap₂ gcd p q ∙ gcd-zero 0, some-divisor some))

  pub primitive-small : Small n (primitive d)
  primitive-small = record {
    small-x = part-size _ n _ _ (some-divisor some) (primitive-multiple d).0 small.small-x;
    small-y = part-size _ n _ _ (some-divisor some) (primitive-multiple d).1 small.small-y;
  }

-- ---- the same way

-- what is less stays so
module _ {d e : Point} (s : SameWay d e) {a b a' b' : ℤ} (p : s.m *ℤ a ≡ s.n *ℤ a') (q : s.m *ℤ b ≡ s.n *ℤ b') where
  scaled-lt : a <ℤ b → a' <ℤ b'
  scaled-lt h = contra< (λ g.
      lia (s.m ∷ s.n ∷ a ∷ b ∷ a' ∷ b' ∷ []) (p & q & s.m-above <×< h & s.n-above <×≤ g) (search linear depth 40) (omega arith))

module _ (A B : List Point) where
  -- the one way
  below-same : {d e : Point} → SameWay d e → below d A B ≡ true → below e A B ≡ true
  below-same {d} {e} s h = all→below e A B (λ p q m n. scaled-lt s (same-value s p) (same-value s q) (below→all d A B h p q m n))

  pub same-below : {d e : Point} → SameWay d e → below d A B ≡ below e A B
  same-below s = tests_agree _ _ (below-same s) (below-same (same-sym s))
