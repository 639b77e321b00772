-- The root of a fraction, rounded up and down.
--     root_above-enough     its square is at least the fraction, where the fraction is divided by something
--     root_above-least      and that of nothing less is
--     root_above-from-below      it is the root rounded down, and one more unless that is exact
--     above-next, above-exact, above-le     the same as the code compares; one more is at most t
--     root_above-square-over     the root of d·d/d is that of d
--     bounded-above        a number whose square is at most a fraction is at most the root rounded down
--     up-enough, up_least  the excess, rounded up
use Rattle.std.specs.Prelude.{◌≡◌, Bool, cond, List, [], ◌∷◌, leb, ℤ, nat_abs, ◌+ℤ◌, ◌*ℤ◌, length, ◌≤ℤ◌, ◌<ℤ◌}
use Rattle.std.proofs.Math.Path.{refl, subst}
use Rattle.std.proofs.Common.{sym, ◌∙◌, ap, mul-one, mul-le-mul, mul-le-mul_right, mul-lt-mul_of_pos_right, le-mul_of_pos_right}
use Rattle.std.proofs.Common.{zero-lt-suc, arith, leb→le}
use Rattle.std.proofs.Math.Bool.{true, false}
use Prim.Native.Nat.{ℕ, zero, suc, ◌+◌, ◌*◌, ◌≤◌, ◌<◌, zero-le}
use borrow.Author.Tests.{ltb-true, ltb-false, leb-true, leb-false, le-leb, lt-leb}
use Rattle.std.proofs.Math.Dec.{ltb, le→leb}
use Rattle.std.proofs.Math.IntN.{pos}
use Rattle.integer.specs.Linear.{linear, lia, ◌&◌}
use Rattle.integer.specs.Order.{◌≤×≤◌, contra≤, weaken}
use Rattle.integer.specs.Bound.{positive-size, size_is}
use Rattle.plane.specs.Point.{Point}
use Rattle.plane.specs.Shape.{IsShape}
use Rattle.plane.specs.Measure.{root_below}
use Rattle.plane.proofs.theory.lists.Sought.{first-true, first-at-most}
use Rattle.measure.specs.theory.Rounded.{rounded-low, rounded-high}
use Rattle.clearance.specs.theory.Means.{size-nonneg}
use Rattle.clearance.specs.theory.Rounding.{Bounded}
use Rattle.excess.specs.Excess.{excess, root_above, up}
use Rattle.excess.proofs.theory.Outermost.{excess-whole, excess-nonneg}

squares-le : (q : ℕ) {a b : ℕ} → a ≤ b → a * a * q ≤ b * b * q
squares-le q h = mul-le-mul_right q (mul-le-mul h h)

module _ (n q : ℕ) (some : 0 < q) where
  -- n itself is enough
  own_square : (n : ℕ) → n ≤ n * n * q
  own_square zero = zero-le
  own_square (suc n) = omega (arith, le-mul_of_pos_right (suc n) (zero-lt-suc n), le-mul_of_pos_right (suc n * suc n) some)

  pub root_above-enough : n ≤ root_above n q * root_above n q * q
  unfolding root_above
  root_above-enough = go (ltb (root_above n q) n) refl
    where
      go : (t : Bool) → ltb (root_above n q) n ≡ t → n ≤ root_above n q * root_above n q * q
      go true h = leb-true n _ (first-true _ n (ltb-true (root_above n q) n h))
      go false h = omega (arith, ltb-false (root_above n q) n h, own_square (root_above n q))

  pub root_above-least : (e : ℕ) → n ≤ e * e * q → root_above n q ≤ e
  unfolding root_above
  root_above-least e h = first-at-most _ n e (le-leb n (e * e * q) h)

  -- ---- from the root rounded down, which is one less unless it is exact

  abbrev w : ℕ
  w = root_below n q

  square-more : (e : ℕ) → e * e * q < (e + 1) * (e + 1) * q
  square-more e =
      let same : e ≤ e = omega arith in
      let more : e ≤ e + 1 = omega arith in
      let less : e < e + 1 = omega arith in
      let next : 0 < e + 1 = omega arith in
      let squares : e * e < (e + 1) * (e + 1) = omega (arith, mul-le-mul same more, mul-lt-mul_of_pos_right less next) in
      mul-lt-mul_of_pos_right squares some

  pub root_above-from-below : root_above n q ≡ cond (leb n (w * w * q)) w (w + 1)
  root_above-from-below = go (leb n (w * w * q)) refl
    where
      e : ℕ
      e = root_above n q

      -- an e below w would not be enough
      below : (t : Bool) → ltb e w ≡ t → w ≤ e
      below false h = ltb-false e w h
      below true h =
          let next : e + 1 ≤ w = omega (arith, ltb-true e w h) in
          absurd (omega (arith, squares-le q next, square-more e, rounded-low n q some, root_above-enough))

      go : (t : Bool) → leb n (w * w * q) ≡ t → e ≡ cond t w (w + 1)
      go true h = omega (arith, root_above-least w (leb-true n (w * w * q) h), below (ltb e w) refl)
      go false h = omega (arith, root_above-least (w + 1) (omega (arith, rounded-high n q some)), more (leb e w) refl)
        where
          more : (t : Bool) → leb e w ≡ t → w < e
          more false k = leb-false e w k
          more true k = absurd (omega (arith, squares-le q (leb-true e w k), leb-false n (w * w * q) h, root_above-enough))

-- as the code compares: with the fraction t·t/q
module _ (t q : ℕ) (some : 0 < q) {w : ℕ} (root : w ≡ root_below (t * t) q) where
  above-is : (b : Bool) → leb (t * t) (w * w * q) ≡ b → root_above (t * t) q ≡ cond b w (w + 1)
  above-is b e = root_above-from-below (t * t) q some
      ∙ subst (λ v. cond (leb (t * t) (v * v * q)) v (v + 1) ≡ cond b w (w + 1)) root (ap (λ b. cond b w (w + 1)) e)

  pub above-next : ltb (w * w * q) (t * t * 1) ≡ true → w + 1 ≡ root_above (t * t) q
  above-next h = sym (above-is false (lt-leb (t * t) (w * w * q) (omega (arith, ltb-true (w * w * q) (t * t * 1) h))))

  pub above-exact : ltb (w * w * q) (t * t * 1) ≡ false → w ≡ root_above (t * t) q
  above-exact h = sym (above-is true (le-leb (t * t) (w * w * q) (omega (arith, ltb-false (w * w * q) (t * t * 1) h))))

  -- so one more is still at most t
  pub above-le : ltb (w * w * q) (t * t * 1) ≡ true → w < t
  above-le h = go (ltb w t) refl
    where
      go : (b : Bool) → ltb w t ≡ b → w < t
      go true e = ltb-true w t e
      go false e = absurd (omega (
        arith,
        ltb-true (w * w * q) (t * t * 1) h,
        mul-le-mul (ltb-false w t e) (ltb-false w t e),
        le-mul_of_pos_right (w * w) some,
      ))

pub root_above-square-over : (d : ℕ) → 0 < d → root_above (d * d) d ≡ root_above d 1
root_above-square-over d some =
    let one : 0 < 1 = omega arith in
    let e = root_above d 1 in
    let f = root_above (d * d) d in
    let enough : d ≤ e * e = rw mul-one at (root_above-enough d 1 one) in
    omega (arith, root_above-least (d * d) d some e (mul-le-mul_right d enough), root_above-least d 1 one f (go (ltb (f * f) d) refl))
  where
    f₀ : ℕ
    f₀ = root_above (d * d) d

    go : (t : Bool) → ltb (f₀ * f₀) d ≡ t → d ≤ f₀ * f₀ * 1
    go true h = absurd (omega (arith, mul-lt-mul_of_pos_right (ltb-true (f₀ * f₀) d h) some, root_above-enough (d * d) d some))
    go false h = omega (arith, ltb-false (f₀ * f₀) d h)

-- ---- rounded down

-- k·k·q is at most n, of which x is the root rounded down
rounded-above : (k x n q : ℤ) → pos 0 ≤ℤ x → pos 0 <ℤ q → (k *ℤ k *ℤ q) ≤ℤ n → n <ℤ ((x +ℤ pos 1) *ℤ (x +ℤ pos 1) *ℤ q) → k ≤ℤ x
rounded-above k x n q low whole most less = contra≤ (λ h.
    let more : (x +ℤ pos 1) ≤ℤ k = lia (x ∷ k ∷ []) h (search linear depth 40) (omega arith) in
    let square : ((x +ℤ pos 1) *ℤ (x +ℤ pos 1)) ≤ℤ (k *ℤ k) = lia (x ∷ k ∷ []) (more ≤×≤ more & low ≤×≤ more & more)
    (search linear depth 40) (omega arith) in
    lia (k ∷ x ∷ n ∷ q ∷ []) (most & less & square ≤×≤ weaken whole) (search linear depth 40) (omega arith))

-- the same, where x is so bounded
pub bounded-above : {k n q : ℤ} {x : ℕ} → pos 0 <ℤ q → (k *ℤ k *ℤ q) ≤ℤ n → Bounded n q x → k ≤ℤ pos x
bounded-above {k} {n} {q} {x} whole most b = rounded-above k (pos x) n q (size-nonneg x) whole most b.high

-- ---- the excess

module _ (N O : List Point) (n : 0 < length N) (s : IsShape O) where
  abbrev t : ℤ
  t = (excess N O).numerator

  abbrev q : ℤ
  q = (excess N O).denominator

  t-size : pos (nat_abs t) ≡ t
  t-size = size_is (excess-nonneg N O n s)

  q-size : pos (nat_abs q) ≡ q
  q-size = size_is (weaken (excess-whole N O n s))

  q-some : 0 < nat_abs q
  q-some = positive-size (excess-whole N O n s)

  pub up-enough : t ≤ℤ (pos (up N O) *ℤ pos (up N O) *ℤ q)
  unfolding up
  up-enough = subst (λ z. z ≤ℤ (pos e *ℤ pos e *ℤ q)) t-size (subst (λ z. pos (nat_abs t) ≤ℤ (pos e *ℤ pos e *ℤ z)) q-size
      (record { le = le→leb _ _ (root_above-enough (nat_abs t) (nat_abs q) q-some) }))
    where
      e : ℕ
      e = root_above (nat_abs t) (nat_abs q)

  pub up_least : (e : ℕ) → t ≤ℤ (pos e *ℤ pos e *ℤ q) → up N O ≤ e
  unfolding up
  up_least e h = root_above-least (nat_abs t) (nat_abs q) q-some e
      (leb→le _ _ (subst (λ z. z ≤ℤ (pos e *ℤ pos e *ℤ pos (nat_abs q))) (sym t-size)
      (subst (λ z. t ≤ℤ (pos e *ℤ pos e *ℤ z)) (sym q-size) h)).le)
