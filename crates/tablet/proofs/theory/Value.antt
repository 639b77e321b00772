-- The exact value of a reading, top / bottom, as a whole number.
--     whole-value       a reading that comes to n has the value n, in range
--     value-whole       a reading that is finite, has the value n and is in range comes to n
--     number-value, value_row, value-number     row 18 passes a reading exactly if its value is a whole number, which is `whole_number`
--     held-value        the double that is sent back for n has the value n
--     scaled_value      a double scaled by 0.125 has, as millimetres, the value that it had as eighths
use Rattle.std.specs.Prelude.{Ok}
use Rattle.std.specs.Prelude.{◌≡◌, ℕ, zero, suc, ◌+◌, ◌*◌, ◌/◌, ◌%◌, ◌^◌, ◌<◌, ◌≤◌, Bool, true, false, not, T, [], ◌∷◌, ℤ, pos, negsuc}
use Rattle.std.specs.Prelude.{◌*ℤ◌, neg_ℤ, ◌==◌, ◌≢◌, unsigned_abs, refl, Float}
use Rattle.std.proofs.Common.{sym, ap₂, ◌∙◌, subst, mul-one, zero-mul, mul-pos, mul-div_cancel, div-add-mod', add-zero, le_trans, arith}
use Rattle.std.proofs.Common.{eqb-true, eq-eqb, lit<, lit≤}
use Rattle.std.proofs.Math.Path.{ap}
use Rattle.std.proofs.Math.Nat.{mul-mod_left}
use Rattle.std.proofs.lemmas.Bool.{not-false}
use Rattle.std.specs.Float.{nan, inf, fin, binary64}
use Rattle.std.specs.Float.Ieee.{up, down, mul, fits, of_int}
use Rattle.std.specs.Float.Ieee.Exact.{HasValue}
use Rattle.std.specs.Float.Ieee.Back.{round_whole}
use Rattle.integer.specs.Bound.{Within}
use Rattle.integer.specs.Ring.{ring, reify}
use Rattle.plane.specs.Limits.{max_coordinate, coordinate-small}
use Rattle.plane.specs.Refusal.{outside}
use Rattle.plane.proofs.theory.refusals.Accept.{near→within, within→near}
use Rattle.tablet.specs.Double.{finite, negative, over, under, signed, holding}
use Rattle.tablet.specs.Reading.{double, top, bottom, not_finite, not_whole, far, whole_number, read_as}
use Rattle.tablet.proofs.theory.Exact.{eighth-exact}
use Rattle.tablet.proofs.theory.Reads.{reads-near, under-pos, signed-size}
use Rattle.tablet.proofs.theory.Rows.{whole-passed, whole_is}
use Rattle.tablet.specs.declared.reading.Reading.{Reading}
use Rattle.tablet.specs.declared.reading.Reading.TheVariants.{Millimetres, Eighths}

-- ---- signs

signed-times : (s : Bool) (q b : ℕ) → signed s (q * b) ≡ signed s q *ℤ pos b
signed-times false q b = refl
signed-times true zero b = ap (λ (z : ℕ). neg_ℤ (pos z)) (zero-mul b) ∙ ap pos (sym (zero-mul b))
signed-times true (suc q) b = refl

times-size : (n : ℤ) (b : ℕ) → unsigned_abs (n *ℤ pos b) ≡ unsigned_abs n * b
times-size (pos k) b = refl
times-size (negsuc k) b = signed-size true (suc k * b)

not-opposite : (a b : ℕ) → 0 < a → neg_ℤ (pos a) ≢ pos b
not-opposite zero b p h = omega arith
not-opposite (suc a) b p h = let z : ◌≡◌ {A = ℕ} 0 1 = cc in omega arith

-- a number by its size and the sign of a positive multiple of it
sign-is : (s : Bool) (o b : ℕ) (n : ℤ) → 0 < b → signed s o ≡ n *ℤ pos b → signed s (unsigned_abs n) ≡ n
sign-is false o b (pos k) B h = refl
sign-is true o b (pos zero) B h = refl
sign-is true o b (pos (suc k)) B h =
    let e : o ≡ suc k * b = sym (signed-size true o) ∙ ap unsigned_abs h in
    let p : 0 < suc k * b = mul-pos (let z : 0 < suc k = omega arith in z) B in
    absurd (not-opposite o (suc k * b) (subst (λ (z : ℕ). 0 < z) (sym e) p) h)
sign-is true o b (negsuc k) B h = refl
sign-is false o b (negsuc k) B h =
    absurd (not-opposite (suc k * b) o (mul-pos (let z : 0 < suc k = omega arith in z) B) (sym h))

-- ---- a reading's value

pub bottom-pos : (r : Reading) → 0 < bottom r
bottom-pos (Millimetres v) = mul-pos (under-pos v) (lit< tt)
bottom-pos (Eighths v) = mul-pos (under-pos v) (lit< tt)

divided : (a b : ℕ) → (a % b == 0) ≡ true → a ≡ a / b * b
divided a b h = sym (div-add-mod' a b) ∙ ap (λ (z : ℕ). a / b * b + z) (eqb-true (a % b) 0 h) ∙ add-zero (a / b * b)

pub number-value : (r : Reading) → not_whole r ≡ false → top r ≡ whole_number r *ℤ pos (bottom r)
unfolding not_whole whole_number
number-value r h =
    ap (signed (negative (double r))) (divided (over (double r)) (bottom r) (not-false _ h))
    ∙ signed-times (negative (double r)) (over (double r) / bottom r) (bottom r)

pub whole-value : (r : Reading) (n : ℤ) → read_as r ≡ Ok n
    → (finite (double r) ≡ true) × (top r ≡ n *ℤ pos (bottom r)) × Within max_coordinate n
unfolding not_finite far
whole-value r n h =
    let rows = whole-passed 1 r n h in
    let e : whole_number r ≡ n = sym (whole_is 1 r n h) in (
      not-false _ rows.0,
      number-value r rows.1.0 ∙ ap (λ z. z *ℤ pos (bottom r)) e,
      subst (Within max_coordinate) e (near→within _ rows.1.1.0),
    )

-- a whole number that is the value is what the value is cut to
module _ (r : Reading) (n : ℤ) (h : top r ≡ n *ℤ pos (bottom r)) where
  value-size : over (double r) ≡ unsigned_abs n * bottom r
  value-size = sym (signed-size (negative (double r)) (over (double r))) ∙ ap unsigned_abs h ∙ times-size n (bottom r)

  pub value_row : not_whole r ≡ false
  unfolding not_whole
  value_row =
      ap not (eq-eqb (over (double r) % bottom r) 0 (ap (λ (z : ℕ). z % bottom r) value-size ∙ mul-mod_left (unsigned_abs n) (bottom r)))

  pub value-number : whole_number r ≡ n
  unfolding whole_number
  value-number =
      let s = negative (double r) in
      ap (λ (z : ℕ). signed s (z / bottom r)) value-size ∙ ap (signed s) (mul-div_cancel (unsigned_abs n) (bottom-pos r))
      ∙ sign-is s (over (double r)) (bottom r) n (bottom-pos r) h

pub value-whole : (r : Reading) (n : ℤ) → finite (double r) ≡ true
    → top r ≡ n *ℤ pos (bottom r) → Within max_coordinate n → read_as r ≡ Ok n
unfolding not_finite far
value-whole r n f h w =
    let is = value-number r n h in
    sym (reads-near r (ap not f) (value_row r n h) (ap outside is ∙ within→near n w)) ∙ ap Ok is

-- ---- doubles

value-top : (x : Float) (s : Bool) (a c : ℕ) → HasValue x s a c
    → (finite x ≡ true) × (top (Millimetres x) *ℤ pos c ≡ signed s a *ℤ pos (bottom (Millimetres x)))
unfolding finite negative over under
value-top nan s a c v = absurd v
value-top (inf t) s a c v = absurd v
value-top (fin t m e) s a c v = (
  refl,
  sym (signed-times t (m * up e) c) ∙ ap₂ signed v.0 (v.1 ∙ ap (λ (z : ℕ). a * z) (sym (mul-one (down e))))
      ∙ signed-times s a (down e * 1),
)

times-one : (z : ℤ) → z *ℤ pos 1 ≡ z
times-one (pos n) = ap pos (mul-one n)
times-one (negsuc n) = ap (λ (z : ℕ). neg_ℤ (pos z)) (mul-one (suc n))

held : (n : ℤ) → unsigned_abs n ≤ 2 ^ 53 → (s : Bool) × (signed s (unsigned_abs n) ≡ n) × HasValue (holding n) s (unsigned_abs n) 1
unfolding holding of_int
held (pos k) h = (false, refl, round_whole binary64 false k h)
held (negsuc k) h = (true, refl, round_whole binary64 true (suc k) h)

pub held-value : (n : ℤ) → Within max_coordinate n
    → (finite (holding n) ≡ true) × (top (Millimetres (holding n)) ≡ n *ℤ pos (bottom (Millimetres (holding n))))
held-value n w =
    let h = held n (le_trans w.size (le_trans coordinate-small (lit≤ tt))) in
    let t = value-top (holding n) h.0 (unsigned_abs n) 1 h.2 in
    (t.0, sym (times-one (top (Millimetres (holding n)))) ∙ t.1 ∙ ap (λ z. z *ℤ pos (bottom (Millimetres (holding n)))) h.1)

pub scaled_value : (v : Float) → T (fits binary64 v) → finite v ≡ true → under v ≤ over v
    → (finite (mul binary64 v (fin false 1 (negsuc 2))) ≡ true)
    × (top (Millimetres (mul binary64 v (fin false 1 (negsuc 2)))) *ℤ pos (bottom (Eighths v))
    ≡ top (Eighths v) *ℤ pos (bottom (Millimetres (mul binary64 v (fin false 1 (negsuc 2))))))
unfolding finite negative over under
scaled_value nan t f h = absurd (subst T (sym f) tt)
scaled_value (inf s) t f h = absurd (subst T (sym f) tt)
scaled_value (fin s m e) t f h =
    value-top (mul binary64 (fin s m e) (fin false 1 (negsuc 2))) s (m * up e) (down e * 8) (eighth-exact s m e t (λ p. h))

-- ---- two readings of one number

pub values-equal : (r t : Reading) (n : ℤ) → top r ≡ n *ℤ pos (bottom r)
    → top t ≡ n *ℤ pos (bottom t) → top r *ℤ pos (bottom t) ≡ top t *ℤ pos (bottom r)
values-equal r t n h k =
    ap (λ z. z *ℤ pos (bottom t)) h ∙ swapped n (pos (bottom r)) (pos (bottom t)) ∙ ap (λ z. z *ℤ pos (bottom r)) (sym k)
  where
    swapped : (x y z : ℤ) → x *ℤ y *ℤ z ≡ x *ℤ z *ℤ y
    swapped x y z = ring (x ∷ y ∷ z ∷ []) (search reify depth 40) tt
