-- What the comparisons of the code say of a double.
--     finite-below, finite-not            against the infinities
--     within-below, within-not            against -n and n: less than n in size
--     small-tested, small-high, small_low, short-tested, short-low
--     zero-tested                         against 0
--     cuttable, whole-tested              below 2^53 the whole part against the double itself
--     large-high, large-low               from 2^53 upward every double is whole
--     castable, cast_is                   what the cast to 32 bits asks and gives
use Rattle.std.specs.Prelude.{◌≡◌, ℕ, zero, suc, ◌+◌, ◌-◌, ◌*◌, ◌/◌, ◌%◌, ◌^◌, ◌<◌, ◌≤◌, min, Bool, true, false, cond, not, ◌&&◌, ◌||◌, T}
use Rattle.std.specs.Prelude.{ltb, ◌⊎◌, ℤ, pos, negsuc, neg_ℤ, ◌==◌, nat_le, nat_lt, refl, Float}
use Rattle.std.proofs.Common.{sym, ap, ap₂, ◌∙◌, subst, inl, inr, mul-one, one-mul, mul-pos, zero-mul, div-lt_iff_lt-mul, le_trans}
use Rattle.std.proofs.Common.{le_of_lt, lt_of_lt_of_le, le_of_eq, not-le_of_lt, mul_right_comm, mul-le-mul_right, mul-le-mul_left}
use Rattle.std.proofs.Common.{div-add-mod', add-zero, arith, ltb-true, ltb-false, lt-ltb, eqb-true, eq-eqb, ne_eqb, lit<, lit≤, lt→ltb}
use Rattle.std.proofs.Common.{le→leb, pow_pos}
use Rattle.std.specs.Bool.{beq}
use Rattle.std.proofs.Math.Bool.{and-true, and-false, or-true}
use Rattle.std.proofs.Math.Nat.{zero-div, mul-mod_left, eq_of_mul-eq-mul_right, mod-one}
use Rattle.std.proofs.lemmas.Bool.{eqb-false}
use Rattle.std.specs.Float.{nan, inf, fin, binary64}
use Rattle.std.specs.Float.Ieee.{up, down, below, lt, le, eq, ne, fits, of_int, in_signed, to_signed, whole as ieee_whole}
use Rattle.std.specs.Float.Ieee.Fits.{and_i, down_pos}
use Rattle.std.specs.Float.Ieee.Exact.{HasValue}
use Rattle.std.specs.Float.Ieee.Back.{round_whole}
use Rattle.std.specs.Float.Ieee.Casts.{to_signed_cut}
use Rattle.tablet.specs.Double.{finite, negative, over, under, signed}
use Rattle.tablet.specs.Test.{whole, small, short, truncated}
use Rattle.tablet.proofs.theory.Exact.{zero-exact, fits-digits}

clash : false ≡ true → ⊥
clash h = subst T (sym h) tt

-- ---- the infinities

pub finite-below : (v : Float) → lt v (inf false) ≡ true → lt (inf true) v ≡ finite v
unfolding lt finite
finite-below nan h = refl
finite-below (inf true) h = refl
finite-below (inf false) h = sym h
finite-below (fin s m e) h = refl

pub finite-not : (v : Float) → lt v (inf false) ≡ false → false ≡ finite v
unfolding lt finite
finite-not nan h = refl
finite-not (inf true) h = refl
finite-not (inf false) h = refl
finite-not (fin s m e) h = sym h

-- ---- -n and n

within-below : (s : Bool) (a b : ℕ) → 0 < a → below true a s b ≡ true → below s b false a ≡ nat_lt b a
within-below false a b p h = refl
within-below true a b p h = lt-ltb 0 (b + a) (let q : 0 < b + a = omega arith in q) ∙ sym h

within-not : (s : Bool) (a b : ℕ) → 0 < a → below true a s b ≡ false → nat_lt b a ≡ false
within-not false a b p h =
    absurd (let q : 0 < a + b = omega arith in let z : a + b ≤ 0 = ltb-false 0 (a + b) h in let k : ⊥ = omega arith in k)
within-not true a b p h = h

-- of a finite double against n = 2^k
against : (s : Bool) (m : ℕ) (e : ℤ) (n : ℕ) → 0 < n → below true (n * down e) s (m * up e * 1) ≡ true
    → below s (m * up e * 1) false (n * down e) ≡ nat_lt (m * up e) (n * down e)
against s m e n p h =
    within-below s (n * down e) (m * up e * 1) (mul-pos p (down_pos e)) h ∙ ap (λ (z : ℕ). ltb z (n * down e)) (mul-one (m * up e))

against-not : (s : Bool) (m : ℕ) (e : ℤ) (n : ℕ) → 0 < n → below true (n * down e) s (m * up e * 1) ≡ false
    → false ≡ nat_lt (m * up e) (n * down e)
against-not s m e n p h =
    sym (ap (λ (z : ℕ). ltb z (n * down e)) (sym (mul-one (m * up e)))
    ∙ within-not s (n * down e) (m * up e * 1) (mul-pos p (down_pos e)) h)

pub short-tested : (v : Float) → finite v ≡ true → lt (fin true 1 (pos 31)) v ≡ true → lt v (fin false 1 (pos 31)) ≡ short v
unfolding lt finite short over under
short-tested nan f h = absurd (clash f)
short-tested (inf t) f h = absurd (clash f)
short-tested (fin s m e) f h = against s m e (2 ^ 31) (lit< tt) h

pub short-low : (v : Float) → finite v ≡ true → lt (fin true 1 (pos 31)) v ≡ false → false ≡ short v
unfolding lt finite short over under
short-low nan f h = absurd (clash f)
short-low (inf t) f h = absurd (clash f)
short-low (fin s m e) f h = against-not s m e (2 ^ 31) (lit< tt) h

-- ---- 0

pub zero-tested : (v : Float) → finite v ≡ true → eq v (fin false 0 (pos 0)) ≡ (over v == 0)
unfolding finite over
zero-tested nan f = absurd (clash f)
zero-tested (inf t) f = absurd (clash f)
zero-tested (fin s m e) f = zero-exact (fin s m e) s (m * up e) (down e) (down_pos e) (refl, refl)

not-zero : (a : ℕ) → not (a == 0) ≡ nat_lt 0 a
not-zero zero = refl
not-zero (suc a) =
    ap not (ne_eqb (suc a) 0 (λ e. let k : ⊥ = omega arith in k))
    ∙ sym (lt-ltb 0 (suc a) (let k : 0 < suc a = omega arith in k))

pub small-tested : (v : Float) → lt (fin true 1 (pos 0)) v ≡ true
    → lt v (fin false 1 (pos 0)) ≡ true → ne v (fin false 0 (pos 0)) ≡ small v
unfolding lt ne finite small over under
small-tested (inf true) h k = absurd (clash h)
small-tested (inf false) h k = absurd (clash k)
small-tested nan h k = absurd (clash h)
small-tested (fin s m e) h k =
    let low : ltb (m * up e) (1 * down e) ≡ true = sym (against s m e 1 (lit< tt) h) ∙ k in
    ap not (zero-tested (fin s m e) refl) ∙ not-zero (m * up e) ∙ sym (and-true (nat_lt 0 (m * up e)))
    ∙ ap (λ (b : Bool). nat_lt 0 (m * up e) && b) (sym low ∙ ap (λ (z : ℕ). ltb (m * up e) z) (one-mul (down e)))

pub small-high : (v : Float) → lt (fin true 1 (pos 0)) v ≡ true → lt v (fin false 1 (pos 0)) ≡ false → false ≡ small v
unfolding lt small over under
small-high nan h k = refl
small-high (inf s) h k = refl
small-high (fin s m e) h k =
    sym (and-false (nat_lt 0 (m * up e)))
    ∙ ap (λ (b : Bool). nat_lt 0 (m * up e) && b)
    (sym k ∙ against s m e 1 (lit< tt) h ∙ ap (λ (z : ℕ). ltb (m * up e) z) (one-mul (down e)))

pub small_low : (v : Float) → lt (fin true 1 (pos 0)) v ≡ false → false ≡ small v
unfolding lt small over under
small_low nan h = refl
small_low (inf s) h = refl
small_low (fin s m e) h =
    sym (and-false (nat_lt 0 (m * up e)))
    ∙ ap (λ (b : Bool). nat_lt 0 (m * up e) && b)
    (against-not s m e 1 (lit< tt) h ∙ ap (λ (z : ℕ). ltb (m * up e) z) (one-mul (down e)))

-- ---- whole

is : {b : Bool} → b ≡ true → T b
is {b} h = subst T (sym h) tt

-- a double and the double of its whole part q
part-equal : (x : Float) (t s : Bool) (m : ℕ) (e : ℤ) (q : ℕ) → q ≡ m * up e / down e → (t ≡ s) ⊎ (q ≡ 0) → HasValue x t q 1
    → eq x (fin s m e) ≡ (m * up e % down e == 0)
unfolding eq
part-equal nan t s m e q h o v = absurd v
part-equal (inf u) t s m e q h o v = absurd v
part-equal (fin u n d) t s m e q h o v = go (m * up e % down e == 0) refl
  where
    size : n * up d * down e ≡ q * down e * down d
    size = ap (λ (z : ℕ). z * down e) (sym (mul-one (n * up d)) ∙ v.1) ∙ mul_right_comm q (down d) (down e)

    sign : (u ≡ s) ⊎ (q ≡ 0) → (beq u s || n * up d * down e == 0) ≡ true
    sign (inl k) = ap (λ (z : Bool). beq z s || n * up d * down e == 0) k ∙ same_sign s
      where
        same_sign : (b : Bool) → (beq b b || n * up d * down e == 0) ≡ true
        same_sign true = refl
        same_sign false = refl
    sign (inr k) =
        ap (λ (b : Bool). beq u s || b) (eq-eqb (n * up d * down e) 0 (size ∙ ap (λ (z : ℕ). z * down e * down d) k
        ∙ ap (λ (z : ℕ). z * down d) (zero-mul (down e)) ∙ zero-mul (down d))) ∙ or-true (beq u s)

    own : (t ≡ s) ⊎ (q ≡ 0) → (u ≡ s) ⊎ (q ≡ 0)
    own (inl k) = inl (v.0 ∙ k)
    own (inr k) = inr k

    go : (b : Bool) → (m * up e % down e == 0) ≡ b
        → (n * up d * down e == m * up e * down d && (beq u s || n * up d * down e == 0)) ≡ b
    go true k =
        let whole-size : m * up e ≡ q * down e = sym (div-add-mod' (m * up e) (down e)) ∙ ap (λ (z : ℕ). m * up e / down e * down e + z)
        (eqb-true (m * up e % down e) 0 k) ∙ add-zero (m * up e / down e * down e) ∙ ap (λ (z : ℕ). z * down e) (sym h) in
        ap₂ (λ (a b : Bool). a && b) (eq-eqb (n * up d * down e) (m * up e * down d) (size ∙ ap (λ (z : ℕ). z * down d) (sym whole-size)))
        (sign (own o))
    go false k =
        ap (λ (b : Bool). b && (beq u s || n * up d * down e == 0))
        (ne_eqb (n * up d * down e) (m * up e * down d) (λ z.
        eqb-false (m * up e % down e) 0 k
        (ap (λ (y : ℕ). y % down e) (sym (eq_of_mul-eq-mul_right (down d) (down_pos d) (q * down e) (m * up e) (sym size ∙ z)))
        ∙ mul-mod_left q (down e))))

part-double : (s : Bool) (m : ℕ) (e : ℤ) (q : ℕ) → q ≡ m * up e / down e → q ≤ 2 ^ 53
    → eq (of_int binary64 (signed s q)) (fin s m e) ≡ (m * up e % down e == 0)
unfolding of_int
part-double false m e q h b = part-equal _ false false m e q h (inl refl) (round_whole binary64 false q b)
part-double true m e zero h b = part-equal _ false true m e 0 h (inr refl) (round_whole binary64 false 0 b)
part-double true m e (suc q) h b = part-equal _ true true m e (suc q) h (inl refl) (round_whole binary64 true (suc q) b)

capped : (q c : ℕ) → q < c → min q (c - 1) ≡ q
capped q c h = omega arith

capped_le : (q c : ℕ) → q < c → min q c ≡ q
capped_le q c h = omega arith

cut-is : (s : Bool) (m : ℕ) (e : ℤ) → m * up e / down e < 2 ^ 63 → to_signed 63 (fin s m e) ≡ signed s (m * up e / down e)
unfolding to_signed
cut-is true m e h = ap (λ (z : ℕ). neg_ℤ (pos z)) (capped_le (m * up e / down e) (2 ^ 63) h)
cut-is false m e h = ap pos (capped (m * up e / down e) (2 ^ 63) h)

-- of a finite double less than 2^53 in size, by the two tests
under-53 : (v : Float) → lt (fin true 1 (pos 53)) v ≡ true → lt v (fin false 1 (pos 53)) ≡ true → over v < 2 ^ 53 * under v
unfolding lt over under
under-53 nan h k = absurd (clash h)
under-53 (inf true) h k = absurd (clash h)
under-53 (inf false) h k = absurd (clash k)
under-53 (fin s m e) h k = ltb-true (m * up e) (2 ^ 53 * down e) (sym (against s m e (2 ^ 53) (lit< tt) h) ∙ k)

pub whole-tested : (v : Float) → finite v ≡ true → lt (fin true 1 (pos 53)) v ≡ true → lt v (fin false 1 (pos 53)) ≡ true
    → eq (of_int binary64 (to_signed 63 v)) v ≡ whole v
unfolding finite whole over under
whole-tested nan f h k = absurd (clash f)
whole-tested (inf s) f h k = absurd (clash f)
whole-tested (fin s m e) f h k =
    let q : m * up e / down e < 2 ^ 53 = (div-lt_iff_lt-mul (down_pos e)).1 (under-53 (fin s m e) h k) in
    ap (λ z. eq (of_int binary64 z) (fin s m e)) (cut-is s m e (lt_of_lt_of_le q (lit≤ tt)))
    ∙ part-double s m e (m * up e / down e) refl (le_of_lt q)

-- what the cut to 64 bits asks
between : (s : Bool) (a b : ℕ) → b < a → (below true a s b ≡ true) × (below s b false a ≡ true)
between true a b h = (lt-ltb b a h, lt-ltb 0 (b + a) (let k : 0 < b + a = omega arith in k))
between false a b h = (lt-ltb 0 (a + b) (let k : 0 < a + b = omega arith in k), lt-ltb b a h)

or_left : (a b : Bool) → a ≡ true → T (a || b)
or_left true b h = tt
or_left false b h = absurd (clash h)

pub cuttable : (v : Float) → lt (fin true 1 (pos 53)) v ≡ true → lt v (fin false 1 (pos 53)) ≡ true
    → T (le (fin true 1 (pos 63)) v) × T (lt v (fin false 1 (pos 63)))
unfolding lt le over under
cuttable nan h k = absurd (clash h)
cuttable (inf true) h k = absurd (clash h)
cuttable (inf false) h k = absurd (clash k)
cuttable (fin s m e) h k =
    let far : m * up e * 1 < 2 ^ 63 * down e = lt_of_lt_of_le
    (subst (λ (z : ℕ). z < 2 ^ 53 * down e) (sym (mul-one (m * up e))) (under-53 (fin s m e) h k))
    (mul-le-mul_right (down e) (lit≤ tt)) in
    let b = between s (2 ^ 63 * down e) (m * up e * 1) far in
    (or_left _ _ b.0, is b.1)

-- from 2^53 upward
large-whole : (s : Bool) (m : ℕ) (e : ℤ) → T (fits binary64 (fin s m e))
    → nat_lt (m * up e) (2 ^ 53 * down e) ≡ false → true ≡ whole (fin s m e)
unfolding whole over under
large-whole s zero e t h =
    absurd (let p : 0 < 2 ^ 53 * down e = mul-pos (lit< tt) (down_pos e) in
    let z : 0 * up e ≡ 0 = zero-mul (up e) in
    let k : 2 ^ 53 * down e ≤ 0 * up e = ltb-false (0 * up e) (2 ^ 53 * down e) h in
    let b : ⊥ = omega arith in b)
large-whole s (suc m) (pos k) t h = sym (eq-eqb (suc m * 2 ^ k % 1) 0 (mod-one (suc m * 2 ^ k)))
large-whole s (suc m) (negsuc k) t h =
    absurd (not-le_of_lt (fits-digits s m (negsuc k) t).few
    (le_trans (le_trans (le_of_eq (sym (mul-one (2 ^ 53)))) (mul-le-mul_left (2 ^ 53) (pow_pos (suc k))))
    (le_trans (ltb-false (suc m * 1) (2 ^ 53 * 2 ^ suc k) h) (le_of_eq (mul-one (suc m))))))

pub large-high : (v : Float) → T (fits binary64 v) → finite v ≡ true → lt (fin true 1 (pos 53)) v ≡ true
    → lt v (fin false 1 (pos 53)) ≡ false → true ≡ whole v
unfolding lt finite
large-high nan t f h k = absurd (clash f)
large-high (inf s) t f h k = absurd (clash f)
large-high (fin s m e) t f h k = large-whole s m e t (sym (against s m e (2 ^ 53) (lit< tt) h) ∙ k)

pub large-low : (v : Float) → T (fits binary64 v) → finite v ≡ true → lt (fin true 1 (pos 53)) v ≡ false → true ≡ whole v
unfolding lt finite
large-low nan t f h = absurd (clash f)
large-low (inf s) t f h = absurd (clash f)
large-low (fin s m e) t f h = large-whole s m e t (sym (against-not s m e (2 ^ 53) (lit< tt) h))

-- ---- the cast

-- the whole part is below 2^31 too
part-short : (s : Bool) (m : ℕ) (e : ℤ) → short (fin s m e) ≡ true → m * up e / down e < 2 ^ 31
unfolding short over under
part-short s m e h = (div-lt_iff_lt-mul (down_pos e)).1 (ltb-true (m * up e) (2 ^ 31 * down e) h)

digits-not-zero : (m : ℕ) (e : ℤ) → (m * up e == 0) ≡ false → (m == 0) ≡ false
digits-not-zero zero e h = absurd (eqb-false (0 * up e) 0 h (zero-mul (up e)))
digits-not-zero (suc m) e h = ne_eqb (suc m) 0 (λ e. let k : ⊥ = omega arith in k)

and-not : (a b s c : Bool) → T a → T b → c ≡ false → T (a && b && not (s && c))
and-not true true true false x y h = tt
and-not true true false c x y h = tt
and-not false b s c x y h = elim x [ ]
and-not true false s c x y h = elim y [ ]
and-not true true true true x y h = absurd (clash (sym h))

either : (s : Bool) (q : ℕ) → q < 2 ^ 31 → T (cond s (nat_le q (2 ^ 31)) (nat_lt q (2 ^ 31)))
either true q h = le→leb q (2 ^ 31) (le_of_lt h)
either false q h = lt→ltb q (2 ^ 31) h

pub castable : (v : Float) → finite v ≡ true → whole v ≡ true → short v ≡ true
    → eq v (fin false 0 (pos 0)) ≡ false → T (in_signed binary64 31 v)
unfolding finite whole over under in_signed ieee_whole
castable nan f w h z = absurd (clash f)
castable (inf t) f w h z = absurd (clash f)
castable (fin s m e) f w h z =
    let q = part-short s m e h in
    and_i (ieee_whole binary64 (fin s m e)) (cond s (nat_le (m * up e / down e) (2 ^ 31)) (nat_lt (m * up e / down e) (2 ^ 31)))
    (and-not (m * up e % down e == 0) (nat_le (m * up e / down e) (2 ^ 53)) s (m == 0) (is w)
    (le→leb (m * up e / down e) (2 ^ 53) (le_trans (le_of_lt q) (lit≤ tt)))
    (digits-not-zero m e (sym (zero-tested (fin s m e) refl) ∙ z)))
    (either s (m * up e / down e) q)

pub cast_is : (v : Float) → T (in_signed binary64 31 v) → to_signed 31 v ≡ truncated v
unfolding in_signed truncated negative over under
cast_is nan t = absurd t
cast_is (inf s) t = absurd t
cast_is (fin s m e) t = to_signed_cut binary64 31 s m e t

signed-zero : (s : Bool) → pos 0 ≡ signed s 0
signed-zero true = refl
signed-zero false = refl

pub zero_is : (v : Float) → finite v ≡ true → eq v (fin false 0 (pos 0)) ≡ true → pos 0 ≡ truncated v
unfolding truncated
zero_is v f h =
    signed-zero (negative v)
    ∙ ap (signed (negative v)) (sym (ap (λ (z : ℕ). z / under v) (eqb-true (over v) 0 (sym (zero-tested v f) ∙ h)) ∙ zero-div (under v)))
