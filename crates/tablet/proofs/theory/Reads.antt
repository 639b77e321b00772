-- What a reading comes to, test by test; and a reading in eighths as one in millimetres.
--     read-not-finite, read-not-whole, read-far, read-near    one lemma for each answer, of a reading in millimetres
--     short-far             what passes 31 bits is out of range
--     small-not-whole       0 < |v| < 1 in eighths
--     scaled-same           scaled by 0.125 it is the same reading in millimetres, unless it is small
use Rattle.std.specs.Prelude.{Ok, Err}
use Rattle.std.specs.Prelude.{◌≡◌, ℕ, zero, suc, ◌*◌, ◌/◌, ◌%◌, ◌^◌, ◌<◌, ◌≤◌, Bool, true, false, cond, not, ◌&&◌, T, ltb, ℤ, negsuc, ◌==◌}
use Rattle.std.specs.Prelude.{nat_eq, nat_lt, unsigned_abs, refl, Float}
use Rattle.std.proofs.Common.{sym, ap₂, ◌∙◌, mul-one, mul-pos, mod-eq_of_lt, lt_of_lt_of_le, lt_of_le_of_lt, le-div_iff_mul-le, arith}
use Rattle.std.proofs.Common.{ltb-true, ltb-false, lt-ltb, ne_eqb, lit<}
use Rattle.std.proofs.Math.Path.{ap}
use Rattle.std.specs.Bool.{beq}
use Rattle.std.proofs.Math.Bool.{and-eq-true_iff}
use Rattle.std.specs.Float.{nan, inf, fin, binary64}
use Rattle.std.specs.Float.Ieee.{up, down, mul, fits}
use Rattle.std.specs.Float.Ieee.Exact.{HasValue}
use Rattle.std.specs.Float.Ieee.Fits.{down_pos}
use Rattle.plane.specs.Limits.{max_coordinate, coordinate-small}
use Rattle.plane.specs.Refusal.{outside}
use Rattle.tablet.specs.Double.{finite, negative, over, under, signed}
use Rattle.tablet.specs.Reading.{not_finite, not_whole, whole_number, far, read_as}
use Rattle.tablet.specs.Test.{whole, small, short, truncated}
use Rattle.tablet.proofs.theory.Fraction.{whole_same, part_same}
use Rattle.tablet.proofs.theory.Exact.{eighth-exact}
use Rattle.tablet.specs.declared.reading.Reading.{Reading}
use Rattle.tablet.specs.declared.reading.Reading.TheVariants.{Millimetres, Eighths}
use Rattle.tablet.specs.declared.reading.Fault.TheVariants.{NotFinite, NotWhole, Far}

-- ---- the three rows

module _ (r : Reading) where
  pub reads-not-finite : not_finite r ≡ true → Err NotFinite ≡ read_as r
  unfolding read_as
  reads-not-finite a = ap (λ b. cond b (Err NotFinite) (cond (not_whole r) (Err NotWhole) (cond (far r) (Err Far) (Ok
      (whole_number r))))) (sym a)

  past-finite : not_finite r ≡ false → cond (not_whole r) (Err NotWhole) (cond (far r) (Err Far) (Ok (whole_number r))) ≡ read_as r
  unfolding read_as
  past-finite a = ap (λ b. cond b (Err NotFinite) (cond (not_whole r) (Err NotWhole) (cond (far r) (Err Far) (Ok (whole_number r)))))
      (sym a)

  pub reads-not-whole : not_finite r ≡ false → not_whole r ≡ true → Err NotWhole ≡ read_as r
  reads-not-whole a w = ap (λ b. cond b (Err NotWhole) (cond (far r) (Err Far) (Ok (whole_number r)))) (sym w) ∙ past-finite a

  past-whole : not_finite r ≡ false → not_whole r ≡ false → cond (far r) (Err Far) (Ok (whole_number r)) ≡ read_as r
  past-whole a w = ap (λ b. cond b (Err NotWhole) (cond (far r) (Err Far) (Ok (whole_number r)))) (sym w) ∙ past-finite a

  pub reads-far : not_finite r ≡ false → not_whole r ≡ false → far r ≡ true → Err Far ≡ read_as r
  reads-far a w f = ap (λ b. cond b (Err Far) (Ok (whole_number r))) (sym f) ∙ past-whole a w

  pub reads-near : not_finite r ≡ false → not_whole r ≡ false → far r ≡ false → Ok (whole_number r) ≡ read_as r
  reads-near a w f = ap (λ b. cond b (Err Far) (Ok (whole_number r))) (sym f) ∙ past-whole a w

-- the rows decide
pub reads-alike : (r t : Reading) → not_finite r ≡ not_finite t → not_whole r ≡ not_whole t
    → whole_number r ≡ whole_number t → read_as r ≡ read_as t
unfolding read_as far
reads-alike r t a w n =
    ap (λ b. cond b (Err NotFinite) (cond (not_whole r) (Err NotWhole) (cond (outside (whole_number r)) (Err Far) (Ok (whole_number r))))) a
    ∙ ap (λ b. cond (not_finite t) (Err NotFinite) (cond b (Err NotWhole) (cond (outside (whole_number r)) (Err Far) (Ok
    (whole_number r))))) w
    ∙ ap (λ z. cond (not_finite t) (Err NotFinite) (cond (not_whole t) (Err NotWhole) (cond (outside z) (Err Far) (Ok z)))) n

-- ---- millimetres

not-whole-is : (v : Float) → not_whole (Millimetres v) ≡ not (whole v)
unfolding not_whole whole
not-whole-is v = ap (λ (z : ℕ). not (over v % z == 0)) (mul-one (under v))

number_is : (v : Float) → whole_number (Millimetres v) ≡ truncated v
unfolding whole_number truncated
number_is v = ap (λ (z : ℕ). signed (negative v) (over v / z)) (mul-one (under v))

far-is : (v : Float) → far (Millimetres v) ≡ outside (truncated v)
unfolding far
far-is v = ap outside (number_is v)

module _ (v : Float) where
  pub read-not-finite : finite v ≡ false → Err NotFinite ≡ read_as (Millimetres v)
  unfolding not_finite
  read-not-finite f = reads-not-finite (Millimetres v) (ap not f)

  pub read-not-whole : finite v ≡ true → whole v ≡ false → Err NotWhole ≡ read_as (Millimetres v)
  unfolding not_finite
  read-not-whole f w = reads-not-whole (Millimetres v) (ap not f) (not-whole-is v ∙ ap not w)

  pub read-far : finite v ≡ true → whole v ≡ true → outside (truncated v) ≡ true → Err Far ≡ read_as (Millimetres v)
  unfolding not_finite
  read-far f w h = reads-far (Millimetres v) (ap not f) (not-whole-is v ∙ ap not w) (far-is v ∙ h)

  pub read-near : finite v ≡ true → whole v ≡ true → outside (truncated v) ≡ false → Ok (truncated v) ≡ read_as (Millimetres v)
  unfolding not_finite
  read-near f w h = ap Ok (sym (number_is v)) ∙ reads-near (Millimetres v) (ap not f) (not-whole-is v ∙ ap not w) (far-is v ∙ h)

pub signed-size : (s : Bool) (n : ℕ) → unsigned_abs (signed s n) ≡ n
signed-size true zero = refl
signed-size true (suc n) = refl
signed-size false n = refl

pub under-pos : (v : Float) → 0 < under v
unfolding under
under-pos nan = lit< tt
under-pos (inf s) = lit< tt
under-pos (fin s m e) = down_pos e

pub short-far : (v : Float) → short v ≡ false → outside (truncated v) ≡ true
unfolding short truncated outside
short-far v h =
    let high : 2 ^ 31 ≤ over v / under v = (le-div_iff_mul-le (under-pos v)).1 (ltb-false (over v) (2 ^ 31 * under v) h) in
    let low : max_coordinate < 2 ^ 31 = lt_of_le_of_lt coordinate-small (lit< tt) in
    ap (ltb max_coordinate) (signed-size (negative v) (over v / under v)) ∙ lt-ltb max_coordinate (over v / under v)
    (lt_of_lt_of_le low high)

-- ---- eighths

has_value : (v : Float) → 0 < over v → finite v ≡ true
unfolding over finite
has_value nan h = absurd (let k : ⊥ = omega arith in k)
has_value (inf s) h = absurd (let k : ⊥ = omega arith in k)
has_value (fin s m e) h = refl

pub small-not-whole : (v : Float) → small v ≡ true → Err NotWhole ≡ read_as (Eighths v)
unfolding small not_finite not_whole
small-not-whole v h =
    let p = (and-eq-true_iff (nat_lt 0 (over v)) (nat_lt (over v) (under v))).0 h in
    let some : 0 < over v = ltb-true 0 (over v) p.0 in
    let less : over v < under v * 8 = let k : over v < under v = ltb-true (over v) (under v) p.1 in omega arith in
    reads-not-whole (Eighths v) (ap not (has_value v some))
    (ap not (ap (λ (z : ℕ). nat_eq z 0) (mod-eq_of_lt less) ∙ ne_eqb (over v) 0 (λ e. let k : ⊥ = omega arith in k)))

-- what has the value of v over 8 is the same reading
value_same : (x : Float) (s : Bool) (m : ℕ) (e : ℤ) → HasValue x s (m * up e) (down e * 8)
    → read_as (Millimetres x) ≡ read_as (Eighths (fin s m e))
unfolding not_finite finite not_whole whole_number negative over under
value_same nan s m e v = absurd v
value_same (inf t) s m e v = absurd v
value_same (fin t n d) s m e v =
    let D : 0 < down d * 1 = mul-pos (down_pos d) (lit< tt) in
    let E : 0 < down e * 8 = mul-pos (down_pos e) (lit< tt) in
    let cross : n * up d * (down e * 8) ≡ m * up e * (down d * 1) = v.1 ∙ ap (λ (z : ℕ). m * up e * z) (sym (mul-one (down d))) in
    reads-alike (Millimetres (fin t n d)) (Eighths (fin s m e)) refl
    (ap not (whole_same (n * up d) (down d * 1) (m * up e) (down e * 8) D E cross))
    (ap₂ signed v.0 (part_same (n * up d) (down d * 1) (m * up e) (down e * 8) D E cross))

large : (a b : ℕ) → (nat_lt 0 a && nat_lt a b) ≡ false → 0 < a → b ≤ a
large a b h p = ltb-false a b (ap (λ (x : Bool). x && nat_lt a b) (sym (lt-ltb 0 a p)) ∙ h)

pub scaled-same : (v : Float) → T (fits binary64 v) → small v ≡ false
    → read_as (Millimetres (mul binary64 v (fin false 1 (negsuc 2)))) ≡ read_as (Eighths v)
unfolding mul small over under not_finite finite
scaled-same nan t h = sym (read-not-finite nan refl) ∙ reads-not-finite (Eighths nan) refl
scaled-same (inf s) t h = sym (read-not-finite (inf (not (beq s false))) refl) ∙ reads-not-finite (Eighths (inf s)) refl
scaled-same (fin s m e) t h =
    value_same (mul binary64 (fin s m e) (fin false 1 (negsuc 2))) s m e (eighth-exact s m e t (large (m * up e) (down e) h))
