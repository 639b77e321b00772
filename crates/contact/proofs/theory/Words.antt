-- The definitions of fractions at words.
--     entering-begun, -inside, -never      the three cases of an entry
--     later_first, later_second            the later of two, by comparing products
--     later-begun                          nothing is before the start of the way
--     exceed-words                         whether two parts are more than the way, by comparing products
use Rattle.std.specs.Prelude.{◌≡◌, true, false, cond, [], ◌∷◌, ℕ, ◌+◌, ◌-◌, ◌*◌, ◌≤◌, ltb, ℤ, pos, ◌+ℤ◌, ◌-ℤ◌, ◌*ℤ◌, ◌≤ℤ◌, ◌<ℤ◌}
use Rattle.std.proofs.Math.Path.{refl}
use Rattle.std.proofs.Common.{sym, ap, subst, arith, le-ltb}
use Rattle.std.specs.Int.Signed.{lt_z}
use Rattle.integer.specs.Linear.{linear, lia}
use Rattle.integer.specs.Order.{le-le_z, lt-le_z, lt_z-true, lt_z-false}
use Rattle.plane.specs.Distance.{over}
use Rattle.contact.specs.declared.share.Share.{Share}
use Rattle.motion.specs.Contact.{entering, later}
use Rattle.contact.specs.Share.{fraction, exceed}

module _ (a b : ℤ) where
  pub entering-begun : a ≤ℤ pos 0 → over (pos 0) (pos 1) ≡ entering a b
  unfolding entering
  entering-begun h = rw (le-le_z h) refl

  pub entering-inside : pos 0 <ℤ a → b ≤ℤ pos 0 → over a (a -ℤ b) ≡ entering a b
  unfolding entering
  entering-inside h k = rw (lt-le_z h, le-le_z k) refl

  pub entering-never : pos 0 <ℤ a → pos 0 <ℤ b → over (pos 1) (pos 1) ≡ entering a b
  unfolding entering
  entering-never h k = rw (lt-le_z h, lt-le_z k) refl

module _ (f g : Share) where
  pub later_first : ltb (f.numerator * g.denominator) (g.numerator * f.denominator) ≡ false
      → fraction f ≡ later (fraction f) (fraction g)
  later_first h = ap (λ t. cond t (fraction f) (fraction g)) (sym (le-le_z
      {x = pos (g.numerator * f.denominator)} {y = pos (f.numerator * g.denominator)}
      (lt_z-false {x = pos (f.numerator * g.denominator)} {y = pos (g.numerator * f.denominator)} h)))

  pub later_second : ltb (f.numerator * g.denominator) (g.numerator * f.denominator) ≡ true
      → fraction g ≡ later (fraction f) (fraction g)
  later_second h = ap (λ t. cond t (fraction f) (fraction g)) (sym (lt-le_z
      {x = pos (g.numerator * f.denominator)} {y = pos (f.numerator * g.denominator)}
      (lt_z-true {x = pos (f.numerator * g.denominator)} {y = pos (g.numerator * f.denominator)} h)))

  pub later-begun : g.numerator ≡ 0 → fraction f ≡ later (fraction f) (fraction g)
  later-begun e = later_first (subst (λ (n : ℕ). ltb (f.numerator * g.denominator) (n * f.denominator) ≡ false) (sym e)
      (le-ltb (f.numerator * g.denominator) (0 * f.denominator) (omega arith)))

-- ---- two parts of a way

minus : (x y z : ℤ) → x +ℤ y ≡ z → x ≡ z -ℤ y
minus x y z e = lia (x ∷ y ∷ z ∷ []) e (search linear depth 40) (omega arith)

pub exceed-words : (n d m e : ℕ) → n ≤ d → ltb ((d - n) * e) (m * d) ≡ exceed (over (pos n) (pos d)) (over (pos m) (pos e))
exceed-words n d m e h =
    let whole : d - n + n ≡ d = omega arith in
    ap (λ (z : ℤ). lt_z (z *ℤ pos e) (pos m *ℤ pos d)) (minus (pos (d - n)) (pos n) (pos d) (ap pos whole))
