-- A fraction of the way in lowest terms.
--     lowest-on-way                    it is one
--     lowest-no-later, no-later-lowest it is the same fraction
--     lowest-reached                   so at both a way is past a wall or it is not
--     lowest-terms                     12 lets its terms pass
--     lowest-only                      and no other fraction that is as large is in lowest terms
use Rattle.std.specs.Prelude.{◌≡◌, false, [], ◌∷◌, ℤ, ◌*ℤ◌, ◌<ℤ◌}
use Rattle.std.proofs.Common.{sym, arith, lt-ltb}
use Rattle.std.proofs.Math.Path.{ap}
use Rattle.std.proofs.Math.IntN.{pos}
use Rattle.std.specs.Int.Signed.{<ℤ_irrefl}
use Rattle.integer.specs.Linear.{linear, lia, ◌&◌}
use Rattle.integer.specs.Order.{◌<×<◌, ◌<×≤◌, ◌≡×◌, contra<, contra≤, le_of_eq, lt_z-true}
use Rattle.plane.specs.Point.{Point, point}
use Rattle.plane.specs.Direction.{SameWay}
use Rattle.plane.specs.Furthest.{parts_divisor, common_divisor}
use Rattle.plane.specs.Forms.{NonZero}
use Rattle.plane.specs.Distance.{Fraction, over}
use Rattle.plane.proofs.theory.direction.Rows.{some-divisor}
use Rattle.plane.proofs.theory.direction.Primitive.{primitive-multiple, primitive-common, primitive-only}
use Rattle.motion.specs.Contact.{OnWay, NoLater, lowest}
use Rattle.motion.proofs.theory.Entry.{Reached}

-- numerator and denominator as a direction
abbrev pub terms : Fraction → Point
terms f = point f.numerator f.denominator

module _ (f : Fraction) (on : OnWay f) where
  some-terms : NonZero (terms f)
  some-terms = record { non_zero = λ e. <ℤ_irrefl (rw (ap (λ (p : Point). p.y) e) at on.whole) }

  -- n and d are k times those of the lowest terms
  record Multiple : Type 0 where
    k : ℤ
    above : pos 0 <ℤ k
    top : k *ℤ (lowest f).numerator ≡ f.numerator
    under : k *ℤ (lowest f).denominator ≡ f.denominator

  multiple : Multiple
  unfolding lowest
  multiple = record {
    k = pos (parts_divisor (terms f));
    above = lt_z-true (lt-ltb 0 (parts_divisor (terms f)) (some-divisor some-terms));
    top = (primitive-multiple (terms f)).0;
    under = (primitive-multiple (terms f)).1;
  }

  abbrev k : ℤ
  k = multiple.k

  abbrev n : ℤ
  n = (lowest f).numerator

  abbrev d : ℤ
  d = (lowest f).denominator

  pub lowest-on-way : OnWay (lowest f)
  lowest-on-way = record {
    begun = contra≤ (λ h. lia (k ∷ n ∷ f.numerator ∷ []) (multiple.top & on.begun & multiple.above <×< h)
        (search linear depth 40) (omega arith));
    ended = contra≤ (λ h. lia (k ∷ n ∷ d ∷ f.numerator ∷ f.denominator ∷ [])
        (multiple.top & multiple.under & on.ended & multiple.above <×< h) (search linear depth 40) (omega arith));
    whole = contra< (λ h. lia (k ∷ d ∷ f.denominator ∷ []) (multiple.under & on.whole & multiple.above <×≤ h)
        (search linear depth 40) (omega arith));
  }

  same-fraction : n *ℤ f.denominator ≡ f.numerator *ℤ d
  same-fraction = lia (k ∷ n ∷ d ∷ f.numerator ∷ f.denominator ∷ []) (multiple.top ≡× d & multiple.under ≡× n)
      (search linear depth 40) (omega arith)

  pub lowest-no-later : NoLater (lowest f) f
  lowest-no-later = le_of_eq same-fraction

  pub no-later-lowest : NoLater f (lowest f)
  no-later-lowest = le_of_eq (sym same-fraction)

  pub lowest-reached : (a b : ℤ) → Reached a b f → Reached a b (lowest f)
  lowest-reached a b h = contra≤ (λ g. lia (a ∷ b ∷ k ∷ n ∷ d ∷ f.numerator ∷ f.denominator ∷ [])
      (multiple.above <×< g & multiple.top ≡× a & multiple.top ≡× b & multiple.under ≡× a & h) (search linear depth 40) (omega arith))

  pub lowest-terms : common_divisor (terms (lowest f)) ≡ false
  unfolding lowest
  lowest-terms = primitive-common (terms f) some-terms

  pub lowest-only : (g : Fraction) → OnWay g → common_divisor (terms g) ≡ false → NoLater f g → NoLater g f → g ≡ lowest f
  unfolding lowest
  lowest-only g way low h l = ap (λ (p : Point). over p.x p.y) (primitive-only (terms f) (terms g) some-terms low same)
    where
      same : SameWay (terms g) (terms f)
      same = record {
        m = f.denominator;
        n = g.denominator;
        m-above = on.whole;
        n-above = way.whole;
        along-x = lia (f.numerator ∷ f.denominator ∷ g.numerator ∷ g.denominator ∷ []) (h & l) (search linear depth 40) (omega arith);
        along-y = lia (f.denominator ∷ g.denominator ∷ []) on.whole (search linear depth 40) (omega arith);
      }
