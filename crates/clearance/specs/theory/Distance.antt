-- The distance of two shapes as one exact fraction, and the order of fractions.
--     fraction-trans       "at most" of fractions with positive denominators is transitive
--     no_more-le, more_lt, le-no_more, lt-more     the test as a fact, and back
--     no_more-refl, more-no_more, no_more-trans     one of two is at most the other, and in a row of three the first is at most the last
--     distance-apart, distance_none     what it is, by whether the shapes are apart
--     distance-whole       its denominator is above 0; `distance-positive`: so is its numerator if the shapes are apart
--     distance-nonneg      the numerator is never below 0; `distance-zero`: it is 0 only if the shapes are not apart
use Rattle.std.specs.Prelude.{◌≡◌, refl, Bool, true, false, cond, List, [], ◌∷◌, ℤ, pos, ◌*ℤ◌, ◌≤ℤ◌, ◌<ℤ◌}
use Rattle.std.proofs.Math.Path.{ap}
use Rattle.std.proofs.Common.{arith}
use Rattle.std.specs.Int.Signed.{≤ℤ_refl}
use Rattle.integer.specs.Linear.{linear, lia, ◌&◌}
use Rattle.integer.specs.Order.{◌<×<◌, ◌<×≤◌, ◌≤×<◌, contra≤, contra<, weaken, le_z-true, le_z-false, le-le_z, lt-le_z}
use Rattle.plane.specs.Point.{Point}
use Rattle.plane.specs.Shape.{IsShape}
use Rattle.plane.specs.Direction.{value}
use Rattle.plane.specs.Separation.{apart}
use Rattle.plane.specs.Clearance.{top, bottom, nearest}
use Rattle.plane.specs.Distance.{Fraction, over, no_more, distance}
use Rattle.clearance.specs.theory.First.{facing-held, held-square, nearest-at}
use Rattle.clearance.specs.theory.Stop.{facing-exists}
use Rattle.clearance.specs.theory.Nearest.{nearest-is-whole}

-- ---- fractions

-- s/p ≥ t/q and t/q ≥ u/r: bring all to the denominator p·q·r
pub fraction-trans : (s t u p q r : ℤ) → pos 0 <ℤ p → pos 0 <ℤ q → pos 0 <ℤ r → (t *ℤ p) ≤ℤ (s *ℤ q) → (u *ℤ q) ≤ℤ (t *ℤ r)
    → (u *ℤ p) ≤ℤ (s *ℤ r)
fraction-trans s t u p q r hp hq hr a b = contra≤ (λ g.
    lia (s ∷ t ∷ u ∷ p ∷ q ∷ r ∷ []) (a ≤×< hr & b ≤×< hp & g <×< hq) (search linear depth 40) (omega arith))

module _ (f g : Fraction) where
  pub no_more-le : no_more f g ≡ true → (f.numerator *ℤ g.denominator) ≤ℤ (g.numerator *ℤ f.denominator)
  no_more-le h = le_z-true h

  pub more_lt : no_more f g ≡ false → (g.numerator *ℤ f.denominator) <ℤ (f.numerator *ℤ g.denominator)
  more_lt h = le_z-false h

  pub le-no_more : (f.numerator *ℤ g.denominator) ≤ℤ (g.numerator *ℤ f.denominator) → no_more f g ≡ true
  le-no_more h = le-le_z h

  pub lt-more : (g.numerator *ℤ f.denominator) <ℤ (f.numerator *ℤ g.denominator) → no_more f g ≡ false
  lt-more h = lt-le_z h

pub no_more-refl : (f : Fraction) → no_more f f ≡ true
no_more-refl f = le-no_more f f (≤ℤ_refl (f.numerator *ℤ f.denominator))

pub more-no_more : (f g : Fraction) → no_more f g ≡ false → no_more g f ≡ true
more-no_more f g h = le-no_more g f (weaken (more_lt f g h))

pub no_more-trans : (f g h : Fraction) → pos 0 <ℤ f.denominator → pos 0 <ℤ g.denominator → pos 0 <ℤ h.denominator
    → no_more f g ≡ true → no_more g h ≡ true → no_more f h ≡ true
no_more-trans f g h a b c p q = le-no_more f h (fraction-trans h.numerator g.numerator f.numerator h.denominator g.denominator
    f.denominator c b a (no_more-le g h q) (no_more-le f g p))

-- ---- distances

-- g·g/D is x/y, and not 0
positive-top : (g D x y : ℤ) → pos 0 <ℤ g → pos 0 <ℤ D → pos 0 <ℤ y → x *ℤ D ≡ g *ℤ g *ℤ y → pos 0 <ℤ x
positive-top g D x y some long whole at =
    let square : pos 0 <ℤ (g *ℤ g) = lia (g ∷ []) (some <×< some) (search linear depth 40) (omega arith) in
    contra< (λ h. lia (g ∷ D ∷ x ∷ y ∷ []) (at & square <×< whole & long <×≤ h) (search linear depth 40) (omega arith))

module _ (A B : List Point) where
  abbrev told : Bool → Fraction
  told t = cond t (over (top A B (nearest A B)) (bottom A B (nearest A B))) (over (pos 0) (pos 1))

  distance-by : {t : Bool} → apart A B ≡ t → distance A B ≡ told t
  unfolding distance
  distance-by e = ap told e

  pub distance-apart : apart A B ≡ true → distance A B ≡ over (top A B (nearest A B)) (bottom A B (nearest A B))
  distance-apart h = distance-by h

  pub distance_none : apart A B ≡ false → distance A B ≡ over (pos 0) (pos 1)
  distance_none h = distance-by h

  module _ (s : IsShape A) (t : IsShape B) where
    pub distance-whole : pos 0 <ℤ (distance A B).denominator
    distance-whole = go (apart A B) refl
      where
        go : (x : Bool) → apart A B ≡ x → pos 0 <ℤ (distance A B).denominator
        go true e = rw (distance-apart e) (nearest-is-whole A B s t e)
        go false e = rw (distance_none e) (record { lt = tt })

    -- in the direction that faces the least distance the shapes are some way apart
    nearest_positive : apart A B ≡ true → pos 0 <ℤ top A B (nearest A B)
    nearest_positive h =
        let (n, facing) = facing-exists A B s t h in
        let (g, held) = facing-held facing in
        positive-top g (value n n) (top A B (nearest A B)) (bottom A B (nearest A B)) held.some (held-square A B n g held)
        (nearest-is-whole A B s t h) (nearest-at A B s.some t.some n facing).at

    pub distance-positive : apart A B ≡ true → pos 0 <ℤ (distance A B).numerator
    distance-positive h = rw (distance-apart h) (nearest_positive h)

    pub distance-nonneg : pos 0 ≤ℤ (distance A B).numerator
    distance-nonneg = go (apart A B) refl
      where
        go : (x : Bool) → apart A B ≡ x → pos 0 ≤ℤ (distance A B).numerator
        go true e = weaken (distance-positive e)
        go false e = rw (distance_none e) (record { le = tt })

    pub distance-zero : (distance A B).numerator ≤ℤ pos 0 → apart A B ≡ false
    distance-zero h = go (apart A B) refl
      where
        go : (x : Bool) → apart A B ≡ x → x ≡ false
        go true e = absurd (lia ((distance A B).numerator ∷ []) (h & distance-positive e) (search linear depth 40) (omega arith))
        go false e = refl
