-- The distance of two shapes as the code holds it.
--     ratio-less          ratios compare as the fractions that they are; `ratio-no_more`: and with others
--     meets-ratio, corners-ratio, second-ratio, first-ratio      what the ratio is
--     apart-numbers       what clearance answers, by whether the shapes are apart
--     spacing-fraction    what clearance answers tells the distance; `spacing-sized`: and what it is divided by is not 0
use Rattle.std.specs.Prelude.{◌≡◌, refl, Bool, true, false, not, cond, Option, Some, None, List, [], ◌∷◌, ℕ, ◌*◌, ◌<◌, ltb, ℤ, ◌*ℤ◌, ◌≤ℤ◌}
use Rattle.std.specs.Prelude.{◌<ℤ◌}
use Rattle.std.proofs.Common.{sym, ◌∙◌, subst, arith, ltb-true, ltb-false, le→leb, lt→ltb}
use Rattle.std.proofs.Math.Path.{ap, ap₂}
use Rattle.std.proofs.Math.IntN.{pos, nat_abs}
use Rattle.integer.specs.Ring.{ring, reify}
use Rattle.integer.specs.Linear.{linear, lia, ◌&◌}
use Rattle.integer.specs.Order.{◌<×<◌, ◌<×≤◌, ◌≡×◌, contra≤, contra<, lt-lt_z, le_of_eq}
use Rattle.integer.specs.Bound.{size-square}
use Rattle.plane.specs.Point.{Point, corner}
use Rattle.plane.specs.Shape.{IsShape}
use Rattle.plane.specs.Separation.{apart}
use Rattle.plane.specs.Clearance.{Candidate, corners, on_second, on_first, turn_on, top, bottom, nearest, numbers_of, clearance_numbers}
use Rattle.plane.specs.Distance.{Fraction, over, no_more, distance}
use Rattle.clearance.specs.Answer.{values_of}
use Rattle.clearance.specs.declared.measured.Distance.{Distance}
use Rattle.clearance.specs.theory.Distance.{le-no_more, lt-more, no_more-trans}
use Rattle.clearance.specs.theory.Distance.{distance-apart, distance_none, distance-whole, distance-positive}
use Rattle.neighbours.specs.Spacing.{spacing_numbers, apart_fraction, fraction_of, ApartSized, Sized, HasRatio}
use Rattle.clearance.specs.declared.measured.Ratio.{Ratio}

-- ---- comparing

-- s/p and t/q are n/d and m/e: s·q < t·p exactly if n·e < m·d
module _ (s p t q n d m e : ℤ) (p-some : pos 0 <ℤ p) (q-some : pos 0 <ℤ q) (d-some : pos 0 <ℤ d) (e-some : pos 0 <ℤ e)
    (one : s *ℤ d ≡ n *ℤ p) (other : t *ℤ e ≡ m *ℤ q) where
  -- both to the denominator p·q·d·e
  less-stays : (s *ℤ q) <ℤ (t *ℤ p) → (n *ℤ e) <ℤ (m *ℤ d)
  less-stays h =
      let all : pos 0 <ℤ (d *ℤ e) = lia (d ∷ e ∷ []) (d-some <×< e-some) (search linear depth 40) (omega arith) in
      let down : pos 0 <ℤ (p *ℤ q) = lia (p ∷ q ∷ []) (p-some <×< q-some) (search linear depth 40) (omega arith) in
      contra< (λ g. lia (s ∷ p ∷ t ∷ q ∷ n ∷ d ∷ m ∷ e ∷ []) (all <×< h & down <×≤ g & one ≡× (q *ℤ e) & other ≡× (p *ℤ d))
      (search linear depth 40) (omega arith))

  more_stays : (t *ℤ p) ≤ℤ (s *ℤ q) → (m *ℤ d) ≤ℤ (n *ℤ e)
  more_stays h =
      let all : pos 0 <ℤ (d *ℤ e) = lia (d ∷ e ∷ []) (d-some <×< e-some) (search linear depth 40) (omega arith) in
      let down : pos 0 <ℤ (p *ℤ q) = lia (p ∷ q ∷ []) (p-some <×< q-some) (search linear depth 40) (omega arith) in
      contra≤ (λ g. lia (s ∷ p ∷ t ∷ q ∷ n ∷ d ∷ m ∷ e ∷ []) (all <×≤ h & down <×< g & one ≡× (q *ℤ e) & other ≡× (p *ℤ d))
      (search linear depth 40) (omega arith))

lt-pos : (m n : ℕ) → m < n → pos m <ℤ pos n
lt-pos m n h = record { lt = lt→ltb m n h }

pub ratio-less : (f g : Fraction) (r s : Ratio) → pos 0 <ℤ f.denominator → pos 0 <ℤ g.denominator → HasRatio f r → HasRatio g s
    → ltb (r.turn * r.turn * s.squared) (s.turn * s.turn * r.squared) ≡ not (no_more g f)
ratio-less f g r s df dg hf hg = go (ltb (T * q) (U * p)) refl
  where
    T : ℕ
    T = r.turn * r.turn

    U : ℕ
    U = s.turn * s.turn

    p : ℕ
    p = r.squared

    q : ℕ
    q = s.squared

    go : (t : Bool) → ltb (T * q) (U * p) ≡ t → t ≡ not (no_more g f)
    go true e = sym (ap not (lt-more g f (less-stays (pos T) (pos p) (pos U) (pos q) f.numerator f.denominator g.numerator
        g.denominator (lt-pos 0 p hf.some) (lt-pos 0 q hg.some) df dg hf.is hg.is
        (lt-pos (T * q) (U * p) (ltb-true (T * q) (U * p) e)))))
    go false e = sym (ap not (le-no_more g f (more_stays (pos T) (pos p) (pos U) (pos q) f.numerator f.denominator g.numerator
        g.denominator (lt-pos 0 p hf.some) (lt-pos 0 q hg.some) df dg hf.is hg.is
        (record { le = le→leb (U * p) (T * q) (ltb-false (T * q) (U * p) e) }))))

-- a ratio is no more than a distance: neither is the fraction that it is
pub ratio-no_more : (f g : Fraction) (r : Ratio) → pos 0 <ℤ f.denominator → pos 0 <ℤ g.denominator → HasRatio f r
    → no_more (over (pos (r.turn * r.turn)) (pos r.squared)) g ≡ true → no_more f g ≡ true
ratio-no_more f g r df dg hf h =
    let w = over (pos (r.turn * r.turn)) (pos r.squared) in
    no_more-trans f w g df (lt-pos 0 r.squared hf.some) dg (le-no_more f w (le_of_eq (sym hf.is))) h

-- what a distance is divided by
pub sized-whole : (w : Option Distance) → Sized w → pos 0 <ℤ (fraction_of w).denominator
sized-whole None h = record { lt = tt }
sized-whole (Some (Distance.Corners i j d w)) h = record { lt = tt }
sized-whole (Some (Distance.OnSecond c e t q w)) h = lt-pos 0 q h
sized-whole (Some (Distance.OnFirst c e t q w)) h = lt-pos 0 q h

-- two corners at n are at n·n/n, and a corner over an edge at t·t/q
times-one : (x : ℤ) → x *ℤ pos 1 ≡ x
times-one x = ring (x ∷ []) (search reify depth 40) tt

module _ (d : Distance) (sized : ApartSized d) where
  pub corners-ratio : (i j n w : ℕ) → d ≡ Distance.Corners i j n w → HasRatio (apart_fraction d) (record { turn = n; squared = n })
  corners-ratio i j n w e = subst (λ (x : Distance). HasRatio (apart_fraction x) (record { turn = n; squared = n })) (sym e)
      (record { some = subst ApartSized e sized; is = times-one (pos (n * n)) })

  pub second-ratio : (c f t q w : ℕ) → d ≡ Distance.OnSecond c f t q w → HasRatio (apart_fraction d) (record { turn = t; squared = q })
  second-ratio c f t q w e = subst (λ (x : Distance). HasRatio (apart_fraction x) (record { turn = t; squared = q })) (sym e)
      (record { some = subst ApartSized e sized; is = refl })

  pub first-ratio : (c f t q w : ℕ) → d ≡ Distance.OnFirst c f t q w → HasRatio (apart_fraction d) (record { turn = t; squared = q })
  first-ratio c f t q w e = subst (λ (x : Distance). HasRatio (apart_fraction x) (record { turn = t; squared = q })) (sym e)
      (record { some = subst ApartSized e sized; is = refl })

pub meets-ratio : {w : Option Distance} → w ≡ None → HasRatio (fraction_of w) (record { turn = 0; squared = 1 })
meets-ratio e = subst (λ (x : Option Distance). HasRatio (fraction_of x) (record { turn = 0; squared = 1 })) (sym e)
    (record { some = omega arith; is = refl })

-- ---- what clearance answers

-- an answer's first number is not another's
other-kind : {A : Type 0} (m n : ℕ) {x y : List ℤ} → pos m ∷ x ≡ pos n ∷ y → (m ≡ n → ⊥) → A
other-kind m n e k = absurd (k (cc e))

module _ (A B : List Point) where
  abbrev told : Bool → List ℤ
  told t = cond t (numbers_of A B (nearest A B)) (pos 0 ∷ [])

  pub apart-numbers : {t : Bool} → apart A B ≡ t → told t ≡ clearance_numbers A B
  apart-numbers e = ap told (sym e)

  -- the candidate's fraction
  apart-fraction : (d : Distance) (c : Candidate) → values_of d ≡ numbers_of A B c → apart_fraction d ≡ over (top A B c) (bottom A B c)
  unfolding top bottom
  apart-fraction (Distance.Corners i j d w) (corners k l) e = ap (λ z. over z (pos 1)) (cc e)
  apart-fraction (Distance.OnSecond i f t q w) (on_second k l) e =
      let size : t ≡ nat_abs (turn_on B l (corner A k)) = cc e in
      ap₂ over (ap (λ (n : ℕ). pos (n * n)) size ∙ size-square (turn_on B l (corner A k))) (cc e)
  apart-fraction (Distance.OnFirst i f t q w) (on_first k l) e =
      let size : t ≡ nat_abs (turn_on A l (corner B k)) = cc e in
      ap₂ over (ap (λ (n : ℕ). pos (n * n)) size ∙ size-square (turn_on A l (corner B k))) (cc e)
  apart-fraction (Distance.Corners i j d w) (on_second k l) e = other-kind 1 2 e (λ z. omega arith)
  apart-fraction (Distance.Corners i j d w) (on_first k l) e = other-kind 1 3 e (λ z. omega arith)
  apart-fraction (Distance.OnSecond i f t q w) (corners k l) e = other-kind 2 1 e (λ z. omega arith)
  apart-fraction (Distance.OnSecond i f t q w) (on_first k l) e = other-kind 2 3 e (λ z. omega arith)
  apart-fraction (Distance.OnFirst i f t q w) (corners k l) e = other-kind 3 1 e (λ z. omega arith)
  apart-fraction (Distance.OnFirst i f t q w) (on_second k l) e = other-kind 3 2 e (λ z. omega arith)

  values-some : (d : Distance) → values_of d ≡ pos 0 ∷ [] → ⊥
  values-some (Distance.Corners i j d w) e = other-kind 1 0 e (λ z. omega arith)
  values-some (Distance.OnSecond i f t q w) e = other-kind 2 0 e (λ z. omega arith)
  values-some (Distance.OnFirst i f t q w) e = other-kind 3 0 e (λ z. omega arith)

  numbers-some : (c : Candidate) → pos 0 ∷ [] ≡ numbers_of A B c → ⊥
  numbers-some (corners i j) e = other-kind 0 1 e (λ z. omega arith)
  numbers-some (on_second i f) e = other-kind 0 2 e (λ z. omega arith)
  numbers-some (on_first j f) e = other-kind 0 3 e (λ z. omega arith)

  pub spacing-fraction : (w : Option Distance) → spacing_numbers w ≡ clearance_numbers A B → fraction_of w ≡ distance A B
  spacing-fraction w h = go w (apart A B) refl h
    where
      go : (v : Option Distance) (t : Bool) → apart A B ≡ t → spacing_numbers v ≡ told t → fraction_of v ≡ distance A B
      go None false e g = sym (distance_none A B e)
      go None true e g = absurd (numbers-some (nearest A B) g)
      go (Some d) false e g = absurd (values-some d g)
      go (Some d) true e g = apart-fraction d (nearest A B) g ∙ sym (distance-apart A B e)

  module _ (s : IsShape A) (t : IsShape B) where
    pub spacing-sized : (w : Option Distance) → spacing_numbers w ≡ clearance_numbers A B → Sized w
    spacing-sized w h = go w (apart A B) refl h (spacing-fraction w h)
      where
        above : (n : ℕ) → pos 0 <ℤ pos n → 0 < n
        above n h = ltb-true 0 n (lt-lt_z h)

        sized : (d : Distance) → apart_fraction d ≡ distance A B → pos 0 <ℤ (distance A B).numerator → pos 0 <ℤ (distance A B).denominator
            → ApartSized d
        sized (Distance.Corners i j d w) e n m = above d (subst (λ (f : Fraction). pos 0 <ℤ f.numerator) (sym e) n)
        sized (Distance.OnSecond c f u q w) e n m = above q (subst (λ (f : Fraction). pos 0 <ℤ f.denominator) (sym e) m)
        sized (Distance.OnFirst c f u q w) e n m = above q (subst (λ (f : Fraction). pos 0 <ℤ f.denominator) (sym e) m)

        go : (v : Option Distance) (x : Bool) → apart A B ≡ x → spacing_numbers v ≡ told x → fraction_of v ≡ distance A B → Sized v
        go None x e g f = tt
        go (Some d) false e g f = absurd (values-some d g)
        go (Some d) true e g f = sized d f (distance-positive A B s t e) (distance-whole A B s t)
