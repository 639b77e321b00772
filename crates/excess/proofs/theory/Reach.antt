-- The excess in every direction: it is how far the new shape N reaches beyond the old one O.
--     reach-le             in no direction does N reach further beyond O
--     Attained N O         in some direction it reaches so far (`reach-attained`), where N is not inside O
--     inside→none          the excess is 0 if N is inside O; `none→inside`: and only then
--     outermost-apart      the outermost corner of what is not inside O is apart from it
use Rattle.std.specs.Prelude.{◌≡◌, Bool, List, [], ◌∷◌, ◌<◌, ℤ, pos, ◌-ℤ◌, ◌*ℤ◌, length, ◌≤ℤ◌, ◌<ℤ◌}
use Rattle.std.proofs.Math.Path.{refl, sym, ap}
use Rattle.std.proofs.Common.{◌∙◌, arith}
use Rattle.std.proofs.Math.Bool.{true, false, not}
use Rattle.integer.specs.Linear.{linear, lia, ◌&◌}
use Rattle.integer.specs.Order.{◌<×<◌, ◌≤×≤◌, ◌≡×◌, contra≤, cancel-le, weaken}
use Rattle.plane.specs.Point.{Point, corner}
use Rattle.plane.specs.Shape.{IsShape}
use Rattle.plane.specs.Direction.{value, support}
use Rattle.plane.specs.Separation.{inside, apart}
use Rattle.plane.specs.Forms.{NonZero}
use Rattle.plane.proofs.theory.lists.Members.{position-member, member-position}
use Rattle.plane.proofs.theory.forms.Vector.{value-nonneg}
use Rattle.plane.proofs.theory.support.Support.{value-le-support, support-attained, support-one}
use Rattle.separation.specs.theory.Inside.{inside→reach, reach→inside}
use Rattle.growth.proofs.theory.Places.{point-apart}
use Rattle.excess.specs.Excess.{beyond, outermost, excess}
use Rattle.excess.proofs.theory.Lengths.{root-le}
use Rattle.excess.proofs.theory.Beyond.{Ahead, beyond-whole, beyond-none, beyond-ahead, beyond-least}
use Rattle.excess.proofs.theory.Outermost.{outermost-furthest, excess-greatest, excess-whole}

-- g·g/D is at most x/y, which is at most n/m
through : (g D x y n m : ℤ) → pos 0 <ℤ y → pos 0 ≤ℤ m → pos 0 ≤ℤ D → (g *ℤ g *ℤ y) ≤ℤ (x *ℤ D) → (x *ℤ m) ≤ℤ (n *ℤ y)
    → (g *ℤ g *ℤ m) ≤ℤ (n *ℤ D)
through g D x y n m whole low long far most = cancel-le {k = y} whole
    (lia (g ∷ D ∷ x ∷ y ∷ n ∷ m ∷ []) (low ≤×≤ far & long ≤×≤ most) (search linear depth 40) (omega arith))

-- g is at most h, where g·g·m is at most h·h·m
scaled-le : (g h m : ℤ) → pos 0 <ℤ m → pos 0 ≤ℤ h → (g *ℤ g *ℤ m) ≤ℤ (h *ℤ h *ℤ m) → g ≤ℤ h
scaled-le g h m some low far =
    root-le g h low (cancel-le {k = m} some (lia (g ∷ h ∷ m ∷ []) far (search linear depth 40) (omega arith)))

pub record Attained (N O : List Point) : Type 0 where
  pub direction : Point
  pub some : NonZero direction
  pub ahead : support direction O <ℤ support direction N
  pub exact : let g = support direction N -ℤ support direction O in
      g *ℤ g *ℤ (excess N O).denominator ≡ (excess N O).numerator *ℤ value direction direction

module _ (N O : List Point) (n : 0 < length N) (s : IsShape O) where
  -- at the corner that is furthest in the direction
  pub reach-le : (d : Point) → support d O <ℤ support d N → let g = support d N -ℤ support d O in
      (g *ℤ g *ℤ (excess N O).denominator) ≤ℤ ((excess N O).numerator *ℤ value d d)
  reach-le d far =
      let high = support-attained d N n in
      let (i, l, e) = member-position high.at_in in
      let at : value d (corner N i) ≡ support d N = ap (value d) e ∙ high.at_value in
      let f = beyond (corner N i) O in
      through (support d N -ℤ support d O) (value d d) f.numerator f.denominator (excess N O).numerator (excess N O).denominator
      (beyond-whole (corner N i) O s) (weaken (excess-whole N O n s)) (value-nonneg d)
      (rw at at (beyond-least (corner N i) O s d (rw at far))) (excess-greatest N O n s i l)

  abbrev c : Point
  c = corner N (outermost N O)

  c-value : (d : Point) → value d c ≤ℤ support d N
  c-value d = value-le-support d (position-member N (outermost N O) (outermost-furthest N O n s).among)

  -- ---- inside

  pub inside→none : inside N O ≡ true → (excess N O).numerator ≡ pos 0
  unfolding excess
  inside→none h = ap (λ f. f.numerator) (beyond-none c O s (point-apart c O s.some ∙ ap not held))
    where
      held : inside (c ∷ []) O ≡ true
      held = reach→inside (c ∷ []) O (omega arith) s.some (λ d. lia (support d (c ∷ []) ∷ value d c ∷ support d N ∷ support d O ∷ [])
          (support-one d c & c-value d & inside→reach N O n s.some h d) (search linear depth 40) (omega arith))

  pub none→inside : (excess N O).numerator ≡ pos 0 → inside N O ≡ true
  none→inside e = reach→inside N O n s.some (λ d. contra≤ (λ g. outside d g))
    where
      outside : (d : Point) → support d O <ℤ support d N → ⊥
      outside d g =
          let square : pos 0 <ℤ ((support d N -ℤ support d O) *ℤ (support d N -ℤ support d O)) =
          lia (support d N ∷ support d O ∷ []) (g <×< g) (search linear depth 40) (omega arith) in
          lia (support d N ∷ support d O ∷ (excess N O).numerator ∷ (excess N O).denominator ∷ value d d ∷ [])
          (reach-le d g & e ≡× value d d & square <×< excess-whole N O n s) (search linear depth 40) (omega arith)

  -- ---- attained

  -- the outermost corner is as far ahead in its own direction, and no corner is further ahead in it
  module _ (h : inside N O ≡ false) where
    pub outermost-apart : apart (c ∷ []) O ≡ true
    unfolding excess
    outermost-apart = go (apart (c ∷ []) O) refl
      where
        go : (t : Bool) → apart (c ∷ []) O ≡ t → t ≡ true
        go true e = refl
        go false e = sym h ∙ none→inside (ap (λ f. f.numerator) (beyond-none c O s e))

    pub reach-attained : Attained N O
    unfolding excess
    reach-attained = record {
      direction = d;
      some = a.some;
      ahead = lia (support d N ∷ support d O ∷ value d c ∷ []) (a.ahead & c-value d) (search linear depth 40) (omega arith);
      exact = rw same a.exact;
    }
      where
        a : Ahead c O
        a = beyond-ahead c O s outermost-apart

        d : Point
        d = a.direction

        most : (support d N -ℤ support d O) ≤ℤ (value d c -ℤ support d O)
        most = scaled-le (support d N -ℤ support d O) (value d c -ℤ support d O) (excess N O).denominator (excess-whole N O n s)
            (lia (value d c ∷ support d O ∷ []) a.ahead (search linear depth 40) (omega arith))
            (rw a.exact (reach-le d (lia (support d N ∷ support d O ∷ value d c ∷ []) (a.ahead & c-value d) (search linear depth 40)
            (omega arith))))

        same : support d N ≡ value d c
        same = lia (support d N ∷ support d O ∷ value d c ∷ []) (most & c-value d) (search linear depth 40) (omega arith)
