-- Gaps between lists of points, and between obstacles that are grown by a cart.
--     gap→apart, apart→gap       two lists are apart exactly if in some direction there is a gap between them
--     grown-low, grown-high      the lines of an obstacle are the greatest and the least value of the grown obstacle
--     grown-gap                  growing takes the cart's spread from the gap, in every direction
--     lines-gap                  so does what lies between the lines
--     blocked-nowhere            if the grown obstacles are not apart, the cart's spread is at least the gap in every direction
--     nowhere-blocked            and only then
-- Lists have a point: 0 < length.
use Rattle.std.specs.Prelude.{◌≡◌, refl, Bool, true, false, List, [], ◌∷◌, ◌<◌, pos, ◌-ℤ◌, length, ◌≤ℤ◌, ◌<ℤ◌}
use Rattle.std.proofs.Common.{sym, ◌∙◌, true≢false, arith}
use Rattle.integer.specs.Linear.{linear, lia, ◌&◌}
use Rattle.integer.specs.Order.{contra≤}
use Rattle.plane.specs.Point.{Point, origin, opposite}
use Rattle.plane.specs.Direction.{value, support}
use Rattle.plane.specs.Separation.{apart}
use Rattle.plane.specs.Forms.{NonZero}
use Rattle.plane.proofs.theory.forms.Vector.{opposite-opposite, below-non-zero}
use Rattle.plane.proofs.theory.support.Support.{value-le-support, support-attained}
use Rattle.separation.specs.theory.Apart.{apart→direction, direction→apart, apart-sym}
use Rattle.strips.specs.Strip.{least, spread, gap_in}
use Rattle.strips.proofs.theory.Spread.{least-le-value, least-attained}
use Rattle.growth.specs.Grown.{grown}
use Rattle.growth.proofs.theory.Places.{grown-some, grown-reach}
use Rattle.passage.specs.Passage.{passable, low_line, high_line}

-- ---- gaps

pub record Gap (A B : List Point) : Type 0 where
  pub direction : Point
  pub some : NonZero direction
  pub wide : pos 0 <ℤ gap_in direction A B

module _ (A B : List Point) (a : 0 < length A) (b : 0 < length B) where
  pub gap→apart : (d : Point) → pos 0 <ℤ gap_in d A B → apart A B ≡ true
  unfolding gap_in
  gap→apart d h = apart-sym A B a b ∙ direction→apart B A b a (record {
    direction = d;
    below = λ p q m n. lia (value d p ∷ value d q ∷ support d B ∷ least d A ∷ []) (h & value-le-support d m & least-le-value d A n)
        (search linear depth 40) (omega arith);
  })

  pub apart→gap : apart A B ≡ true → Gap A B
  unfolding gap_in
  apart→gap h =
      let s = apart→direction B A b a (apart-sym B A b a ∙ h) in
      let d = s.direction in
      let high = support-attained d B b in
      let (p, p-in, low) = least-attained d A a in
      let below = s.below high.at p high.at_in p-in in
      record {
        direction = d;
        some = below-non-zero d high.at p below;
        wide = lia (value d high.at ∷ value d p ∷ support d B ∷ least d A ∷ []) (below & high.at_value & low)
            (search linear depth 40) (omega arith);
      }

-- ---- grown obstacles

module _ (B A : List Point) (b : 0 < length B) (a : 0 < length A) (d : Point) where
  pub grown-low : support d (grown B A) ≡ low_line d B A
  unfolding low_line least
  grown-low = lia (support d (grown B A) ∷ support d B ∷ support (opposite d) A ∷ []) (grown-reach B A b a d)
      (search linear depth 40) (omega arith)

  pub grown-high : least d (grown B A) ≡ high_line d B A
  unfolding high_line least
  grown-high = lia (support (opposite d) (grown B A) ∷ support (opposite d) B ∷ support d A ∷ [])
      (rw (opposite-opposite d) at (grown-reach B A b a (opposite d))) (search linear depth 40) (omega arith)

module _ (L R A : List Point) (l : 0 < length L) (r : 0 < length R) (a : 0 < length A) where
  abbrev G : List Point
  G = grown L A

  abbrev H : List Point
  H = grown R A

  pub lines-gap : (d : Point) → gap_in d G H ≡ high_line d L A -ℤ low_line d R A
  unfolding gap_in
  lines-gap d = lia (least d G ∷ support d H ∷ high_line d L A ∷ low_line d R A ∷ []) (grown-high L A l a d & grown-low R A r a d)
      (search linear depth 40) (omega arith)

  pub grown-gap : (d : Point) → gap_in d G H ≡ gap_in d L R -ℤ spread d A
  unfolding gap_in spread high_line low_line
  grown-gap d = lia (least d G ∷ support d H ∷ least d L ∷ support d R ∷ least d A ∷ support d A ∷ [])
      (grown-high L A l a d & grown-low R A r a d) (search linear depth 40) (omega arith)

  -- a gap between the grown obstacles sets them apart
  pub blocked-nowhere : passable L R A ≡ false → (d : Point) → gap_in d L R ≤ℤ spread d A
  blocked-nowhere h d = contra≤ (λ g. true≢false (sym (gap→apart G H (grown-some L A l a) (grown-some R A r a) d
      (lia (gap_in d G H ∷ gap_in d L R ∷ spread d A ∷ []) (g & grown-gap d) (search linear depth 40) (omega arith))) ∙ h))

  pub nowhere-blocked : ((d : Point) → (d ≡ origin → ⊥) → gap_in d L R ≤ℤ spread d A) → passable L R A ≡ false
  nowhere-blocked f = go (passable L R A) refl
    where
      go : (t : Bool) → passable L R A ≡ t → t ≡ false
      go false e = refl
      go true e =
          let s = apart→gap G H (grown-some L A l a) (grown-some R A r a) e in
          let d = s.direction in
          absurd (lia (gap_in d G H ∷ gap_in d L R ∷ spread d A ∷ []) (s.wide & grown-gap d & f d s.some.non_zero)
          (search linear depth 40) (omega arith))
