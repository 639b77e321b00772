-- What the code tells is what is answered.
--     whole_words                  a fraction of the way, of two words
--     length-bounded               the squared length of a way
--     never-told, at_told          the two kinds of answer
use Rattle.std.specs.Prelude.{◌≡◌, Bool, true, false, cond, List, [], ◌∷◌, ℕ, ◌*◌, ◌≤◌, ◌<◌, ℤ}
use Rattle.std.proofs.Common.{sym, ◌∙◌, ap, leb→le, ltb→lt}
use Rattle.std.proofs.Math.Path.{ap₂}
use Rattle.std.proofs.Math.IntN.{pos, nat_abs}
use Rattle.integer.specs.Bound.{Within, within-add, within-mul, within-neg}
use Rattle.plane.specs.Limits.{max_coordinate}
use Rattle.plane.specs.Point.{Point}
use Rattle.plane.specs.Measure.{squared, root_below}
use Rattle.plane.specs.Separation.{apart}
use Rattle.plane.specs.Distance.{Fraction, over}
use Rattle.motion.specs.Contact.{OnWay, contact, safe, contact_numbers}
use Rattle.contact.specs.Share.{Places}

pub whole_words : (n d : ℕ) → OnWay (over (pos n) (pos d)) → (n ≤ d) × (0 < d)
whole_words n d on = (leb→le _ _ on.ended.le, ltb→lt _ _ on.whole.lt)

pub length-bounded : {t u : Point} → Places t u → Within 8_000_000_000_000 (squared t u)
unfolding squared max_coordinate
length-bounded p =
    let x = within-add p.from-near.small-x (within-neg p.to-near.small-x) in
    let y = within-add p.from-near.small-y (within-neg p.to-near.small-y) in
    within-add (within-mul x x) (within-mul y y)

module _ (t u : Point) (G : List Point) where
  -- by whether the way is apart
  numbers-by : {b : Bool} → apart (t ∷ u ∷ []) G ≡ b → let c = contact t u G in
      cond b (pos 0 ∷ []) (pos 1 ∷ c.numerator ∷ c.denominator ∷ pos (safe t u G) ∷ []) ≡ contact_numbers t u G
  numbers-by e = let c = contact t u G in
      ap (λ (b : Bool). cond b (pos 0 ∷ []) (pos 1 ∷ c.numerator ∷ c.denominator ∷ pos (safe t u G) ∷ [])) (sym e)

  pub never-told : apart (t ∷ u ∷ []) G ≡ true → (pos 0 ∷ []) ≡ contact_numbers t u G
  never-told e = numbers-by e

  pub at_told : apart (t ∷ u ∷ []) G ≡ false → (n d l : ℕ) → over (pos n) (pos d) ≡ contact t u G → pos l ≡ squared t u
      → (pos 1 ∷ pos n ∷ pos d ∷ pos (root_below (n * n * l) (d * d)) ∷ []) ≡ contact_numbers t u G
  unfolding safe
  at_told k n d l e s = ap₂ (λ (c : Fraction) (z : ℤ). pos 1 ∷ c.numerator ∷ c.denominator
      ∷ pos (root_below (nat_abs c.numerator * nat_abs c.numerator * nat_abs z) (nat_abs c.denominator * nat_abs c.denominator)) ∷ [])
      e s ∙ numbers-by k
