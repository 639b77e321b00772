-- What the code answers, and what it knows on the way.
--     values_of r         the numbers of an answer, as the reply has them
--     far_of c d          a distance d of corner c as one fraction t·t/q (`ratio_of` of clearance)
--     HasFar N O i r     r is corner i of N, and its squared distance from O is t·t/q
--     is_further a b     the second of two corners is further
--     RoundedDown d      the millimetres of a distance are its root rounded down
--     up_numbers c d      the numbers of a distance of corner c, the millimetres rounded up
use Rattle.std.specs.Prelude.{◌≡◌, Bool, Option, Some, None, List, [], ◌∷◌, ℕ, ◌*◌, ◌<◌, ltb, ℤ, pos, ◌*ℤ◌}
use Rattle.plane.specs.Point.{Point, corner}
use Rattle.plane.specs.Measure.{root_below}
use Rattle.clearance.specs.Answer.{ratio_of}
use Rattle.clearance.specs.declared.measured.Distance.{Distance}
use Rattle.excess.specs.Excess.{beyond, root_above}
use Rattle.answers.specs.declared.Beyond.{Beyond}
use Rattle.excess.specs.declared.outermost.Far.{Far}

abbrev pub values_of : Option Beyond → List ℤ
values_of None = pos 0 ∷ []
values_of (Some (Beyond.Corners c j d u)) = pos 1 ∷ pos c ∷ pos j ∷ pos d ∷ pos u ∷ []
values_of (Some (Beyond.Edge c e t q u)) = pos 2 ∷ pos c ∷ pos e ∷ pos t ∷ pos q ∷ pos u ∷ []

abbrev pub far_of : ℕ → Distance → Far
far_of c d = record { corner = c; ratio = ratio_of d }

-- t·t/q of the first is less than that of the second
abbrev pub is_further : Far → Far → Bool
is_further a b = ltb (a.ratio.turn * a.ratio.turn * b.ratio.squared) (b.ratio.turn * b.ratio.turn * a.ratio.squared)

pub record HasFar (N O : List Point) (i : ℕ) (r : Far) : Type 0 where
  pub corner-is : r.corner ≡ i
  pub whole : 0 < r.ratio.squared
  pub as-far : pos (r.ratio.turn * r.ratio.turn) *ℤ (beyond (corner N i) O).denominator ≡ (beyond
      (corner N i) O).numerator *ℤ pos r.ratio.squared

-- never of the third kind: nothing falls strictly inside a point
abbrev pub RoundedDown : Distance → Type 0
RoundedDown (Distance.Corners i j d w) = (0 < d) × (w ≡ root_below (d * d) d)
RoundedDown (Distance.OnSecond i e t q w) = (0 < q) × (w ≡ root_below (t * t) q)
RoundedDown (Distance.OnFirst j e t q w) = ⊥

abbrev pub up_numbers : ℕ → Distance → List ℤ
up_numbers c (Distance.Corners i j d w) = pos 1 ∷ pos c ∷ pos j ∷ pos d ∷ pos (root_above (d * d) d) ∷ []
up_numbers c (Distance.OnSecond i e t q w) = pos 2 ∷ pos c ∷ pos e ∷ pos t ∷ pos q ∷ pos (root_above (t * t) q) ∷ []
up_numbers c (Distance.OnFirst j e t q w) = []
