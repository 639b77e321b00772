-- What the search answers, as the plane's candidates and numbers.
--     candidate_of p            the candidate of a pair of positions
--     values_of d               the numbers of a distance, as the reply has them
--     spacing_numbers w        what clearance answers: 0 where the shapes are not apart
--     ratio_of d               a distance as the root of turn·turn/squared; two corners at the squared distance d are at d·d/d
--     Spaced A B r             r has the numbers of the nearest candidate; None where A and B are not apart
--     HasSize t q r            r holds the size of the turn t, the squared length q, and the root of t·t/q rounded down
--     Measurable A B c         the positions of candidate c are in the lists, and what it is divided by is not 0
use Rattle.std.specs.Prelude.{◌≡◌, true, false, Option, Some, None, List, [], ◌∷◌, ◌*◌, ◌<◌, ℤ, pos, nat_abs, length, ◌<ℤ◌}
use Rattle.plane.specs.Point.{Point, corner}
use Rattle.plane.specs.Measure.{squared, edge_squared, root_below}
use Rattle.plane.specs.Separation.{apart}
use Rattle.plane.specs.Clearance.{Candidate, corners, on_second, on_first, nearest, numbers_of}
use Rattle.clearance.specs.declared.reach.Pair.{Pair}
use Rattle.clearance.specs.declared.measured.Distance.{Distance}
use Rattle.clearance.specs.declared.measured.Height.{Height}
use Rattle.clearance.specs.declared.measured.Ratio.{Ratio}

abbrev pub candidate_of : Pair → Candidate
candidate_of (Pair.Corners i j) = corners i j
candidate_of (Pair.OnSecond c e) = on_second c e
candidate_of (Pair.OnFirst c e) = on_first c e

abbrev pub values_of : Distance → List ℤ
values_of (Distance.Corners i j d w) = pos 1 ∷ pos i ∷ pos j ∷ pos d ∷ pos w ∷ []
values_of (Distance.OnSecond c e t q w) = pos 2 ∷ pos c ∷ pos e ∷ pos t ∷ pos q ∷ pos w ∷ []
values_of (Distance.OnFirst c e t q w) = pos 3 ∷ pos c ∷ pos e ∷ pos t ∷ pos q ∷ pos w ∷ []

abbrev pub spacing_numbers : Option Distance → List ℤ
spacing_numbers None = pos 0 ∷ []
spacing_numbers (Some d) = values_of d

abbrev pub ratio_of : Distance → Ratio
ratio_of (Distance.Corners i j d w) = record { turn = d; squared = d }
ratio_of (Distance.OnSecond c e t q w) = record { turn = t; squared = q }
ratio_of (Distance.OnFirst c e t q w) = record { turn = t; squared = q }

abbrev pub Spaced : List Point → List Point → Option Distance → Type 0
Spaced A B None = apart A B ≡ false
Spaced A B (Some d) = (apart A B ≡ true) × (values_of d ≡ numbers_of A B (nearest A B))

pub record HasSize (t q : ℤ) (r : Height) : Type 0 where
  pub turn_is : r.turn ≡ nat_abs t
  pub squared-is : pos r.squared ≡ q
  pub rounded-is : r.rounded ≡ root_below (nat_abs t * nat_abs t) (nat_abs q)

abbrev pub Measurable : List Point → List Point → Candidate → Type 0
Measurable A B (corners i j) = (i < length A) × (j < length B) × (pos 0 <ℤ squared (corner A i) (corner B j))
Measurable A B (on_second c e) = (c < length A) × (e < length B) × (pos 0 <ℤ edge_squared B e)
Measurable A B (on_first c e) = (c < length B) × (e < length A) × (pos 0 <ℤ edge_squared A e)
