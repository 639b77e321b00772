-- The code's fractions, places and answers, and what it looks at.
--     fraction s            two words as an exact fraction
--     share_of m            the fraction of a meeting
--     Places t u            the two places are within the range of coordinates
--     meeting_numbers m      the numbers of what the code returns
--     last_wall t u G i      the last entry of the box and i edges; of a shape of three corners or more, of i edges alone
--     Arrived t u G i r     r has the last entry of the way so far, and of the way back
--     Met t u G r           r shows whether the way is apart from G, and if it is not, where it first meets G
--     exceed f g            f and g, parts of a way from its two ends, are together more than the way
--     box_corner h l d       the corner furthest in direction d of the box with these greatest coordinates, h of points and l of opposites
--     is_past h l d p q      p and q are further in direction d than that; is_beside h l d p q: or both in the opposite direction
use Rattle.std.specs.Prelude.{◌≡◌, Bool, false, cond, ◌&&◌, ◌||◌, List, [], ◌∷◌, ℕ, suc, ◌+◌, ltb, ℤ, pos, neg_ℤ, ◌-ℤ◌, ◌*ℤ◌, length}
use Rattle.std.specs.Prelude.{Option}
use Rattle.std.specs.Int.Signed.{lt_z}
use Rattle.plane.specs.Limits.{max_coordinate}
use Rattle.plane.specs.Point.{Point, point, opposite}
use Rattle.plane.specs.Direction.{value}
use Rattle.plane.specs.Separation.{apart}
use Rattle.plane.specs.Distance.{Fraction, over}
use Rattle.polygon.specs.Point.{Small}
use Rattle.motion.specs.Contact.{OnWay, entry, last_entry, lowest, contact}
use Rattle.contact.specs.declared.share.Share.{Share}
use Rattle.contact.specs.declared.walls.BothWays.{BothWays}
use Rattle.answers.specs.declared.Meeting.{Meeting}
use Rattle.answers.specs.Answer.{found_values, meeting_values}

abbrev pub fraction : Share → Fraction
fraction s = over (pos s.numerator) (pos s.denominator)

-- the fraction at which something is met
abbrev pub share_of : Meeting → Share
share_of m = record { numerator = m.numerator; denominator = m.denominator }

pub record Places (t u : Point) : Type 0 where
  pub from-near : Small max_coordinate t
  pub to-near : Small max_coordinate u

abbrev pub meeting_numbers : Option Meeting → List ℤ
meeting_numbers m = found_values meeting_values m

abbrev pub last_wall : Point → Point → List Point → ℕ → Fraction
last_wall t u G i = cond (ltb (length G) 3) (last_entry (entry t u G) (4 + i)) (last_entry (λ j. entry t u G (suc (suc (suc (suc j))))) i)

pub record Arrived (t u : Point) (G : List Point) (i : ℕ) (r : BothWays) : Type 0 where
  pub there-is : fraction r.there ≡ last_wall t u G i
  pub back_is : fraction r.back ≡ last_wall u t G i

abbrev pub exceed : Fraction → Fraction → Bool
exceed f g = lt_z ((f.denominator -ℤ f.numerator) *ℤ g.denominator) (g.numerator *ℤ f.denominator)

pub record Met (t u : Point) (G : List Point) (r : BothWays) : Type 0 where
  pub on-way : OnWay (fraction r.there)
  pub apart-is : apart (t ∷ u ∷ []) G ≡ exceed (fraction r.there) (fraction r.back)
  pub first-is : apart (t ∷ u ∷ []) G ≡ false → lowest (fraction r.there) ≡ contact t u G

-- of one coordinate
abbrev pub box_part : ℤ → ℤ → ℤ → ℤ
box_part d h l = cond (lt_z d (pos 0)) (neg_ℤ l) h

abbrev pub box_corner : Point → Point → Point → Point
box_corner h l d = point (box_part d.x h.x l.x) (box_part d.y h.y l.y)

abbrev pub is_past : Point → Point → Point → Point → Point → Bool
is_past h l d p q = let far = value d (box_corner h l d) in lt_z far (value d p) && lt_z far (value d q)

abbrev pub is_beside : Point → Point → Point → Point → Point → Bool
is_beside h l d p q = is_past h l d p q || is_past h l (opposite d) p q
