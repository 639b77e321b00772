-- What the searches for length and width know along the half walk. Its sides are s on the right-hand chain and t on the left-hand one.
--     HalfAt l n s t          they are at antipodal corners of the shape l, whose top is corner n
--     pair_at s t              the positions of these two sides, with the squared distance of their corners
--     apart_at n s t           the same, of n corners: after the last comes the first, which is then given first
--     Behind p q              the pair p is no better than q: not further apart, and if as far, not earlier
--     Kept best next r        r is the better of two pairs: further apart, then earlier
--     Fits s t                the edge of s and the corner of t can be multiplied, and the corner is not right of the edge
--     measured_at s t          the edge of s, measured at the corner of t
--     is_narrower a b          t·t/q of the measured edge a is less than that of b
--     NoNarrower a b          the measured edge a is no better than b: not narrower, and if as wide, not earlier
--     Chosen best found r     r is the better of two measured edges: narrower, then earlier
--     Best l b                b is the first of all edges with the least width
--     Opposed l e c           corner c on the way round is furthest from edge e
-- What they mean: `Comparison.antt`, and `LengthScan` and `WidthScan` of the theory.
use Rattle.std.specs.Prelude.{◌≡◌, Bool, false, cond, List, ℕ, ◌*◌, ◌^◌, ◌≤◌, ◌<◌, eqb, ltb, ℤ, pos, nat_abs, length, ◌≤ℤ◌}
use Rattle.plane.specs.Point.{points, ◌⊖◌}
use Rattle.plane.specs.Refusal.{Valid}
use Rattle.plane.specs.Turn.{cross}
use Rattle.plane.specs.Direction.{value}
use Rattle.plane.specs.Cycle.{round}
use Rattle.plane.specs.Measure.{squared, edge_turn, height}
use Rattle.polygon.specs.Point.{Small}
use Rattle.calipers.specs.declared.side.Side.{Side}
use Rattle.calipers.specs.Side.{corner_of, next_of, Carried}
use Rattle.measure.specs.Half.{Chains, Antipodal}
use Rattle.measure.specs.Comparison.{NotAfter, Width}
use Rattle.measure.specs.declared.Length.{Length}
use Rattle.measure.specs.declared.narrowest.Across.{Across}

pub record HalfAt (l : List ℤ) (n : ℕ) (s t : Side) : Type 0 where
  pub valid : Valid l
  pub chains : Chains (points l) n
  pub right_side : Carried l s
  pub left-side : Carried l t
  pub antipodal : Antipodal (points l) n s.at t.at

-- ---- length

unfoldable pub pair_at : Side → Side → Length
pair_at s t = record { squared = nat_abs (squared (corner_of s) (corner_of t)); from = s.at; to = t.at }

unfoldable pub apart_at : ℕ → Side → Side → Length
apart_at n s t = record {
  squared = nat_abs (squared (corner_of s) (corner_of t));
  from = cond (eqb t.at n) 0 s.at;
  to = cond (eqb t.at n) s.at t.at;
}

pub record Behind (p q : Length) : Type 0 where
  pub no-further : p.squared ≤ q.squared
  pub no-earlier : q.squared ≤ p.squared → NotAfter q.from q.to p.from p.to

pub data Kept (best next r : Length) : Type 0 where
  kept : r ≡ best → Behind next best → Kept best next r
  replaced : r ≡ next → Behind best next → Kept best next r

-- ---- width

pub record Fits (s t : Side) : Type 0 where
  pub edge-fits : Small (2 ^ 22) (next_of s)
  pub corner-fits : Small (2 ^ 21) (corner_of s)
  pub other_fits : Small (2 ^ 21) (corner_of t)
  pub not_right : pos 0 ≤ℤ cross (next_of s) (corner_of t ⊖ corner_of s)

unfoldable pub measured_at : Side → Side → Across
measured_at s t = record {
  edge = s.at;
  corner = t.at;
  turn = nat_abs (cross (next_of s) (corner_of t ⊖ corner_of s));
  squared = nat_abs (value (next_of s) (next_of s));
}

-- t·t/q of the first edge is less than that of the second
abbrev pub is_narrower : Across → Across → Bool
is_narrower a b = ltb (a.turn * a.turn * b.squared) (b.turn * b.turn * a.squared)

pub record NoNarrower (a b : Across) : Type 0 where
  pub no-narrower : is_narrower a b ≡ false
  pub no-earlier : is_narrower b a ≡ false → b.edge ≤ a.edge

pub data Chosen (best found r : Across) : Type 0 where
  stays : r ≡ best → NoNarrower found best → Chosen best found r
  gives-way : r ≡ found → NoNarrower best found → Chosen best found r

abbrev pub Best : List ℤ → Across → Type 0
Best l b = Width (points l) (λ f. f < length (points l)) b.edge b.corner b.turn b.squared

pub record Opposed (l : List ℤ) (e c : ℕ) : Type 0 where
  pub valid : Valid l
  pub three : 2 < length (points l)
  pub edge_in : e < length (points l)
  pub corner-in : c ≤ length (points l)
  pub has : edge_turn (points l) e (round (length (points l)) c) ≡ height (points l) e
