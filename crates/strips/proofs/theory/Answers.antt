-- What the answers of width and clearance say: they are given of shapes, and give the fractions of their definitions.
--     three-answered, answered-three           where fewer than three corners are refused: three have an answer, and it is of three
--     answered-no-narrower                     no direction is narrower than the width
--     answered-attains, answered-fraction      the direction out of the edge has its t and q, and q is above 0
--     top-is, bottom-is                        the fraction that an answer of clearance gives is its candidate's
--     answered-no-wider, -gap-no-wider         no strip between the shapes is wider than the clearance; no gap in a direction
--     answered-bottom                          what the clearance is divided by is above 0
--     answered-corridor, answered-wide         where they are apart, the strip across the step between the nearest points is as wide
use Rattle.std.specs.Prelude.{◌≡◌, Bool, true, false, cond, List, [], ◌∷◌, ◌++◌, ℕ, ◌<◌, ltb, ℤ, pos, ◌-ℤ◌, ◌*ℤ◌, length, ◌≤ℤ◌, ◌<ℤ◌}
use Rattle.std.proofs.Math.Path.{refl}
use Rattle.std.proofs.Common.{arith, ltb-false, le-ltb}
use Rattle.integer.specs.Linear.{linear, lia}
use Rattle.integer.specs.Order.{◌≡×◌}
use Rattle.integer.specs.Bound.{size-square}
use Rattle.plane.specs.Point.{Point, origin, points, corner}
use Rattle.plane.specs.Shape.{IsShape}
use Rattle.plane.specs.Reply.{answered, row}
use Rattle.plane.specs.Refusal.{Valid}
use Rattle.plane.specs.Direction.{value, support}
use Rattle.plane.specs.Measure.{height, edge_squared, width_edge, width_numbers}
use Rattle.plane.specs.Separation.{apart}
use Rattle.plane.specs.Clearance.{Candidate, corners, on_second, on_first, turn_on, top, bottom, nearest, numbers_of}
use Rattle.plane.specs.Floor.{Floored, one_shape}
use Rattle.plane.specs.Question.{Question, asks, values, reply, ask_width, ask_clearance}
use Rattle.plane.specs.Forms.{NonZero}
use Rattle.plane.proofs.theory.support.Support.{value-le-support}
use Rattle.plane.proofs.theory.refusals.Asked.{asked-none, asked-values, asked-shapes, asked-rest, rest-none}
use Rattle.measure.specs.theory.Height.{edge_squared-positive}
use Rattle.measure.specs.theory.Narrowest.{width-narrowest}
use Rattle.clearance.specs.theory.Nearest.{nearest-is-whole}
use Rattle.clearance.specs.theory.Replies.{clearance-values}
use Rattle.strips.specs.Strip.{least, spread, gap_in, Corridor}
use Rattle.strips.specs.OwnDirection.{out_of, towards, answer_top, answer_bottom}
use Rattle.strips.proofs.theory.Spread.{least-le-value}
use Rattle.strips.proofs.theory.Edges.{out-squared, out-spread}
use Rattle.strips.proofs.theory.WidthBound.{width-every}
use Rattle.strips.proofs.theory.Corridors.{corridor-no-wider, corridor-level, towards-corridor, towards-wide}

-- ---- questions that fewer than three corners are refused

module _ (a : Floored) (numbers : List ℤ) where
  abbrev ask : Question
  ask = asks (one_shape a) (row 10 (ltb (length (points a.list)) 3) [] ∷ []) numbers

  pub three-answered : Valid a.list → 2 < length (points a.list) → reply ask ≡ answered (values ask)
  three-answered v three = asked-none ask (rest-none ask v (le-ltb (length (points a.list)) 3 three, tt))

  pub answered-three : (v : List ℤ) → reply ask ≡ answered v → IsShape (points a.list) × (2 < length (points a.list))
  answered-three v h = ((asked-shapes ask v h).shape, ltb-false (length (points a.list)) 3 (asked-rest ask v h).0)

-- ---- width

module _ (a : Floored) (e : ℕ) (c t q w : ℤ) (h : reply (ask_width a) ≡ answered (pos e ∷ c ∷ t ∷ q ∷ w ∷ pos a.floor ∷ [])) where
  abbrev ps : List Point
  ps = points a.list

  shape : IsShape ps
  shape = (answered-three a (width_numbers ps) _ h).0

  three : 2 < length ps
  three = (answered-three a (width_numbers ps) _ h).1

  edge : e ≡ width_edge ps
  edge = cc (asked-values (ask_width a) _ h)

  turn : t ≡ height ps (width_edge ps)
  turn = cc (asked-values (ask_width a) _ h)

  long : q ≡ edge_squared ps (width_edge ps)
  long = cc (asked-values (ask_width a) _ h)

  pub answered-no-narrower : (d : Point) → NonZero d → (t *ℤ t *ℤ value d d) ≤ℤ (spread d ps *ℤ spread d ps *ℤ q)
  answered-no-narrower d n = rw (turn, long) (width-every ps shape three d n)

  edge_in : width_edge ps < length ps
  edge_in = (width-narrowest shape three).among

  pub answered-attains : (spread (out_of ps e) ps ≡ t) × (value (out_of ps e) (out_of ps e) ≡ q)
  answered-attains = rw (edge, turn, long) (out-spread ps shape (width_edge ps) edge_in, out-squared ps shape (width_edge ps) edge_in)

  pub answered-fraction : pos 0 <ℤ q
  answered-fraction = rw long (edge_squared-positive ps shape three (width_edge ps) edge_in)

-- ---- clearance

-- whatever comes after a candidate's numbers
module _ (A B : List Point) (rest : List ℤ) where
  pub top-is : (c : Candidate) → answer_top (numbers_of A B c ++ rest) ≡ top A B c
  unfolding top
  top-is (corners i j) = refl
  top-is (on_second i e) = size-square (turn_on B e (corner A i))
  top-is (on_first j e) = size-square (turn_on A e (corner B j))

  pub bottom-is : (c : Candidate) → answer_bottom (numbers_of A B c ++ rest) ≡ bottom A B c
  unfolding bottom
  bottom-is (corners i j) = refl
  bottom-is (on_second i e) = refl
  bottom-is (on_first j e) = refl

module _ (a b : Floored) (v : List ℤ) (h : reply (ask_clearance a b) ≡ answered v) where
  abbrev A : List Point
  A = points a.list

  abbrev B : List Point
  B = points b.list

  abbrev floor : List ℤ
  floor = pos a.floor ∷ []

  first-shape : IsShape A
  first-shape = (asked-shapes (ask_clearance a b) v h).first-valid.shape

  second-shape : IsShape B
  second-shape = (asked-shapes (ask_clearance a b) v h).second-valid.shape

  pub answered-no-wider : (d : Point) (low high : ℤ) → Corridor A B d low high
      → ((high -ℤ low) *ℤ (high -ℤ low) *ℤ answer_bottom v) ≤ℤ (answer_top v *ℤ value d d)
  answered-no-wider d low high c = go (apart A B) refl (clearance-values a b v h (apart A B) refl)
    where
      go : (t : Bool) → apart A B ≡ t → v ≡ cond t (numbers_of A B (nearest A B)) (pos 0 ∷ []) ++ floor
          → ((high -ℤ low) *ℤ (high -ℤ low) *ℤ answer_bottom v) ≤ℤ (answer_top v *ℤ value d d)
      go true e g = rw (g, top-is A B floor (nearest A B), bottom-is A B floor (nearest A B))
          (corridor-no-wider A B first-shape second-shape e d low high c)
      go false e g =
          let flat = corridor-level A B first-shape.some second-shape.some e d low high c in
          rw g (lia (low ∷ high ∷ value d d ∷ []) (flat ≡× (high -ℤ low)) (search linear depth 40) (omega arith))

  pub answered-bottom : pos 0 <ℤ answer_bottom v
  answered-bottom = go (apart A B) refl (clearance-values a b v h (apart A B) refl)
    where
      go : (t : Bool) → apart A B ≡ t → v ≡ cond t (numbers_of A B (nearest A B)) (pos 0 ∷ []) ++ floor → pos 0 <ℤ answer_bottom v
      go true e g = rw (g, bottom-is A B floor (nearest A B)) (nearest-is-whole A B first-shape second-shape e)
      go false e g = rw g (record { lt = tt })

  pub answered-gap-no-wider : (d : Point) → (d ≡ origin → ⊥) → pos 0 ≤ℤ gap_in d A B
      → (gap_in d A B *ℤ gap_in d A B *ℤ answer_bottom v) ≤ℤ (answer_top v *ℤ value d d)
  unfolding gap_in
  answered-gap-no-wider d n k = answered-no-wider d (support d B) (least d A) (record {
    direction = n;
    wide = lia (support d B ∷ least d A ∷ []) k (search linear depth 40) (omega arith);
    behind = λ p m. value-le-support d m;
    ahead = λ p m. least-le-value d A m;
  })

  module _ (are-apart : apart A B ≡ true) where
    gives : v ≡ numbers_of A B (nearest A B) ++ floor
    gives = clearance-values a b v h true are-apart

    pub answered-corridor : let n = towards A B (nearest A B) in Corridor A B n (support n B) (least n A)
    answered-corridor = towards-corridor A B first-shape second-shape are-apart

    pub answered-wide : let n = towards A B (nearest A B) in
        gap_in n A B *ℤ gap_in n A B *ℤ answer_bottom v ≡ answer_top v *ℤ value n n
    answered-wide = rw (gives, top-is A B floor (nearest A B), bottom-is A B floor (nearest A B))
        (towards-wide A B first-shape second-shape are-apart)
