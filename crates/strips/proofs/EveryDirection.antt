-- Width in every direction, and the corridor between two shapes (document 02, request W9). Each theorem is proved in the theory; here it is
-- only cited. Fractions are compared by products: a/b ≤ c/d says a·d ≤ c·b.
--     ground       what least and spread are
--     width        no direction is narrower than the edge that width answers; that edge's own direction is as narrow
--     length       no direction is longer than the pair that length answers; that pair's own direction is as long
--     corridor     no strip between two shapes is wider than their clearance; across the step between the nearest points one is so wide
-- A direction d is any two whole numbers, without bound; its squared length is value d d. t and q, the squared length D, and the fraction
-- answer_top over answer_bottom, are of the replies that the contracts of width, length and clearance cite, to shapes with their floors.
use Rattle.std.specs.Prelude.{◌≡◌, true, List, [], ◌∷◌, ℕ, ◌<◌, ℤ, pos, ◌-ℤ◌, ◌*ℤ◌, length, ◌≤ℤ◌, ◌<ℤ◌}
use Rattle.plane.specs.Point.{Point, origin, corner, ◌∈◌, ◌⊖◌}
use Rattle.plane.specs.Direction.{value, support}
use Rattle.plane.specs.Reply.{answered}
use Rattle.plane.specs.Refusal.{Valid}
use Rattle.plane.specs.Separation.{apart}
use Rattle.plane.specs.Clearance.{nearest}
use Rattle.plane.specs.Floor.{Floored, corners}
use Rattle.plane.specs.Measure.{width_numbers}
use Rattle.plane.specs.Question.{reply, ask_length, ask_width, ask_clearance}
use Rattle.plane.proofs.theory.forms.Vector.{square-positive}
use Rattle.strips.specs.Strip.{least, spread, gap_in, Corridor}
use Rattle.strips.specs.OwnDirection.{out_of, towards, answer_top, answer_bottom}
use Rattle.strips.proofs.theory.Spread.{least-le-value, least-attained, spread-above, spread-attained}
use Rattle.strips.proofs.theory.Answers.{three-answered, answered-no-narrower, answered-attains, answered-fraction}
use Rattle.strips.proofs.theory.Answers.{answered-no-wider, answered-gap-no-wider, answered-bottom, answered-corridor, answered-wide}
use Rattle.strips.proofs.theory.LengthBound.{answered-no-longer, answered-longest}

-- ---- ground

module _ (d : Point) (ps : List Point) where
  -- the least value: no corner is below it, and one has it
  pub none-is-lower : (p : Point) → p ∈ ps → least d ps ≤ℤ value d p
  none-is-lower p m = least-le-value d ps m

  pub least-is-had : 0 < length ps → (p : Point) × p ∈ ps × (value d p ≡ least d ps)
  least-is-had some = least-attained d ps some

  -- "the spread of the shape's values in it": no two values are further apart, and two are so far apart
  pub none-spreads-further : (p q : Point) → p ∈ ps → q ∈ ps → (value d p -ℤ value d q) ≤ℤ spread d ps
  none-spreads-further p q m n = spread-above d ps m n

  pub spread-is-had : 0 < length ps → (p : Point) × (q : Point) × p ∈ ps × q ∈ ps × (value d p -ℤ value d q ≡ spread d ps)
  spread-is-had some = spread-attained d ps some

-- ---- width

module _ (a : Floored) (e : ℕ) (c t q w : ℤ) (h : reply (ask_width a) ≡ answered (pos e ∷ c ∷ t ∷ q ∷ w ∷ pos a.floor ∷ [])) where
  -- "no whole-number direction other than (0,0) gives a smaller width: the spread of the shape's values in it, squared, over the
  -- direction's squared length, is never below t·t/q"
  pub no-direction-is-narrower : (d : Point) → (d ≡ origin → ⊥)
      → (t *ℤ t *ℤ value d d) ≤ℤ (spread d (corners a) *ℤ spread d (corners a) *ℤ q)
  no-direction-is-narrower d n = answered-no-narrower a e c t q w h d (record { non_zero = n })

  -- and the direction out of the edge has exactly it: its spread is t, its squared length q
  pub own-edge-is-as-narrow : (spread (out_of (corners a) e) (corners a) ≡ t) × (value (out_of (corners a) e) (out_of (corners a) e) ≡ q)
  own-edge-is-as-narrow = answered-attains a e c t q w h

  -- q is not 0, so that t·t/q is a fraction
  pub width-is-a-fraction : pos 0 <ℤ q
  width-is-a-fraction = answered-fraction a e c t q w h

-- nor is the squared length of a direction
pub direction-has-length : (d : Point) → (d ≡ origin → ⊥) → pos 0 <ℤ value d d
direction-has-length d n = square-positive d (record { non_zero = n })

-- every shape of three or more corners has such an answer
pub three-corners-are-answered : (a : Floored) → Valid a.list → 2 < length (corners a)
    → (e : ℕ) × (c : ℤ) × (t : ℤ) × (q : ℤ) × (w : ℤ) × (reply (ask_width a) ≡ answered (pos e ∷ c ∷ t ∷ q ∷ w ∷ pos a.floor ∷ []))
three-corners-are-answered a v three = (_, _, _, _, _, three-answered a (width_numbers (corners a)) v three)

-- ---- length: 000, theorem 2.1.1, "The diameter of a convex polygon P is the greatest distance between parallel lines of support of P"

module _ (a : Floored) (D : ℤ) (i j : ℕ) (h : reply (ask_length a) ≡ answered (D ∷ pos i ∷ pos j ∷ pos a.floor ∷ [])) where
  -- no whole-number direction gives a greater length: the spread of the shape's values in it, squared, over the direction's squared length,
  -- is never above D
  pub no-direction-is-longer : (d : Point) → (spread d (corners a) *ℤ spread d (corners a)) ≤ℤ (D *ℤ value d d)
  no-direction-is-longer d = answered-no-longer a D i j h d

  -- and the direction from the one answered corner to the other has exactly it: its spread and its squared length are D
  pub own-pair-is-as-long : let n = corner (corners a) j ⊖ corner (corners a) i in (spread n (corners a) ≡ D) × (value n n ≡ D)
  own-pair-is-as-long = answered-longest a D i j h

-- ---- corridor

module _ (a b : Floored) (v : List ℤ) (h : reply (ask_clearance a b) ≡ answered v) where
  -- in every direction in which the first shape is ahead of the second, the gap, squared, over the direction's squared length, is at most
  -- the squared clearance
  pub no-gap-is-wider : (d : Point) → (d ≡ origin → ⊥) → pos 0 ≤ℤ gap_in d (corners a) (corners b)
      → (gap_in d (corners a) (corners b) *ℤ gap_in d (corners a) (corners b) *ℤ answer_bottom v) ≤ℤ (answer_top v *ℤ value d d)
  no-gap-is-wider d n k = answered-gap-no-wider a b v h d n k

  -- which is a fraction
  pub clearance-is-a-fraction : pos 0 <ℤ answer_bottom v
  clearance-is-a-fraction = answered-bottom a b v h

  -- so no strip that lies between the shapes is wider
  pub no-corridor-is-wider : (d : Point) (low high : ℤ) → Corridor (corners a) (corners b) d low high
      → ((high -ℤ low) *ℤ (high -ℤ low) *ℤ answer_bottom v) ≤ℤ (answer_top v *ℤ value d d)
  no-corridor-is-wider d low high c = answered-no-wider a b v h d low high c

  module _ (are-apart : apart (corners a) (corners b) ≡ true) where
    abbrev n : Point
    n = towards (corners a) (corners b) (nearest (corners a) (corners b))

    -- and of shapes that are apart one is so wide: across the step between the nearest points, with a shape on either side
    pub nearest-makes-corridor : Corridor (corners a) (corners b) n (support n (corners b)) (least n (corners a))
    nearest-makes-corridor = answered-corridor a b v h are-apart

    pub nearest-corridor-is-as-wide : gap_in n (corners a) (corners b) *ℤ gap_in n (corners a) (corners b) *ℤ answer_bottom v
        ≡ answer_top v *ℤ value n n
    nearest-corridor-is-as-wide = answered-wide a b v h are-apart
