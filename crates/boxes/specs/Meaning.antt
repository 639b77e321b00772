-- What the answer of box says: the edge e, the greatest turn T over the corners, the spread S of the corners' values along the edge, and
-- the edge's squared length Q. Each theorem is proved in the theory; here it is only cited. Boxes are compared by products: a/b ≤ c/d
-- says a·d ≤ c·b.
--     holds          every corner is in the box, and the box touches them on all four sides
--     edges          no edge has a smaller box, and every earlier edge has a larger one
--     directions     **no whole-number direction has a smaller box**; the edge's own has exactly this one
--     compared       a shape inside another has no larger box; moving and mirroring change nothing
--     replies        every shape of three corners or more has an answer
-- A direction d is any two whole numbers, without bound; its squared length is value d d, and `around d` is half of the way round the box
-- whose sides point along d and across it, in units of one over the length of d.
use Rattle.std.specs.Prelude.{◌≡◌, true, List, [], ◌∷◌, ℕ, ◌<◌, ℤ, pos, ◌+ℤ◌, ◌-ℤ◌, ◌*ℤ◌, length, ◌≤ℤ◌, ◌<ℤ◌}
use Rattle.plane.specs.Point.{Point, origin, corner, ◌∈◌, ◌⊖◌}
use Rattle.plane.specs.Shape.{next, IsShape}
use Rattle.plane.specs.Direction.{value}
use Rattle.plane.specs.Corner.{shape_of, mirrored}
use Rattle.plane.specs.Measure.{edge_turn, edge_squared}
use Rattle.plane.specs.Reply.{answered}
use Rattle.plane.specs.Refusal.{Valid}
use Rattle.plane.specs.Separation.{inside}
use Rattle.plane.specs.Floor.{Floored, corners}
use Rattle.plane.specs.Question.{values, reply}
use Rattle.strips.specs.Strip.{spread}
use Rattle.strips.specs.OwnDirection.{out_of}
use Rattle.growth.specs.Grown.{placed}
use Rattle.strips.proofs.theory.Answers.{three-answered}
use Rattle.boxes.specs.Box.{around, half_round, NoLargerBox, box_numbers, ask_box}
use Rattle.boxes.specs.theory.Compared.{box-no-larger, inside-around, mirrored-no-larger, no-larger-mirrored}
use Rattle.boxes.specs.theory.Compared.{moved-no-larger, no-larger-moved}
use Rattle.boxes.specs.theory.Answers.{answered-no-smaller, answered-attains, answered-fraction}
use Rattle.boxes.specs.theory.Answers.{answered-in, answered-turns, answered-turned, answered-spread, answered-spread-had}
use Rattle.boxes.specs.theory.Answers.{answered-least, answered-first}

module _ (a : Floored) (e : ℕ) (t s q : ℤ) (h : reply (ask_box a) ≡ answered (pos e ∷ t ∷ s ∷ q ∷ pos a.floor ∷ [])) where
  -- the edge, as a vector
  abbrev side : Point
  side = corner (corners a) (next (length (corners a)) e) ⊖ corner (corners a) e

  -- ---- holds

  pub edge-is-position : e < length (corners a)
  edge-is-position = answered-in a e t s q h

  -- across the edge: no corner is right of it, none is further than T, and one is so far
  pub corners-lie-across : (c : ℕ) → c < length (corners a) → (pos 0 ≤ℤ edge_turn (corners a) e c) × (edge_turn (corners a) e c ≤ℤ t)
  corners-lie-across c k = answered-turns a e t s q h c k

  pub far-side-is-touched : (c : ℕ) × (c < length (corners a)) × (t ≡ edge_turn (corners a) e c)
  far-side-is-touched = answered-turned a e t s q h

  -- along the edge: no two corners are further apart than S, and two are so far apart
  pub corners-lie-along : (p r : Point) → p ∈ corners a → r ∈ corners a → (value side p -ℤ value side r) ≤ℤ s
  corners-lie-along p r m n = answered-spread a e t s q h p r m n

  pub ends-are-touched : (p : Point) × (r : Point) × p ∈ corners a × r ∈ corners a × (value side p -ℤ value side r ≡ s)
  ends-are-touched = answered-spread-had a e t s q h

  -- Q is the squared length of the edge and not 0, so that (T+S)·(T+S)/Q is a fraction
  pub box-is-a-fraction : (value side side ≡ q) × (pos 0 <ℤ q)
  box-is-a-fraction = ((answered-attains a e t s q h).2, answered-fraction a e t s q h)

  -- ---- edges

  pub no-edge-has-a-smaller-box : (f : ℕ) → f < length (corners a)
      → ((t +ℤ s) *ℤ (t +ℤ s) *ℤ edge_squared (corners a) f) ≤ℤ (half_round (corners a) f *ℤ half_round (corners a) f *ℤ q)
  no-edge-has-a-smaller-box f k = answered-least a e t s q h f k

  pub earlier-edges-have-larger-boxes : (f : ℕ) → f < e
      → ((t +ℤ s) *ℤ (t +ℤ s) *ℤ edge_squared (corners a) f) <ℤ (half_round (corners a) f *ℤ half_round (corners a) f *ℤ q)
  earlier-edges-have-larger-boxes f k = answered-first a e t s q h f k

  -- ---- directions

  -- 000, theorem 3.2.1, "The rectangle of minimum perimeter enclosing a convex polygon has a side collinear with one of the edges"
  pub no-direction-has-a-smaller-box : (d : Point) → (d ≡ origin → ⊥)
      → ((t +ℤ s) *ℤ (t +ℤ s) *ℤ value d d) ≤ℤ (around d (corners a) *ℤ around d (corners a) *ℤ q)
  no-direction-has-a-smaller-box d n = answered-no-smaller a e t s q h d (record { non_zero = n })

  -- the spread out of the edge is T, and that along it is S
  pub own-edge-has-this-box : (spread (out_of (corners a) e) (corners a) ≡ t) × (spread side (corners a) ≡ s)
  own-edge-has-this-box = ((answered-attains a e t s q h).0, (answered-attains a e t s q h).1)

-- ---- compared

pub inside-has-no-larger-box : (A B : List Point) → IsShape A → 2 < length A → IsShape B → 2 < length B → inside A B ≡ true
    → NoLargerBox A B
inside-has-no-larger-box A B s a t b h = box-no-larger A B s a t b (inside-around A B s.some t.some h)

module _ (A : List Point) (s : IsShape A) (three : 2 < length A) where
  pub mirrored-has-same-box : NoLargerBox (shape_of (mirrored A)) A × NoLargerBox A (shape_of (mirrored A))
  mirrored-has-same-box = (mirrored-no-larger A s three, no-larger-mirrored A s three)

  pub moved-has-same-box : (t : Point) → NoLargerBox (placed A t) A × NoLargerBox A (placed A t)
  moved-has-same-box t = (moved-no-larger A s three t, no-larger-moved A s three t)

-- ---- replies

pub three-corners-have-a-box : (a : Floored) → Valid a.list → 2 < length (corners a) → reply (ask_box a) ≡ answered (values (ask_box a))
three-corners-have-a-box a v three = three-answered a (box_numbers (corners a)) v three
