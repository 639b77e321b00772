-- What an answer of box says: it is given of a shape of three corners or more, and gives the numbers of its definition.
--     answered-no-smaller                    no direction has a smaller box
--     answered-attains, answered-fraction    the edge's own directions have T and S, and its squared length Q is above 0
--     answered-turns, answered-spread        every corner is in the box
--     answered-least, answered-first         no edge has a smaller box; every earlier edge has a larger one
use Rattle.std.specs.Prelude.{◌≡◌, List, [], ◌∷◌, ℕ, ◌<◌, ℤ, pos, ◌+ℤ◌, ◌-ℤ◌, ◌*ℤ◌, length, ◌≤ℤ◌, ◌<ℤ◌}
use Rattle.std.proofs.Math.Path.{refl, sym}
use Rattle.plane.specs.Point.{Point, points, ◌∈◌}
use Rattle.plane.specs.Shape.{IsShape}
use Rattle.plane.specs.Reply.{answered}
use Rattle.plane.specs.Direction.{value}
use Rattle.plane.specs.Measure.{edge_turn, height, edge_squared}
use Rattle.plane.specs.Floor.{Floored}
use Rattle.plane.specs.Question.{reply}
use Rattle.plane.specs.Forms.{NonZero}
use Rattle.plane.proofs.theory.refusals.Asked.{asked-values}
use Rattle.plane.proofs.theory.sum.Positions.{edge_of, edge-turn}
use Rattle.measure.specs.theory.Height.{height-above, height-had, edge_squared-value}
use Rattle.strips.specs.Strip.{spread}
use Rattle.strips.specs.OwnDirection.{out_of}
use Rattle.strips.proofs.theory.Spread.{spread-above, spread-attained}
use Rattle.strips.proofs.theory.Edges.{out-spread}
use Rattle.strips.proofs.theory.Answers.{answered-three}
use Rattle.boxes.specs.Box.{around, along, half_round, box_edge, box_numbers, ask_box}
use Rattle.boxes.specs.theory.Least.{no_larger-le, larger-lt, box-leading}
use Rattle.boxes.specs.theory.Across.{best-long}
use Rattle.boxes.specs.theory.Every.{box-every}

module _ (a : Floored) (e : ℕ) (t s q : ℤ) (h : reply (ask_box a) ≡ answered (pos e ∷ t ∷ s ∷ q ∷ pos a.floor ∷ [])) where
  abbrev ps : List Point
  ps = points a.list

  both : IsShape ps × (2 < length ps)
  both = answered-three a (box_numbers ps) _ h

  shape : IsShape ps
  shape = both.0

  three : 2 < length ps
  three = both.1

  edge : e ≡ box_edge ps
  edge = cc (asked-values (ask_box a) _ h)

  turn : t ≡ height ps (box_edge ps)
  turn = cc (asked-values (ask_box a) _ h)

  side : s ≡ along ps (box_edge ps)
  side = cc (asked-values (ask_box a) _ h)

  long : q ≡ edge_squared ps (box_edge ps)
  long = cc (asked-values (ask_box a) _ h)

  half : t +ℤ s ≡ half_round ps (box_edge ps)
  unfolding half_round
  half = cc (turn, side)

  best-in : box_edge ps < length ps
  best-in = (box-leading ps shape three).among

  pub answered-in : e < length ps
  answered-in = rw edge best-in

  pub answered-no-smaller : (d : Point) → NonZero d → ((t +ℤ s) *ℤ (t +ℤ s) *ℤ value d d) ≤ℤ (around d ps *ℤ around d ps *ℤ q)
  answered-no-smaller d n = rw (half, long) (box-every ps shape three d n)

  pub answered-attains : (spread (out_of ps e) ps ≡ t) × (spread (edge_of ps e) ps ≡ s) × (value (edge_of ps e) (edge_of ps e) ≡ q)
  unfolding along
  answered-attains = rw (edge, turn, side, long)
      (out-spread ps shape (box_edge ps) best-in, refl, sym (edge_squared-value ps (box_edge ps)))

  pub answered-fraction : pos 0 <ℤ q
  answered-fraction = rw long (best-long ps shape three)

  -- ---- the corners in the box

  pub answered-turns : (c : ℕ) → c < length ps → (pos 0 ≤ℤ edge_turn ps e c) × (edge_turn ps e c ≤ℤ t)
  unfolding edge_turn
  answered-turns c k = rw (edge, turn) (edge-turn ps shape (box_edge ps) c best-in k, height-above ps (box_edge ps) c k)

  pub answered-turned : (c : ℕ) × (c < length ps) × (t ≡ edge_turn ps e c)
  answered-turned = rw (edge, turn) (height-had ps (box_edge ps) shape.some)

  pub answered-spread : (p r : Point) → p ∈ ps → r ∈ ps → (value (edge_of ps e) p -ℤ value (edge_of ps e) r) ≤ℤ s
  answered-spread p r m n = rw (← answered-attains.1) (spread-above (edge_of ps e) ps m n)

  pub answered-spread-had : (p : Point) × (r : Point) × p ∈ ps × r ∈ ps × (value (edge_of ps e) p -ℤ value (edge_of ps e) r ≡ s)
  answered-spread-had = rw (← answered-attains.1) (spread-attained (edge_of ps e) ps shape.some)

  -- ---- the edges

  pub answered-least : (f : ℕ) → f < length ps
      → ((t +ℤ s) *ℤ (t +ℤ s) *ℤ edge_squared ps f) ≤ℤ (half_round ps f *ℤ half_round ps f *ℤ q)
  answered-least f k = rw (half, long) (no_larger-le ps (box_edge ps) f ((box-leading ps shape three).least f k))

  pub answered-first : (f : ℕ) → f < e
      → ((t +ℤ s) *ℤ (t +ℤ s) *ℤ edge_squared ps f) <ℤ (half_round ps f *ℤ half_round ps f *ℤ q)
  answered-first f k = rw (half, long) (larger-lt ps f (box_edge ps) ((box-leading ps shape three).sole f (rw edge at k)))
