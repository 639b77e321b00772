-- What length and width mean, in document 01's words. Each theorem is proved in the theory; here it is only cited.
--     length     of a list with a corner: the first pair at the greatest distance
--     width      of a shape of three corners or more: the first narrowest edge, its first corner of greatest turn, the rounded width
--     replies    to a valid shape with its floor: exactly these numbers are answered, and 10 exactly of fewer than three corners
use Rattle.std.specs.Prelude.{◌≡◌, List, [], ◌∷◌, ◌↔◌, ℕ, ◌+◌, ◌*◌, ◌≤◌, ◌<◌, ℤ, pos, nat_abs, ◌*ℤ◌, length, ◌≤ℤ◌, ◌<ℤ◌}
use Rattle.std.proofs.Common.{arith}
use Rattle.integer.specs.Bound.{positive-size}
use Rattle.plane.specs.Point.{Point, corner}
use Rattle.plane.specs.Shape.{IsShape}
use Rattle.plane.specs.Measure.{squared, length_squared, length_from, length_to, edge_turn, height, edge_squared, width_edge, width_corner}
use Rattle.plane.specs.Measure.{root_below}
use Rattle.plane.specs.Reply.{answered, refused}
use Rattle.plane.specs.Refusal.{Valid}
use Rattle.plane.specs.Floor.{Floored, corners}
use Rattle.plane.specs.Question.{reply, ask_length, ask_width}
use Rattle.measure.specs.Extremes.{FirstLongest, FirstNarrowest}
use Rattle.measure.specs.theory.Longest.{squared-le-length, length-longest, length-from-least, length-to-least, length-point}
use Rattle.measure.specs.theory.Height.{height-above, height-had, height-positive, edge_squared-positive, width-facing, width-earlier}
use Rattle.measure.specs.theory.Narrowest.{width-narrowest, no_wider-le, wider_lt}
use Rattle.measure.specs.theory.Rounded.{rounded-low, rounded-high}
use Rattle.measure.specs.theory.Replies.{length-reply, width-reply, width-refused}

-- ---- length

module _ (ps : List Point) (some : 0 < length ps) where
  -- "at positions i ≤ j"
  pub length-positions : (length_from ps ≤ length_to ps) × (length_to ps < length ps)
  length-positions = ((length-longest ps some).ordered, (length-longest ps some).within)

  -- "the greatest squared distance between two corners": these two have it
  pub length-is-had : squared (corner ps (length_from ps)) (corner ps (length_to ps)) ≡ length_squared ps
  length-is-had = (length-longest ps some).longest

-- and no two are further apart
pub none-further-apart : (ps : List Point) (i j : ℕ) → i < length ps → j < length ps
    → squared (corner ps i) (corner ps j) ≤ℤ length_squared ps
none-further-apart ps i j h k = squared-le-length ps i j h k

-- "smallest i": no pair that is as far apart begins earlier
pub length-starts-first : (ps : List Point) (i j : ℕ) → i ≤ j → j < length ps → squared (corner ps i) (corner ps j) ≡ length_squared ps
    → length_from ps ≤ i
length-starts-first ps i j o h e = length-from-least ps (record { ordered = o; within = h; longest = e })

-- "and then smallest j among equals": none that begins there ends earlier
pub length-ends-first : (ps : List Point) (j : ℕ) → length_from ps ≤ j → j < length ps
    → squared (corner ps (length_from ps)) (corner ps j) ≡ length_squared ps → length_to ps ≤ j
length-ends-first ps j o h e = length-to-least ps (record { ordered = o; within = h; longest = e })

-- "A point answers 0 at 0, 0"
pub length-of-point : (p : Point) → (length_squared (p ∷ []) ≡ pos 0) × (length_from (p ∷ []) ≡ 0) × (length_to (p ∷ []) ≡ 0)
length-of-point p = length-point p

-- ---- width

-- "for each edge, the greatest turn t over the corners": no corner has a greater one, and one has it
pub none-turns-further : (ps : List Point) (e c : ℕ) → c < length ps → edge_turn ps e c ≤ℤ height ps e
none-turns-further ps e c h = height-above ps e c h

pub height-is-had : (ps : List Point) (e : ℕ) → 0 < length ps → (c : ℕ) × (c < length ps) × (height ps e ≡ edge_turn ps e c)
height-is-had ps e some = height-had ps e some

module _ (ps : List Point) (shape : IsShape ps) (three : 2 < length ps) where
  -- the edge of the width, its t and its q
  abbrev e : ℕ
  e = width_edge ps

  abbrev t : ℕ → ℤ
  t f = height ps f

  abbrev q : ℕ → ℤ
  q f = edge_squared ps f

  -- "Answered: edge, corner, t, q and w": the edge is one of the shape
  pub width-edge-is-position : e < length ps
  width-edge-is-position = (width-narrowest shape three).among

  -- of every edge t and q are above 0, so that "t·t/q" is a fraction
  pub height-is-positive : (f : ℕ) → f < length ps → pos 0 <ℤ t f
  height-is-positive f h = height-positive ps shape three f h

  pub edge-is-positive : (f : ℕ) → f < length ps → pos 0 <ℤ q f
  edge-is-positive f h = edge_squared-positive ps shape three f h

  -- "Edges compare by t·t/q as exact fractions. The least wins": t·t/q of the edge is at most that of any
  pub none-is-narrower : (f : ℕ) → f < length ps → (t e *ℤ t e *ℤ q f) ≤ℤ (t f *ℤ t f *ℤ q e)
  none-is-narrower f h = no_wider-le ps e f ((width-narrowest shape three).least f h)

  -- "smallest edge position on a tie": and less than that of any earlier one
  pub earlier-is-wider : (f : ℕ) → f < e → (t e *ℤ t e *ℤ q f) <ℤ (t f *ℤ t f *ℤ q e)
  earlier-is-wider f h = let first = width-narrowest shape three in wider_lt ps f e (first.sole f (omega (arith, first.among)) h)

  -- "then the smallest corner position that has the greatest turn": the corner is one of the shape
  pub width-corner-is-position : width_corner ps < length ps
  width-corner-is-position = (width-facing ps shape.some).within

  -- it has the greatest turn
  pub width-corner-has-turn : edge_turn ps e (width_corner ps) ≡ t e
  width-corner-has-turn = (width-facing ps shape.some).has

  -- and no earlier one does
  pub earlier-turns-less : (c : ℕ) → c < width_corner ps → edge_turn ps e c <ℤ t e
  earlier-turns-less c h = width-earlier ps c h

  -- "w, the width rounded down: w·w·q ≤ t·t < (w+1)·(w+1)·q"
  pub width-rounded-down : let w = root_below (nat_abs (t e) * nat_abs (t e)) (nat_abs (q e)) in
      (w * w * nat_abs (q e) ≤ nat_abs (t e) * nat_abs (t e)) × (nat_abs (t e) * nat_abs (t e) < (w + 1) * (w + 1) * nat_abs (q e))
  width-rounded-down =
      let long = positive-size (edge-is-positive e width-edge-is-position) in
      (rounded-low _ (nat_abs (q e)) long, rounded-high _ (nat_abs (q e)) long)

-- ---- the replies

module _ (a : Floored) (v : Valid a.list) where
  -- "Length: the greatest squared distance between two corners, at positions i ≤ j, smallest i and then smallest j among equals"
  pub length-is-answered-exactly : (d : ℤ) (i j : ℕ)
      → reply (ask_length a) ≡ answered (d ∷ pos i ∷ pos j ∷ pos a.floor ∷ []) ↔ FirstLongest (corners a) d i j
  length-is-answered-exactly d i j = length-reply a v d i j

  -- "Width", "Answered: edge, corner, t, q and w"
  pub width-is-answered-exactly : 2 < length (corners a) → (e c : ℕ) (t q : ℤ) (w : ℕ)
      → reply (ask_width a) ≡ answered (pos e ∷ pos c ∷ t ∷ q ∷ pos w ∷ pos a.floor ∷ []) ↔ FirstNarrowest (corners a) e c t q w
  width-is-answered-exactly three e c t q w = width-reply a v three e c t q w

  -- 10: "width of a shape with fewer than three corners"
  pub width-is-refused-exactly : reply (ask_width a) ≡ refused 10 [] ↔ length (corners a) < 3
  width-is-refused-exactly = width-refused a v
