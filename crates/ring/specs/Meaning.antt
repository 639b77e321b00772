-- What a ring is brought to, and when it is refused. Each theorem is proved in the theory; here it is only cited.
--     the corners     nothing is added and nothing lost; accepted exactly if they are a shape, and then it is the shape of the points
--     4               the answered corner turns in, and no corner before it does
--     readings        a shape's own list; a closing point, another beginning, the other sense: only the points count, from the least on
--     the answer      what is written is a valid shape
use Rattle.std.specs.Prelude.{◌≡◌, true, false, List, [], ◌∷◌, ◌++◌, reverse, ◌↔◌, ℕ, ◌<◌, ℤ, pos, length, get_or}
use Rattle.std.proofs.Common.{sym, subst}
use Rattle.plane.specs.Point.{Point, points, numbers, ◌∈◌, ◌⊆◌}
use Rattle.plane.specs.Turn.{turn}
use Rattle.plane.specs.Shape.{IsShape}
use Rattle.plane.specs.Forms.{All, Precedes}
use Rattle.plane.specs.Reply.{answered}
use Rattle.plane.specs.Refusal.{Valid}
use Rattle.plane.specs.Direction.{support}
use Rattle.plane.specs.Corner.{Corner, shape_of}
use Rattle.plane.specs.Floor.{on}
use Rattle.plane.specs.Question.{reply}
use Rattle.plane.proofs.theory.lists.Sought.{some-found, first-true, first-least}
use Rattle.ring.specs.Round.{last_of, head_of, closed, Apart}
use Rattle.ring.specs.Ring.{open_ring, from_least, ring_corners, ring_shape, inward_at, first_inward, inward_row, ask_ring}
use Rattle.ring.specs.theory.Under.{under_at, corners-under}
use Rattle.ring.specs.theory.Outline.{ring-corners, ring-points, ring-support, ring-is-shape-of, quiet→shape, shape→quiet}
use Rattle.ring.specs.theory.Natural.{same_points, opened-again, closed-is-same}
use Rattle.ring.specs.theory.Begun.{begun-anywhere}
use Rattle.ring.specs.theory.Backwards.{read-backwards}
use Rattle.ring.specs.theory.Own.{shape-is-own-ring}
use Rattle.ring.specs.theory.Valid.{answered-passes, answered-valid}

module _ (ps : List Point) (some : 0 < length ps) where
  -- ---- the corners

  -- the corners of a ring are points of it, whether it is accepted or not: nothing is filled up
  pub corners-are-points-of-ring : ring_shape ps ⊆ ps
  corners-are-points-of-ring = ring-points ps some

  -- every corner of the set of its points is among them: nothing is lost
  pub no-corner-is-lost : (p : Point) → Corner ps p → p ∈ ring_shape ps
  no-corner-is-lost p c = ring-corners ps some p c

  -- they reach as far as the ring in every direction
  pub corners-reach : (d : Point) → support d (ring_shape ps) ≡ support d ps
  corners-reach d = ring-support ps some d

  -- 4 does not apply exactly if they are a shape as they are: begun at the least, in the sense in which they turn left there
  pub accepted-exactly-if-shape : ((inward_row ps).applies ≡ false) ↔ IsShape (ring_shape ps)
  accepted-exactly-if-shape = (quiet→shape ps some, shape→quiet ps some)

  -- and then they are the shape of the set of the ring's points
  pub accepted-is-shape-of-points : (inward_row ps).applies ≡ false → ring_shape ps ≡ shape_of ps
  accepted-is-shape-of-points h = ring-is-shape-of ps some (quiet→shape ps some h)

  -- ---- 4

  -- the answered corner turns in, and its position and that of the corner before it are positions of the list
  pub answered-corner-turns-in : (inward_row ps).applies ≡ true
      → (first_inward ps (ring_corners ps) < length (ring_corners ps))
      × (inward_at ps (ring_corners ps) (first_inward ps (ring_corners ps)) ≡ true)
      × (get_or (ring_corners ps) (first_inward ps (ring_corners ps)) 0 < length ps)
  unfolding first_inward
  answered-corner-turns-in h =
      let is = ring_corners ps in
      let found = some-found (inward_at ps is) (length is) h in
      (found, first-true (inward_at ps is) (length is) found, under_at (length ps) is (corners-under ps some) _ found)

  -- and no corner before it does, going round from the least
  pub no-earlier-corner-turns-in : (i : ℕ) → i < first_inward ps (ring_corners ps) → inward_at ps (ring_corners ps) i ≡ false
  unfolding first_inward
  no-earlier-corner-turns-in i h = first-least (inward_at ps (ring_corners ps)) (length (ring_corners ps)) i h

-- ---- readings

-- only the points count, from the least on: what begins elsewhere and goes through the same points from there is answered the same
pub same-points-same-corners : (ps qs : List Point) → from_least ps ≡ from_least qs → ring_shape ps ≡ ring_shape qs
same-points-same-corners ps qs e = same_points ps qs e

-- a ring closed by its first point: 2 counts it as before, and it has the same corners
pub closing-point-is-dropped : (p q : Point) (ps : List Point) → closed (λ r. r) (p ∷ q ∷ ps) ≡ false
    → (open_ring ((p ∷ q ∷ ps) ++ (p ∷ [])) ≡ p ∷ q ∷ ps) × (ring_shape ((p ∷ q ∷ ps) ++ (p ∷ [])) ≡ ring_shape (p ∷ q ∷ ps))
closing-point-is-dropped p q ps h = (opened-again p q ps h, closed-is-same p q ps h)

-- a shape's own list is accepted, and answered with itself
pub shape-is-answered-with-itself : (ps : List Point) → IsShape ps → (ring_shape ps ≡ ps) × ((inward_row ps).applies ≡ false)
shape-is-answered-with-itself ps s =
    let own = shape-is-own-ring ps s in (own, shape→quiet ps s.some (subst IsShape (sym own) s))

-- a ring x ∷ v ++ u whose least point x is there once, begun at any other point: it has the same corners; `closed` is false unless
-- it is begun between two equal neighbours
pub beginning-makes-no-difference : (u : List Point) (x : Point) (v : List Point) → All (λ y. Precedes x y) (v ++ u)
    → closed (λ p. p) (u ++ (x ∷ v)) ≡ false → ring_shape (u ++ (x ∷ v)) ≡ ring_shape (x ∷ (v ++ u))
beginning-makes-no-difference u x v least h = begun-anywhere u x v least h

-- a ring without repeats that turns at its least point, read backwards from there: it has the same corners
pub sense-makes-no-difference : (x : Point) (r : List Point) → Apart (λ p. p) x r x → (turn (last_of x r) x (head_of x r) ≡ pos 0 → ⊥)
    → All (λ y. Precedes x y) r → ring_shape (x ∷ reverse r) ≡ ring_shape (x ∷ r)
sense-makes-no-difference x r apart turns least = read-backwards x r apart turns least

-- ---- the answer

-- what is written of a ring that is answered is a valid shape, the shape of the set of its points
pub answered-ring-is-valid : (l out : List ℤ) (f : ℕ) (v : List ℤ) → reply (ask_ring (on l f) out) ≡ answered v
    → Valid (numbers (ring_shape (points l))) × (ring_shape (points l) ≡ shape_of (points l))
answered-ring-is-valid l out f v h =
    let good = answered-passes l out f v h in
    (answered-valid l out f v h, accepted-is-shape-of-points (points l) good.0.some good.1)
