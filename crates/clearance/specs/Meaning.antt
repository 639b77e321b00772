-- What clearance means, in document 02's words (request W3). Each theorem is proved in the theory; here it is only cited.
--     nearest         the least distance of two points, which two have; a candidate, the first on a tie, and the only one that meets this
--                     rule; either shape may be the first
--     candidates      what is in their list
--     rounded         the distance rounded down
--     apart           shapes are not apart exactly if they have a point in common
--     the replies     to two shapes on one floor: exactly the nearest candidate's numbers are answered, and 0 exactly if they are not apart
-- A and B are shapes that are apart; a point of a shape is a mean of its corners (`Mean.antt` of plane).
use Rattle.std.specs.Prelude.{◌≡◌, true, false, ◌↔◌, ℕ, ◌<◌, ℤ, pos, ◌+ℤ◌, ◌*ℤ◌, length, ◌≤ℤ◌, ◌<ℤ◌}
use mathlib.Core.List.{List, [], ◌∷◌, ◌++◌, Memᴰ}
use Rattle.plane.specs.Point.{Point}
use Rattle.plane.specs.Shape.{IsShape}
use Rattle.plane.specs.Separation.{apart}
use Rattle.plane.specs.Mean.{weight, AtMost, Exactly, CommonPoint}
use Rattle.plane.specs.Clearance.{Candidate, top, bottom, candidates, nearest, numbers_of}
use Rattle.plane.specs.Reply.{answered}
use Rattle.plane.specs.Floor.{Floored, corners, Same}
use Rattle.plane.specs.Question.{reply, ask_clearance}
use Rattle.clearance.specs.Order.{AtOrAfter, Listed, FirstOfLeast}
use Rattle.clearance.specs.theory.Candidates.{listed, unlisted}
use Rattle.clearance.specs.theory.Nearest.{nearest-least, nearest-attained, nearest-is-listed, nearest-is-whole, nearest-before-ties}
use Rattle.clearance.specs.theory.Nearest.{nearest-sym, common-not-apart}
use Rattle.clearance.specs.theory.NearestUnique.{nearest-first-least, first-least-nearest}
use Rattle.clearance.specs.theory.Common.{not-apart-common}
use Rattle.clearance.specs.theory.Rounding.{nearest-rounded}
use Rattle.clearance.specs.theory.Replies.{nearest-reply, zero-reply}
use Rattle.clearance.specs.theory.First.{candidate-whole}

module _ (A B : List Point) (s : IsShape A) (t : IsShape B) (h : apart A B ≡ true) where
  -- "the least distance between any point of one shape and any point of the other": none are nearer than the nearest candidate's fraction
  pub no-points-are-nearer : (v w : ℕ → ℕ) → AtMost (top A B (nearest A B)) (bottom A B (nearest A B)) v A w B
  no-points-are-nearer v w = nearest-least A B s t h v w

  -- and two are as near: "under whole-number weights, 0 or more and not all 0"
  pub points-are-so-near : (v : ℕ → ℕ) × (w : ℕ → ℕ) × (pos 0 <ℤ weight v A) × (pos 0 <ℤ weight w B)
      × Exactly (top A B (nearest A B)) (bottom A B (nearest A B)) v A w B
  points-are-so-near = let r = nearest-attained A B s t h in (r.one, r.other, r.one-point, r.other-point, r.exact)

  -- "Either it falls between two corners, .., or at a corner and strictly inside an edge": positions of the shapes, and a corner that falls
  pub nearest-is-candidate : Listed A B (nearest A B)
  nearest-is-candidate = nearest-is-listed A B s t h

  -- what "t·t/q" is divided by is not 0
  pub nearest-is-a-fraction : pos 0 <ℤ bottom A B (nearest A B)
  nearest-is-a-fraction = nearest-is-whole A B s t h

  -- "On a tie two corners go first, ..": every candidate as near is the answer or comes after it in that order (`Earlier`)
  pub nearest-is-first : (c : Candidate) → Listed A B c
      → top A B c *ℤ bottom A B (nearest A B) ≡ top A B (nearest A B) *ℤ bottom A B c → AtOrAfter (nearest A B) c
  nearest-is-first c l e = nearest-before-ties A B s t h c l e

  -- the ticket's rule: no candidate is nearer than the answer, and each that comes before it in the ticket's order is further
  pub nearest-is-first-of-least : FirstOfLeast A B (nearest A B)
  nearest-is-first-of-least = nearest-first-least A B s t h

  -- and the answer is the only candidate that meets the rule
  pub nearest-is-only-one : (c : Candidate) → FirstOfLeast A B c → c ≡ nearest A B
  nearest-is-only-one c f = first-least-nearest A B s t h c f

  -- "one shape", "the other": exchanging the shapes gives the same distance
  pub distance-either-way : top A B (nearest A B) *ℤ bottom B A (nearest B A) ≡ top B A (nearest B A) *ℤ bottom A B (nearest A B)
  distance-either-way = nearest-sym A B s t h

  -- "Add the distance rounded down, bounded as width is": the last number w before the floor has w·w ≤ distance < (w+1)·(w+1), squared
  pub distance-is-rounded-down : (before : List ℤ) × (w : ℕ) × (numbers_of A B (nearest A B) ≡ before ++ (pos w ∷ []))
      × ((pos w *ℤ pos w *ℤ bottom A B (nearest A B)) ≤ℤ top A B (nearest A B))
      × (top A B (nearest A B) <ℤ ((pos w +ℤ pos 1) *ℤ (pos w +ℤ pos 1) *ℤ bottom A B (nearest A B)))
  distance-is-rounded-down =
      let r = nearest-rounded A B s t h in (r.before, r.rounded, r.last, r.bounded.low, r.bounded.high)

-- any lists of corners
module _ (A B : List Point) (c : Candidate) where
  -- `Listed` says what is in the list of candidates
  pub candidate-is-listed : Memᴰ c (candidates A B) → Listed A B c
  candidate-is-listed m = unlisted A B c m

  -- and all of it
  pub listed-is-candidate : Listed A B c → Memᴰ c (candidates A B)
  listed-is-candidate l = listed A B c l

  -- what "t·t/q" is divided by is not 0, whichever the candidate
  pub candidate-is-a-fraction : Listed A B c → pos 0 <ℤ bottom A B c
  candidate-is-a-fraction l = candidate-whole A B c l

-- "Shapes not apart still answer 0": shapes with a point in common are not apart
pub common-point-is-not-apart : (A B : List Point) → 0 < length A → 0 < length B → CommonPoint A B → apart A B ≡ false
common-point-is-not-apart A B a b m = common-not-apart A B a b m

-- and only they: shapes that are not apart have a point in common
pub not-apart-has-common-point : (A B : List Point) → 0 < length A → 0 < length B → apart A B ≡ false → CommonPoint A B
not-apart-has-common-point A B a b h = not-apart-common A B a b h

-- two valid shapes on one floor
module _ (a b : Floored) (s : Same a b) where
  -- a candidate's numbers, and the floor, are answered exactly if the shapes are apart and it meets the ticket's rule
  pub candidate-is-answered-exactly : (c : Candidate)
      → reply (ask_clearance a b) ≡ answered (numbers_of (corners a) (corners b) c ++ (pos a.floor ∷ []))
      ↔ ((apart (corners a) (corners b) ≡ true) × FirstOfLeast (corners a) (corners b) c)
  candidate-is-answered-exactly c = nearest-reply a b s c

  -- "Shapes not apart still answer 0, with no positions": exactly if some point is of both
  pub zero-is-answered-exactly : reply (ask_clearance a b) ≡ answered (pos 0 ∷ pos a.floor ∷ []) ↔ CommonPoint (corners a) (corners b)
  zero-is-answered-exactly = zero-reply a b s
