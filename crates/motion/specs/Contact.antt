-- Where a cart that drives straight, without turning, first meets an obstacle. Our own, not of documents 01 and 02. The cart's place goes
-- from t to u; G is the obstacle grown by the cart's outline, which the place meets where the cart meets the obstacle. A fraction n/d of
-- the way is the place t + n/d·(u - t); nothing is divided: all is taken d times. This is what a reader needs:
--     OnWay f            0 ≤ n ≤ d and 0 < d: a fraction of the way
--     NoLater f g        f is at most g
--     spot t u f         d times the place at f
--     meets t u G f      the place at f is a point of G
--     cart_meets A B t u f     the cart A at that place is not apart from the obstacle B; both are taken d times
--     contact t u G      the first such fraction, in lowest terms: theorems say so. If there is none it says nothing
--     safe t u G         the millimetres of the way up to there, rounded down
--     ask_contact ..      the question: the obstacle b, the cart a, each with its floor, and the two places
--     Told ..            what the numbers of an answer that begins with 1 are
-- How it is found, by walls: lines that have all of G on one side.
--     edge_normal G i     the outer normal of the edge that leaves corner i
--     wall G i           the outward direction of wall i: the four sides of the least upright box about G, then the edges of G
--     wall_count G        how many there are
--     past G e x         how far x is past the wall with direction e, times the length of e: above 0 it is outside
--     entering a b       where a way from a to b comes to 0 from above: at once if a is not above; the end if it never comes
--     last_entry f n      the last of f 0, .., f (n-1); 0/1 if there is none
--     arrival t u G      the last entry of all walls; edge_arrival t u G: of the edges alone
--     lowest f           f in lowest terms
-- What it means: `Meaning.antt`.
use Rattle.std.specs.Prelude.{◌≡◌, Bool, false, not, cond, List, [], ◌∷◌, map, ℕ, zero, suc, ◌+◌, ◌*◌, ℤ, pos, negsuc, nat_abs, ◌-ℤ◌, ◌*ℤ◌}
use Rattle.std.specs.Prelude.{length, ◌≤ℤ◌, ◌<ℤ◌}
use Rattle.std.specs.Int.Signed.{le_z}
use Rattle.plane.specs.Point.{Point, point, corner, ◌⊕◌}
use Rattle.plane.specs.Reply.{Row, row}
use Rattle.plane.specs.Refusal.{some_outside}
use Rattle.plane.specs.Shape.{next}
use Rattle.plane.specs.Direction.{value, support}
use Rattle.plane.specs.Cut.{outward}
use Rattle.plane.specs.Primitive.{primitive}
use Rattle.plane.specs.Output.{size_rows}
use Rattle.plane.specs.Measure.{squared, root_below}
use Rattle.plane.specs.Separation.{inside, apart}
use Rattle.plane.specs.Mean.{times}
use Rattle.plane.specs.Distance.{Fraction, over, no_more}
use Rattle.plane.specs.Floor.{Floored, corners, two_shapes}
use Rattle.plane.specs.Question.{Question, asks}
use Rattle.growth.specs.Grown.{grown, placed, driven}

pub record OnWay (f : Fraction) : Type 0 where
  pub begun : pos 0 ≤ℤ f.numerator
  pub ended : f.numerator ≤ℤ f.denominator
  pub whole : pos 0 <ℤ f.denominator

abbrev pub NoLater : Fraction → Fraction → Type 0
NoLater f g = (f.numerator *ℤ g.denominator) ≤ℤ (g.numerator *ℤ f.denominator)

abbrev pub spot : Point → Point → Fraction → Point
spot t u f = times (f.denominator -ℤ f.numerator) t ⊕ times f.numerator u

unfoldable pub meets : Point → Point → List Point → Fraction → Bool
meets t u G f = inside (spot t u f ∷ []) (map (times f.denominator) G)

unfoldable pub cart_meets : List Point → List Point → Point → Point → Fraction → Bool
cart_meets A B t u f = not (apart (placed (map (times f.denominator) A) (spot t u f)) (map (times f.denominator) B))

-- ---- walls

abbrev pub edge_normal : List Point → ℕ → Point
edge_normal G i = outward (corner G i) (corner G (next (length G) i))

abbrev pub wall : List Point → ℕ → Point
wall G zero = point (pos 1) (pos 0)
wall G (suc zero) = point (negsuc 0) (pos 0)
wall G (suc (suc zero)) = point (pos 0) (pos 1)
wall G (suc (suc (suc zero))) = point (pos 0) (negsuc 0)
wall G (suc (suc (suc (suc i)))) = edge_normal G i

abbrev pub wall_count : List Point → ℕ
wall_count G = 4 + length G

unfoldable pub past : List Point → Point → Point → ℤ
past G e x = value e x -ℤ support e G

unfoldable pub entering : ℤ → ℤ → Fraction
entering a b = cond (le_z a (pos 0)) (over (pos 0) (pos 1)) (cond (le_z b (pos 0)) (over a (a -ℤ b)) (over (pos 1) (pos 1)))

-- the first of two that are equal
abbrev pub later : Fraction → Fraction → Fraction
later f g = cond (no_more g f) f g

abbrev pub last_entry : (ℕ → Fraction) → ℕ → Fraction
last_entry f zero = over (pos 0) (pos 1)
last_entry f (suc n) = later (last_entry f n) (f n)

abbrev pub entry : Point → Point → List Point → ℕ → Fraction
entry t u G i = entering (past G (wall G i) t) (past G (wall G i) u)

unfoldable pub arrival : Point → Point → List Point → Fraction
arrival t u G = last_entry (entry t u G) (wall_count G)

-- the last entry of the edges alone: enough from three corners on
unfoldable pub edge_arrival : Point → Point → List Point → Fraction
edge_arrival t u G = last_entry (λ i. entry t u G (suc (suc (suc (suc i))))) (length G)

unfoldable pub lowest : Fraction → Fraction
lowest f = let p = primitive (point f.numerator f.denominator) in over p.x p.y

abbrev pub contact : Point → Point → List Point → Fraction
contact t u G = lowest (arrival t u G)

-- the root of n·n·|u - t|²/(d·d), rounded down
unfoldable pub safe : Point → Point → List Point → ℕ
safe t u G =
    let c = contact t u G in
    let n = nat_abs c.numerator in
    let d = nat_abs c.denominator in
    root_below (n * n * nat_abs (squared t u)) (d * d)

-- ---- the question

-- 0 never; or 1, the fraction and the safe millimetres
abbrev pub contact_numbers : Point → Point → List Point → List ℤ
contact_numbers t u G =
    let c = contact t u G in
    cond (apart (t ∷ u ∷ []) G) (pos 0 ∷ []) (pos 1 ∷ c.numerator ∷ c.denominator ∷ pos (safe t u G) ∷ [])

-- 3 of a place, as of a list of one corner: the place of departure is the third list of the question, the destination the fourth
abbrev pub place_row : ℕ → Point → Row
place_row which t = row 3 (some_outside (t.x ∷ t.y ∷ [])) (which ∷ [])

-- after 1 to 5 of both shapes and 13: 3 of the places, then 6 and 7 of the grown obstacle
abbrev pub contact_rows : Floored → Floored → Point → Point → List Row
contact_rows b a t u = place_row 3 t ∷ place_row 4 u ∷ size_rows (grown (corners b) (corners a))

abbrev pub ask_contact : Floored → Floored → Point → Point → Question
ask_contact b a t u = asks (two_shapes b a) (contact_rows b a t u) (contact_numbers t u (grown (corners b) (corners a)))

-- the numbers of an answer that begins with 1
pub record Told (b a : Floored) (t u : Point) (n d w f : ℤ) : Type 0 where
  pub met : apart (driven (corners a) t u) (corners b) ≡ false
  pub fraction-is : over n d ≡ contact t u (grown (corners b) (corners a))
  pub safe-is : w ≡ pos (safe t u (grown (corners b) (corners a)))
  pub floor-is : f ≡ pos b.floor
