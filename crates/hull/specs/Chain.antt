-- The two chains of two shapes together. Our own, not of document 01. A shape's right-hand chain runs up from its first corner to its
-- last by y, then by x (its peak), its left-hand chain from there down to the first corner again.
--     ordering_of z        the order of a sign: below 0 what comes first, 0 what is equal
--     home ps t            where the chain down ends on the way round: after the last corner, and for a point at its one corner
--     is_right s t p        p lies strictly to the right of the line from s to t
--     row_first, row_end, taken      of the corners from one end of a chain to the other, those that may be on the chain from s to t: an
--                          end only if it lies to the right
--     right_rows, left_rows      those of two shapes, for the chain up from s to t and the chain down from t to s
--     Spread A a B b s t   s is the least corner of two shapes, t is the greatest, and they differ
use Rattle.std.specs.Prelude.{◌≡◌, Bool, true, false, cond, List, ◌++◌, ℕ, zero, suc, ◌+◌, ◌-◌, eqb, ℤ, pos, negsuc, length}
use Rattle.std.specs.declared.cmp.Ordering.{Ordering}
use Rattle.std.specs.declared.cmp.Ordering.TheVariants.{Less, Equal, Greater}
use Rattle.std.specs.Int.Signed.{lt_z}
use Rattle.plane.specs.Point.{Point, corner}
use Rattle.plane.specs.Turn.{turn}
use Rattle.plane.specs.Shape.{precedes}
use Rattle.polygon.specs.Peak.{Peak}
use Rattle.sorting.specs.Order.{foremost, closed, run}

-- a sign, as code has it
abbrev pub ordering_of : ℤ → Ordering
ordering_of (negsuc n) = Less
ordering_of (pos zero) = Equal
ordering_of (pos (suc n)) = Greater

abbrev pub home : List Point → ℕ → ℕ
home ps t = cond (eqb t 0) 0 (length ps)

unfoldable pub is_right : Point → Point → Point → Bool
is_right s t p = lt_z (turn s t p) (pos 0)

-- 1 for true
abbrev pub one : Bool → ℕ
one b = cond b 1 0

abbrev pub row_first : List Point → ℕ → Point → Point → ℕ
row_first P low s t = low + (1 - one (is_right s t (corner P low)))

abbrev pub row_end : List Point → ℕ → Point → Point → ℕ
row_end P high s t = high + one (is_right s t (corner P high))

-- those corners, of a way round
abbrev pub taken : List Point → ℕ → ℕ → Point → Point → List Point
taken P low high s t = run P (row_first P low s t) (row_end P high s t - row_first P low s t)

abbrev pub right_rows : List Point → ℕ → List Point → ℕ → Point → Point → List Point
right_rows A a B b s t = taken (closed A) 0 a s t ++ taken (closed B) 0 b s t

abbrev pub left_rows : List Point → ℕ → List Point → ℕ → Point → Point → List Point
left_rows A a B b s t = taken (closed A) a (home A a) t s ++ taken (closed B) b (home B b) t s

pub record Spread (A : List Point) (a : ℕ) (B : List Point) (b : ℕ) (s t : Point) : Type 0 where
  pub start : s ≡ foremost true (corner A 0) (corner B 0)
  pub end : t ≡ foremost false (corner A a) (corner B b)
  pub apart : precedes s t ≡ true
  pub first-peak : Peak A a
  pub second-peak : Peak B b
