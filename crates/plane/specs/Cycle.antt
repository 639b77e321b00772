-- Positions on the way round n corners (document 01, "the last goes to the first"). The position after one is `next` of `Shape.antt`.
--     round n i            position i, where n, after the last, is the first again
--     corner_round ps i     the corner there
--     turned n t k         the position k places after t, for t and k below n
use Rattle.std.specs.Prelude.{cond, List, ℕ, ◌+◌, ◌-◌, eqb, ltb, length}
use Rattle.plane.specs.Point.{Point, corner}

abbrev pub round : ℕ → ℕ → ℕ
round n i = cond (eqb i n) 0 i

abbrev pub corner_round : List Point → ℕ → Point
corner_round ps i = corner ps (round (length ps) i)

abbrev pub turned : ℕ → ℕ → ℕ → ℕ
turned n t k = cond (ltb (t + k) n) (t + k) (t + k - n)
