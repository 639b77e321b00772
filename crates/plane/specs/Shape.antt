-- What makes a shape (document 01, the paragraph of that name), for a list of corners. Its limits on the count of corners and on
-- coordinates are in `Refusal.antt` (`Valid`): the shape of a set has none.
--     next n e        the position after e on the way round n corners: the last goes to the first
--     breaks ps e c   corner c breaks the left rule at the edge that leaves corner e: it is neither end of it, and not strictly left
--     precedes a b    a has the smaller y, or the same y and the smaller x
--     IsShape ps      ps is a shape: a point, a segment of two different corners, or a polygon that keeps the left rule,
--                     with no corner that precedes the first
use Rattle.std.specs.Prelude.{◌≡◌, Bool, false, not, cond, ◌&&◌, ◌||◌, List, ℕ, ◌+◌, ◌<◌, eqb, length, pos}
use Rattle.std.specs.Int.Signed.{lt_z, le_z}
use Rattle.plane.specs.Point.{Point, corner}
use Rattle.plane.specs.Turn.{turn, Left}

abbrev pub next : ℕ → ℕ → ℕ
next n e = cond (eqb (e + 1) n) 0 (e + 1)

unfoldable pub breaks : List Point → ℕ → ℕ → Bool
breaks ps e c =
    not (eqb c e) && (not (eqb c (next (length ps) e))
    && not (lt_z (pos 0) (turn (corner ps e) (corner ps (next (length ps) e)) (corner ps c))))

unfoldable pub precedes : Point → Point → Bool
precedes a b = lt_z a.y b.y || (le_z a.y b.y && lt_z a.x b.x)

pub record IsShape (ps : List Point) : Type 0 where
  pub some : 0 < length ps
  pub different : length ps ≡ 2 → corner ps 0 ≡ corner ps 1 → ⊥
  pub left : (e c : ℕ) → e < length ps → c < length ps → (c ≡ e → ⊥) → (c ≡ next (length ps) e → ⊥)
      → Left (corner ps e) (corner ps (next (length ps) e)) (corner ps c)
  pub start : (c : ℕ) → c < length ps → precedes (corner ps c) (corner ps 0) ≡ false
