-- The turn of three points (document 01, "What makes a shape", third rule).
--     cross e f     the cross product of two vectors
--     turn a b c    positive if c lies to the left of the edge a to b, 0 on its line, negative to its right
--     Left a b c    c lies strictly to the left
-- What it means: `turn-cycle` (any edge of the triangle may be taken), `turn-swap` (an edge read backwards).
use Rattle.std.specs.Prelude.{◌≡◌, refl, [], ◌∷◌, ℤ, pos, neg_ℤ, ◌-ℤ◌, ◌*ℤ◌, ◌<ℤ◌}
use Rattle.integer.specs.Ring.{ring, reify}
use Rattle.plane.specs.Point.{Point, ◌⊖◌}

unfoldable pub cross : Point → Point → ℤ
cross e f = e.x *ℤ f.y -ℤ e.y *ℤ f.x

-- (bx-ax)(cy-ay) - (by-ay)(cx-ax)
unfoldable pub turn : Point → Point → Point → ℤ
turn a b c = (b.x -ℤ a.x) *ℤ (c.y -ℤ a.y) -ℤ (b.y -ℤ a.y) *ℤ (c.x -ℤ a.x)

abbrev pub Left : Point → Point → Point → Type 0
Left a b c = pos 0 <ℤ turn a b c

-- ---- meaning

pub turn-cross : (a b c : Point) → turn a b c ≡ cross (b ⊖ a) (c ⊖ a)
unfolding turn cross
turn-cross a b c = refl

pub turn-cycle : (a b c : Point) → turn a b c ≡ turn b c a
unfolding turn
turn-cycle a b c = ring (a.x ∷ a.y ∷ b.x ∷ b.y ∷ c.x ∷ c.y ∷ []) (search reify depth 40) tt

pub turn-swap : (a b c : Point) → turn b a c ≡ neg_ℤ (turn a b c)
unfolding turn
turn-swap a b c = ring (a.x ∷ a.y ∷ b.x ∷ b.y ∷ c.x ∷ c.y ∷ []) (search reify depth 40) tt
