-- Directions (document 01, "Furthest corner"): a direction (u, v) is a point; any whole numbers will do.
--     value d p        u·x + v·y
--     greater a b          the greater of two numbers
--     support d ps     the greatest value of d over ps; 0 on []
--     furthest d ps    the smallest position at which it is had
--     SameWay e f      e and f point the same way: some positive multiples of the two are equal. Our own, for W12
use Rattle.std.specs.Prelude.{◌≡◌, true, false, List, [], ◌∷◌, ℕ, ℤ, pos, ◌+ℤ◌, ◌*ℤ◌, length, ◌<ℤ◌}
use Rattle.std.specs.Int.Signed.{le_z}
use Rattle.plane.specs.Point.{Point, corner}
use Rattle.plane.specs.Search.{first}

unfoldable pub value : Point → Point → ℤ
value d p = d.x *ℤ p.x +ℤ d.y *ℤ p.y

unfoldable pub greater : ℤ → ℤ → ℤ
greater a b = elim (le_z a b) [ true ↦ b | false ↦ a ]

unfoldable pub support : Point → List Point → ℤ
support d [] = pos 0
support d (p ∷ []) = value d p
support d (p ∷ (q ∷ ps)) = greater (value d p) (support d (q ∷ ps))

unfoldable pub furthest : Point → List Point → ℕ
furthest d ps = first (λ i. le_z (support d ps) (value d (corner ps i))) (length ps)

-- e and f point the same way: m·e ≡ n·f
pub record SameWay (e f : Point) : Type 0 where
  pub m : ℤ
  pub n : ℤ
  pub m-above : pos 0 <ℤ m
  pub n-above : pos 0 <ℤ n
  pub along-x : m *ℤ e.x ≡ n *ℤ f.x
  pub along-y : m *ℤ e.y ≡ n *ℤ f.y
