-- Points of the floor, and the lists of numbers that stand for them (document 01, "What makes a shape": "x, y, x, y").
--     Point         two whole numbers, in millimetres; a vector and a direction are points as well
--     points l      the corners that a list of numbers holds, in its order; an odd last number is left out
--     numbers ps    the list of numbers that holds these corners
--     corner ps i   the corner at position i, counted from 0; the origin past the end
--     same_point p q   p and q are the same point: eq_z of both coordinates
--     p ∈ ps, A ⊆ B   p is in ps; every point of A is in B
use Rattle.std.specs.Prelude.{Bool, false, ◌&&◌, ℕ, eqb, get_or, ℤ, pos, negsuc, neg_ℤ, ◌+ℤ◌, ◌-ℤ◌}
use mathlib.Core.List.{List, [], ◌∷◌, Memᴰ}

pub record Point : Type 0 where
  pub x : ℤ
  pub y : ℤ

abbrev pub point : ℤ → ℤ → Point
point a b = record { x = a; y = b }

abbrev pub origin : Point
origin = point (pos 0) (pos 0)

-- corner by corner: a + b, a - b, and -a
abbrev pub ◌⊕◌ : Point → Point → Point
a ⊕ b = point (a.x +ℤ b.x) (a.y +ℤ b.y)

abbrev pub ◌⊖◌ : Point → Point → Point
a ⊖ b = point (a.x -ℤ b.x) (a.y -ℤ b.y)

abbrev pub opposite : Point → Point
opposite a = point (neg_ℤ a.x) (neg_ℤ a.y)

infixl 60 ◌⊕◌ ◌⊖◌
abbrev pub points : List ℤ → List Point
points [] = []
points (a ∷ []) = []
points (a ∷ (b ∷ l)) = point a b ∷ points l

abbrev pub numbers : List Point → List ℤ
numbers [] = []
numbers (p ∷ ps) = p.x ∷ p.y ∷ numbers ps

abbrev pub corner : List Point → ℕ → Point
corner ps i = get_or ps i origin

-- two numbers are equal: the kit has this test for ℕ
abbrev pub eq_z : ℤ → ℤ → Bool
eq_z (pos m) (pos n) = eqb m n
eq_z (pos m) (negsuc n) = false
eq_z (negsuc m) (pos n) = false
eq_z (negsuc m) (negsuc n) = eqb m n

unfoldable pub same_point : Point → Point → Bool
same_point p q = eq_z p.x q.x && eq_z p.y q.y

-- a proof of p ∈ ps is a place of p in ps
infix 50 ◌∈◌ ◌⊆◌
abbrev pub ◌∈◌ : Point → List Point → Type 0
p ∈ ps = Memᴰ p ps

abbrev pub ◌⊆◌ : List Point → List Point → Type 0
A ⊆ B = (p : Point) → p ∈ A → p ∈ B
