-- A list of numbers and the corners that it holds, by position.
--     points-length           half as many corners as numbers
--     points-x, points-y      the coordinates of corner i are at 2·i and 2·i + 1
--     Near p, points_near     both coordinates are in range; those of a list in range are
--     points-numbers, numbers-points, numbers-length      there and back; `numbers-append`: two lists joined
--     numbers-in_range         corners in range make numbers in range
use Rattle.std.specs.Prelude.{◌≡◌, refl, List, [], ◌∷◌, ◌++◌, ℕ, zero, suc, ◌+◌, ◌*◌, ◌/◌, ◌%◌, ◌<◌, length, get_or, ℤ, pos}
use Rattle.std.proofs.Common.{sym, ◌∙◌, ap, subst, suc-le-suc, arith, le_of_suc-le-suc}
use Rattle.integer.specs.Bound.{Within}
use Rattle.plane.specs.Limits.{max_coordinate}
use Rattle.plane.specs.Point.{Point, points, numbers, corner}
use Rattle.plane.specs.Refusal.{InRange}

pub points-length : (l : List ℤ) → length (points l) ≡ length l / 2
points-length [] = refl
points-length (a ∷ []) = refl
points-length (a ∷ (b ∷ l)) = let h = points-length l in omega arith

-- the place of a coordinate, two further for each corner
get_d-two : (l : List ℤ) (a b : ℤ) (k i : ℕ) → k ≡ suc (suc i) → get_or (a ∷ b ∷ l) k (pos 0) ≡ get_or l i (pos 0)
get_d-two l a b k i e = ap (λ n. get_or (a ∷ b ∷ l) n (pos 0)) e

pub points-x : (l : List ℤ) (i : ℕ) → i < length (points l) → (corner (points l) i).x ≡ get_or l (2 * i) (pos 0)
points-x [] i h = refl
points-x (a ∷ []) i h = let f : ⊥ = omega arith in absurd f
points-x (a ∷ (b ∷ l)) zero h = refl
points-x (a ∷ (b ∷ l)) (suc i) h = points-x l i (le_of_suc-le-suc h) ∙ sym (get_d-two l a b (2 * suc i) (2 * i) (omega arith))

pub points-y : (l : List ℤ) (i : ℕ) → i < length (points l) → (corner (points l) i).y ≡ get_or l (2 * i + 1) (pos 0)
points-y [] i h = let f : ⊥ = omega arith in absurd f
points-y (a ∷ []) i h = let f : ⊥ = omega arith in absurd f
points-y (a ∷ (b ∷ l)) zero h = refl
points-y (a ∷ (b ∷ l)) (suc i) h = points-y l i (le_of_suc-le-suc h) ∙ sym (get_d-two l a b (2 * suc i + 1) (2 * i + 1) (omega arith))

pub record Near (p : Point) : Type 0 where
  pub near-x : Within max_coordinate p.x
  pub near-y : Within max_coordinate p.y

pub points_near : (l : List ℤ) → InRange l → (i : ℕ) → i < length (points l) → Near (corner (points l) i)
points_near l r i h = record {
  near-x = subst (λ z. Within max_coordinate z) (sym (points-x l i h)) (r.near (2 * i) (omega (arith, points-length l)));
  near-y = subst (λ z. Within max_coordinate z) (sym (points-y l i h)) (r.near (2 * i + 1) (omega (arith, points-length l)));
}

-- ---- there and back

pub points-numbers : (ps : List Point) → points (numbers ps) ≡ ps
points-numbers [] = refl
points-numbers (p ∷ ps) = ap (λ qs. p ∷ qs) (points-numbers ps)

pub numbers-length : (ps : List Point) → length (numbers ps) ≡ 2 * length ps
numbers-length [] = refl
numbers-length (p ∷ ps) = let h = numbers-length ps in omega arith

pub numbers-append : (A B : List Point) → numbers (A ++ B) ≡ numbers A ++ numbers B
numbers-append [] B = refl
numbers-append (p ∷ A) B = ap (λ l. p.x ∷ p.y ∷ l) (numbers-append A B)

pub numbers-points : (l : List ℤ) → length l % 2 ≡ 0 → numbers (points l) ≡ l
numbers-points [] e = refl
numbers-points (a ∷ []) e = let f : ⊥ = omega arith in absurd f
numbers-points (a ∷ (b ∷ l)) e = ap (λ m. a ∷ b ∷ m) (numbers-points l (omega arith))

-- corners in range make numbers in range
pub numbers-in_range : (ps : List Point) → ((k : ℕ) → k < length ps → Near (corner ps k)) → InRange (numbers ps)
numbers-in_range ps f = record { near = go ps f }
  where
    go : (ps : List Point) → ((k : ℕ) → k < length ps → Near (corner ps k)) → (i : ℕ) → i < length (numbers ps)
        → Within max_coordinate (get_or (numbers ps) i (pos 0))
    go [] f i h = absurd (omega arith)
    go (p ∷ ps) f zero h = (f 0 (omega arith)).near-x
    go (p ∷ ps) f (suc zero) h = (f 0 (omega arith)).near-y
    go (p ∷ ps) f (suc (suc i)) h = go ps (λ k b. f (suc k) (suc-le-suc b)) i (omega arith)
