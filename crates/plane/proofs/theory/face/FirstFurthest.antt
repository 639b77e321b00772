-- The greatest of a row of values, at its smallest position: what a walk over them has found so far, and what `furthest` is.
--     Greatest f i at z      of f's values below i, z is the greatest, and `at` the smallest position that has it
--     furthest-greatest      the furthest corner of a list is such a position
use Rattle.std.specs.Prelude.{◌≡◌, Bool, List, ℕ, ◌<◌, ℤ, length, ◌≤ℤ◌, ◌<ℤ◌}
use Rattle.std.proofs.Common.{sym, ◌∙◌, ap, arith}
use Rattle.integer.specs.Order.{le_of_eq, le_antisym, le-le_z, le_z-true, le_z-false}
use Rattle.plane.specs.Point.{Point, corner}
use Rattle.plane.specs.Direction.{value, support, furthest}
use Rattle.plane.specs.Face.{is_furthest}
use Rattle.plane.proofs.theory.lists.Members.{position-member, member-position}
use Rattle.plane.proofs.theory.lists.Sought.{first-true, first-least, first-at-most}
use Rattle.plane.proofs.theory.support.Support.{value-le-support, support-attained}

pub record Greatest (f : ℕ → ℤ) (i at : ℕ) (z : ℤ) : Type 0 where
  pub within : at < i
  pub has : z ≡ f at
  pub highest : (k : ℕ) → k < i → f k ≤ℤ z
  pub earliest : (k : ℕ) → k < at → f k <ℤ z

pub furthest-greatest : (d : Point) (ps : List Point) → 0 < length ps
    → Greatest (λ k. value d (corner ps k)) (length ps) (furthest d ps) (support d ps)
unfolding furthest
furthest-greatest d ps some = record {
  within = found;
  has = le_antisym (le_z-true (first-true passes (length ps) found)) (below (furthest d ps) found);
  highest = below;
  earliest = λ k h. le_z-false (first-least passes (length ps) k h);
}
  where
    passes : ℕ → Bool
    passes = is_furthest d ps

    below : (k : ℕ) → k < length ps → value d (corner ps k) ≤ℤ support d ps
    below k h = value-le-support d (position-member ps k h)

    found : furthest d ps < length ps
    found = let top = support-attained d ps some in
        let at = member-position top.at_in in
        let has : value d (corner ps at.0) ≡ support d ps = ap (value d) at.2 ∙ top.at_value in
        omega (arith, first-at-most passes (length ps) at.0 (le-le_z (le_of_eq (sym has))), at.1)
