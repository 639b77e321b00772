-- The corners of two lists at the greatest distance, and where they are.
--     step-squared                         the squared distance, by the step between two points
--     squared-le-greatest, members-le      no two corners are further apart
--     Furthest A B i j                     corner i of A and corner j of B are that far apart
--     greatest-furthest                    greatest_first and greatest_second are such a pair
--     first-least, second-least            the smallest first position, then the smallest second; `greatest-least`: both
use Rattle.std.specs.Prelude.{◌≡◌, refl, Bool, true, false, List, ℕ, ◌≤◌, ◌<◌, ltb, ◌≤ℤ◌}
use Rattle.std.proofs.Math.Path.{sym}
use Rattle.std.proofs.Common.{◌∙◌, arith, ltb-true, ltb-false}
use Rattle.std.proofs.Math.ListN.{length}
use Rattle.integer.specs.Order.{le_of_eq, le_trans, le_antisym, le_z-true, le-le_z}
use Rattle.plane.specs.Point.{Point, corner, ◌⊖◌, ◌∈◌}
use Rattle.plane.specs.Search.{some}
use Rattle.plane.specs.Direction.{value}
use Rattle.plane.specs.Measure.{greatest, squared}
use Rattle.plane.proofs.theory.forms.Squared.{squared-sym, squared-value}
use Rattle.plane.proofs.theory.lists.Sought.{first-true, first-at-most, some-here, some-found}
use Rattle.plane.proofs.theory.lists.Greatest.{greatest-above, greatest-attained}
use Rattle.plane.proofs.theory.lists.Members.{member-position}
use Rattle.measure.specs.Comparison.{NotAfter, sooner, level}
use Rattle.reach.specs.Greatest.{greatest_squared, furthest_apart, greatest_first, greatest_second}

pub step-squared : (p q : Point) → value (p ⊖ q) (p ⊖ q) ≡ squared p q
step-squared p q = sym (squared-value q p) ∙ squared-sym q p

pub squared-le-greatest : (A B : List Point) (i j : ℕ) → i < length A → j < length B
    → squared (corner A i) (corner B j) ≤ℤ greatest_squared A B
unfolding greatest_squared
squared-le-greatest A B i j h k = le_trans
    (greatest-above (λ m. squared (corner A i) (corner B m)) (length B) j k)
    (greatest-above (λ l. greatest (λ m. squared (corner A l) (corner B m)) (length B)) (length A) i h)

pub members-le : {A B : List Point} {p q : Point} → p ∈ A → q ∈ B → squared p q ≤ℤ greatest_squared A B
members-le {A} {B} m n =
    let (i, h, e) = member-position m in
    let (j, k, f) = member-position n in
    rw (← e, ← f) (squared-le-greatest A B i j h k)

-- corner i of A and corner j of B are at the greatest distance
pub record Furthest (A B : List Point) (i j : ℕ) : Type 0 where
  pub first-in : i < length A
  pub second-in : j < length B
  pub furthest : squared (corner A i) (corner B j) ≡ greatest_squared A B

module _ (A B : List Point) where
  some-furthest : 0 < length A → 0 < length B → (i j : ℕ) × Furthest A B i j
  unfolding greatest_squared
  some-furthest h k =
      let r = greatest-attained (λ l. greatest (λ m. squared (corner A l) (corner B m)) (length B)) (length A) h in
      let s = greatest-attained (λ m. squared (corner A r.0) (corner B m)) (length B) k in
      (r.0, s.0, record { first-in = r.1; second-in = s.1; furthest = sym (r.2 ∙ s.2) })

  furthest-passes : {i j : ℕ} → Furthest A B i j → furthest_apart A B i j ≡ true
  unfolding furthest_apart
  furthest-passes p = le-le_z (le_of_eq (sym p.furthest))

  passes-furthest : (i j : ℕ) → i < length A → j < length B → furthest_apart A B i j ≡ true → Furthest A B i j
  unfolding furthest_apart
  passes-furthest i j h k e = record {
    first-in = h;
    second-in = k;
    furthest = le_antisym (squared-le-greatest A B i j h k) (le_z-true e);
  }

  -- ---- the first pair

  -- corner i is at the greatest distance of some corner of B
  row : ℕ → Bool
  row i = some (furthest_apart A B i) (length B)

  pub first-least : {i j : ℕ} → Furthest A B i j → greatest_first A B ≤ i
  unfolding greatest_first row
  first-least {i} {j} p =
      first-at-most row (length A) i (some-here (furthest_apart A B i) (length B) j p.second-in (furthest-passes p))

  pub greatest-furthest : 0 < length A → 0 < length B → Furthest A B (greatest_first A B) (greatest_second A B)
  unfolding greatest_first greatest_second row
  greatest-furthest h k =
      let p = some-furthest h k in
      let from : greatest_first A B < length A = omega (arith, first-least p.2, p.2.first-in) in
      let tests = furthest_apart A B (greatest_first A B) in
      let to : greatest_second A B < length B = some-found tests (length B) (first-true row (length A) from) in
      passes-furthest (greatest_first A B) (greatest_second A B) from to (first-true tests (length B) to)

  pub second-least : {l : ℕ} → Furthest A B (greatest_first A B) l → greatest_second A B ≤ l
  unfolding greatest_second
  second-least {l} p = first-at-most (furthest_apart A B (greatest_first A B)) (length B) l (furthest-passes p)

  pub greatest-least : {k l : ℕ} → Furthest A B k l → NotAfter (greatest_first A B) (greatest_second A B) k l
  greatest-least {k} {l} p = go (ltb (greatest_first A B) k) refl
    where
      go : (b : Bool) → ltb (greatest_first A B) k ≡ b → NotAfter (greatest_first A B) (greatest_second A B) k l
      go true q = sooner (ltb-true (greatest_first A B) k q)
      go false q =
          let e : greatest_first A B ≡ k = omega (arith, ltb-false (greatest_first A B) k q, first-least p) in
          level e (second-least (rw e p))
