-- Length: the corners of a list at the greatest distance, and where they are.
--     longest-strict       of all differences the one of the greatest distance is strictly furthest in its own direction
--     squared-le-length    no two corners are further apart than length_squared
--     Longest ps i j       corners i ≤ j are that far apart
--     NotAfter i j k l     the pair (i, j) is no later than (k, l): smaller i, or the same i and no greater j; `-trans`, `-antisym`
--     length-longest, length-least             length_from and length_to are the first such pair
--     length-from-least, length-to-least       the smallest i, then the smallest j; `length-point`: of one corner
use Rattle.std.specs.Prelude.{◌≡◌, Bool, ◌&&◌, List, [], ◌∷◌, ◌⊎◌, ℕ, ◌≤◌, ◌<◌, ltb, pos, ◌+ℤ◌, ◌-ℤ◌, ◌≤ℤ◌, ◌<ℤ◌}
use Rattle.std.proofs.Math.Path.{refl}
use Rattle.std.proofs.Common.{sym, ◌∙◌, inl, inr, arith}
use Rattle.std.proofs.Math.Bool.{true, false}
use Rattle.std.proofs.lemmas.Bool.{false≢true}
use borrow.Author.Tests.{ltb-true, ltb-false, leb-true, leb-false, le-leb}
use Rattle.std.proofs.Math.Dec.{leb}
use Rattle.std.proofs.Math.ListN.{length}
use Rattle.std.specs.Int.Signed.{le_z}
use Rattle.integer.specs.Ring.{ring, reify}
use Rattle.integer.specs.Linear.{lia, linear, ◌&◌}
use Rattle.integer.specs.Order.{le_of_eq, le_trans, le_antisym, le_z-true, le-le_z}
use Rattle.plane.specs.Point.{Point, corner, ◌⊖◌}
use Rattle.plane.specs.Search.{some}
use Rattle.plane.specs.Direction.{value}
use Rattle.plane.specs.Measure.{greatest, squared, length_squared, furthest_pair, length_from, length_to}
use Rattle.plane.proofs.theory.lists.Sought.{first-true, first-at-most, some-here, some-found}
use Rattle.plane.proofs.theory.lists.Greatest.{greatest-above, greatest-attained}
use Rattle.plane.proofs.theory.forms.Squared.{squared-sym, squared-positive}
use Rattle.measure.specs.Comparison.{NotAfter, sooner, level}

-- ---- the longest difference

-- 2·(z·z) - 2·(z·w) = |z|² - |w|² + |z - w|², for z = p - q and w = r - s
shortfall : (p q r s : Point) → value (p ⊖ q) (p ⊖ q) -ℤ value (p ⊖ q) (r ⊖ s) +ℤ (value (p ⊖ q) (p ⊖ q) -ℤ value (p ⊖ q) (r ⊖ s))
    ≡ squared p q -ℤ squared r s +ℤ squared (p ⊖ q) (r ⊖ s)
unfolding squared value
shortfall p q r s = ring (p.x ∷ p.y ∷ q.x ∷ q.y ∷ r.x ∷ r.y ∷ s.x ∷ s.y ∷ []) (search reify depth 40) tt

pub longest-strict : (p q r s : Point) → squared r s ≤ℤ squared p q → (r ⊖ s ≡ p ⊖ q → ⊥)
    → value (p ⊖ q) (r ⊖ s) <ℤ value (p ⊖ q) (p ⊖ q)
longest-strict p q r s h other =
    let z = p ⊖ q in
    let w = r ⊖ s in
    lia (value z z ∷ value z w ∷ squared p q ∷ squared r s ∷ squared z w ∷ [])
    (h & shortfall p q r s & squared-positive z w (λ e. other (sym e))) (search linear depth 40) (omega arith)

-- ---- positions at the greatest distance

pub squared-le-length : (ps : List Point) (i j : ℕ) → i < length ps → j < length ps
    → squared (corner ps i) (corner ps j) ≤ℤ length_squared ps
unfolding length_squared
squared-le-length ps i j h k = le_trans
    (greatest-above (λ m. squared (corner ps i) (corner ps m)) (length ps) j k)
    (greatest-above (λ l. greatest (λ m. squared (corner ps l) (corner ps m)) (length ps)) (length ps) i h)

-- corners i ≤ j are at the greatest distance
pub record Longest (ps : List Point) (i j : ℕ) : Type 0 where
  pub ordered : i ≤ j
  pub within : j < length ps
  pub longest : squared (corner ps i) (corner ps j) ≡ length_squared ps

pub not_after-trans : {i j k l m n : ℕ} → NotAfter i j k l → NotAfter k l m n → NotAfter i j m n
not_after-trans (sooner a) (sooner b) = sooner (omega arith)
not_after-trans (sooner a) (level b c) = sooner (omega arith)
not_after-trans (level a b) (sooner c) = sooner (omega arith)
not_after-trans (level a b) (level c d) = level (omega arith) (omega arith)

pub not_after-antisym : {i j k l : ℕ} → NotAfter i j k l → NotAfter k l i j → (i ≡ k) × (j ≡ l)
not_after-antisym (sooner a) (sooner b) = absurd (omega arith)
not_after-antisym (sooner a) (level b c) = absurd (omega arith)
not_after-antisym (level a b) (sooner c) = absurd (omega arith)
not_after-antisym (level a b) (level c d) = (a, omega arith)

module _ (ps : List Point) where
  longest-pair : (i j : ℕ) → i < length ps → j < length ps → squared (corner ps i) (corner ps j) ≡ length_squared ps
      → Longest ps i j ⊎ Longest ps j i
  longest-pair i j h k e = go (leb i j) refl
    where
      go : (b : Bool) → leb i j ≡ b → Longest ps i j ⊎ Longest ps j i
      go true q = inl (record { ordered = leb-true i j q; within = k; longest = e })
      go false q = let l = leb-false i j q in
          inr (record { ordered = omega arith; within = h; longest = squared-sym (corner ps j) (corner ps i) ∙ e })

  some-longest : 0 < length ps → (i j : ℕ) × Longest ps i j
  unfolding length_squared
  some-longest h =
      let r = greatest-attained (λ l. greatest (λ m. squared (corner ps l) (corner ps m)) (length ps)) (length ps) h in
      let s = greatest-attained (λ m. squared (corner ps r.0) (corner ps m)) (length ps) h in
      go (longest-pair r.0 s.0 r.1 s.1 (sym (r.2 ∙ s.2)))
    where
      go : {i j : ℕ} → Longest ps i j ⊎ Longest ps j i → (i j : ℕ) × Longest ps i j
      go (inl p) = (_, _, p)
      go (inr p) = (_, _, p)

  longest-passes : {i j : ℕ} → Longest ps i j → furthest_pair ps i j ≡ true
  unfolding furthest_pair
  longest-passes {i} {j} p = rw (le-leb i j p.ordered, le-le_z (le_of_eq (sym p.longest)))

  passes-longest : (i j : ℕ) → j < length ps → furthest_pair ps i j ≡ true → Longest ps i j
  unfolding furthest_pair
  passes-longest i j h e = go (leb i j) refl (le_z (length_squared ps) (squared (corner ps i) (corner ps j))) refl e
    where
      go : (a : Bool) → leb i j ≡ a → (b : Bool) → le_z (length_squared ps) (squared (corner ps i) (corner ps j)) ≡ b
          → (a && b) ≡ true → Longest ps i j
      go true p true q r = let k = leb-true i j p in record {
        ordered = k;
        within = h;
        longest = le_antisym (squared-le-length ps i j (omega arith) h) (le_z-true q);
      }
      go true p false q r = absurd (false≢true r)
      go false p b q r = absurd (false≢true r)

  -- ---- the first pair

  -- some pair that starts at i is at the greatest distance
  row : ℕ → Bool
  row i = some (furthest_pair ps i) (length ps)

  longest-row : {i j : ℕ} → Longest ps i j → row i ≡ true
  unfolding row
  longest-row {i} {j} p = some-here (furthest_pair ps i) (length ps) j p.within (longest-passes p)

  pub length-from-least : {i j : ℕ} → Longest ps i j → length_from ps ≤ i
  unfolding length_from row
  length-from-least {i} p = first-at-most row (length ps) i (longest-row p)

  pub length-longest : 0 < length ps → Longest ps (length_from ps) (length_to ps)
  unfolding length_from length_to row
  length-longest h =
      let p = some-longest h in
      let found : length_from ps < length ps = omega (arith, length-from-least p.2, p.2.ordered, p.2.within) in
      let ends : length_to ps < length ps = some-found (furthest_pair ps (length_from ps)) (length ps) (first-true row (length ps) found) in
      passes-longest (length_from ps) (length_to ps) ends (first-true (furthest_pair ps (length_from ps)) (length ps) ends)

  pub length-to-least : {l : ℕ} → Longest ps (length_from ps) l → length_to ps ≤ l
  unfolding length_to
  length-to-least {l} p = first-at-most (furthest_pair ps (length_from ps)) (length ps) l (longest-passes p)

  pub length-least : {k l : ℕ} → Longest ps k l → NotAfter (length_from ps) (length_to ps) k l
  length-least {k} {l} p = go (ltb (length_from ps) k) refl
    where
      go : (b : Bool) → ltb (length_from ps) k ≡ b → NotAfter (length_from ps) (length_to ps) k l
      go true q = sooner (ltb-true (length_from ps) k q)
      go false q =
          let e : length_from ps ≡ k = omega (arith, ltb-false (length_from ps) k q, length-from-least p) in
          level e (length-to-least (rw e p))

pub length-point : (p : Point) → (length_squared (p ∷ []) ≡ pos 0) × (length_from (p ∷ []) ≡ 0) × (length_to (p ∷ []) ≡ 0)
unfolding length_squared squared
length-point p =
    let only = length-longest (p ∷ []) (omega arith) in
    let from : length_from (p ∷ []) ≡ 0 = omega (arith, only.ordered, only.within) in
    let to : length_to (p ∷ []) ≡ 0 = omega (arith, only.within) in
    (ring (p.x ∷ p.y ∷ []) (search reify depth 40) tt, from, to)
