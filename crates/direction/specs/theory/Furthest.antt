-- A walk that keeps the greatest value so far and its smallest position (`Greatest`), and what it has found at the end.
--     greatest-start, greatest-keep, greatest-rise      the moves of the walk
--     greatest-support, greatest-furthest               past the last corner: the greatest value, and its position
use Rattle.std.specs.Prelude.{◌≡◌, List, [], ◌∷◌, ℕ, ◌+◌, ◌<◌, ℤ, ◌≤ℤ◌, ◌<ℤ◌}
use Rattle.std.proofs.Math.Path.{sym}
use Rattle.std.proofs.Common.{◌∙◌, ap, subst, arith, below_more}
use Rattle.std.proofs.Math.ListN.{length}
use Rattle.integer.specs.Linear.{lia, linear, ◌&◌}
use Rattle.integer.specs.Order.{weaken, le_of_eq, le-le_z, lt-le_z}
use Rattle.plane.specs.Point.{Point, corner}
use Rattle.plane.specs.Direction.{value, support, furthest}
use Rattle.plane.specs.Face.{is_furthest}
use Rattle.plane.proofs.theory.lists.Members.{position-member, member-position}
use Rattle.plane.proofs.theory.lists.Sought.{first-unique}
use Rattle.plane.proofs.theory.support.Support.{support-unique}
use Rattle.plane.proofs.theory.face.FirstFurthest.{Greatest}

-- ---- the moves

module _ (f : ℕ → ℤ) where
  pub greatest-start : (z : ℤ) → z ≡ f 0 → Greatest f 1 0 z
  greatest-start z e = record {
    within = omega arith;
    has = e;
    highest = λ k h. le_of_eq (ap f (omega arith) ∙ sym e);
    earliest = λ k h. absurd (omega arith);
  }

  pub greatest-keep : {i at at' : ℕ} {z z' : ℤ} → Greatest f i at z → f i ≤ℤ z → at' ≡ at → z' ≡ z → Greatest f (i + 1) at' z'
  greatest-keep {i} {at} {at'} {z} {z'} g h p q = record {
    within = omega (arith, g.within);
    has = q ∙ g.has ∙ ap f (sym p);
    highest = below_more (λ k. f k ≤ℤ z') i (λ k b. rw q (g.highest k b)) (rw q h);
    earliest = λ k b. rw q (g.earliest k (omega arith));
  }

  pub greatest-rise : {i at at' : ℕ} {z z' : ℤ} → Greatest f i at z → z <ℤ f i → at' ≡ i → z' ≡ f i → Greatest f (i + 1) at' z'
  greatest-rise {i} {at} {at'} {z} {z'} g h p q = record {
    within = omega arith;
    has = q ∙ ap f (sym p);
    highest = below_more (λ k. f k ≤ℤ z') i (λ k b. weaken (above k b)) (le_of_eq (sym q));
    earliest = λ k b. above k (omega arith);
  }
    where
      above : (k : ℕ) → k < i → f k <ℤ z'
      above k b = rw q (lia (f k ∷ z ∷ f i ∷ []) (g.highest k b & h) (search linear depth 40) (omega arith))

-- ---- the end

module _ (d : Point) (ps : List Point) {i at : ℕ} {z : ℤ} (g : Greatest (λ k. value d (corner ps k)) i at z) (end : i ≡ length ps) where
  pub greatest-support : z ≡ support d ps
  greatest-support =
      let here : at < length ps = omega (arith, g.within) in
      g.has ∙ sym (support-unique d (position-member ps at here) (λ q m. below q (member-position m)))
    where
      below : (q : Point) → (k : ℕ) × (k < length ps) × (corner ps k ≡ q) → value d q ≤ℤ value d (corner ps at)
      below q k = rw (← k.2, ← g.has) (g.highest k.0 (omega (arith, k.1)))

  pub greatest-furthest : at ≡ furthest d ps
  unfolding furthest
  greatest-furthest =
      let here : at < length ps = omega (arith, g.within) in
      sym (first-unique (is_furthest d ps) (length ps) at (omega arith)
      (λ h. le-le_z (le_of_eq (sym greatest-support ∙ g.has)))
      (λ k h. lt-le_z (subst (λ s. value d (corner ps k) <ℤ s) greatest-support (g.earliest k h))))
