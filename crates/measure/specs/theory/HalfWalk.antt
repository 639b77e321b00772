-- The half walk of a shape: where it is, and what it comes to.
--     antipodal-start, -step    it begins at antipodal corners, and each step leads to such
--     half_step                 a step by `goes_right`
--     antipodal-ahead           no step goes beyond antipodal corners, so the walk comes to all of them
use Rattle.std.specs.Prelude.{◌≡◌, refl, Bool, true, false, not, cond, List, [], ◌∷◌, ℕ, ◌+◌, ◌≤◌, ◌<◌, eqb, ltb, pos, length, ◌≤ℤ◌, ◌<ℤ◌}
use Rattle.std.proofs.Common.{sym, ◌∙◌, arith, below_more, eqb-true, ltb-true, ltb-false}
use Rattle.std.proofs.lemmas.Bool.{eqb-false}
use Rattle.std.specs.Int.Signed.{lt_z, clash_ℤ}
use Rattle.integer.specs.Linear.{lia, linear, ◌&◌}
use Rattle.integer.specs.Order.{weaken, lt_z-true, lt_z-false}
use Rattle.plane.specs.Point.{Point, corner}
use Rattle.plane.specs.Turn.{cross}
use Rattle.plane.specs.Shape.{IsShape}
use Rattle.plane.specs.Forms.{edges}
use Rattle.plane.proofs.theory.forms.Vector.{cross-swap, cross-opposite, cross-turned}
use Rattle.plane.proofs.theory.forms.HalfPlane.{cross-trans-weak}
use Rattle.calipers.specs.Side.{onward}
use Rattle.calipers.specs.theory.Sides.{onward-inner}
use Rattle.measure.specs.Half.{Chains, Antipodal, goes_right, HalfStep, right, left}
use Rattle.measure.specs.theory.Chains.{chains-in, up_right, up_left, chain-turns, cross-facing, back_above}

-- ---- the beginning, and a step

module _ {A : List Point} {t : ℕ} (h : Chains A t) where
  pub antipodal-start : Antipodal A t 0 t
  antipodal-start = record {
    right-in = omega arith;
    left-from = omega arith;
    left_in = chains-in h;
    right-passed = λ k l m. absurd (omega arith);
    left_passed = λ k l m n. absurd (omega arith);
  }

-- the two sides step by `goes_right`: one edge on, unless it says to wait
pub half_step : {A : List Point} {t i m : ℕ} {w : Bool} → t ≤ length (edges A) → i ≤ t → m ≤ length (edges A) → i + m < t + length (edges A)
    → w ≡ goes_right t (length (edges A)) i m (cross (corner (edges A) i) (corner (edges A) m))
    → HalfStep A t i m (cond (not w) i (onward A i)) (cond w m (onward A m))
half_step {A} {t} {i} {m} {w} top a b on e =
    go (eqb i t) refl (eqb m n) refl (lt_z (cross (corner (edges A) i) (corner (edges A) m)) (pos 0)) refl e
  where
    n : ℕ
    n = length (edges A)

    go : (p : Bool) → eqb i t ≡ p → (q : Bool) → eqb m n ≡ q
        → (r : Bool) → lt_z (cross (corner (edges A) i) (corner (edges A) m)) (pos 0) ≡ r → w ≡ cond p false (cond q true r)
        → HalfStep A t i m (cond (not w) i (onward A i)) (cond w m (onward A m))
    go true p q f r g h = let same = eqb-true i t p in let l : m < n = omega arith in
        rw (h, onward-inner A m l) (left l (λ k. absurd (omega arith)))
    go false p true q r g h = let l : i < t = omega (arith, eqb-false i t p) in let end = eqb-true m n q in
        rw (h, onward-inner A i (omega arith)) (right l (λ k. absurd (omega arith)))
    go false p false q true g h = let l : i < t = omega (arith, eqb-false i t p) in
        rw (h, onward-inner A i (omega arith)) (right l (λ k. lt_z-true g))
    go false p false q false g h = let l : m < n = omega (arith, eqb-false m n q) in
        rw (h, onward-inner A m l) (left l (λ k. lt_z-false g))

-- ---- each place is antipodal

module _ {A : List Point} {t : ℕ} (s : IsShape A) (h : Chains A t) where
  -- one edge on
  right-on : (i k : ℕ) → i + 1 < t → t ≤ k → k < length (edges A) → pos 0 ≤ℤ cross (corner (edges A) i) (corner (edges A) k)
      → pos 0 <ℤ cross (corner (edges A) (i + 1)) (corner (edges A) k)
  right-on i k a b c e = let a' : i < t = omega arith in
      rw cross-turned at (cross-trans-weak (up_left h s k b c) (up_right h i a') (up_right h (i + 1) a) (rw cross-turned e)
      (chain-turns s i (i + 1) (omega arith) (omega (arith, chains-in h)) (h.rises i a' ∙ sym (h.rises (i + 1) a))))

  left-on : (m k : ℕ) → t ≤ m → m + 1 < length (edges A) → k < t → pos 0 ≤ℤ cross (corner (edges A) m) (corner (edges A) k)
      → pos 0 <ℤ cross (corner (edges A) (m + 1)) (corner (edges A) k)
  left-on m k a b c e = let b' : t ≤ m + 1 = omega arith in
      rw cross-facing at (cross-trans-weak (up_right h k c) (up_left h s m a (omega arith)) (up_left h s (m + 1) b' b) (rw cross-facing e)
      (rw cross-opposite (chain-turns s m (m + 1) (omega arith) b (h.falls m a (omega arith) ∙ sym (h.falls (m + 1) b' b)))))

  pub antipodal-step : {i m k l : ℕ} → Antipodal A t i m → HalfStep A t i m k l → Antipodal A t k l
  antipodal-step {i} {m} z (right g c) = record {
    right-in = omega arith;
    left-from = z.left-from;
    left_in = z.left_in;
    right-passed = λ k l n. below_more (λ k. pos 0 <ℤ cross (corner (edges A) m) (corner (edges A) k)) i (λ k l. z.right-passed k l n)
        (back_above (corner (edges A) i) (corner (edges A) m) (c n)) k l;
    left_passed = λ k l n f. weaken (right-on i k f l (omega (arith, z.left_in)) (z.left_passed k l n g));
  }
  antipodal-step {i} {m} z (left g c) = record {
    right-in = z.right-in;
    left-from = omega (arith, z.left-from);
    left_in = omega arith;
    right-passed = λ k l n. left-on m k z.left-from n (omega (arith, z.right-in)) (weaken (z.right-passed k l g));
    left_passed = λ k l n f. passed f k n l;
  }
    where
      passed : i < t → (k : ℕ) → k < m + 1 → t ≤ k → pos 0 ≤ℤ cross (corner (edges A) i) (corner (edges A) k)
      passed f = below_more (λ k. t ≤ k → pos 0 ≤ℤ cross (corner (edges A) i) (corner (edges A) k)) m (λ k l n. z.left_passed k n l f)
          (λ n. c f)

-- ---- it comes to all antipodal corners

module _ {A : List Point} {t a b : ℕ} (z : Antipodal A t a b) where
  -- a chain that stays at its corner of the pair would wait for the other
  pub antipodal-ahead : {i m k l : ℕ} → HalfStep A t i m k l → t ≤ m → i ≤ a → m ≤ b → i + m < a + b → (k ≤ a) × (l ≤ b)
  antipodal-ahead {i} {m} (right g c) f x y on = (go (ltb i a) refl, y)
    where
      go : (p : Bool) → ltb i a ≡ p → i + 1 ≤ a
      go true e = omega (arith, ltb-true i a e)
      go false e =
          let same : i ≡ a = omega (arith, ltb-false i a e) in
          let inside : m < length (edges A) = omega (arith, z.left_in) in
          absurd (clash_ℤ (c inside) (rw same (z.left_passed m f (omega arith) (omega arith))))
  antipodal-ahead {i} {m} (left g c) f x y on = (x, go (ltb m b) refl)
    where
      go : (p : Bool) → ltb m b ≡ p → m + 1 ≤ b
      go true e = omega (arith, ltb-true m b e)
      go false e =
          let same : m ≡ b = omega (arith, ltb-false m b e) in
          let back : pos 0 <ℤ cross (corner (edges A) m) (corner (edges A) i) = rw same (z.right-passed i (omega arith) (omega arith)) in
          let inside : i < t = omega (arith, z.right-in) in
          absurd (lia (cross (corner (edges A) i) (corner (edges A) m) ∷ cross (corner (edges A) m) (corner (edges A) i) ∷ [])
          (back & c inside & cross-swap (corner (edges A) i) (corner (edges A) m)) (search linear depth 40) (omega arith))
