-- The greatest of finitely many numbers, and the facts by which everything else uses them.
--     greatest-above       none of them is above it
--     greatest-attained    one of them is it
--     greatest-le          a number that none of them is above is at least the greatest
--     greatest-unique      one that none is above is it
--     greatest-same        equal numbers have an equal greatest
--     greatest-more        one number more
-- The support of a list of points is in `Support.antt`.
use Rattle.std.specs.Prelude.{◌≡◌, refl, ◌⊎◌, ℕ, zero, suc, ◌<◌, ℤ, ◌≤ℤ◌}
use Rattle.std.proofs.Common.{sym, ◌∙◌, ap, ap₂, inl, inr, not-suc-le-zero, arith}
use Rattle.std.specs.Int.Signed.{≤ℤ_refl}
use Rattle.integer.specs.Order.{le_trans, le_antisym}
use Rattle.plane.specs.Direction.{greater}
use Rattle.plane.specs.Measure.{greatest}
use Rattle.plane.proofs.theory.lists.Greater.{left-le-greater, right-le-greater, greater-either, greater-assoc}

pub greatest-above : (f : ℕ → ℤ) (n i : ℕ) → i < n → f i ≤ℤ greatest f n
greatest-above f zero i h = absurd (not-suc-le-zero h)
greatest-above f (suc zero) zero h = ≤ℤ_refl (f 0)
greatest-above f (suc zero) (suc i) h = absurd (omega arith)
greatest-above f (suc (suc n)) zero h = left-le-greater (f 0) (greatest (λ k. f (suc k)) (suc n))
greatest-above f (suc (suc n)) (suc i) h =
    le_trans (greatest-above (λ k. f (suc k)) (suc n) i (omega arith)) (right-le-greater (f 0) (greatest (λ k. f (suc k)) (suc n)))

pub greatest-attained : (f : ℕ → ℤ) (n : ℕ) → 0 < n → (i : ℕ) × (i < n) × (greatest f n ≡ f i)
greatest-attained f zero h = absurd (not-suc-le-zero h)
greatest-attained f (suc zero) h = (0, omega arith, refl)
greatest-attained f (suc (suc n)) h = go (greatest-attained (λ k. f (suc k)) (suc n) (omega arith)) (greater-either (f 0) later)
  where
    later : ℤ
    later = greatest (λ k. f (suc k)) (suc n)

    go : (i : ℕ) × (i < suc n) × (later ≡ f (suc i)) → (greater (f 0) later ≡ f 0) ⊎ (greater (f 0) later ≡ later)
        → (i : ℕ) × (i < suc (suc n)) × (greater (f 0) later ≡ f i)
    go r (inl e) = (0, omega arith, e)
    go r (inr e) = (suc r.0, omega (arith, r.1), e ∙ r.2)

module _ (f : ℕ → ℤ) (n : ℕ) where
  pub greatest-le : {N : ℤ} → 0 < n → ((i : ℕ) → i < n → f i ≤ℤ N) → greatest f n ≤ℤ N
  greatest-le h below = let r = greatest-attained f n h in rw r.2 (below r.0 r.1)

  pub greatest-unique : (i : ℕ) → i < n → ((k : ℕ) → k < n → f k ≤ℤ f i) → greatest f n ≡ f i
  greatest-unique i h below = le_antisym (greatest-le (omega arith) below) (greatest-above f n i h)

pub greatest-same : (f g : ℕ → ℤ) (n : ℕ) → ((i : ℕ) → i < n → f i ≡ g i) → greatest f n ≡ greatest g n
greatest-same f g zero h = refl
greatest-same f g (suc zero) h = h 0 (omega arith)
greatest-same f g (suc (suc n)) h =
    ap₂ greater (h 0 (omega arith)) (greatest-same (λ k. f (suc k)) (λ k. g (suc k)) (suc n) (λ i l. h (suc i) (omega arith)))

-- ---- one number more

pub greatest-more : (f : ℕ → ℤ) (n : ℕ) → greatest f (suc (suc n)) ≡ greater (greatest f (suc n)) (f (suc n))
greatest-more f zero = refl
greatest-more f (suc n) = ap (greater (f 0)) (greatest-more (λ i. f (suc i)) n)
    ∙ sym (greater-assoc (f 0) (greatest (λ i. f (suc i)) (suc n)) (f (suc (suc n))))
