-- Positions on the way round n corners.
--     turned n t k        the position k places after t; `Turned`, `turned-cases`: what it is, by cases
--     turned-below, turned-injective, turned-start      it is a position, another one for each k below n, and t for k = 0
--     turned-step, turned-next      one place further; the position after the last is t again
-- The position after one is in `Next.antt`.
use Rattle.std.specs.Prelude.{◌≡◌, refl, Bool, true, false, cond, ℕ, ◌+◌, ◌-◌, ◌≤◌, ◌<◌, ltb}
use Rattle.std.proofs.Common.{◌∙◌, ap, arith, ltb-true, ltb-false}
use Rattle.std.proofs.Math.Decide.{ℕ_discrete}
use Rattle.plane.specs.Shape.{next}
use Rattle.plane.specs.Cycle.{turned}
use Rattle.plane.proofs.theory.lists.Next.{next-end, next-on}

-- t + k, less n where it passes the end
pub data Turned (n t k : ℕ) : Type 0 where
  ahead : t + k < n → turned n t k ≡ t + k → Turned n t k
  round : n ≤ t + k → turned n t k ≡ t + k - n → Turned n t k

pub turned-cases : (n t k : ℕ) → Turned n t k
turned-cases n t k = go (ltb (t + k) n) refl
  where
    go : (b : Bool) → ltb (t + k) n ≡ b → Turned n t k
    go true e = ahead (ltb-true _ _ e) (ap (λ c. cond c (t + k) (t + k - n)) e)
    go false e = round (ltb-false _ _ e) (ap (λ c. cond c (t + k) (t + k - n)) e)

module _ (n t : ℕ) (h : t < n) where
  pub turned-below : (k : ℕ) → k < n → turned n t k < n
  turned-below k b = go (turned-cases n t k)
    where
      go : Turned n t k → turned n t k < n
      go (ahead l e) = omega arith
      go (round l e) = omega arith

  pub turned-injective : (j k : ℕ) → j < n → k < n → turned n t j ≡ turned n t k → j ≡ k
  turned-injective j k p q same = go (turned-cases n t j) (turned-cases n t k)
    where
      go : Turned n t j → Turned n t k → j ≡ k
      go (ahead l e) (ahead m f) = omega arith
      go (ahead l e) (round m f) = omega arith
      go (round l e) (ahead m f) = omega arith
      go (round l e) (round m f) = omega arith

  pub turned-start : turned n t 0 ≡ t
  turned-start = go (turned-cases n t 0)
    where
      go : Turned n t 0 → turned n t 0 ≡ t
      go (ahead l e) = omega arith
      go (round l e) = omega arith

  -- one place further
  pub turned-step : (k : ℕ) → k < n → turned n t (k + 1) ≡ next n (turned n t k)
  turned-step k b = go (turned-cases n t k) (turned-cases n t (k + 1))
    where
      go : Turned n t k → Turned n t (k + 1) → turned n t (k + 1) ≡ next n (turned n t k)
      go (ahead l p) (ahead m f) = omega (arith, next-on n (turned n t k) (λ z. omega arith))
      go (ahead l p) (round m f) = omega (arith, next-end n (turned n t k) (omega arith))
      go (round l p) (ahead m f) = absurd (omega arith)
      go (round l p) (round m f) = omega (arith, next-on n (turned n t k) (λ z. omega arith))

  -- all the way round, one comes back
  pub turned-next : (e : ℕ) → e < n → turned n t (next n e) ≡ next n (turned n t e)
  turned-next e b = go (ℕ_discrete (e + 1) n) (turned-cases n t (e + 1))
    where
      go : Dec (e + 1 ≡ n) → Turned n t (e + 1) → turned n t (next n e) ≡ next n (turned n t e)
      go (yes q) (ahead l p) = absurd (omega arith)
      go (yes q) (round l p) =
          let back : t ≡ turned n t (e + 1) = omega arith in ap (turned n t) (next-end n e q) ∙ turned-start ∙ back ∙ turned-step e b
      go (no q) c = ap (turned n t) (next-on n e q) ∙ turned-step e b
